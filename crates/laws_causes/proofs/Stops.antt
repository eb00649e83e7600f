-- The machine that tells where it stops.
use Rattle.std.proofs.Common.{◌≡◌, List, [], ◌∷◌, Result, Ok, Err, refl, sym, ◌∙◌, ap}
use Rattle.semantics_lines.specs.Trees.{Tree}
use Rattle.semantics_lines.specs.Events.{Span, Event, span_of}
use Rattle.semantics_lines.specs.Faults.{Fault, Ending}
use Rattle.laws_reading.specs.Input.{Input, feed, ◌>>=◌}
use Rattle.laws_reading.specs.Values.{Terms}
use Rattle.laws_machine.specs.Frames.{Frames}
use Rattle.laws_machine.specs.Delivery.{Steps, going, complete}
use Rattle.laws_machine.specs.Begins.{await}
use Rattle.laws_machine.specs.Steps.{step_at}
use Rattle.laws_machine.specs.Machine.{carried, runs, run}
use Rattle.laws_machine.proofs.Meets.{machine_reads}
use Rattle.laws_causes.specs.Stopping.{Stopping, behind_step, left_at, stoppings, untold}
use Rattle.laws_causes.specs.Laws.{StoppingReads, StepKeeps}

-- Behind a step it is the machine, where what follows is.
untold_step : (go : Frames → Stopping) (goes : Frames → Result (Tree × Input) Fault) → ((fs : Frames) → untold (go fs) ≡ goes fs) → (input at_fault : Input) (r : Steps)
    → untold (behind_step go input at_fault r) ≡ (r >>= carried goes input)
untold_step go goes same input at_fault (Ok (going fs)) = same fs
untold_step go goes same input at_fault (Ok (complete v)) = refl
untold_step go goes same input at_fault (Err f) = refl

-- Over all events it is the machine.
untold_runs : (t : Terms) (fs : Frames) (es : List Event) (ending : Ending) (last : Span) → untold (stoppings t fs es ending last) ≡ runs t fs es ending last
untold_runs t fs [] ending last = refl
untold_runs t fs (e ∷ es) ending last =
    untold_step (λ gs. stoppings t gs es ending (span_of e)) (λ gs. runs t gs es ending (span_of e)) (λ gs. untold_runs t gs es ending (span_of e)) (feed es ending (span_of e)) (left_at t fs e es ending last) (step_at t fs last e)

pub stopping_reads : StoppingReads
stopping_reads t n s source input =
    untold_step (λ fs. stoppings t fs input.events input.ending input.last) (λ fs. run t fs input) (λ fs. untold_runs t fs input.events input.ending input.last) input input (await t n s source [] input.last)
    ∙ machine_reads t n s source input

pub steps_keep : (t : Terms) (told : Stopping) (fs : Frames) (ending : Ending) (last : Span) → StepKeeps t told fs ending last
steps_keep t told fs ending last = record {
  ends = λ so. sym so;
  goes = λ e es gs is so. sym (ap (λ r. behind_step (λ hs. stoppings t hs es ending (span_of e)) (feed es ending (span_of e)) (left_at t fs e es ending last) r) is) ∙ so;
  completes = λ e es v is so. sym so ∙ ap (λ r. behind_step (λ hs. stoppings t hs es ending (span_of e)) (feed es ending (span_of e)) (left_at t fs e es ending last) r) is;
  fails = λ e es f is so. sym so ∙ ap (λ r. behind_step (λ hs. stoppings t hs es ending (span_of e)) (feed es ending (span_of e)) (left_at t fs e es ending last) r) is;
}
