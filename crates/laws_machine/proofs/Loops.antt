-- Steps in turn.
use Rattle.std.proofs.Common.{Result, sym, ◌∙◌, ap}
use Rattle.semantics_lines.specs.Trees.{Tree}
use Rattle.semantics_lines.specs.Events.{Span, span_of}
use Rattle.semantics_lines.specs.Faults.{Fault, Ending}
use Rattle.laws_reading.specs.Input.{Input, feed, ◌>>=◌}
use Rattle.laws_reading.specs.Values.{Terms}
use Rattle.laws_machine.specs.Frames.{Frames}
use Rattle.laws_machine.specs.Machine.{on}
use Rattle.laws_machine.specs.Laws.{LoopKeeps}

pub loop_keeps : (t : Terms) (told : Result (Tree × Input) Fault) (fs : Frames) (ending : Ending) (last : Span) → LoopKeeps t told fs ending last
loop_keeps t told fs ending last = record {
  ends = λ so. sym so;
  goes = λ e es gs is so. sym (ap (λ r. r >>= on t (feed es ending (span_of e))) is) ∙ so;
  completes = λ e es v is so. sym so ∙ ap (λ r. r >>= on t (feed es ending (span_of e))) is;
  fails = λ e es f is so. sym so ∙ ap (λ r. r >>= on t (feed es ending (span_of e))) is;
}
