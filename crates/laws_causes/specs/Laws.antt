-- What holds of the machine that tells where it stops.
use Rattle.std.specs.Prelude.{◌≡◌, ℕ, List, [], ◌∷◌, ◌++◌, Ok, Err}
use Rattle.semantics_lines.specs.Trees.{Tree}
use Rattle.semantics_lines.specs.Events.{Span, Event, span_of}
use Rattle.semantics_lines.specs.Faults.{Fault, Ending, ended_at}
use Rattle.semantics.specs.Registry.{IsRegistry}
use Rattle.semantics.specs.Reading.{Source, from_events}
use Rattle.semantics.specs.Seen.{last_span}
use Rattle.semantics_causes.specs.Refusals.{HasCauseFrom}
use Rattle.laws_reading.specs.Input.{Input, feed}
use Rattle.laws_reading.specs.Values.{Terms, reading}
use Rattle.laws_machine.specs.Frames.{Frames}
use Rattle.laws_machine.specs.Delivery.{going, complete}
use Rattle.laws_machine.specs.Steps.{step_at}
use Rattle.laws_causes.specs.Stopping.{Stopping, stop_at, left_at, stoppings, stopping, untold}

-- It reads what the recursion reads, and stops at the same fault.
abbrev pub StoppingReads : Type 0
StoppingReads = (t : Terms) (n s : ℕ) (source : Source) (input : Input) → untold (stopping t n s source input) ≡ reading t n s source [] input

-- What a loop over the events keeps, and what it comes to: whatever `told` is.
pub record StepKeeps (t : Terms) (told : Stopping) (fs : Frames) (ending : Ending) (last : Span) : Type 0 where
  pub ends : stoppings t fs [] ending last ≡ told → told ≡ stop_at (ended_at ending last) (feed [] ending last)
  pub goes : (e : Event) (es : List Event) (gs : Frames) → step_at t fs last e ≡ Ok (going gs) → stoppings t fs (e ∷ es) ending last ≡ told → stoppings t gs es ending (span_of e) ≡ told
  pub completes : (e : Event) (es : List Event) (v : Tree) → step_at t fs last e ≡ Ok (complete v) → stoppings t fs (e ∷ es) ending last ≡ told → told ≡ Ok (v, feed es ending (span_of e))
  pub fails : (e : Event) (es : List Event) (f : Fault) → step_at t fs last e ≡ Err f → stoppings t fs (e ∷ es) ending last ≡ told → told ≡ stop_at f (left_at t fs e es ending last)

-- A loop over the events keeps what it was to come to.
abbrev pub StepsKeep : Type 0
StepsKeep = (t : Terms) (told : Stopping) (fs : Frames) (ending : Ending) (last : Span) → StepKeeps t told fs ending last

-- What is left where the machine stops is the end of what was to come, behind the events that were taken.
pub record Leaves (old new : Input) : Type 0 where
  pub taken : List Event
  pub cut : old.events ≡ taken ++ new.events
  pub ending : new.ending ≡ old.ending
  pub last : new.last ≡ last_span old.last taken

-- Each fault over a checked registry has its cause, and stands at the last event that was taken.
abbrev pub StoppingFails : Type 0
StoppingFails = (t : Terms) (s : ℕ) (input : Input) (f : Fault) (left : Input) → IsRegistry t.setting.registry → stopping t t.limit s from_events input ≡ stop_at f left
    → Leaves input left × HasCauseFrom t.setting s t.limit input.last input.events input.ending left.events f
