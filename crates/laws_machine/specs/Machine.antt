-- Values of every shape, by a stack of what is open, which one event changes at a time.
use Rattle.std.specs.Prelude.{ℕ, List, [], ◌∷◌, Result, Ok, Err}
use Rattle.semantics_lines.specs.Trees.{Tree}
use Rattle.semantics_lines.specs.Events.{Span, Event, span_of}
use Rattle.semantics_lines.specs.Faults.{Fault, Ending}
use Rattle.semantics_lines.specs.Faults.{ended_at}
use Rattle.semantics.specs.Reading.{Source}
use Rattle.laws_reading.specs.Input.{Input, feed, ◌>>=◌}
use Rattle.laws_reading.specs.Values.{Terms}
use Rattle.laws_machine.specs.Frames.{Frames}
use Rattle.laws_machine.specs.Delivery.{Status, going, complete}
use Rattle.laws_machine.specs.Begins.{await}
use Rattle.laws_machine.specs.Steps.{step_at}

-- behind an event: the whole value, or more events
abbrev pub carried : (Frames → Result (Tree × Input) Fault) → Input → Status → Result (Tree × Input) Fault
carried go input (complete v) = Ok (v, input)
carried go input (going fs) = go fs

-- all events, until the value is whole
abbrev pub runs : Terms → Frames → List Event → Ending → Span → Result (Tree × Input) Fault
runs t fs [] ending last = Err (ended_at ending last)
runs t fs (e ∷ es) ending last = step_at t fs last e >>= carried (λ gs. runs t gs es ending (span_of e)) (feed es ending (span_of e))

-- the same for an input
abbrev pub run : Terms → Frames → Input → Result (Tree × Input) Fault
run t fs input = runs t fs input.events input.ending input.last

-- the same for what stands behind an event
abbrev pub on : Terms → Input → Status → Result (Tree × Input) Fault
on t input s = carried (λ fs. run t fs input) input s

-- a value from the root on
abbrev pub machine : Terms → ℕ → ℕ → Source → Input → Result (Tree × Input) Fault
machine t n s source input = await t n s source [] input.last >>= on t input
