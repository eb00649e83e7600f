-- The machine, which tells where it stops.
use Rattle.std.specs.Prelude.{ℕ, List, [], ◌∷◌, Result, Ok, Err, cond}
use Rattle.semantics_lines.specs.Trees.{Tree}
use Rattle.semantics_lines.specs.Events.{Span, Event, span_of}
use Rattle.semantics_lines.specs.Faults.{Fault, Ending, ended_at}
use Rattle.semantics.specs.Reading.{Source}
use Rattle.laws_reading.specs.Input.{Input, feed}
use Rattle.laws_reading.specs.Values.{Terms}
use Rattle.laws_machine.specs.Frames.{Frames}
use Rattle.laws_machine.specs.Delivery.{going, complete, Steps}
use Rattle.laws_machine.specs.Begins.{await}
use Rattle.laws_machine.specs.Steps.{step_at}
use Rattle.laws_machine.specs.Leaves.{leaves}

-- a fault, and the input that is left then
pub record Stop : Type 0 where
  pub fault : Fault
  pub input : Input

-- the value with what is left, or where reading stopped
abbrev pub Stopping : Type 0
Stopping = Result (Tree × Input) Stop

abbrev pub stop_at : Fault → Input → Stopping
stop_at f input = Err (record { fault = f; input = input })

-- behind a step: the whole value, or more events, or its fault
abbrev pub behind_step : (Frames → Stopping) → Input → Input → Steps → Stopping
behind_step go input at_fault (Ok (going fs)) = go fs
behind_step go input at_fault (Ok (complete v)) = Ok (v, input)
behind_step go input at_fault (Err f) = stop_at f at_fault

-- what is left where a step stops at its event: the event too, where that is left
abbrev pub left_at : Terms → Frames → Event → List Event → Ending → Span → Input
left_at t fs e es ending last = cond (leaves t fs e) (feed (e ∷ es) ending last) (feed es ending (span_of e))

-- all events, until the value is whole
abbrev pub stoppings : Terms → Frames → List Event → Ending → Span → Stopping
stoppings t fs [] ending last = stop_at (ended_at ending last) (feed [] ending last)
stoppings t fs (e ∷ es) ending last = behind_step (λ gs. stoppings t gs es ending (span_of e)) (feed es ending (span_of e)) (left_at t fs e es ending last) (step_at t fs last e)

-- a value from the root on
abbrev pub stopping : Terms → ℕ → ℕ → Source → Input → Stopping
stopping t n s source input = behind_step (λ fs. stoppings t fs input.events input.ending input.last) input input (await t n s source [] input.last)

-- the same, without where it stops
abbrev pub untold : Stopping → Result (Tree × Input) Fault
untold (Ok x) = Ok x
untold (Err s) = Err s.fault
