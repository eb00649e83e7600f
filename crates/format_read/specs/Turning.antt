-- One turn of the loop over the events: what the machine makes of the next one.
use Rattle.std.specs.Prelude.{◌≡◌, ◌⊎◌, List, [], ◌∷◌, Option, Some, None, Result, Ok, Err, false}
use Rattle.semantics_lines.specs.Events.{Span, Event, span_of}
use Rattle.semantics_lines.specs.Faults.{bug, Fault, Ending, ended_at}
use Rattle.shape_types.specs.Trees.{tree_of}
use Rattle.shape_types.specs.declared.value.Value.{Value}
use Rattle.event_core.specs.Events.{event_of}
use Rattle.event_core.specs.declared.event.ParseEvent.{ParseEvent}
use Rattle.laws_reading.specs.Input.{Input, feed}
use Rattle.laws_reading.specs.Values.{Terms}
use Rattle.laws_machine.specs.Frames.{Frames}
use Rattle.laws_machine.specs.Delivery.{Status, going, complete, Steps}
use Rattle.laws_machine.specs.Steps.{step_at}
use Rattle.laws_machine.specs.Leaves.{leaves}
use Rattle.laws_causes.specs.Stopping.{Stop, Stopping, left_at, stoppings}
use Rattle.read_steps.specs.Views.{frames_of}
use Rattle.format_read.specs.declared.deserializer.turn.Reading.{Reading}

-- the whole value, where there is one, or what is open
abbrev pub status_by : Frames → Option Value → Status
status_by fs None = going fs
status_by fs (Some v) = complete (tree_of v)

-- what was read so far
abbrev pub status_in : Terms → Reading → Status
status_in t r = status_by (frames_of t r.frames) r.value

-- behind a step: what there is with the rest, or its fault with what is left then
abbrev pub behind_event : Input → Input → Steps → Result (Status × Input) Stop
behind_event rest at_fault (Ok s) = Ok (s, rest)
behind_event rest at_fault (Err f) = Err (record { fault = f; input = at_fault })

-- the first of these events is taken, unless it is left, and the machine makes a step
abbrev pub turn_of : Terms → Frames → List Event → Ending → Span → Result (Status × Input) Stop
turn_of t fs [] ending last = Err (record { fault = ended_at ending last; input = feed [] ending last })
turn_of t fs (e ∷ es) ending last = behind_event (feed es ending (span_of e)) (left_at t fs e es ending last) (step_at t fs last e)

-- the same for an input
abbrev pub turn_at : Terms → Frames → Input → Result (Status × Input) Stop
turn_at t fs input = turn_of t fs input.events input.ending input.last

-- What is read with the rest, or where reading stops, where these frames are open.
abbrev pub stopping_from : Terms → Frames → Input → Stopping
stopping_from t fs input = stoppings t fs input.events input.ending input.last

-- the first of these events may be taken
abbrev pub IsAdmitted : Terms → Frames → List ParseEvent → Type 0
IsAdmitted t fs [] = Unit {0}
IsAdmitted t fs (e ∷ es) = leaves t fs (event_of e) ≡ false

-- A fault of the value stands at this place, where the last event stands that was taken. One of kind bug never comes.
abbrev pub StandsAt : Option Fault → Span → Type 0
StandsAt None span = Unit {0}
StandsAt (Some f) span = (f.path ≡ None) ⊎ (f.kind ≡ bug) ⊎ (f.span ≡ Some span)
