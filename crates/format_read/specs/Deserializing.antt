-- What a deserializer answers, in the words of the definitions.
use Rattle.std.specs.Prelude.{◌≡◌, ◌⊎◌, ℕ, Bool, List, [], ◌∷◌, ◌++◌, Option, Some, None, Result, Ok, Err, IsTrue}
use Rattle.semantics_lines.specs.Trees.{Tree}
use Rattle.semantics_lines.specs.Shapes.{Registry}
use Rattle.semantics_lines.specs.Events.{Event, span_of}
use Rattle.semantics_lines.specs.Faults.{out_of_memory, Fault, ends, stops}
use Rattle.semantics.specs.Runs.{Run, run_events}
use Rattle.semantics.specs.Typed.{typed}
use Rattle.semantics.specs.Reading.{Setting, from_events, read}
use Rattle.semantics.specs.Seen.{last_span}
use Rattle.semantics_causes.specs.Refusals.{HasCauseFrom}
use Rattle.event_core.specs.Events.{event_of}
use Rattle.event_core.specs.Faults.{fault_of}
use Rattle.event_core.specs.declared.error.DeserializeError.{DeserializeError}
use Rattle.event_core.specs.declared.event.ParseEvent.{ParseEvent}
use Rattle.laws_reading.specs.Input.{Input}
use Rattle.laws_reading.specs.Values.{reading}
use Rattle.laws_causes.specs.Laws.{Leaves}

-- memory ran out
abbrev pub IsMemory : DeserializeError → Type 0
IsMemory e = (fault_of e).kind ≡ out_of_memory

-- why reading stopped, as an error
abbrev pub IsStopError : Option Fault → DeserializeError → Type 0
IsStopError None e = IsMemory e
IsStopError (Some f) e = IsMemory e ⊎ (fault_of e ≡ f)

-- it stands nowhere in the input, and in no part of the value
abbrev pub IsBare : DeserializeError → Type 0
IsBare e = (e.span ≡ None) × (e.path ≡ None)

-- how values are read: by which shapes, whether borrowed texts stay so, and whether the parser tells what its values are
abbrev pub setting : Registry → Bool → Bool → Setting
setting g borrow describes = record { registry = g; borrow = borrow; describes_itself = describes }

-- what is read of the events to come within a depth, which a value that is nested deeper is told as the limit
abbrev pub read_of : Setting → ℕ → ℕ → Input → Result (Tree × Input) Fault
read_of g depth shape input = reading (record { setting = g; limit = depth }) depth shape from_events [] input

-- The answer is what is read of the events to come, and what comes now is left of them, or the fault is theirs; or memory ran
-- out.
abbrev pub IsExact : {V : Type 0} → (V → Tree) → Setting → ℕ → ℕ → Input → Input → Result V DeserializeError → Type 0
IsExact tree g depth shape old new (Ok v) = read_of g depth shape old ≡ Ok (tree v, new)
IsExact tree g depth shape old new (Err e) = IsMemory e ⊎ (read_of g depth shape old ≡ Err (fault_of e))

-- some events were taken, and the rest is left; or memory ran out
abbrev pub Keeps : {V : Type 0} → Input → Input → Result V DeserializeError → Type 0
Keeps old new (Ok v) = Leaves old new
Keeps old new (Err e) = IsMemory e ⊎ Leaves old new

-- The events taken are a whole run, which is read as this value within the depth. The value is of the shape, the rest is left
-- as it was, and the last event taken is the run's last.
pub record IsRead (g : Setting) (depth shape : ℕ) (old new : Input) (value : Tree) : Type 0 where
  pub run : Run
  pub cut : old.events ≡ run_events run ++ new.events
  pub ending : new.ending ≡ old.ending
  pub last : new.last ≡ last_span old.last (run_events run)
  pub reads : read g depth shape from_events run ≡ Some value
  pub of_shape : IsTrue (typed g.registry shape value)

-- the answer is this value, and what comes now is the rest; or memory ran out
abbrev pub IsAnswer : {V : Type 0} → (V → Tree) → Tree → List Event → List Event → Result V DeserializeError → Type 0
IsAnswer tree value rest coming (Ok v) = (tree v ≡ value) × (coming ≡ rest)
IsAnswer tree value rest coming (Err e) = IsMemory e

-- whatever run comes first that is read as a value, it is answered
abbrev pub Answers : {V : Type 0} → (V → Tree) → Setting → ℕ → ℕ → Input → Input → Result V DeserializeError → Type 0
Answers tree g depth shape old new result = (run : Run) (rest : List Event) (value : Tree) → old.events ≡ run_events run ++ rest
    → read g depth shape from_events run ≡ Some value → IsAnswer tree value rest new.events result

-- a refusal has its cause in the events that were to come, up to those that are left, and want of memory has none
abbrev pub IsCaused : Setting → ℕ → ℕ → Input → Input → DeserializeError → Type 0
IsCaused g depth shape old new e = IsMemory e ⊎ HasCauseFrom g shape depth old.last old.events old.ending new.events (fault_of e)

-- an event was taken, or none is left, or the parser's fault stands behind the last one
abbrev pub Finishes : Input → Input → Result (Option ParseEvent) DeserializeError → Type 0
Finishes old new (Ok (Some e)) = (old.events ≡ event_of e ∷ new.events) × (new.ending ≡ old.ending) × (new.last ≡ span_of (event_of e))
Finishes old new (Ok None) = (old.events ≡ []) × (old.ending ≡ ends) × (new ≡ old)
Finishes old new (Err e) = IsMemory e ⊎ ((old.events ≡ []) × (old.ending ≡ stops (fault_of e)) × (new ≡ old))
