-- Taking events one by one.
use Rattle.std.specs.Prelude.{◌≡◌, ◌<◌, [], ◌∷◌, length, Option, Some, None, Result, Ok, Err, cond}
use Rattle.semantics_lines.specs.Events.{span_of}
use Rattle.semantics_lines.specs.Faults.{Fault, ends, stops}
use Rattle.event_core.specs.Building.{is_memory}
use Rattle.event_core.specs.Events.{event_of}
use Rattle.event_core.specs.Faults.{fault_of, parse_fault}
use Rattle.event_core.specs.Queued.{Queued}
use Rattle.event_core.specs.declared.error.DeserializeErrorKind.{DeserializeErrorKind}
use Rattle.event_core.specs.declared.error.DeserializeError.{DeserializeError}
use Rattle.event_core.specs.declared.error.ParseError.{ParseError}
use Rattle.event_core.specs.declared.event.ParseEvent.{ParseEvent}
use Rattle.laws_reading.specs.Input.{Input}

-- the fault of an error of this kind, unless memory ran out
abbrev pub told_kind : DeserializeErrorKind → Fault → Option Fault
told_kind k f = cond (is_memory k) None (Some f)

abbrev pub told_parse : ParseError → Option Fault
told_parse e = told_kind e.kind (parse_fault e)

abbrev pub told_error : DeserializeError → Option Fault
told_error e = told_kind e.kind (fault_of e)

-- it is the same fault, or want of memory
abbrev pub IsToldAs : Option Fault → Option Fault → Type 0
IsToldAs None o = Unit {0}
IsToldAs (Some f) o = o ≡ Some f

-- no event is left
pub record NothingComes (input : Input) : Type 0 where
  pub events : input.events ≡ []
  pub ending : input.ending ≡ ends

-- this fault stands behind the last event, and nothing changed, or memory ran out
abbrev pub Faulted : Option Fault → Input → Input → Type 0
Faulted None old new = Unit {0}
Faulted (Some f) old new = (old.events ≡ []) × (old.ending ≡ stops f) × (new ≡ old)

-- an event was taken, or none is left, or the parser's fault stands behind the last one
abbrev pub Takes : Input → Input → Result (Option ParseEvent) ParseError → Type 0
Takes old new (Ok (Some e)) = (old.events ≡ event_of e ∷ new.events) × (new.ending ≡ old.ending) × (new.last ≡ span_of (event_of e))
Takes old new (Ok None) = (old.events ≡ []) × (old.ending ≡ ends) × (new ≡ old)
Takes old new (Err e) = Faulted (told_parse e) old new

-- an event was read ahead
pub record HasNext (q : Queued) : Type 0 where
  pub capacity : 0 < q.capacity
  pub ahead : 0 < length q.ahead
