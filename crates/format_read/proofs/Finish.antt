-- The last event, or the end of the events.
use Rattle.std.proofs.Common.{◌≡◌, ◌⊎◌, inl, inr, [], ◌∷◌, Bool, true, false, cond, Option, Some, None, Ok, Err, sym, ap, ◌∙◌, subst}
use Rattle.semantics_lines.specs.Faults.{Fault, stops}
use Rattle.laws_reading.specs.Input.{Input}
use Rattle.laws_causes.specs.Laws.{Leaves}
use Rattle.event_core.specs.Building.{is_memory}
use Rattle.event_core.specs.Events.{event_of}
use Rattle.event_core.specs.Faults.{fault_of}
use Rattle.event_core.specs.declared.error.DeserializeError.{DeserializeError}
use Rattle.event_core.specs.declared.event.ParseEvent.{ParseEvent}
use Rattle.format_read.specs.Deserializing.{IsMemory, IsStopError, Finishes}
use Rattle.format_read.specs.Seats.{Seat, HasSource}
use Rattle.format_read.specs.Taking.{told_error, Faulted, Takes}
use Rattle.format_read.proofs.Batches.{memory_is}

-- a fault that comes behind the events, as it is answered
pub finishes_fault : (o : Option Fault) (e : DeserializeError) (old new : Input) → Faulted o old new → IsStopError o e → Finishes old new (Err e)
finishes_fault None e old new h is = inl is
finishes_fault (Some f) e old new h (inl memory) = inl memory
finishes_fault (Some f) e old new h (inr is) = inr (h.0, h.1 ∙ ap stops (sym is), h.2)

-- nothing was taken
still_left : (old new : Input) → new ≡ old → Leaves old new
still_left old new same = record {
  taken = [];
  cut = ap (λ (i : Input). i.events) (sym same);
  ending = ap (λ (i : Input). i.ending) same;
  last = ap (λ (i : Input). i.last) same;
}

-- what is left behind an event, or at the end
pub takes_keep : (o : Option ParseEvent) (old new : Input) → Takes old new (Ok o) → Leaves old new
takes_keep (Some e) old new h = record { taken = event_of e ∷ []; cut = h.0; ending = h.1; last = h.2 }
takes_keep None old new h = still_left old new h.2

-- what is left at a fault
pub fault_keeps : (o : Option Fault) (e : DeserializeError) (old new : Input) → Faulted o old new → IsStopError o e → IsMemory e ⊎ Leaves old new
fault_keeps None e old new h is = inl is
fault_keeps (Some f) e old new h is = inr (still_left old new h.2)

-- where the fault comes from
pub finish_source : (o : Option Fault) (e : DeserializeError) (old new : Seat) → HasSource o old new → IsStopError o e → HasSource (told_error e) old new
finish_source o e old new source is = by_fault o source is
  where
    of_memory : IsMemory e → HasSource (told_error e) old new
    of_memory memory = let test : is_memory e.kind ≡ true = memory_is e.kind memory in subst (λ (b : Bool). HasSource (cond b None (Some (fault_of e))) old new) (sym test) tt

    by_test : (b : Bool) → HasSource (Some (fault_of e)) old new → HasSource (cond b None (Some (fault_of e))) old new
    by_test true h = tt
    by_test false h = h

    by_fault : (o : Option Fault) → HasSource o old new → IsStopError o e → HasSource (told_error e) old new
    by_fault None source is = of_memory is
    by_fault (Some f) source (inl memory) = of_memory memory
    by_fault (Some f) source (inr is) = by_test (is_memory e.kind) (subst (λ g. HasSource (Some g) old new) (sym is) source)
