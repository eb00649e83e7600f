-- Calls of a parser that tells its events: each fact from what comes before and after the call.
use Rattle.std.proofs.Common.{◌≡◌, ℕ, ◌+◌, ◌≤◌, [], ◌∷◌, refl, arith, ap, sym, Option, Some, None}
use Rattle.semantics_lines.specs.Events.{Event}
use Rattle.semantics_lines.specs.Faults.{Coming, ends, stops}
use Rattle.event_core.specs.Events.{event_of}
use Rattle.event_core.specs.Faults.{parse_fault}
use Rattle.event_core.specs.declared.event.ParseEvent.{ParseEvent}
use Rattle.event_core.specs.declared.error.ParseError.{ParseError}
use Rattle.format_traits.specs.Parsing.{Saved, Gave, Failed, EndAfter, Met, IsNext, preceded, first_fault, telling}
use Rattle.format_traits.proofs.ParsingLemmas.{stays_none, failed_lost}

-- the first of the events to come was given
pub told_gave : (e : Event) (old new : Coming) (left less f g : ℕ) (s : Option Saved) → old ≡ preceded (e ∷ []) new → less + 1 ≤ left → Gave (e ∷ []) (telling old left f s) (telling new less g s)
told_gave e old new left less f g s is le = record {
  coming = ap Some (sym is);
  left = omega arith;
  stuck = rw is tt;
  describes_itself = refl;
  saved = refl;
}

-- nothing was given, and the same comes
pub told_still : (c : Coming) (left less f g : ℕ) (s : Option Saved) → less ≤ left → Gave [] (telling c left f s) (telling c less g s)
told_still c left less f g s le = record {
  coming = refl;
  left = omega arith;
  stuck = stays_none (first_fault c.events c.ending);
  describes_itself = refl;
  saved = refl;
}

-- the call was refused, and the same comes
pub told_failed : (c : Coming) (left less f g : ℕ) (s : Option Saved) → less ≤ left → Failed (telling c left f s) (telling c less g s)
told_failed c left less f g s le = failed_lost [] (telling c left f s) (telling c less g s) (told_still c left less f g s le)

-- no event is left
pub told_end : (c : Coming) (left f : ℕ) (s : Option Saved) → c ≡ record { events = []; ending = ends } → EndAfter [] (telling c left f s)
told_end c left f s is = record { coming = is; stuck = rw is refl }

-- the fault comes, and comes again
pub told_met : (e : ParseError) (c : Coming) (left less f g : ℕ) (s : Option Saved) → c ≡ record { events = []; ending = stops (parse_fault e) } → Met [] e (telling c left f s) (telling c less g s)
told_met e c left less f g s is = record { fault = record { coming = is }; stuck = rw is refl }

-- the next event was looked at
pub told_next : (e : ParseEvent) (c rest : Coming) (left f : ℕ) (s : Option Saved) → c ≡ preceded (event_of e ∷ []) rest → IsNext (Some e) (telling c left f s)
told_next e c rest left f s is = rw is refl

-- there is none to look at
pub told_no_next : (c : Coming) (left f : ℕ) (s : Option Saved) → c.events ≡ [] → IsNext None (telling c left f s)
told_no_next c left f s is = rw is refl
