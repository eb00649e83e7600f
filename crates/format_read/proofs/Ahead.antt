-- Events that were read ahead, and refusals to read them.
use Rattle.std.proofs.Common.{◌≡◌, ℕ, zero, suc, ◌<◌, ◌≤◌, List, [], ◌∷◌, ◌++◌, length, map, Bool, true, false, cond, Option, Some, None, refl, sym, ap, ◌∙◌, subst, arith, length-append, ◌⊎◌, inl, inr}
use Rattle.std.specs.Prelude.{IsTrue, IsSome, IfSome}
use Rattle.std.proofs.lemmas.List.{length-map}
use Rattle.semantics_lines.specs.Events.{Event}
use Rattle.semantics_lines.specs.Faults.{Fault, Ending, ends, stops, Coming}
use Rattle.event_core.specs.Building.{is_memory}
use Rattle.event_core.specs.Events.{event_of}
use Rattle.event_core.specs.Faults.{parse_fault}
use Rattle.event_core.specs.Metadata.{span_view}
use Rattle.event_core.specs.Queued.{Queued, filled_by}
use Rattle.event_core.specs.declared.error.ParseError.{ParseError}
use Rattle.event_core.specs.declared.event.ParseEvent.{ParseEvent}
use Rattle.event_core.specs.declared.span.Span.{Span as DeclaredSpan}
use Rattle.format_traits.specs.Parsing.{Parsing, Gave, Failed, EndAfter, Met, IsMemory, Rose, before, preceded}
use Rattle.format_traits.proofs.ParsingLemmas.{before_none, failed_lost}
use Rattle.laws_reading.specs.Input.{Input}
use Rattle.format_read.specs.Seats.{Owner, Seat, fed, coming_by, told_or_nothing, seat_of, IsLeft, HasSource}
use Rattle.format_read.specs.Taking.{told_parse, Faulted, HasNext, NothingComes}
use Rattle.format_read.proofs.Batches.{memory_is}
use Rattle.format_read.proofs.Seats.{ahead_of, left_by, moved_ahead, same_coming}

-- at capacity 0 nothing comes
pub nothing_at_zero : (p : Parsing) (owner : Owner) (q : Queued) (last : DeclaredSpan) → q.capacity ≡ 0 → NothingComes (seat_of p owner q last).input
nothing_at_zero p owner q last is = record {
  events = ap (λ (n : ℕ). (coming_by n p q).events) is;
  ending = ap (λ (n : ℕ). (coming_by n p q).ending) is;
}

module _ (batch : List ParseEvent) (p r : Parsing) (owner : Owner) (q s : Queued) (last : DeclaredSpan) (gave : Gave (map event_of batch) p r) (is : s ≡ filled_by batch q) where
  held : s.ahead ≡ q.ahead ++ batch
  held = ap (λ (x : Queued). x.ahead) is

  as_much : s.capacity ≡ q.capacity
  as_much = ap (λ (x : Queued). x.capacity) is

  -- the same comes
  pub refilled_same : (seat_of r owner s last).input ≡ (seat_of p owner q last).input
  refilled_same = ap (λ (c : Coming). fed c (span_view last)) (same_coming q.capacity s.capacity p r q s as_much (moved_ahead batch p r q s held gave))

  pub refilled_left : q.ahead ≡ [] → length batch ≤ q.capacity → p.faults ≤ r.faults → IsLeft (seat_of p owner q last) (seat_of r owner s last)
  refilled_left empty few faults =
      let none : length q.ahead ≡ 0 = ap length empty in
      let size : length s.ahead ≡ length (q.ahead ++ batch) = ap length held in
      left_by [] p r owner q s last last as_much (before_none (ahead_of s r) ∙ moved_ahead batch p r q s held gave) (omega (arith, size, length-append q.ahead batch, length-map batch event_of, gave.left))
      (λ h. omega (arith, size, none, few, as_much, length-append q.ahead batch)) faults

  pub refilled_next : 0 < q.capacity → 0 < length batch → HasNext s
  refilled_next room some =
      let size : length s.ahead ≡ length (q.ahead ++ batch) = ap length held in
      record { capacity = omega (arith, as_much); ahead = omega (arith, size, length-append q.ahead batch) }

-- no event is left, where none was given
pub refilled_ended : (batch : List ParseEvent) (p r : Parsing) (owner : Owner) (q : Queued) (last : DeclaredSpan) → q.ahead ≡ [] → batch ≡ [] → Gave (map event_of batch) p r → EndAfter [] r → NothingComes (seat_of p owner q last).input
refilled_ended batch p r owner q last empty none gave end =
    let given : before [] r.coming ≡ p.coming = subst (λ (es : List ParseEvent). before (map event_of es) r.coming ≡ p.coming) none gave.coming in
    by_room q.capacity (at_end r.coming p.coming given end.coming)
  where
    at_end : (c d : Option Coming) → before [] c ≡ d → IfSome c (λ x. x ≡ record { events = []; ending = ends }) → told_or_nothing (before [] d) ≡ record { events = []; ending = ends }
    at_end None None e h = refl
    at_end None (Some d) e h = absurd cc
    at_end (Some c) None e h = absurd cc
    at_end (Some c) (Some d) e h = let same : c ≡ d = cc in sym same ∙ h

    by_room : (n : ℕ) → told_or_nothing (before [] p.coming) ≡ record { events = []; ending = ends } → NothingComes (fed (coming_by n p q) (span_view last))
    by_room zero h = record { events = refl; ending = refl }
    by_room (suc n) h =
        let all : coming_by (suc n) p q ≡ record { events = []; ending = ends } = ap (λ (es : List ParseEvent). told_or_nothing (before (map event_of es) p.coming)) empty ∙ h in
        record { events = ap (λ (c : Coming). c.events) all; ending = ap (λ (c : Coming). c.ending) all }

-- a refused call of the parser
pub refused_left : (p r : Parsing) (owner : Owner) (q : Queued) (last : DeclaredSpan) → q.ahead ≡ [] → Failed p r → p.faults ≤ r.faults → IsLeft (seat_of p owner q last) (seat_of r owner q last)
refused_left p r owner q last empty failed faults =
    left_by failed.lost p r owner q q last last refl
    (ap (λ (es : List ParseEvent). before failed.lost (before (map event_of es) r.coming)) empty ∙ ap (before failed.lost) (before_none r.coming) ∙ failed.coming ∙ sym (before_none p.coming) ∙ sym (ap (λ (es : List ParseEvent). before (map event_of es) p.coming) empty))
    (omega (arith, failed.left)) (λ h. h) faults

pub refused_source : (e : ParseError) (old new : Seat) → IsMemory e ⊎ Rose old.faults new.faults → HasSource (told_parse e) old new
refused_source e old new (inl memory) = let test : is_memory e.kind ≡ true = memory_is e.kind memory in subst (λ (b : Bool). HasSource (cond b None (Some (parse_fault e))) old new) (sym test) tt
refused_source e old new (inr rose) = by_test (is_memory e.kind)
  where
    by_test : (b : Bool) → HasSource (cond b None (Some (parse_fault e))) old new
    by_test true = tt
    by_test false = inr (inr rose)

pub lost_source : (e : ParseError) (old new : Seat) → IsMemory e → HasSource (told_parse e) old new
lost_source e old new memory = refused_source e old new (inl memory)

pub lost_fault : (e : ParseError) (old new : Input) → IsMemory e → Faulted (told_parse e) old new
lost_fault e old new memory = let test : is_memory e.kind ≡ true = memory_is e.kind memory in subst (λ (b : Bool). Faulted (cond b None (Some (parse_fault e))) old new) (sym test) tt

-- events that no memory was there for
pub lost_left : (batch : List ParseEvent) (p r : Parsing) (owner : Owner) (q s : Queued) (last : DeclaredSpan) → q.ahead ≡ [] → s ≡ q → Gave (map event_of batch) p r → p.faults ≤ r.faults → IsLeft (seat_of p owner q last) (seat_of r owner s last)
lost_left batch p r owner q s last empty same gave faults = subst (λ (x : Queued). IsLeft (seat_of p owner q last) (seat_of r owner x last)) (sym same) (refused_left p r owner q last empty (failed_lost (map event_of batch) p r gave) faults)

-- the fault that a parser met, where it tells its events
pub refused_fault : (tells : Bool) (e : ParseError) (p r : Parsing) (owner : Owner) (q : Queued) (last : DeclaredSpan) → (IsTrue tells → IsSome p.coming) → 0 < q.capacity → q.ahead ≡ [] → Failed p r → IsMemory e ⊎ Met [] e p r
    → IsTrue tells → Faulted (told_parse e) (seat_of p owner q last).input (seat_of r owner q last).input
refused_fault tells e p r owner q last told room empty failed fault it_tells = by_fault fault
  where
    nothing_more : (lost rest : List Event) → lost ++ rest ≡ [] → rest ≡ []
    nothing_more [] rest h = h
    nothing_more (x ∷ lost) rest h = absurd cc

    same_parts : (d c : Coming) → d.events ≡ c.events → d.ending ≡ c.ending → d ≡ c
    same_parts d c events ending = ap (λ (es : List Event). record { events = es; ending = d.ending }) events ∙ ap (λ (x : Ending). record { events = c.events; ending = x }) ending

    -- what comes before and after the call
    here : (lost : List Event) (f : Fault) (c d : Option Coming) → IsSome c → before lost d ≡ c → IfSome c (λ x. x ≡ record { events = []; ending = stops f })
        → (told_or_nothing c ≡ record { events = []; ending = stops f }) × (d ≡ c)
    here lost f None d some is h = absurd cc
    here lost f (Some c) None some is h = absurd cc
    here lost f (Some c) (Some d) some is h =
        let same : preceded lost d ≡ c = cc in
        let none : d.events ≡ [] = nothing_more lost d.events (ap (λ (x : Coming). x.events) (same ∙ h)) in
        let ending : d.ending ≡ c.ending = ap (λ (x : Coming). x.ending) same in
        let none_too : c.events ≡ [] = ap (λ (x : Coming). x.events) h in
        (h, ap Some (same_parts d c (none ∙ sym none_too) ending))

    at_room : (n : ℕ) → 0 < n → Met [] e p r → Faulted (Some (parse_fault e)) (fed (coming_by n p q) (span_view last)) (fed (coming_by n r q) (span_view last))
    at_room zero some met = absurd (omega (arith, some))
    at_room (suc n) some met =
        let (is, same) = here failed.lost (parse_fault e) p.coming r.coming (told it_tells) failed.coming met.fault.coming in
        let now : coming_by (suc n) p q ≡ record { events = []; ending = stops (parse_fault e) } =
        ap told_or_nothing (ap (λ (es : List ParseEvent). before (map event_of es) p.coming) empty ∙ before_none p.coming) ∙ is in
        (ap (λ (c : Coming). c.events) now, ap (λ (c : Coming). c.ending) now, ap (λ (o : Option Coming). fed (told_or_nothing (before (map event_of q.ahead) o)) (span_view last)) same)

    by_test : (b : Bool) → Met [] e p r → Faulted (cond b None (Some (parse_fault e))) (seat_of p owner q last).input (seat_of r owner q last).input
    by_test true met = tt
    by_test false met = at_room q.capacity room met

    by_fault : IsMemory e ⊎ Met [] e p r → Faulted (told_parse e) (seat_of p owner q last).input (seat_of r owner q last).input
    by_fault (inl memory) = lost_fault e (seat_of p owner q last).input (seat_of r owner q last).input memory
    by_fault (inr met) = by_test (is_memory e.kind) met
