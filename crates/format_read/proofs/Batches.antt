-- Events that a parser put into an empty buffer.
use Rattle.std.proofs.Common.{◌≡◌, ℕ, ◌<◌, List, [], ◌∷◌, ◌++◌, length, map, true, false, refl, sym, ap, ◌∙◌, subst, arith, Option, Some, None, length-append, ◌⊎◌, inl, inr}
use Rattle.std.specs.Prelude.{IfSome}
use Rattle.std.proofs.lemmas.List.{append-nil}
use Rattle.semantics_lines.specs.Events.{Event}
use Rattle.semantics_lines.specs.Faults.{Fault, Coming, out_of_memory, stops}
use Rattle.event_core.specs.Building.{is_memory}
use Rattle.event_core.specs.Events.{event_of}
use Rattle.event_core.specs.Faults.{fault_kind_of, parse_fault}
use Rattle.event_core.specs.declared.error.DeserializeErrorKind.{DeserializeErrorKind}
use Rattle.event_core.specs.declared.error.DeserializeErrorKind.TheVariants as kinds
use Rattle.event_core.specs.declared.error.ParseError.{ParseError}
use Rattle.event_core.specs.declared.event.ParseEvent.{ParseEvent}
use Rattle.format_traits.specs.Parsing.{Parsing, Gave, FailedAfter, Failed, EndAfter, Met, IsMemory, before, preceded, Stays}
use Rattle.format_traits.specs.Batches.{Put, PutBefore}

-- an error of want of memory is of its kind
pub memory_is : (k : DeserializeErrorKind) → fault_kind_of k ≡ out_of_memory → is_memory k ≡ true
memory_is (kinds.Alloc operation) is = refl
memory_is _ is = absurd cc

pub is_no_memory : (k : DeserializeErrorKind) → is_memory k ≡ false → fault_kind_of k ≡ out_of_memory → ⊥
is_no_memory k test is = absurd (let yes : is_memory k ≡ true = memory_is k is in cc)

-- all that was put was given
pub batch_gave : (n : ℕ) (p q : Parsing) (now : List ParseEvent) → Put n p q [] now → Gave (map event_of now) p q
batch_gave n p q now put = rw put.items put.gave

pub batch_end : (n room : ℕ) (p q : Parsing) (now : List ParseEvent) → Put n p q [] now → (n < room → EndAfter [] q) → 0 < room → now ≡ [] → EndAfter [] q
batch_end n room p q now put end some none =
    let same : length now ≡ length put.given = ap length put.items in
    let here : length now ≡ 0 = ap length none in
    end (omega (arith, put.length_is))

-- of a refused call the events before the refusal may be lost
pub batch_failed : (limit : ℕ) (e : ParseError) (p q : Parsing) (now : List ParseEvent) → PutBefore limit e p q [] now → Failed p q
batch_failed limit e p q now put = record {
  lost = map event_of put.given ++ put.failed.lost;
  coming = put.failed.coming;
  left = omega (arith, put.failed.left);
  stuck = stays_less (map event_of put.given) p.stuck q.stuck put.failed.stuck;
  describes_itself = put.failed.describes_itself;
  saved = put.failed.saved;
} where
  stays_less : (a : List Event) (p q : Option Fault) → Stays a p q → Stays [] p q
  stays_less a None q h = tt
  stays_less a (Some f) q h = (refl, h.1)

-- a fault behind events leaves what comes behind them
pub met_gave : (given : List Event) (e : ParseError) (p q : Parsing) → FailedAfter given p q → Met given e p q → Gave given p q
met_gave given e p q failed met = record {
  coming = still given failed.lost (parse_fault e) p.coming q.coming failed.coming met.fault.coming;
  left = failed.left;
  stuck = failed.stuck;
  describes_itself = failed.describes_itself;
  saved = failed.saved;
} where
  nothing_lost : (given lost rest : List Event) → (given ++ lost) ++ rest ≡ given → given ++ rest ≡ given
  nothing_lost given lost rest e =
      let size : length ((given ++ lost) ++ rest) ≡ length given = ap length e in
      let none : length rest ≡ 0 = omega (arith, size, length-append (given ++ lost) rest, length-append given lost) in
      ap (λ (es : List Event). given ++ es) (empty rest none) ∙ append-nil given
    where
      empty : (es : List Event) → length es ≡ 0 → es ≡ []
      empty [] e = refl
      empty (x ∷ xs) e = absurd (omega (arith, e))

  still : (given lost : List Event) (f : Fault) (p q : Option Coming) → before (given ++ lost) q ≡ p → IfSome p (λ c. c ≡ record { events = given; ending = stops f }) → before given q ≡ p
  still given lost f None None e h = refl
  still given lost f (Some c) None e h = absurd cc
  still given lost f None (Some d) e h = absurd cc
  still given lost f (Some c) (Some d) e h =
      let same : preceded (given ++ lost) d ≡ c = cc in
      let events : (given ++ lost) ++ d.events ≡ given = ap (λ (x : Coming). x.events) (same ∙ h) in
      let ending : d.ending ≡ stops f = ap (λ (x : Coming). x.ending) (same ∙ h) in
      ap Some (rw (nothing_lost given lost d.events events, ending) (sym h))

-- a fault that comes behind events is no refusal yet
pub batch_met : (limit : ℕ) (e : ParseError) (p q : Parsing) (now : List ParseEvent) → PutBefore limit e p q [] now → is_memory e.kind ≡ false → Gave (map event_of now) p q
batch_met limit e p q now put test = rw put.items (by_fault put.fault)
  where
    by_fault : IsMemory e ⊎ ((length put.given < limit) × Met (map event_of put.given) e p q) → Gave (map event_of put.given) p q
    by_fault (inl memory) = absurd (is_no_memory e.kind test memory)
    by_fault (inr met) = met_gave (map event_of put.given) e p q put.failed met.1

-- a fault that comes before any event
pub batch_met_none : (limit : ℕ) (e : ParseError) (p q : Parsing) (now : List ParseEvent) → PutBefore limit e p q [] now → now ≡ [] → IsMemory e ⊎ Met [] e p q
batch_met_none limit e p q now put none = by_fault put.fault
  where
    nothing : put.given ≡ []
    nothing = sym put.items ∙ none

    by_fault : IsMemory e ⊎ ((length put.given < limit) × Met (map event_of put.given) e p q) → IsMemory e ⊎ Met [] e p q
    by_fault (inl memory) = inl memory
    by_fault (inr met) = inr (subst (λ (es : List ParseEvent). Met (map event_of es) e p q) nothing met.1)
