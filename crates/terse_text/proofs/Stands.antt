-- What stands in front of the bytes that are left.
use Rattle.std.proofs.Common.{ℕ, ◌<◌, ◌≡◌, List, [], ◌∷◌, Option, Some, None, Ok, Err, length, refl, ap, sym, arith, ◌∙◌}
use Rattle.std.specs.Prelude.{slice_index}
use Rattle.semantics_lines.specs.Events.{Event}
use Rattle.semantics_lines.specs.Faults.{Fault, stops, unexpected_char}
use Rattle.event_core.specs.Events.{event_of}
use Rattle.event_core.specs.Faults.{parse_fault}
use Rattle.event_core.specs.declared.event.ParseEvent.{ParseEvent}
use Rattle.event_core.specs.declared.error.ParseError.{ParseError}
use Rattle.terse_text.specs.Terse.{event_at, place, only, first_then, coming_from, Stands}

pub stands_end : (len : ℕ) (rest : List ℕ) → length rest ≡ 0 → Stands len rest (Ok None)
unfolding coming_from
stands_end len [] h = refl
stands_end len (b ∷ bs) h = absurd (omega arith)

pub stands_event : (len : ℕ) (rest : List ℕ) (e : ParseEvent) → 0 < length rest → Some (event_of e) ≡ event_at (slice_index rest 0) (place len rest) → Stands len rest (Ok (Some e))
unfolding coming_from event_at
stands_event len [] e some h = absurd (omega arith)
stands_event len (b ∷ bs) e some h =
    (omega arith, ap (λ (o : Option Event). first_then o b (place len (b ∷ bs)) (coming_from len bs)) (sym h))

pub stands_fault : (len : ℕ) (rest : List ℕ) (e : ParseError) → 0 < length rest → None ≡ event_at (slice_index rest 0) (place len rest)
    → parse_fault e ≡ record { kind = unexpected_char (slice_index rest 0); span = Some (place len rest).span; path = None } → Stands len rest (Err e)
unfolding coming_from event_at
stands_fault len [] e some h f = absurd (omega arith)
stands_fault len (b ∷ bs) e some h f =
    ap (λ (o : Option Event). first_then o b (place len (b ∷ bs)) (coming_from len bs)) (sym h) ∙ ap (λ (g : Fault). only (stops g)) (sym f)
