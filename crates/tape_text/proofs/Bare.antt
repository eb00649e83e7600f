-- A line that ends after its body.
use Rattle.std.proofs.Common.{ℕ, ◌≡◌, List, [], ◌∷◌, length, eqb, Some, None, Bool, true, false, cond, ◌||◌, refl, sym, ap, ◌∙◌, arith}
use Rattle.std.proofs.lemmas.Bool.Decides.{nat_tests}
use Rattle.std.specs.Prelude.{option_and_then}
use Rattle.semantics_lines.specs.Events.{Span, Event}
use Rattle.tape_text.specs.Bodies.{Body, takes_metadata}
use Rattle.tape_text.specs.Reading.{event_from, event_with, completed}
use Rattle.tape_text.specs.Suffixes.{metadata, metadata_at}
use Rattle.tape_text.proofs.Suffixes.{nothing_told}

no_items : (xs : List ℕ) → length xs ≡ 0 → xs ≡ []
no_items [] is = refl
no_items (x ∷ xs) is = absurd (omega (arith, is))

-- a text that is found empty
pub no_bytes : (xs : List ℕ) → eqb (length xs) 0 ≡ true → xs ≡ []
no_bytes xs is = no_items xs (zero_is (length xs) is)
  where
    zero_is : (n : ℕ) → eqb n 0 ≡ true → n ≡ 0
    zero_is n is = grind (arith, nat_tests)

-- where nothing follows the body, its event tells nothing beside it
pub bare_completes : (span : Span) (body : Body) (rest : List ℕ) (e : Event) → rest ≡ [] → e ≡ event_from body span (metadata None []) → Some e ≡ completed span (body, rest)
bare_completes span body rest e is made =
    ap Some made ∙ by_body (takes_metadata body) ∙ sym (ap (option_and_then (event_with body span)) (ap metadata_at is ∙ nothing_told))
  where
    by_body : (b : Bool) → Some (event_from body span (metadata None [])) ≡ cond (b || true) (Some (event_from body span (metadata None []))) None
    by_body true = refl
    by_body false = refl
