-- A quoted text of a line, and what stands after it.
use Rattle.std.proofs.Common.{ℕ, ◌≡◌, List, [], ◌∷◌, false, Option, None, Some, refl, ap}
use Rattle.std.specs.Prelude.{option_map, option_and_then}
use Rattle.laws_lines.specs.Fronts.{strip}
use Rattle.laws_lines.specs.Quoted.{unquote, after_quote, quoted_at}
use Rattle.shape_lines.specs.ShapeLines.{text_or_none}

-- a text and what stands behind it, where that was found
pub piece_found : (from rest : List ℕ) → Some rest ≡ after_quote from → Some (text_or_none (unquote false from), rest) ≡ unquote false from
unfolding after_quote
piece_found from rest h = by_found (unquote false from) h
  where
    by_found : (o : Option (List ℕ × List ℕ)) → Some rest ≡ option_map (λ (p : List ℕ × List ℕ). p.1) o → Some (text_or_none o, rest) ≡ o
    by_found None h = absurd (let f : Some rest ≡ None = h in cc)
    by_found (Some p) h = let same : rest ≡ p.1 = cc in ap (λ x. Some (p.0, x)) same

pub piece_none : (from : List ℕ) → None ≡ after_quote from → None ≡ unquote false from
unfolding after_quote
piece_none from h = by_found (unquote false from) h
  where
    by_found : (o : Option (List ℕ × List ℕ)) → None ≡ option_map (λ (p : List ℕ × List ℕ). p.1) o → None ≡ o
    by_found None h = refl
    by_found (Some p) h = absurd (let f : None ≡ Some p.1 = h in cc)

pub quoted_cut : (text from : List ℕ) → strip (34 ∷ []) text ≡ Some from → quoted_at text ≡ unquote false from
unfolding quoted_at
quoted_cut text from h = ap (option_and_then (unquote false)) h

pub quoted_none : (text : List ℕ) → strip (34 ∷ []) text ≡ None → quoted_at text ≡ None
unfolding quoted_at
quoted_none text h = ap (option_and_then (unquote false)) h
