-- What the first character of a quoted text says of the text.
use Rattle.std.specs.Prelude.{◌≡◌, ◌⊎◌, ℕ, false, List, [], ◌∷◌, ◌++◌, Option, None, Some, option_map, option_and_then, encode_utf8, IsTrue}
use Rattle.std.specs.Str.{all_scalars}
use Rattle.laws_lines.specs.Quoted.{with_front, unquote, single}

-- the one character of a text, and what stands after the text
abbrev pub char_in : List ℕ × List ℕ → Option (ℕ × List ℕ)
char_in p = option_map (λ c. (c, p.1)) (single p.0)

-- No text of one character begins so, or this character comes first in the text, and what is left of it is known.
abbrev pub ReadsFirst : List ℕ → Option ℕ → List ℕ → Type 0
ReadsFirst old None new = option_and_then char_in (unquote false old) ≡ None
ReadsFirst old (Some c) new = (unquote false old ≡ with_front (encode_utf8 c) (unquote false new)) × (IsTrue (all_scalars (c ∷ [])) ⊎ (old ≡ encode_utf8 c ++ new))
