-- Reading a text between quotes, of a tape or of a shape text.
use Rattle.std.specs.Prelude.{ℕ, true, false, List, [], ◌∷◌, ◌++◌, Bool, ◌==◌, ◌&&◌, cond, encode_utf8, Option, None, Some, option_map, option_and_then}
use Rattle.std.specs.Str.{bytes_eq, chars, all_scalars}
use Rattle.semantics_lines.specs.Texts.{Phrase, is_special, is_plain}
use Rattle.laws_lines.specs.Fronts.{strip}

-- some bytes before a text, and what stands after it
abbrev pub with_front : List ℕ → Option (List ℕ × List ℕ) → Option (List ℕ × List ℕ)
with_front xs None = None
with_front xs (Some p) = Some (xs ++ p.0, p.1)

-- what stands before the closing quote, where nothing there needs a spelling
unfoldable pub unquoted : List ℕ → Option (List ℕ × List ℕ)
unquoted [] = None
unquoted (b ∷ bs) = cond (b == 34) (Some ([], bs)) (cond (is_special b) None (with_front (b ∷ []) (unquoted bs)))

-- what a backslash and this spell
abbrev pub spelled : ℕ → Option ℕ
spelled c = cond (c == 92) (Some 92) (cond (c == 34) (Some 34) (cond (c == 110) (Some 10) None))

-- what was spelled, before the rest of the text
abbrev pub with_spelled : Option ℕ → Option (List ℕ × List ℕ) → Option (List ℕ × List ℕ)
with_spelled None o = None
with_spelled (Some c) o = with_front (c ∷ []) o

-- a text up to its closing quote, and what stands after that; the flag says that a backslash stands before
unfoldable pub unquote : Bool → List ℕ → Option (List ℕ × List ℕ)
unquote after_backslash [] = None
unquote true (b ∷ bs) = with_spelled (spelled b) (unquote false bs)
unquote false (b ∷ bs) = cond (b == 34) (Some ([], bs)) (cond (b == 92) (unquote true bs) (cond (b == 10) None (with_front (b ∷ []) (unquote false bs))))

-- what stands after the closing quote of a text
unfoldable pub after_quote : List ℕ → Option (List ℕ)
after_quote text = option_map (λ p. p.1) (unquote false text)

-- a text between quotes
unfoldable pub quoted_at : List ℕ → Option (List ℕ × List ℕ)
quoted_at text = option_and_then (unquote false) (strip (34 ∷ []) text)

-- A text is borrowed where it needs no spelling.
abbrev pub seen : List ℕ × List ℕ → Phrase × List ℕ
seen p = (record { bytes = p.0; borrowed = is_plain p.0 }, p.1)

-- a text between quotes, and whether it is borrowed
unfoldable pub text_at : List ℕ → Option (Phrase × List ℕ)
text_at text = option_map seen (quoted_at text)

-- the character, where these bytes are its bytes
abbrev pub sole : List ℕ → List ℕ → Option ℕ
sole bytes (c ∷ []) = cond (all_scalars (c ∷ []) && bytes_eq (encode_utf8 c) bytes) (Some c) None
sole bytes _ = None

-- the one character that the text is
unfoldable pub single : List ℕ → Option ℕ
single bytes = sole bytes (chars bytes)

-- one character between quotes
unfoldable pub char_at : List ℕ → Option (ℕ × List ℕ)
char_at text = option_and_then (λ p. option_map (λ c. (c, p.1)) (single p.0)) (quoted_at text)
