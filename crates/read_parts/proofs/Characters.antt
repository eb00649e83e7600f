-- What std's `parse` reads as a character, in the words of the definitions.
use Rattle.std.proofs.Common.{◌≡◌, ◌≢◌, ℕ, Bool, true, false, cond, ◌&&◌, List, [], ◌∷◌, ◌++◌, Option, Some, None, refl, sym, ap, ◌∙◌, append-nil}
use Rattle.std.specs.Prelude.{encode_utf8}
use Rattle.std.specs.Char.{IsScalar}
use Rattle.std.specs.Str.{IsUtf8, is_utf8, chars, all_scalars, encode_utf8_all}
use Rattle.std.proofs.lemmas.Str.{is_utf8-from_IsUtf8, chars_from_encodes, encodes-chars, scalars-chars}
use Rattle.std.proofs.Math.Utf8.{scalar}
use Rattle.semantics.specs.Numerals.{only, char_text}

first_of_both : (p q : Bool) → (p && q) ≡ true → p ≡ true
first_of_both true q h = refl
first_of_both false q h = absurd cc

-- a text that is one character
pub char_read : (bs : List ℕ) (c : ℕ) → IsUtf8 bs → bs ≡ encode_utf8 c → Some c ≡ char_text bs
char_read bs c u e = rw (is_utf8-from_IsUtf8 bs u, ← chars_from_encodes (c ∷ []) bs u (append-nil (encode_utf8 c) ∙ sym e)) refl

only_none : (bs cs : List ℕ) → all_scalars cs ≡ true → encode_utf8_all cs ≡ bs → ((c : ℕ) → IsScalar c → bs ≢ encode_utf8 c) → None ≡ only cs
only_none bs [] s e none = refl
only_none bs (c ∷ []) s e none = absurd (none c (first_of_both (scalar c) true s) (sym e ∙ append-nil (encode_utf8 c)))
only_none bs (c ∷ d ∷ cs) s e none = refl

-- a text that is none
pub char_refused : (bs : List ℕ) → IsUtf8 bs → ((c : ℕ) → IsScalar c → bs ≢ encode_utf8 c) → None ≡ char_text bs
char_refused bs u none = rw (is_utf8-from_IsUtf8 bs u) (only_none bs (chars bs) (scalars-chars bs u) (encodes-chars bs u) none)
