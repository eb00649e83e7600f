-- The first letter of what is left.
use Rattle.std.proofs.Common.{ℕ, ◌<◌, ◌≡◌, List, [], ◌∷◌, length, take, refl, arith}
use Rattle.std.specs.Prelude.{slice_index}
use Rattle.std.specs.Str.{IsUtf8}
use Rattle.std.proofs.lemmas.Str.{IsUtf8-from_ascii}
use Rattle.std.proofs.lemmas.Str.Ascii.{IsAscii-nil, IsAscii-cons}

pub one_letter : (rest : List ℕ) → 0 < length rest → take 1 rest ≡ slice_index rest 0 ∷ []
one_letter [] some = absurd (omega arith)
one_letter (b ∷ bs) some = refl

pub letter_is_utf8 : (rest : List ℕ) → 0 < length rest → slice_index rest 0 < 128 → IsUtf8 (take 1 rest)
letter_is_utf8 [] some less = absurd (omega arith)
letter_is_utf8 (b ∷ bs) some less = IsUtf8-from_ascii (b ∷ []) (IsAscii-cons b [] less IsAscii-nil)
