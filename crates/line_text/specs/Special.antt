-- Where a text needs a spelling first.
use Rattle.std.specs.Prelude.{◌≡◌, ◌<◌, ℕ, true, false, List, length, get_or, Option, Some, None}
use Rattle.semantics_lines.specs.Texts.{is_special}

-- the first byte that needs a spelling stands there, or none does
abbrev pub FindsSpecial : List ℕ → Option ℕ → Type 0
FindsSpecial bytes None = (k : ℕ) → k < length bytes → is_special (get_or bytes k 0) ≡ false
FindsSpecial bytes (Some at) = (at < length bytes) × (is_special (get_or bytes at 0) ≡ true) × ((k : ℕ) → k < at → is_special (get_or bytes k 0) ≡ false)
