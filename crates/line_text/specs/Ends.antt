-- Where a line ends.
use Rattle.std.specs.Prelude.{◌≡◌, ◌≢◌, ◌<◌, ℕ, List, length, get_or, Option, Some, None}

-- the first line feed stands there, or there is none
abbrev pub FindsEnd : List ℕ → Option ℕ → Type 0
FindsEnd bytes None = (k : ℕ) → k < length bytes → get_or bytes k 0 ≢ 10
FindsEnd bytes (Some end) = (end < length bytes) × (get_or bytes end 0 ≡ 10) × ((k : ℕ) → k < end → get_or bytes k 0 ≢ 10)
