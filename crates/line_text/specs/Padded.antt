-- What no decimal begins with.
use Rattle.std.specs.Prelude.{ℕ, ◌==◌, List, length, slice_index, Bool, ◌&&◌, ◌||◌, nat_lt}

-- a sign or a leading zero stands in front
abbrev pub is_padded : List ℕ → Bool
is_padded text = slice_index text 0 == 43 || (slice_index text 0 == 48 && nat_lt 1 (length text))
