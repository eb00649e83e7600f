-- What `memchr` tells of the first line feed.
use Rattle.std.proofs.Common.{ℕ, ◌≡◌, List, true, Option, None, Some, get_or, arith}
use Rattle.std.specs.Prelude.{◌==◌}
use Rattle.std.proofs.lemmas.Bool.Decides.{nat_tests}
use Rattle.memchr.specs.Find.{IsFirstByte, is_byte}
use Rattle.line_text.specs.Ends.{FindsEnd}

passes : (b : ℕ) → b ≡ 10 → (b == 10) ≡ true
passes b e = grind (arith, nat_tests)

is_end : (b : ℕ) → (b == 10) ≡ true → b ≡ 10
is_end b h = grind (arith, nat_tests)

pub finds_end : (bs : List ℕ) (r : Option ℕ) → IsFirstByte (is_byte 10) bs r → FindsEnd bs r
finds_end bs None h = λ k less e. h k (omega arith) less (passes (get_or bs k 0) e)
finds_end bs (Some end) h = (h.0.high, is_end (get_or bs end 0) h.1, λ k less e. h.0.before k (omega arith) less (passes (get_or bs k 0) e))
