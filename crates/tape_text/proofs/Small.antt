-- The items of a list of bytes.
use Rattle.std.proofs.Common.{◌≡◌, ◌<◌, ℕ, suc, List, [], ◌∷◌, true, ltb, get_or, refl, arith, Fits, w8}
use Rattle.std.proofs.lemmas.Bool.Decides.{nat_tests}
use Rattle.std.specs.List.{list_all}

-- Each is below 256.
pub all_small : (items : List ℕ) → ((i : ℕ) → Fits w8 (get_or items i 0)) → list_all (λ b. ltb b 256) items ≡ true
all_small [] h = refl
all_small (b ∷ items) h =
    let first : Fits w8 b = h 0 in
    let less : b < 256 = omega arith in
    let test : ltb b 256 ≡ true = grind (arith, nat_tests) in
    (rw (test, all_small items (λ i. h (suc i))) refl)
