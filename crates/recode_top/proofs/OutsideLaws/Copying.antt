-- Of bytes that are copied into a slice.
use Rattle.std.proofs.Common.{ℕ, ◌≤◌, ◌≡◌, List, ◌++◌, length, take, drop, sym, ap, ◌∙◌, arith, length-take-le}
use Rattle.std.proofs.lemmas.List.{take-append-drop, take-append-le, take_all}

-- what was copied stands in the slice, and is missing from the rest
pub given : (rest into out : List ℕ) (n : ℕ) → n ≤ length rest → out ≡ take n rest ++ drop n into → rest ≡ take n out ++ drop n rest
given rest into out n fits is =
    let len = length-take-le n rest fits in
    let front : take n out ≡ take n rest = ap (take n) is ∙ take-append-le n (take n rest) (drop n into) (omega (arith, len)) ∙ take_all n (take n rest) (omega (arith, len)) in
    sym (ap (λ (x : List ℕ). x ++ drop n rest) front ∙ take-append-drop n rest)
