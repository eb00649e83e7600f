-- Reading bytes digit by digit.
use Rattle.std.proofs.Common.{ℕ, zero, suc, ◌+◌, ◌*◌, ◌<◌, ◌≤◌, ◌≡◌, List, [], ◌∷◌, ◌++◌, length, get_or, drop, Option, Some, None, sym, refl, ap, ◌∙◌, arith, append_assoc, subst}
use Rattle.std.specs.Prelude.{option_map, option_and_then}
use Rattle.std.proofs.lemmas.List.{drop_more}
use Rattle.laws_lines.specs.Fronts.{digit, with_byte, paired, unpaired, unhexed}
use Rattle.laws_lines.proofs.Hex.{digit-takes}

-- these bytes were read of the digits, before the rest of them
abbrev pub ReadPairs : List ℕ → Option ℕ → List ℕ → List ℕ → Type 0
ReadPairs bytes high rest digits = option_map (λ more. bytes ++ more) (unhexed high rest) ≡ unhexed None digits

-- the first digit of a pair is one
abbrev pub IsHalf : Option ℕ → Type 0
IsHalf None = Unit {0}
IsHalf (Some n) = n < 16

pub pairs_none : (digits : List ℕ) → ReadPairs [] None digits digits
pairs_none digits = same (unhexed None digits)
  where
    same : (o : Option (List ℕ)) → option_map (λ more. [] ++ more) o ≡ o
    same None = refl
    same (Some bs) = refl

pub half_is : (o : Option ℕ) (n : ℕ) → IsHalf o → o ≡ Some n → n < 16
half_is o n h e = subst IsHalf e h

pub digit_small : (c n : ℕ) (o : Option ℕ) → o ≡ digit c → o ≡ Some n → n < 16
digit_small c n o e h = (digit-takes c n (sym e ∙ h)).0

pub pairs_bad : (bytes : List ℕ) (high : Option ℕ) (digits : List ℕ) (i : ℕ) → ReadPairs bytes high (drop i digits) digits → i < length digits → digit (get_or digits i 0) ≡ None → unhexed None digits ≡ None
unfolding unhexed
pairs_bad bytes high digits i r less e =
    sym r ∙ ap (λ l. option_map (λ more. bytes ++ more) (unhexed high l)) (drop_more digits i 0 less)
    ∙ ap (λ o. option_map (λ more. bytes ++ more) (option_and_then (paired (λ h. unhexed h (drop (i + 1) digits)) high) o)) e

pub pairs_first : (bytes : List ℕ) (digits : List ℕ) (i v : ℕ) → ReadPairs bytes None (drop i digits) digits → i < length digits → digit (get_or digits i 0) ≡ Some v → ReadPairs bytes (Some v) (drop (i + 1) digits) digits
unfolding unhexed
pairs_first bytes digits i v r less e =
    sym (ap (λ l. option_map (λ more. bytes ++ more) (unhexed None l)) (drop_more digits i 0 less)
    ∙ ap (λ o. option_map (λ more. bytes ++ more) (option_and_then (paired (λ h. unhexed h (drop (i + 1) digits)) None) o)) e) ∙ r

pub pairs_second : (bytes new : List ℕ) (digits : List ℕ) (i h v : ℕ) → ReadPairs bytes (Some h) (drop i digits) digits → i < length digits → digit (get_or digits i 0) ≡ Some v → new ≡ bytes ++ (16 * h + v) ∷ []
    → ReadPairs new None (drop (i + 1) digits) digits
unfolding unhexed
pairs_second bytes new digits i h v r less e is =
    let b : ℕ = 16 * h + v in
    ap (λ x. option_map (λ more. x ++ more) (unhexed None (drop (i + 1) digits))) is
    ∙ behind b (unhexed None (drop (i + 1) digits))
    ∙ sym (ap (λ l. option_map (λ more. bytes ++ more) (unhexed (Some h) l)) (drop_more digits i 0 less)
    ∙ ap (λ o. option_map (λ more. bytes ++ more) (option_and_then (paired (λ k. unhexed k (drop (i + 1) digits)) (Some h)) o)) e) ∙ r
  where
    behind : (x : ℕ) (o : Option (List ℕ)) → option_map (λ more. (bytes ++ x ∷ []) ++ more) o ≡ option_map (λ more. bytes ++ more) (with_byte x o)
    behind x None = refl
    behind x (Some bs) = ap Some (append_assoc bytes (x ∷ []) bs)

pub pairs_end : (bytes : List ℕ) (high : Option ℕ) (digits : List ℕ) (i : ℕ) → ReadPairs bytes high (drop i digits) digits → length digits ≤ i → unhexed None digits ≡ option_map (λ more. bytes ++ more) (unpaired high)
unfolding unhexed
pairs_end bytes high digits i r over = sym r ∙ ap (λ l. option_map (λ more. bytes ++ more) (unhexed high l)) (cut_all digits i over)
  where
    cut_all : (l : List ℕ) (n : ℕ) → length l ≤ n → drop n l ≡ []
    cut_all [] zero h = refl
    cut_all [] (suc n) h = refl
    cut_all (d ∷ ds) zero h = absurd (omega (arith, h))
    cut_all (d ∷ ds) (suc n) h = cut_all ds n (omega (arith, h))
