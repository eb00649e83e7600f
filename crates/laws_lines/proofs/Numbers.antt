-- Numbers are read from their decimals, with a sign or without one, and only from these.
use Rattle.std.proofs.Common.{ℕ, zero, suc, ℤ, pos, negsuc, ◌+◌, ◌^◌, ◌<◌, ◌≤◌, ◌≡◌, List, [], ◌∷◌, ◌++◌, Bool, true, false, cond, ltb, ◌&&◌, Option, Some, None, option_and_then, refl, sym, ap, ◌∙◌, arith}
use Rattle.std.specs.Prelude.{nat_lt, codes}
use Rattle.std.specs.Fmt.{decimal, signed_decimal}
use Rattle.std.specs.Str.{bytes_eq}
use Rattle.std.specs.Str.Parse.{digits_value, AllDigits}
use Rattle.std.proofs.lemmas.Bool.Decides.{nat_tests}
use Rattle.std.proofs.lemmas.Fmt.{decimal_is_IsNumeral_wide}
use Rattle.std.proofs.lemmas.Slice.Eq.{bytes_eq-Decides}
use Rattle.std.proofs.lemmas.Str.Parse.{digit_from_value}
use Rattle.semantics_lines.specs.Lines.{magnitude}
use Rattle.laws_lines.specs.Fronts.{strip, until_space, number_of, number_at, negative, positive, signed_by, signed_of, signed_at}
use Rattle.laws_lines.proofs.Tests.{if_true, bound}
use Rattle.laws_lines.proofs.Fronts.{strip-takes, EndsWord, HasNoSpace, until-again, until-takes, read_word}

pub number-again : (bits n : ℕ) → n < 2 ^ bits → n < 10 ^ 64 → number_of bits (decimal n) ≡ Some n
unfolding number_of
number-again bits n h wide =
    let v : digits_value 10 (decimal n) ≡ n = (decimal_is_IsNumeral_wide n wide).1 in
    let same : bytes_eq (decimal n) (decimal n) ≡ true = (bytes_eq-Decides (decimal n) (decimal n)).1 refl in
    rw (v, same) (grind (arith, nat_tests))

chosen : (m k : ℕ) (b : Bool) (n : ℕ) → cond (ltb m k && b) (Some m) None ≡ Some n → (m < k) × (b ≡ true) × (m ≡ n)
chosen m k true n h = grind (arith, nat_tests)
chosen m k false n h = grind (arith, nat_tests)

pub number-takes : (bits n : ℕ) (text : List ℕ) → number_of bits text ≡ Some n → (n < 2 ^ bits) × (text ≡ decimal n)
unfolding number_of
number-takes bits n text h =
    let m : ℕ = digits_value 10 text in
    let got = chosen m (2 ^ bits) (bytes_eq (decimal m) text) n h in
    let same : decimal m ≡ text = (bytes_eq-Decides (decimal m) text).0 got.1 in
    (omega (arith, got.0, got.2), sym same ∙ ap decimal got.2)

none_from : (bits : ℕ) (text : List ℕ) (o : Option ℕ) → number_of bits text ≡ o → ((n : ℕ) → n < 2 ^ bits → text ≡ decimal n → ⊥) → o ≡ None
none_from bits text None e h = refl
none_from bits text (Some n) e h = let t = number-takes bits n text e in absurd (h n t.0 t.1)

-- a text that is no decimal
pub number-none : (bits : ℕ) (text : List ℕ) → ((n : ℕ) → n < 2 ^ bits → text ≡ decimal n → ⊥) → number_of bits text ≡ None
number-none bits text h = none_from bits text (number_of bits text) refl h

-- the two ways to say that a number is below another
pub below : (n k : ℕ) → nat_lt n k ≡ true → n < k
below n k h = grind (arith, nat_tests)

pub is_below : (n k : ℕ) → n < k → nat_lt n k ≡ true
is_below n k h = grind (arith, nat_tests)

-- digits hold no space
digits_no_space : (ds : List ℕ) → AllDigits 10 ds → HasNoSpace ds
digits_no_space [] d = tt
digits_no_space (c ∷ cs) d = let r = digit_from_value c d.0 in (λ e. omega (arith, r.0, e), digits_no_space cs d.1)

decimal_no_space : (n : ℕ) → n < 10 ^ 64 → HasNoSpace (decimal n)
decimal_no_space n h = digits_no_space (decimal n) (decimal_is_IsNumeral_wide n h).0.1

pub number_at-again : (bits n : ℕ) (rest : List ℕ) → 2 ^ bits ≤ 10 ^ 64 → nat_lt n (2 ^ bits) ≡ true → EndsWord rest → number_at bits (decimal n ++ rest) ≡ Some (n, rest)
unfolding number_at
number_at-again bits n rest wide h e =
    let less = below n (2 ^ bits) h in
    let small : n < 10 ^ 64 = omega (arith, wide, less) in
    rw (until-again (decimal n) rest (decimal_no_space n small) e, number-again bits n less small) refl

pub number_at-takes : (bits : ℕ) (l : List ℕ) (p : ℕ × List ℕ) → number_at bits l ≡ Some p → (nat_lt p.0 (2 ^ bits) ≡ true) × (l ≡ decimal p.0 ++ p.1)
unfolding number_at
number_at-takes bits l p h =
    let m = read_word (number_of bits (until_space l).0) (until_space l).1 p h in
    let t = number-takes bits p.0 (until_space l).0 m.0 in
    (is_below p.0 (2 ^ bits) t.0, until-takes l ∙ ap (λ x. x ++ (until_space l).1) t.1 ∙ ap (λ x. decimal p.0 ++ x) m.1)

-- the number fits, and is spelled so
abbrev Spells : ℕ → ℤ → List ℕ → Type 0
Spells half z text = (nat_lt (magnitude z) (2 ^ half) ≡ true) × (text ≡ signed_decimal z)

some_is : {A : Type 0} {x y : A} → Some x ≡ Some y → x ≡ y
some_is h = cc

positive-takes : (half n : ℕ) (z : ℤ) → positive half n ≡ Some z → Spells half z (decimal n)
positive-takes half n z h =
    let c = if_true (nat_lt n (2 ^ half)) (Some (pos n)) z h in
    let is = some_is c.1 in
    (ap (λ x. nat_lt (magnitude x) (2 ^ half)) (sym is) ∙ c.0, ap signed_decimal is)

negative-takes : (half n : ℕ) (z : ℤ) → negative half n ≡ Some z → Spells half z (45 ∷ decimal n)
negative-takes half zero z h = absurd (let f : None ≡ Some z = h in cc)
negative-takes half (suc m) z h =
    let c = if_true (nat_lt m (2 ^ half)) (Some (negsuc m)) z h in
    let is = some_is c.1 in
    (ap (λ x. nat_lt (magnitude x) (2 ^ half)) (sym is) ∙ c.0, ap signed_decimal is)

signed-takes : (half bits : ℕ) (text : List ℕ) (z : ℤ) → signed_of half bits text ≡ Some z → Spells half z text
unfolding signed_of
signed-takes half bits text z h = by_sign (strip (codes "-") text) refl h
  where
    by_sign : (o : Option (List ℕ)) → strip (codes "-") text ≡ o → signed_by half bits text o ≡ Some z → Spells half z text
    by_sign None e h =
        let a = bound (positive half) (number_of bits text) z h in
        let s = positive-takes half a.0 z a.2 in
        (s.0, (number-takes bits a.0 text a.1).1 ∙ s.1)
    by_sign (Some digits) e h =
        let a = bound (negative half) (number_of bits digits) z h in
        let s = negative-takes half a.0 z a.2 in
        (s.0, strip-takes (codes "-") text digits e ∙ ap (λ x. 45 ∷ x) (number-takes bits a.0 digits a.1).1 ∙ s.1)

-- a decimal begins with a digit
no_sign : (ds : List ℕ) → AllDigits 10 ds → strip (codes "-") ds ≡ None
no_sign [] d = refl
no_sign (c ∷ cs) d = let r = digit_from_value c d.0 in let lo = r.0 in grind (arith, nat_tests)

-- The bits hold the half on both sides, and there are few enough.
pub record IsHalf (half bits : ℕ) : Type 0 where
  pub fits : 2 ^ half + 1 ≤ 2 ^ bits
  pub wide : 2 ^ bits ≤ 10 ^ 64

pub half_of_64 : IsHalf 63 64
half_of_64 = record { fits = omega arith; wide = omega arith }

pub half_of_128 : IsHalf 127 128
half_of_128 = record { fits = omega arith; wide = omega arith }

signed-again : (half bits : ℕ) (z : ℤ) → IsHalf half bits → nat_lt (magnitude z) (2 ^ half) ≡ true → signed_of half bits (signed_decimal z) ≡ Some z
unfolding signed_of
signed-again half bits (pos n) i h =
    let less = below n (2 ^ half) h in
    ap (signed_by half bits (decimal n)) (no_sign (decimal n) (decimal_is_IsNumeral_wide n (omega (arith, less, i.fits, i.wide))).0.1)
    ∙ ap (option_and_then (positive half)) (number-again bits n (omega (arith, less, i.fits)) (omega (arith, less, i.fits, i.wide)))
    ∙ ap (λ b. cond b (Some (pos n)) None) h
signed-again half bits (negsuc m) i h =
    let less = below m (2 ^ half) h in
    ap (option_and_then (negative half)) (number-again bits (suc m) (omega (arith, less, i.fits)) (omega (arith, less, i.fits, i.wide)))
    ∙ ap (λ b. cond b (Some (negsuc m)) None) h

signed_no_space : (half bits : ℕ) (z : ℤ) → IsHalf half bits → nat_lt (magnitude z) (2 ^ half) ≡ true → HasNoSpace (signed_decimal z)
signed_no_space half bits (pos n) i h = let less = below n (2 ^ half) h in decimal_no_space n (omega (arith, less, i.fits, i.wide))
signed_no_space half bits (negsuc m) i h = let less = below m (2 ^ half) h in (λ e. omega (arith, e), decimal_no_space (suc m) (omega (arith, less, i.fits, i.wide)))

pub signed_at-again : (half bits : ℕ) (z : ℤ) (rest : List ℕ) → IsHalf half bits → nat_lt (magnitude z) (2 ^ half) ≡ true → EndsWord rest → signed_at half bits (signed_decimal z ++ rest) ≡ Some (z, rest)
unfolding signed_at
signed_at-again half bits z rest i h e =
    rw (until-again (signed_decimal z) rest (signed_no_space half bits z i h) e, signed-again half bits z i h) refl

pub signed_at-takes : (half bits : ℕ) (l : List ℕ) (p : ℤ × List ℕ) → signed_at half bits l ≡ Some p → (nat_lt (magnitude p.0) (2 ^ half) ≡ true) × (l ≡ signed_decimal p.0 ++ p.1)
unfolding signed_at
signed_at-takes half bits l p h =
    let m = read_word (signed_of half bits (until_space l).0) (until_space l).1 p h in
    let t = signed-takes half bits (until_space l).0 p.0 m.0 in
    (t.0, until-takes l ∙ ap (λ x. x ++ (until_space l).1) t.1 ∙ ap (λ x. signed_decimal p.0 ++ x) m.1)
