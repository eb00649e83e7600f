-- Bytes are read from their pairs of hexadecimal digits, and only from these.
use Rattle.std.proofs.Common.{ℕ, ◌+◌, ◌*◌, ◌/◌, ◌%◌, ◌<◌, ◌≡◌, ◌≢◌, List, [], ◌∷◌, ◌++◌, Bool, true, Some, None, sym, refl, ap, ap₂, ◌∙◌, arith}
use Rattle.std.specs.Prelude.{nat_lt, option_and_then}
use Rattle.std.specs.List.{list_all}
use Rattle.std.proofs.lemmas.Bool.Decides.{nat_tests}
use Rattle.semantics_lines.specs.Lines.{hex_digit, hex_pair, hex}
use Rattle.laws_lines.specs.Fronts.{until_space, digit, with_byte, paired, unhexed, bytes_at}
use Rattle.laws_lines.proofs.Tests.{is_both, mapped, bound}
use Rattle.laws_lines.proofs.Fronts.{EndsWord, HasNoSpace, until-again, until-takes, read_word}
use Rattle.laws_lines.proofs.Numbers.{below}

abbrev are_small : List ℕ → Bool
are_small t = list_all (λ b. nat_lt b 256) t

digit-again : (n : ℕ) → n < 16 → digit (hex_digit n) ≡ Some n
digit-again n h = grind (arith, nat_tests)

pub digit-takes : (c n : ℕ) → digit c ≡ Some n → (n < 16) × (hex_digit n ≡ c)
digit-takes c n h = grind (arith, nat_tests)

value_of : (b : ℕ) → 16 * (b / 16) + b % 16 ≡ b
value_of b = omega arith

unhexed-again : (t : List ℕ) → are_small t ≡ true → unhexed None (hex t) ≡ Some t
unfolding unhexed
unhexed-again [] h = refl
unhexed-again (b ∷ t) h =
    let (first, more) = is_both (nat_lt b 256) (are_small t) h in
    let small = below b 256 first in
    let high : b / 16 < 16 = omega (arith, small) in
    let low : b % 16 < 16 = omega arith in
    ap (option_and_then (paired (λ k. unhexed k (hex_digit (b % 16) ∷ hex t)) None)) (digit-again (b / 16) high)
    ∙ ap (option_and_then (paired (λ k. unhexed k (hex t)) (Some (b / 16)))) (digit-again (b % 16) low)
    ∙ ap (with_byte (16 * (b / 16) + b % 16)) (unhexed-again t more)
    ∙ ap (λ x. Some (x ∷ t)) (value_of b)

-- the digits of a byte
pair_is : (c d h l : ℕ) → h < 16 → l < 16 → hex_digit h ≡ c → hex_digit l ≡ d → (nat_lt (16 * h + l) 256 ≡ true) × (hex_pair (16 * h + l) ≡ c ∷ d ∷ [])
pair_is c d h l p q e f =
    let high : (16 * h + l) / 16 ≡ h = omega (arith, p, q) in
    let low : (16 * h + l) % 16 ≡ l = omega (arith, p, q) in
    let small : 16 * h + l < 256 = omega (arith, p, q) in
    (grind (arith, nat_tests), ap₂ (λ x y. hex_digit x ∷ hex_digit y ∷ []) high low ∙ ap₂ (λ x y. x ∷ y ∷ []) e f)

unhexed-takes : (l t : List ℕ) → unhexed None l ≡ Some t → (are_small t ≡ true) × (l ≡ hex t)
unfolding unhexed
unhexed-takes [] t h = let is : [] ≡ t = (let g : Some [] ≡ Some t = h in cc) in (ap are_small (sym is), ap hex is)
unhexed-takes (c ∷ []) t h =
    let a = bound (paired (λ k. unhexed k []) None) (digit c) t h in
    absurd (let f : None ≡ Some t = a.2 in cc)
unhexed-takes (c ∷ d ∷ l) t h =
    let a = bound (paired (λ k. unhexed k (d ∷ l)) None) (digit c) t h in
    let b = bound (paired (λ k. unhexed k l) (Some a.0)) (digit d) t a.2 in
    let m = mapped (λ bs. (16 * a.0 + b.0) ∷ bs) (unhexed None l) t b.2 in
    let (small, is) = unhexed-takes l m.0 m.1 in
    let x = digit-takes c a.0 a.1 in
    let y = digit-takes d b.0 b.1 in
    let p = pair_is c d a.0 b.0 x.0 y.0 x.1 y.1 in
    (ap are_small (sym m.2) ∙ (rw (p.0, small) refl), ap (λ r. c ∷ d ∷ r) is ∙ ap (λ r. r ++ hex m.0) (sym p.1) ∙ ap hex m.2)

digit-no_space : (n : ℕ) → hex_digit n ≢ 32
digit-no_space n = λ e. (grind (arith, nat_tests))

hex-no_space : (t : List ℕ) → HasNoSpace (hex t)
hex-no_space [] = tt
hex-no_space (b ∷ t) = (digit-no_space (b / 16), (digit-no_space (b % 16), hex-no_space t))

pub bytes_at-again : (t rest : List ℕ) → are_small t ≡ true → EndsWord rest → bytes_at (hex t ++ rest) ≡ Some (t, rest)
unfolding bytes_at
bytes_at-again t rest h e =
    rw (until-again (hex t) rest (hex-no_space t) e, unhexed-again t h) refl

pub bytes_at-takes : (l : List ℕ) (p : List ℕ × List ℕ) → bytes_at l ≡ Some p → (are_small p.0 ≡ true) × (l ≡ hex p.0 ++ p.1)
unfolding bytes_at
bytes_at-takes l p h =
    let m = read_word (unhexed None (until_space l).0) (until_space l).1 p h in
    let t = unhexed-takes (until_space l).0 p.0 m.0 in
    (t.0, until-takes l ∙ ap (λ x. x ++ (until_space l).1) t.1 ∙ ap (λ x. hex p.0 ++ x) m.1)
