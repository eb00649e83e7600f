-- A front of a line is read again, and what was read stood there.
use Rattle.std.proofs.Common.{ℕ, ◌≡◌, ◌≢◌, List, [], ◌∷◌, ◌++◌, Option, None, Some, option_map, inl, inr, refl, sym, ap, ◌∙◌, arith}
use Rattle.std.proofs.lemmas.Bool.{cases_eq}
use Rattle.std.proofs.lemmas.Bool.Decides.{nat_tests}
use Rattle.laws_lines.specs.Fronts.{strip, until_space}

pub strip-again : (p rest : List ℕ) → strip p (p ++ rest) ≡ Some rest
strip-again [] rest = refl
strip-again (b ∷ p) rest = grind (arith, nat_tests, strip-again p rest)

pub strip-takes : (p l rest : List ℕ) → strip p l ≡ Some rest → l ≡ p ++ rest
strip-takes [] l rest h = cc
strip-takes (b ∷ p) [] rest h = cc
strip-takes (b ∷ p) (c ∷ l) rest h = grind (arith, nat_tests, strip-takes p l rest)

pub until-other : (b : ℕ) (bs : List ℕ) → b ≢ 32 → until_space (b ∷ bs) ≡ (b ∷ (until_space bs).0, (until_space bs).1)
unfolding until_space
until-other b bs h = grind (arith, nat_tests)

pub until-here : (b : ℕ) (bs : List ℕ) → b ≡ 32 → until_space (b ∷ bs) ≡ ([], b ∷ bs)
unfolding until_space
until-here b bs h = grind (arith, nat_tests)

pub until-takes : (l : List ℕ) → l ≡ (until_space l).0 ++ (until_space l).1
unfolding until_space
until-takes [] = refl
until-takes (b ∷ bs) = elim (cases_eq b 32) [
  | inl e ↦ sym (ap (λ q. q.0 ++ q.1) (until-here b bs e))
  | inr n ↦ ap (λ x. b ∷ x) (until-takes bs) ∙ sym (ap (λ q. q.0 ++ q.1) (until-other b bs n))
]

-- it is empty, or begins with a space
abbrev pub EndsWord : List ℕ → Type 0
EndsWord [] = Unit {0}
EndsWord (b ∷ bs) = b ≡ 32

-- no space stands in it
abbrev pub HasNoSpace : List ℕ → Type 0
HasNoSpace [] = Unit {0}
HasNoSpace (b ∷ bs) = (b ≢ 32) × HasNoSpace bs

pub until-again : (xs rest : List ℕ) → HasNoSpace xs → EndsWord rest → until_space (xs ++ rest) ≡ (xs, rest)
unfolding until_space
until-again [] [] h e = refl
until-again [] (b ∷ bs) h e = until-here b bs e
until-again (x ∷ xs) rest h e = until-other x (xs ++ rest) h.0 ∙ ap (λ (q : List ℕ × List ℕ). (x ∷ q.0, q.1)) (until-again xs rest h.1 e)

-- what a word was read as, and what stands after it
pub read_word : {A : Type 0} (o : Option A) (rest : List ℕ) (p : A × List ℕ) → option_map (λ n. (n, rest)) o ≡ Some p → (o ≡ Some p.0) × (rest ≡ p.1)
read_word None rest p h = absurd (let f : None ≡ Some p = h in cc)
read_word (Some n) rest p h = let e : (n, rest) ≡ p = cc in (ap (λ q. Some q.0) e, ap (λ q. q.1) e)
