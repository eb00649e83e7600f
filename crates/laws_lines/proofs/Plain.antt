-- Texts that need no spelling.
use Rattle.std.proofs.Common.{ℕ, ◌≡◌, ◌≢◌, List, [], ◌∷◌, ◌++◌, Bool, true, false, cond, eqb, Option, None, Some, sym, refl, ap, ◌∙◌, inl, inr, ◌⊎◌, arith}
use Rattle.std.proofs.lemmas.Bool.{cases_eq}
use Rattle.std.proofs.lemmas.Bool.Decides.{nat_tests}
use Rattle.std.specs.List.{flat_map}
use Rattle.semantics_lines.specs.Texts.{is_special, is_plain}
use Rattle.semantics_lines.specs.Lines.{escape}
use Rattle.laws_lines.specs.Quoted.{with_front, unquoted}

-- a byte that stands for itself
pub record IsOther (b : ℕ) : Type 0 where
  pub no_slash : b ≢ 92
  pub no_quote : b ≢ 34
  pub no_end : b ≢ 10

pub by_byte : (b : ℕ) (A : Type 0) → (b ≡ 92 → A) → (b ≡ 34 → A) → (b ≡ 10 → A) → (IsOther b → A) → A
by_byte b A p q r s = elim (cases_eq b 92) [ inl e ↦ p e | inr x ↦ elim (cases_eq b 34) [ inl e ↦ q e | inr y ↦ elim (cases_eq b 10) [ inl e ↦ r e | inr z ↦ s (record { no_slash = x; no_quote = y; no_end = z }) ] ] ]

plain-first : (b : ℕ) (t : List ℕ) → is_plain (b ∷ t) ≡ true → IsOther b
plain-first b t h = record { no_slash = λ e. grind (arith, nat_tests); no_quote = λ e. grind (arith, nat_tests); no_end = λ e. grind (arith, nat_tests) }

plain-rest : (b : ℕ) (t : List ℕ) → is_plain (b ∷ t) ≡ true → is_plain t ≡ true
plain-rest b t h = grind (arith, nat_tests)

plain-more : (b : ℕ) (t : List ℕ) → is_special b ≡ false → is_plain t ≡ true → is_plain (b ∷ t) ≡ true
plain-more b t h p = (rw (h, p) refl)

pub escape-other : (b : ℕ) → IsOther b → escape b ≡ b ∷ []
escape-other b h = let x = h.no_slash in let y = h.no_quote in let z = h.no_end in grind (arith, nat_tests)

pub escape-plain : (t : List ℕ) → is_plain t ≡ true → flat_map escape t ≡ t
escape-plain [] h = refl
escape-plain (b ∷ t) h = ap (λ x. x ++ flat_map escape t) (escape-other b (plain-first b t h)) ∙ ap (λ x. b ∷ x) (escape-plain t (plain-rest b t h))

pub unquoted-other : (b : ℕ) (l : List ℕ) → IsOther b → unquoted (b ∷ l) ≡ with_front (b ∷ []) (unquoted l)
unfolding unquoted
unquoted-other b l h = let x = h.no_slash in let y = h.no_quote in let z = h.no_end in grind (arith, nat_tests)

pub unquoted-again : (t rest : List ℕ) → is_plain t ≡ true → unquoted (t ++ 34 ∷ rest) ≡ Some (t, rest)
unfolding unquoted
unquoted-again [] rest p = refl
unquoted-again (b ∷ t) rest p =
    unquoted-other b (t ++ 34 ∷ rest) (plain-first b t p) ∙ ap (with_front (b ∷ [])) (unquoted-again t rest (plain-rest b t p))

pub some_same : (a b : List ℕ × List ℕ) → Some a ≡ Some b → a ≡ b
some_same a b h = cc

pub with_front-some : (xs : List ℕ) (o : Option (List ℕ × List ℕ)) (t rest : List ℕ) → with_front xs o ≡ Some (t, rest) → (u : List ℕ) × (o ≡ Some (u, rest)) × (t ≡ xs ++ u)
with_front-some xs None t rest h = absurd (let f : None ≡ Some (t, rest) = h in cc)
with_front-some xs (Some p) t rest h =
    let same = some_same (xs ++ p.0, p.1) (t, rest) h in
    (p.0, ap (λ x. Some (p.0, x)) (ap (λ q. q.1) same), sym (ap (λ q. q.0) same))

by_test : (b : Bool) (x y : Option (List ℕ × List ℕ)) (p : List ℕ × List ℕ) → cond b x y ≡ Some p → ((b ≡ true) × (x ≡ Some p)) ⊎ ((b ≡ false) × (y ≡ Some p))
by_test true x y p h = inl (refl, h)
by_test false x y p h = inr (refl, h)

special_none : (s : Bool) (o : Option (List ℕ × List ℕ)) (p : List ℕ × List ℕ) → cond s None o ≡ Some p → (s ≡ false) × (o ≡ Some p)
special_none true o p h = absurd (let f : None ≡ Some p = h in cc)
special_none false o p h = (refl, h)

quote_is : (b : ℕ) → eqb b 34 ≡ true → b ≡ 34
quote_is b h = grind (arith, nat_tests)

pub unquoted-takes : (l t rest : List ℕ) → unquoted l ≡ Some (t, rest) → (l ≡ t ++ 34 ∷ rest) × (is_plain t ≡ true)
unfolding unquoted
unquoted-takes [] t rest h = absurd (let f : None ≡ Some (t, rest) = h in cc)
unquoted-takes (b ∷ l) t rest h =
    elim (by_test (eqb b 34) (Some ([], l)) (cond (is_special b) None (with_front (b ∷ []) (unquoted l))) (t, rest) h) [
      | inl e ↦
          let same = some_same ([], l) (t, rest) e.1 in
          let t_is : [] ≡ t = ap (λ q. q.0) same in
          (ap (λ x. x ∷ l) (quote_is b e.0) ∙ ap (λ x. 34 ∷ x) (ap (λ q. q.1) same) ∙ ap (λ x. x ++ 34 ∷ rest) t_is, sym (ap is_plain t_is))
      | inr e ↦
          let s = special_none (is_special b) (with_front (b ∷ []) (unquoted l)) (t, rest) e.1 in
          let w = with_front-some (b ∷ []) (unquoted l) t rest s.1 in
          let u = unquoted-takes l w.0 rest w.1 in
          (ap (λ x. b ∷ x) u.0 ∙ ap (λ x. x ++ 34 ∷ rest) (sym w.2), ap is_plain w.2 ∙ plain-more b w.0 s.0 u.1)
    ]
