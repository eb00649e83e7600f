-- Where something stands at a path, nothing else stands there or below, whatever the length of the path.
use Rattle.std.proofs.Common.{◌≡◌, ◌⊎◌, inr, ℕ, List, [], ◌∷◌, ◌++◌, Some, None, Bool, true, false, cond, ◌||◌, ◌==◌, refl, sym, ap, ◌∙◌, subst, arith}
use Rattle.std.specs.List.{cons_option}
use Rattle.std.specs.Prelude.{⊤}
use Rattle.std.proofs.lemmas.List.{append-nil}
use Rattle.std.proofs.lemmas.List.Elements.{filter_map-append}
use Rattle.semantics.specs.Places.{Path, At, rest_at, below, all_below, is_end, has_whole}
use Rattle.semantics.specs.Ends.{End}
use Rattle.semantics.specs.Places.{is_filled, is_taken}
use Rattle.laws_reading.proofs.Ends.{Ends, placed_at}

-- at most one thing
abbrev pub AtMostOne : {A : Type 0} → List A → Type 0
AtMostOne [] = ⊤
AtMostOne (x ∷ []) = ⊤
AtMostOne (x ∷ y ∷ xs) = ⊥

-- any number of things may stand there
abbrev pub IsMany : Ends → Path → Type 0
IsMany ends p = (e : End) × (ends p ≡ Some e) × (e.many ≡ true)

-- where something stands at a path itself, nothing else stands there or below, but where many may
abbrev pub Apart : {A : Type 0} → Ends → List (At A) → Type 0
Apart ends xs = (p : Path) → has_whole (all_below p xs) ≡ true → IsMany ends p ⊎ AtMostOne (all_below p xs)

none_filled : {A : Type 0} (xs : List (At A)) → is_filled xs ≡ false → xs ≡ []
none_filled [] e = refl
none_filled (x ∷ xs) e = absurd cc

either_false : (a b : Bool) → a || b ≡ false → (a ≡ false) × (b ≡ false)
either_false true b e = absurd cc
either_false false b e = (refl, e)

whole_last : {A : Type 0} (k : ℕ) (p : Path) (a : A) (xs : List (At A)) → has_whole (xs ++ (placed_at (k ∷ p) a ∷ [])) ≡ has_whole xs
whole_last k p a [] = refl
whole_last k p a (x ∷ xs) = ap (λ b. is_end x.path || b) (whole_last k p a xs)

module _ {A : Type 0} (a : A) where
  -- one thing more, where nothing is taken
  step : (many : Path → Type 0) (q p : Path) (xs : List (At A)) → has_whole xs ≡ false → is_taken p xs ≡ false → (has_whole (all_below q xs) ≡ true → many q ⊎ AtMostOne (all_below q xs))
      → has_whole (all_below q (xs ++ (placed_at p a ∷ []))) ≡ true → many q ⊎ AtMostOne (all_below q (xs ++ (placed_at p a ∷ [])))
  step many [] [] xs root free apart e = inr (subst (λ l. AtMostOne (l ++ (placed_at [] a ∷ []))) (sym (none_filled xs free)) tt)
  step many [] (k ∷ p) xs root free apart e = absurd (let wrong : true ≡ false = sym e ∙ whole_last k p a xs ∙ root in cc)
  step many (j ∷ q) [] xs root free apart e =
      let same : below j (xs ++ (placed_at [] a ∷ [])) ≡ below j xs = filter_map-append (rest_at j) xs (placed_at [] a ∷ []) ∙ append-nil (below j xs) in
      subst (λ l. many (j ∷ q) ⊎ AtMostOne (all_below q l)) (sym same) (apart (ap (λ l. has_whole (all_below q l)) (sym same) ∙ e))
  step many (j ∷ q) (k ∷ p) xs root free apart e =
      by_place (k == j) refl (filter_map-append (rest_at j) xs (placed_at (k ∷ p) a ∷ []))
      (λ root' free'. step (λ r. many (j ∷ r)) q p (below j xs) root' free' apart)
    where
      by_place : (b : Bool) → (k == j) ≡ b → below j (xs ++ (placed_at (k ∷ p) a ∷ [])) ≡ below j xs ++ cons_option (cond (k == j) (Some (placed_at p a)) None) []
          → (has_whole (below j xs) ≡ false → is_taken p (below j xs) ≡ false → has_whole (all_below q (below j xs ++ (placed_at p a ∷ []))) ≡ true → many (j ∷ q) ⊎ AtMostOne (all_below q (below j xs ++ (placed_at p a ∷ []))))
          → many (j ∷ q) ⊎ AtMostOne (all_below q (below j (xs ++ (placed_at (k ∷ p) a ∷ []))))
      by_place true is same inner =
          let there : k ≡ j = grind (arith, is) in
          let (alone, untaken) = either_false (has_whole (below k xs)) (is_taken p (below k xs)) free in
          let now : below j (xs ++ (placed_at (k ∷ p) a ∷ [])) ≡ below j xs ++ (placed_at p a ∷ []) = same ∙ ap (λ b. below j xs ++ cons_option (cond b (Some (placed_at p a)) None) []) is in
          subst (λ l. many (j ∷ q) ⊎ AtMostOne (all_below q l)) (sym now)
          (inner (ap (λ i. has_whole (below i xs)) (sym there) ∙ alone) (ap (λ i. is_taken p (below i xs)) (sym there) ∙ untaken) (ap (λ l. has_whole (all_below q l)) (sym now) ∙ e))
      by_place false is same inner =
          let now : below j (xs ++ (placed_at (k ∷ p) a ∷ [])) ≡ below j xs = same ∙ ap (λ b. below j xs ++ cons_option (cond b (Some (placed_at p a)) None) []) is ∙ append-nil (below j xs) in
          subst (λ l. many (j ∷ q) ⊎ AtMostOne (all_below q l)) (sym now) (apart (ap (λ l. has_whole (all_below q l)) (sym now) ∙ e))

  pub apart_more : (ends : Ends) (p : Path) (xs : List (At A)) → Apart ends xs → has_whole xs ≡ false → is_taken p xs ≡ false → Apart ends (xs ++ (placed_at p a ∷ []))
  apart_more ends p xs apart root free q e = step (IsMany ends) q p xs root free (apart q) e

-- nothing stands anywhere
pub none_apart : (A : Type 0) (ends : Ends) → Apart {A = A} ends []
none_apart A ends p e = inr (nothing p)
  where
    nothing : (p : Path) → AtMostOne (all_below {A = A} p [])
    nothing [] = tt
    nothing (k ∷ p) = nothing p
