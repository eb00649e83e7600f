-- Lists under a view.
use Rattle.std.proofs.Common.{◌≡◌, ℕ, zero, suc, ◌≤◌, List, [], ◌∷◌, ◌++◌, length, take, map, Bool, ◌||◌, not, cond, nat_lt, ◌+◌, Some, None, unwrap_or, refl, sym, ap, ◌∙◌, subst, length-append, arith}
use Rattle.std.specs.Prelude.{slice_get}
use Rattle.std.specs.List.{list_any, position, prefix_len}
use Rattle.std.proofs.lemmas.List as list

-- a test of the views is a test of what is viewed
pub list_any_map : {X Y : Type 0} (p : Y → Bool) (view : X → Y) (xs : List X) → list_any p (map view xs) ≡ list_any (λ x. p (view x)) xs
list_any_map p view [] = refl
list_any_map p view (x ∷ xs) = ap (λ b. p (view x) || b) (list_any_map p view xs)

-- as many views as there are things
pub length_map : {X Y : Type 0} (view : X → Y) (xs : List X) → length (map view xs) ≡ length xs
length_map view xs = list.length-map xs view

-- the views of the first of them
pub take_map : {X Y : Type 0} (view : X → Y) (n : ℕ) (xs : List X) → take n (map view xs) ≡ map view (take n xs)
take_map view n xs = list.take-map view n xs

prefix_len_map : {X Y : Type 0} (p : Y → Bool) (view : X → Y) (xs : List X) → prefix_len p (map view xs) ≡ prefix_len (λ x. p (view x)) xs
prefix_len_map p view [] = refl
prefix_len_map p view (x ∷ xs) = ap (λ n. cond (p (view x)) (1 + n) 0) (prefix_len_map p view xs)

-- the first view that passes is that of the first thing that does
pub position_map : {X Y : Type 0} (p : Y → Bool) (view : X → Y) (xs : List X) → position p (map view xs) ≡ position (λ x. p (view x)) xs
position_map p view xs =
    let at = prefix_len_map (λ y. not (p y)) view xs in
    let count = length_map view xs in
    λ i. cond (nat_lt (at i) (count i)) (Some (at i)) None

-- what holds of each thing of a list, and of one more at its end
pub each_push : {A : Type 0} (P : ℕ → A → Type 0) (xs : List A) (y : A) → ((i : ℕ) (x : A) → slice_get xs i ≡ Some x → P i x) → P (length xs) y
    → (i : ℕ) (x : A) → slice_get (xs ++ y ∷ []) i ≡ Some x → P i x
each_push P [] y each last zero x e = subst (P zero) (ap (λ o. unwrap_or o y) e) last
each_push P [] y each last (suc i) x e = absurd cc
each_push P (z ∷ zs) y each last zero x e = each zero x e
each_push P (z ∷ zs) y each last (suc i) x e = each_push (λ j. P (suc j)) zs y (λ j. each (suc j)) last i x e

-- the same, where the longer list and the place of its last thing are known by equations
pub each_more : {A : Type 0} (P : ℕ → A → Type 0) (xs more : List A) (i : ℕ) (y : A) → length xs ≡ i → more ≡ xs ++ y ∷ [] → ((j : ℕ) (x : A) → slice_get xs j ≡ Some x → P j x) → P i y
    → (j : ℕ) (x : A) → slice_get more j ≡ Some x → P j x
each_more P xs more i y many is each last j x there =
    each_push P xs y each (subst (λ k. P k y) (sym many) last) j x (ap (λ ys. slice_get ys j) (sym is) ∙ there)

-- as many as before, and one more
pub one_longer : {A : Type 0} (xs more : List A) (i : ℕ) (y : A) → length xs ≡ i → more ≡ xs ++ y ∷ [] → length more ≡ i + 1
one_longer xs more i y many is = ap length is ∙ length-append xs (y ∷ []) ∙ ap (λ n. n + 1) many

-- there is nothing past the end
pub past_end : {A : Type 0} (xs : List A) (i : ℕ) → slice_get xs i ≡ None → length xs ≤ i
past_end [] i none = omega arith
past_end (x ∷ xs) zero none = absurd cc
past_end (x ∷ xs) (suc i) none = let rest = past_end xs i none in omega (arith, rest)
