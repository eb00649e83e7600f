-- A transparent shape of a checked registry is made of what its inner shape is made of: no shape is reached from itself by
-- steps, and there are only so many, so the steps from a shape have an end.
use Rattle.std.proofs.Common.{◌≡◌, ℕ, zero, suc, ◌+◌, ◌-◌, ◌<◌, ◌≤◌, List, [], ◌∷◌, length, map, Option, Some, None, Bool, true, false, ◌||◌, eqb, option_and_then, option_map, refl, sym, ap, ◌∙◌, subst, arith, eq-eqb, eqb-true, zero-add, suc-add}
use Rattle.std.proofs.lemmas.List.{length-map}
use Rattle.std.proofs.lemmas.Cmp.{nat_eq_equiv}
use Rattle.std.proofs.lemmas.Map.Made.{length-le_from_is_member}
use Rattle.std.proofs.lemmas.Option.{slice_get-map, slice_get_within}
use Rattle.std.specs.Prelude.{slice_get}
use Rattle.std.specs.List.{list_any, IsDistinct, AllByRecursion as Every}
use Rattle.std.specs.Option.{option_map_or}
use Rattle.std.specs.Set.{is_member}
use Rattle.semantics_lines.specs.Shapes.{Definition, transparent_shape, Registry, definition_at}
use Rattle.semantics.specs.Registry.{draft_steps, step_shapes, steps_from, steps_to, lies_on_cycle, drafted, IsRegistry}
use Rattle.semantics.specs.Typed.{through, base_within, base}
use Rattle.semantics.specs.Depths.{layer, layers_within, layers}
use Rattle.laws.proofs.Built.{found_shape, on_no_cycle, is_opaque}

-- the numbers below one
abbrev all_below : ℕ → List ℕ
all_below zero = []
all_below (suc n) = n ∷ all_below n

length_below : (n : ℕ) → length (all_below n) ≡ n
length_below zero = refl
length_below (suc n) = ap suc (length_below n)

member_below : (n k : ℕ) → k < n → is_member eqb (all_below n) k ≡ true
member_below zero k less = absurd (omega arith)
member_below (suc n) k less = by_test (eqb k n) refl (member_below n k)
  where
    by_test : (b : Bool) → eqb k n ≡ b → (k < n → is_member eqb (all_below n) k ≡ true) → b || is_member eqb (all_below n) k ≡ true
    by_test true e rest = refl
    by_test false e rest = rest (smaller e)
      where
        smaller : eqb k n ≡ false → k < n
        smaller e = grind (arith, e, less, eq-eqb k n)

-- distinct numbers below n are no more than n
no_more : (n : ℕ) (us : List ℕ) → IsDistinct eqb us → ((u : ℕ) → is_member eqb us u ≡ true → u < n) → length us ≤ n
no_more n us distinct small =
    let all = length-le_from_is_member nat_eq_equiv us (all_below n) distinct (λ u m. member_below n u (small u m)) in
    subst (λ k. length us ≤ k) (length_below n) all

apart_from_absent : (x : ℕ) (ys : List ℕ) → is_member eqb ys x ≡ false → Every (λ y. eqb x y ≡ false) ys
apart_from_absent x [] e = tt
apart_from_absent x (y ∷ ys) e = by_test (eqb x y) refl e (apart_from_absent x ys)
  where
    by_test : (b : Bool) → eqb x y ≡ b → b || is_member eqb ys x ≡ false → (is_member eqb ys x ≡ false → Every (λ z. eqb x z ≡ false) ys)
        → (eqb x y ≡ false) × Every (λ z. eqb x z ≡ false) ys
    by_test true is e rest = absurd cc
    by_test false is e rest = (is, rest e)

more_distinct : (x : ℕ) (ys : List ℕ) → Every (λ y. eqb x y ≡ false) ys → IsDistinct eqb ys → IsDistinct eqb (x ∷ ys)
unfolding IsDistinct
more_distinct x ys apart rest = (apart, rest)

any_more : (p q : ℕ → Bool) → ((x : ℕ) → p x ≡ true → q x ≡ true) → (xs : List ℕ) → list_any p xs ≡ true → list_any q xs ≡ true
any_more p q more [] e = absurd cc
any_more p q more (x ∷ xs) e = by_test (p x) (list_any p xs) refl (any_more p q more xs) e
  where
    by_test : (b c : Bool) → p x ≡ b → (c ≡ true → list_any q xs ≡ true) → b || c ≡ true → q x || list_any q xs ≡ true
    by_test true c is rest e = ap (λ d. d || list_any q xs) (more x is)
    by_test false c is rest e = either_true (q x) (list_any q xs) (rest e)
      where
        either_true : (d f : Bool) → f ≡ true → d || f ≡ true
        either_true true f h = refl
        either_true false f h = h

module _ (g : Registry) where
  -- each shape of the list is transparent and leads to the one before it, and the first leads to s
  abbrev pub Chain : ℕ → List ℕ → Type 0
  Chain s [] = Unit {0}
  Chain s (u ∷ us) = (definition_at g u ≡ Some (transparent_shape s)) × Chain u us

  steps_of : (u : ℕ) (d : Definition) → definition_at g u ≡ Some d → steps_from (map drafted g) u ≡ step_shapes d
  steps_of u d at =
      let (x, found, is) = found_shape (slice_get g u) d at in
      ap (λ o. option_map_or draft_steps o []) (slice_get-map drafted g u ∙ ap (option_map drafted) found) ∙ ap step_shapes is

  step_found : (n u s t : ℕ) → definition_at g u ≡ Some (transparent_shape s) → eqb s t || steps_to (map drafted g) n t s ≡ true → steps_to (map drafted g) (suc n) t u ≡ true
  step_found n u s t at e = ap (list_any (λ v. eqb v t || steps_to (map drafted g) n t v)) (steps_of u (transparent_shape s) at) ∙ ap (λ b. b || false) e

  -- more steps are allowed
  further : (n t s : ℕ) → steps_to (map drafted g) n t s ≡ true → steps_to (map drafted g) (suc n) t s ≡ true
  further zero t s e = absurd cc
  further (suc n) t s e =
      any_more (λ u. eqb u t || steps_to (map drafted g) n t u) (λ u. eqb u t || steps_to (map drafted g) (suc n) t u) (λ u. by_test (eqb u t) u (further n t u)) (steps_from (map drafted g) s) e
    where
      by_test : (b : Bool) (u : ℕ) → (steps_to (map drafted g) n t u ≡ true → steps_to (map drafted g) (suc n) t u ≡ true) → b || steps_to (map drafted g) n t u ≡ true
          → b || steps_to (map drafted g) (suc n) t u ≡ true
      by_test true u rest e = refl
      by_test false u rest e = rest e

  much_further : (k n t s : ℕ) → steps_to (map drafted g) n t s ≡ true → steps_to (map drafted g) (k + n) t s ≡ true
  much_further zero n t s e = subst (λ m. steps_to (map drafted g) m t s ≡ true) (sym (zero-add n)) e
  much_further (suc k) n t s e = subst (λ m. steps_to (map drafted g) m t s ≡ true) (sym (suc-add k n)) (further (k + n) t s (much_further k n t s e))

  enough : (n m t s : ℕ) → n ≤ m → steps_to (map drafted g) n t s ≡ true → steps_to (map drafted g) m t s ≡ true
  enough n m t s le e =
      let whole : m - n + n ≡ m = omega (arith, le) in
      subst (λ k. steps_to (map drafted g) k t s ≡ true) whole (much_further (m - n) n t s e)

  -- from each of a chain one comes to where it leads
  onward : (s : ℕ) (us : List ℕ) → Chain s us → (n m t : ℕ) → eqb s t || steps_to (map drafted g) n t s ≡ true → n + length us ≤ m → (u : ℕ) → is_member eqb us u ≡ true
      → steps_to (map drafted g) m t u ≡ true
  onward s [] c n m t e le u is = absurd cc
  onward s (v ∷ vs) (at, c) n m t e le u is =
      let here = step_found n v s t at e in
      by_test (eqb u v) refl here (onward v vs c (suc n) m t (either (eqb v t) here) (omega (arith, le)) u) is
    where
      either : (b : Bool) → steps_to (map drafted g) (suc n) t v ≡ true → b || steps_to (map drafted g) (suc n) t v ≡ true
      either true h = refl
      either false h = h

      by_test : (b : Bool) → eqb u v ≡ b → steps_to (map drafted g) (suc n) t v ≡ true → (is_member eqb vs u ≡ true → steps_to (map drafted g) m t u ≡ true) → b || is_member eqb vs u ≡ true
          → steps_to (map drafted g) m t u ≡ true
      by_test true same here rest is = enough (suc n) m t u (omega (arith, le)) (subst (λ w. steps_to (map drafted g) (suc n) t w ≡ true) (sym (eqb-true u v same)) here)
      by_test false other here rest is = rest is

  within : (s : ℕ) (d : Definition) → definition_at g s ≡ Some d → s < length g
  within s d at =
      let (x, found, is) = found_shape (slice_get g s) d at in
      slice_get_within g s x found

  chain_within : (s : ℕ) (us : List ℕ) → Chain s us → (u : ℕ) → is_member eqb us u ≡ true → u < length g
  chain_within s [] c u is = absurd cc
  chain_within s (v ∷ vs) (at, c) u is = by_test (eqb u v) refl (chain_within v vs c u) is
    where
      by_test : (b : Bool) → eqb u v ≡ b → (is_member eqb vs u ≡ true → u < length g) → b || is_member eqb vs u ≡ true → u < length g
      by_test true same rest is = subst (λ w. w < length g) (sym (eqb-true u v same)) (within v (transparent_shape s) at)
      by_test false other rest is = rest is

  module _ (checked : IsRegistry g) where
    -- the shape that a chain leads to is none of the chain
    not_behind : (s : ℕ) (d : Definition) (us : List ℕ) → definition_at g s ≡ Some d → Chain s us → length us ≤ length g → is_member eqb us s ≡ false
    not_behind s d us at c le = by_test (is_member eqb us s) refl
      where
        by_test : (b : Bool) → is_member eqb us s ≡ b → b ≡ false
        by_test true is =
            let small : length us ≤ length (map drafted g) = subst (λ n. length us ≤ n) (sym (length-map g drafted)) le in
            let round : lies_on_cycle (map drafted g) s ≡ true = onward s us c 0 (length (map drafted g)) s (ap (λ b. b || false) (eq-eqb s s refl)) (omega (arith, small)) s is in
            absurd (differ (sym round ∙ on_no_cycle g checked s d at))
          where
            differ : true ≡ false → ⊥
            differ e = cc
        by_test false is = refl

    chain_distinct : (s : ℕ) (us : List ℕ) → Chain s us → length us ≤ suc (length g) → IsDistinct eqb us
    unfolding IsDistinct
    chain_distinct s [] c le = tt
    chain_distinct s (u ∷ us) (at, c) le =
        (apart_from_absent u us (not_behind u (transparent_shape s) us at c (omega (arith, le))), chain_distinct u us c (omega (arith, le)))

    -- behind so long a chain nothing can be
    none_behind : (s : ℕ) (d : Definition) (us : List ℕ) → definition_at g s ≡ Some d → Chain s us → length us ≡ length g → ⊥
    none_behind s d us at c long =
        let apart = apart_from_absent s us (not_behind s d us at c (omega (arith, long))) in
        too_long (no_more (length g) (s ∷ us) (more_distinct s us apart (chain_distinct s us c (omega (arith, long)))) (λ u is. by_test u (eqb u s) refl is))
      where
        by_test : (u : ℕ) (b : Bool) → eqb u s ≡ b → b || is_member eqb us u ≡ true → u < length g
        by_test u true same is = subst (λ w. w < length g) (sym (eqb-true u s same)) (within s d at)
        by_test u false other is = chain_within s us c u is

        too_long : suc (length us) ≤ length g → ⊥
        too_long le = omega (arith, le, long)

    -- what is looked through to, with one step more
    found_settled : (n s : ℕ) (o : Option Definition) → definition_at g s ≡ o → ((t : ℕ) → o ≡ Some (transparent_shape t) → base_within g n t ≡ base_within g (suc n) t)
        → option_and_then (through (base_within g n)) o ≡ option_and_then (through (base_within g (suc n))) o
    found_settled n s None at rest = refl
    found_settled n s (Some (transparent_shape t)) at rest = rest t refl
    found_settled n s (Some _) at rest = refl

    last_settled : (s : ℕ) (o : Option Definition) → definition_at g s ≡ o → (us : List ℕ) → Chain s us → length us ≡ length g → None ≡ option_and_then (through (base_within g 0)) o
    last_settled s None at us c long = refl
    last_settled s (Some d) at us c long = absurd (none_behind s d us at c long)

    settled : (n s : ℕ) (us : List ℕ) → Chain s us → length us + n ≡ length g → base_within g n s ≡ base_within g (suc n) s
    settled zero s us c e = last_settled s (definition_at g s) refl us c (omega (arith, e))
    settled (suc n) s us c e = found_settled n s (definition_at g s) refl (λ t at. settled n t (s ∷ us) (at, c) (omega (arith, e)))

    -- a transparent shape stands for its inner one
    pub base_inner : (s t : ℕ) → definition_at g s ≡ Some (transparent_shape t) → base g s ≡ base g t
    base_inner s t at = settled (length g) s [] tt (zero-add (length g)) ∙ ap (option_and_then (through (base_within g (length g)))) at

    -- the layers, with one step more
    found_layers : (n s : ℕ) (o : Option Definition) → definition_at g s ≡ o → ((t : ℕ) → o ≡ Some (transparent_shape t) → layers_within g n t ≡ layers_within g (suc n) t)
        → layer (layers_within g n) o ≡ layer (layers_within g (suc n)) o
    found_layers n s None at rest = refl
    found_layers n s (Some (transparent_shape t)) at rest = ap suc (rest t refl)
    found_layers n s (Some _) at rest = refl

    last_layers : (s : ℕ) (o : Option Definition) → definition_at g s ≡ o → (us : List ℕ) → Chain s us → length us ≡ length g → 0 ≡ layer (layers_within g 0) o
    last_layers s None at us c long = refl
    last_layers s (Some d) at us c long = absurd (none_behind s d us at c long)

    layers_settled : (n s : ℕ) (us : List ℕ) → Chain s us → length us + n ≡ length g → layers_within g n s ≡ layers_within g (suc n) s
    layers_settled zero s us c e = last_layers s (definition_at g s) refl us c (omega (arith, e))
    layers_settled (suc n) s us c e = found_layers n s (definition_at g s) refl (λ t at. layers_settled n t (s ∷ us) (at, c) (omega (arith, e)))

    -- and is one layer before it
    pub layers_inner : (s t : ℕ) → definition_at g s ≡ Some (transparent_shape t) → layers g s ≡ suc (layers g t)
    layers_inner s t at = layers_settled (length g) s [] tt (zero-add (length g)) ∙ ap (layer (layers_within g (length g))) at

no_layer : (inner : ℕ → ℕ) (d : Definition) → is_opaque d ≡ true → layer inner (Some d) ≡ 0
no_layer inner (transparent_shape t) opaque = absurd cc
no_layer inner _ opaque = refl

-- another shape has no layers before it
pub layers_none : (g : Registry) (s : ℕ) (d : Definition) → definition_at g s ≡ Some d → is_opaque d ≡ true → layers g s ≡ 0
layers_none [] s d at opaque = absurd cc
layers_none (x ∷ g) s d at opaque = ap (layer (layers_within (x ∷ g) (length g))) at ∙ no_layer (layers_within (x ∷ g) (length g)) d opaque
