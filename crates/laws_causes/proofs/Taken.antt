-- Where something stands already at a path, before it or below it.
use Rattle.std.proofs.Common.{◌≡◌, ◌⊎◌, inl, inr, ℕ, List, [], ◌∷◌, ◌++◌, Option, Some, None, Bool, true, false, cond, ◌||◌, ◌==◌, refl, sym, ap, ◌∙◌, subst, arith}
use Rattle.std.specs.List.{cons_option}
use Rattle.semantics.specs.Runs.{Entry}
use Rattle.semantics.specs.Places.{Path, At, rest_of, rest_at, below, is_end, has_whole}
use Rattle.semantics.specs.Keys.{Plan, Placed, leads, after_key, with_entry, placed}
use Rattle.semantics.specs.Keys.{ordered_count}
use Rattle.semantics_causes.specs.Causes.{Collide}
use Rattle.semantics.specs.Places.{is_taken}
use Rattle.laws_reading.specs.Structs.{Told, whole_span, or_span, taken_span}

-- this element stands in the list
pub record Among {A : Type 0} (x : A) (xs : List A) : Type 0 where
  pub before : List A
  pub after : List A
  pub is : xs ≡ before ++ (x ∷ after)

pub first_among : {A : Type 0} (x : A) (xs : List A) → Among x (x ∷ xs)
first_among x xs = record { before = []; after = xs; is = refl }

pub later_among : {A : Type 0} (x y : A) (xs : List A) → Among x xs → Among x (y ∷ xs)
later_among x y xs m = record { before = y ∷ m.before; after = m.after; is = ap (λ l. y ∷ l) m.is }

-- what stands below a place stands in the whole, at a longer path
pub record Above {A : Type 0} (k : ℕ) (y : At A) (xs : List (At A)) : Type 0 where
  pub item : At A
  pub among : Among item xs
  pub path : item.path ≡ k ∷ y.path
  pub same : item.item ≡ y.item

module _ {A : Type 0} (k : ℕ) where
  later_above : (y x : At A) (xs : List (At A)) → Above k y xs → Above k y (x ∷ xs)
  later_above y x xs m = record { item = m.item; among = later_among m.item x xs m.among; path = m.path; same = m.same }

  cons_among : (y : At A) (o : Option (At A)) (xs : List (At A)) → Among y (cons_option o xs) → (o ≡ Some y) ⊎ Among y xs
  cons_among y None xs m = inr m
  cons_among y (Some x) xs m = by_front m.before m.is
    where
      by_front : (before : List (At A)) → x ∷ xs ≡ before ++ (y ∷ m.after) → (Some x ≡ Some y) ⊎ Among y xs
      by_front [] is = inl (let same : x ≡ y = cc in ap Some same)
      by_front (z ∷ before) is = inr (record { before = before; after = m.after; is = cc })

  rest_above : (y x : At A) (p : Path) → x.path ≡ p → rest_of k p x.item ≡ Some y → (x.path ≡ k ∷ y.path) × (x.item ≡ y.item)
  rest_above y x [] at e = absurd cc
  rest_above y x (j ∷ p) at e = by_test (j == k) refl e
    where
      by_test : (b : Bool) → (j == k) ≡ b → cond b (Some (record { path = p; item = x.item })) None ≡ Some y → (x.path ≡ k ∷ y.path) × (x.item ≡ y.item)
      by_test false is e = absurd cc
      by_test true is e =
          let here : j ≡ k = grind (arith, is) in
          let same : record { path = p; item = x.item } ≡ y = cc in
          (at ∙ ap (λ i. i ∷ p) here ∙ ap (λ (z : At A). k ∷ z.path) same, ap (λ (z : At A). z.item) same)

  pub below_above : (y : At A) (xs : List (At A)) → Among y (below k xs) → Above k y xs
  below_above y [] m = absurd (no_among m.before m.is)
    where
      no_among : (before : List (At A)) → [] ≡ before ++ (y ∷ m.after) → ⊥
      no_among [] is = cc
      no_among (z ∷ before) is = cc
  below_above y (x ∷ xs) m =
      elim (cons_among y (rest_at k x) (below k xs) m) [
        | inl e ↦ let r = rest_above y x x.path refl e in record { item = x; among = first_among x xs; path = r.0; same = r.1 }
        | inr n ↦ later_above y x xs (below_above y xs n)
      ]

-- the one that stands for the whole
pub record Whole (xs : List (At Told)) : Type 0 where
  pub item : At Told
  pub among : Among item xs
  pub path : item.path ≡ []
  pub span : whole_span xs ≡ Some item.item.span

end_path : (p : Path) → is_end p ≡ true → p ≡ []
end_path [] e = refl
end_path (k ∷ p) e = absurd cc

pub whole_among : (xs : List (At Told)) → has_whole xs ≡ true → Whole xs
whole_among [] e = absurd cc
whole_among (x ∷ xs) e = by_test (is_end x.path) refl e (whole_among xs)
  where
    by_test : (b : Bool) → is_end x.path ≡ b → b || has_whole xs ≡ true → (has_whole xs ≡ true → Whole xs) → Whole (x ∷ xs)
    by_test true is e later = record { item = x; among = first_among x xs; path = end_path x.path is; span = ap (λ b. cond b (Some x.item.span) (whole_span xs)) is }
    by_test false is e later =
        let m = later e in
        record { item = m.item; among = later_among m.item x xs m.among; path = m.path; span = ap (λ b. cond b (Some x.item.span) (whole_span xs)) is ∙ m.span }

no_whole : (xs : List (At Told)) → has_whole xs ≡ false → whole_span xs ≡ None
no_whole [] e = refl
no_whole (x ∷ xs) e = by_test (is_end x.path) refl e (no_whole xs)
  where
    by_test : (b : Bool) → is_end x.path ≡ b → b || has_whole xs ≡ false → (has_whole xs ≡ false → whole_span xs ≡ None) → cond (is_end x.path) (Some x.item.span) (whole_span xs) ≡ None
    by_test true is e later = absurd cc
    by_test false is e later = ap (λ b. cond b (Some x.item.span) (whole_span xs)) is ∙ later e

-- what is there already
pub record There (p : Path) (xs : List (At Told)) : Type 0 where
  pub item : At Told
  pub among : Among item xs
  pub collide : Collide item.path p
  pub span : taken_span p xs ≡ Some item.item.span

pub taken_there : (p : Path) (xs : List (At Told)) → is_taken p xs ≡ true → There p xs
taken_there [] [] e = absurd cc
taken_there [] (x ∷ xs) e = record { item = x; among = first_among x xs; collide = (x.path, inr refl); span = refl }
taken_there (k ∷ p) xs e = by_test (has_whole (below k xs)) refl e (taken_there p (below k xs))
  where
    inner : has_whole (below k xs) ≡ false → There p (below k xs) → There (k ∷ p) xs
    inner none t =
        let up = below_above k t.item xs t.among in
        record {
          item = up.item;
          among = up.among;
          collide = subst (λ q. Collide q (k ∷ p)) (sym up.path) (t.collide.0, elim t.collide.1 [ inl e ↦ inl (ap (λ q. k ∷ q) e) | inr e ↦ inr (ap (λ q. k ∷ q) e) ]);
          span = ap (λ o. or_span o (taken_span p (below k xs))) (no_whole (below k xs) none) ∙ t.span ∙ ap (λ (y : Told). Some y.span) (sym up.same);
        }

    by_test : (b : Bool) → has_whole (below k xs) ≡ b → b || is_taken p (below k xs) ≡ true → (is_taken p (below k xs) ≡ true → There p (below k xs)) → There (k ∷ p) xs
    by_test true is e later =
        let w = whole_among (below k xs) is in
        let up = below_above k w.item xs w.among in
        record {
          item = up.item;
          among = up.among;
          collide = subst (λ q. Collide q (k ∷ p)) (sym (up.path ∙ ap (λ q. k ∷ q) w.path)) (p, inl refl);
          span = ap (λ o. or_span o (taken_span p (below k xs))) w.span ∙ ap (λ (y : Told). Some y.span) (sym up.same);
        }
    by_test false is e later = inner is (later e)

-- what is placed comes of an entry
pub record Came (plan : Plan) (n : ℕ) (x : Placed) (es : List Entry) : Type 0 where
  pub before : List Entry
  pub after : List Entry
  pub is : es ≡ before ++ (x.item ∷ after)
  pub leads_there : leads plan (ordered_count n before) x.item.key ≡ Some x.path

with_inverted : (e : Entry) (o : Option Path) (x : Placed) → with_entry e o ≡ Some x → (e ≡ x.item) × (o ≡ Some x.path)
with_inverted e None x h = absurd cc
with_inverted e (Some p) x h =
    let same : record { path = p; item = e } ≡ x = cc in
    (ap (λ (z : Placed). z.item) same, ap (λ (z : Placed). Some z.path) same)

pub placed_came : (plan : Plan) (n : ℕ) (x : Placed) (es : List Entry) → Among x (placed plan n es) → Came plan n x es
placed_came plan n x [] m = absurd (no_among m.before m.is)
  where
    no_among : (before : List Placed) → [] ≡ before ++ (x ∷ m.after) → ⊥
    no_among [] is = cc
    no_among (z ∷ before) is = cc
placed_came plan n x (e ∷ es) m =
    elim (cons_among 0 x (with_entry e (leads plan n e.key)) (placed plan (after_key n e.key) es) m) [
      | inl h ↦
          let w = with_inverted e (leads plan n e.key) x h in
          record { before = []; after = es; is = ap (λ z. z ∷ es) w.0; leads_there = ap (λ (z : Entry). leads plan n z.key) (sym w.0) ∙ w.1 }
      | inr h ↦
          let c = placed_came plan (after_key n e.key) x es h in
          record { before = e ∷ c.before; after = c.after; is = ap (λ l. e ∷ l) c.is; leads_there = c.leads_there }
    ]
