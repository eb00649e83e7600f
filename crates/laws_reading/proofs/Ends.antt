-- What stands at the paths of an object: entries, and what was read of them.
use Rattle.std.proofs.Common.{◌≡◌, ◌⊎◌, ℕ, suc, ◌+◌, List, [], ◌∷◌, ◌++◌, slice_get, Option, Some, None, Bool, true, false, cond, not, ◌&&◌, ◌||◌, ◌==◌, refl, sym, ap, ap₂, ◌∙◌, subst, arith, eq-eqb}
use Rattle.std.proofs.lemmas.List.Elements.{filter_map-append}
use Rattle.std.specs.List.{cons_option}
use Rattle.std.specs.Prelude.{⊤}
use Rattle.semantics_lines.specs.Shapes.{Field, Registry}
use Rattle.semantics.specs.Places.{Path, At, rest_of, rest_at, below, is_end, has_whole, Choice}
use Rattle.semantics.specs.Reading.{Parts}
use Rattle.semantics.specs.Ends.{End, leaf_end, FlatLeaf, leaf_field, leaf_found, leaf_in}
use Rattle.semantics.specs.Places.{is_taken}
use Rattle.laws_reading.specs.Structs.{Told}

-- which shape stands at the end of a path
abbrev pub Ends : Type 0
Ends = Path → Option End

abbrev pub IsKept : {A : Type 0} → Ends → Parts A → At A → At Told → Type 0
IsKept ends rd x y = (e : End) × (ends x.path ≡ Some e) × (rd.value_of e.part x.item ≡ Some y.item.value) × (x.path ≡ y.path)

-- these values were read of these runs, at the same paths
abbrev pub Kept : {A : Type 0} → Ends → Parts A → List (At A) → List (At Told) → Type 0
Kept ends rd [] [] = ⊤
Kept ends rd [] (y ∷ ys) = ⊥
Kept ends rd (x ∷ xs) [] = ⊥
Kept ends rd (x ∷ xs) (y ∷ ys) = IsKept ends rd x y × Kept ends rd xs ys

module _ {A : Type 0} (ends : Ends) (rd : Parts A) where
  pub kept_more : (xs : List (At A)) (ys : List (At Told)) (x : At A) (y : At Told) → Kept ends rd xs ys → IsKept ends rd x y → Kept ends rd (xs ++ (x ∷ [])) (ys ++ (y ∷ []))
  kept_more [] [] x y h is = (is, tt)
  kept_more [] (b ∷ ys) x y h is = absurd h
  kept_more (a ∷ xs) [] x y h is = absurd h
  kept_more (a ∷ xs) (b ∷ ys) x y (first, more) is = (first, kept_more xs ys x y more is)

  pub kept_as : (other : Ends) → ((p : Path) → ends p ≡ other p) → (xs : List (At A)) (ys : List (At Told)) → Kept ends rd xs ys → Kept other rd xs ys
  kept_as other same [] [] h = tt
  kept_as other same [] (y ∷ ys) h = absurd h
  kept_as other same (x ∷ xs) [] h = absurd h
  kept_as other same (x ∷ xs) (y ∷ ys) ((s, end, reads, path), more) = ((s, sym (same x.path) ∙ end, reads, path), kept_as other same xs ys more)

  pub kept_below : (k : ℕ) (xs : List (At A)) (ys : List (At Told)) → Kept ends rd xs ys → Kept (λ p. ends (k ∷ p)) rd (below k xs) (below k ys)
  kept_below k [] [] h = tt
  kept_below k [] (y ∷ ys) h = absurd h
  kept_below k (x ∷ xs) [] h = absurd h
  kept_below k (x ∷ xs) (y ∷ ys) ((s, end, reads, same), more) =
      subst (λ q. Kept (λ p. ends (k ∷ p)) rd (cons_option (rest_of k x.path x.item) (below k xs)) (cons_option (rest_of k q y.item) (below k ys))) same (by_path x.path end (kept_below k xs ys more))
    where
      by_path : (p : Path) → ends p ≡ Some s → Kept (λ p. ends (k ∷ p)) rd (below k xs) (below k ys)
          → Kept (λ p. ends (k ∷ p)) rd (cons_option (rest_of k p x.item) (below k xs)) (cons_option (rest_of k p y.item) (below k ys))
      by_path [] end more = more
      by_path (j ∷ p) end more = by_test (j == k) refl
        where
          by_test : (b : Bool) → (j == k) ≡ b
              → Kept (λ p. ends (k ∷ p)) rd (cons_option (cond b (Some (record { path = p; item = x.item })) None) (below k xs)) (cons_option (cond b (Some (record { path = p; item = y.item })) None) (below k ys))
          by_test false is = more
          by_test true is = let there : k ≡ j = grind (arith, is) in ((s, ap (λ i. ends (i ∷ p)) there ∙ end, reads, refl), more)

pub whole_kept : {A : Type 0} (ends : Ends) (rd : Parts A) (xs : List (At A)) (ys : List (At Told)) → Kept ends rd xs ys → has_whole xs ≡ has_whole ys
whole_kept ends rd [] [] h = refl
whole_kept ends rd [] (y ∷ ys) h = absurd h
whole_kept ends rd (x ∷ xs) [] h = absurd h
whole_kept ends rd (x ∷ xs) (y ∷ ys) ((s, end, reads, path), more) = ap₂ (λ p b. is_end p || b) path (whole_kept ends rd xs ys more)

-- what stands for the whole is something that may
pub whole_ends : {A : Type 0} (ends : Ends) (rd : Parts A) (xs : List (At A)) (ys : List (At Told)) → Kept ends rd xs ys → has_whole xs ≡ true → (s : End) × (ends [] ≡ Some s)
whole_ends ends rd [] ys h e = absurd cc
whole_ends ends rd (x ∷ xs) [] h e = absurd h
whole_ends ends rd (x ∷ xs) (y ∷ ys) ((s, end, reads, path), more) e = by_path x.path end e (whole_ends ends rd xs ys more)
  where
    by_path : (p : Path) → ends p ≡ Some s → (is_end p || has_whole xs) ≡ true → (has_whole xs ≡ true → (s : End) × (ends [] ≡ Some s)) → (s : End) × (ends [] ≡ Some s)
    by_path [] end e rec = (s, end)
    by_path (k ∷ p) end e rec = rec e

-- nothing stands for the whole: so where the ends agree elsewhere, all is kept
pub kept_parts : {A : Type 0} (ends other : Ends) (rd : Parts A) → ((k : ℕ) (p : Path) → ends (k ∷ p) ≡ other (k ∷ p)) → (xs : List (At A)) (ys : List (At Told)) → has_whole xs ≡ false → Kept ends rd xs ys → Kept other rd xs ys
kept_parts ends other rd same [] [] e h = tt
kept_parts ends other rd same [] (y ∷ ys) e h = absurd h
kept_parts ends other rd same (x ∷ xs) [] e h = absurd h
kept_parts ends other rd same (x ∷ xs) (y ∷ ys) e ((s, end, reads, path), more) =
    let (first, rest) = by_path x.path end e in
    ((s, first, reads, path), kept_parts ends other rd same xs ys rest more)
  where
    by_path : (p : Path) → ends p ≡ Some s → (is_end p || has_whole xs) ≡ false → (other p ≡ Some s) × (has_whole xs ≡ false)
    by_path [] end e = absurd cc
    by_path (k ∷ p) end e = (sym (same k p) ∙ end, e)

pub taken_kept : {A : Type 0} (ends : Ends) (rd : Parts A) (p : Path) (xs : List (At A)) (ys : List (At Told)) → Kept ends rd xs ys → is_taken p xs ≡ is_taken p ys
taken_kept ends rd [] [] [] h = refl
taken_kept ends rd [] [] (y ∷ ys) h = absurd h
taken_kept ends rd [] (x ∷ xs) [] h = absurd h
taken_kept ends rd [] (x ∷ xs) (y ∷ ys) h = refl
taken_kept ends rd (k ∷ p) xs ys h =
    let inner = kept_below ends rd k xs ys h in
    ap₂ (λ a b. a || b) (whole_kept (λ p. ends (k ∷ p)) rd (below k xs) (below k ys) inner) (taken_kept (λ p. ends (k ∷ p)) rd p (below k xs) (below k ys) inner)

abbrev pub placed_at : {A : Type 0} → Path → A → At A
placed_at p r = record { path = p; item = r }

pub below_among : {A : Type 0} (k : ℕ) (p : Path) (r : A) (xs ys : List (At A)) → below k (xs ++ (placed_at (k ∷ p) r ∷ ys)) ≡ below k xs ++ (placed_at p r ∷ below k ys)
below_among k p r xs ys =
    filter_map-append (rest_at k) xs (placed_at (k ∷ p) r ∷ ys)
    ∙ ap (λ b. below k xs ++ cons_option (cond b (Some (placed_at p r)) None) (below k ys)) (eq-eqb k k refl)

pub end_is : (o : Option End) (p : Path) (s : End) → leaf_end o p ≡ Some s → o ≡ Some s
end_is o [] s e = e
end_is o (k ∷ p) s e = absurd cc

-- what stands here isn't read, or it stands where one thing may, and something is
abbrev pub Lost : {A : Type 0} → Parts A → End → A → Path → List (At A) → Type 0
Lost rd e r p xs = (rd.value_of e.part r ≡ None) ⊎ ((not e.many && is_taken p xs) ≡ true)

module _ (g : Registry) (whole : Bool) where
  -- from the k-th on these are the fields to which the paths lead
  abbrev pub Covers : FlatLeaf → Choice → Ends → ℕ → List Field → Type 0
  Covers leaf c ends k fs = (j i : ℕ) (f : Field) → i ≡ k + j → slice_get fs j ≡ Some f → (p : Path) → ends (i ∷ p) ≡ leaf_field leaf g whole (below i c) f p

  pub covers_next : (leaf : FlatLeaf) (c : Choice) (ends : Ends) (k : ℕ) (f : Field) (fs : List Field) → Covers leaf c ends k (f ∷ fs) → Covers leaf c ends (suc k) fs
  covers_next leaf c ends k f fs covers j i h at is = covers (suc j) i h (omega (arith, at)) is

  pub covers_first : (leaf : FlatLeaf) (c : Choice) (ends : Ends) (k : ℕ) (f : Field) (fs : List Field) → Covers leaf c ends k (f ∷ fs) → (p : Path) → ends (k ∷ p) ≡ leaf_field leaf g whole (below k c) f p
  covers_first leaf c ends k f fs covers = covers 0 k f (omega arith) refl

  pub covers_all : (leaf : FlatLeaf) (c : Choice) (fs : List Field) → Covers leaf c (leaf_in leaf g whole c fs) 0 fs
  covers_all leaf c fs j i f at is p =
      let same : i ≡ j = omega (arith, at) in
      ap (λ o. leaf_found leaf g whole (below i c) o p) (ap (slice_get fs) same ∙ is)
