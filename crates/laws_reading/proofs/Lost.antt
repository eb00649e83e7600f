-- Where an entry isn't read, or another one stands in its place, nothing is read of the whole object.
use Rattle.std.proofs.Common.{◌≡◌, ◌⊎◌, inl, inr, ℕ, zero, suc, ◌+◌, List, [], ◌∷◌, ◌++◌, length, slice_get, Option, Some, None, Bool, true, false, cond, not, ◌&&◌, ◌||◌, refl, sym, ap, ap₂, ◌∙◌, subst, arith}
use Rattle.semantics_lines.specs.Trees.{Tree}
use Rattle.semantics_lines.specs.Shapes.{Field, Definition, Registry, definition_at}
use Rattle.semantics.specs.Places.{Path, At, below, is_end, has_whole, Choice}
use Rattle.semantics.specs.Keys.{Layout}
use Rattle.semantics.specs.Reading.{Parts, FlatReader, read_own, read_field, and_trees, read_fields, read_flat, read_layout}
use Rattle.semantics.specs.Ends.{End, one_shape, leaf_end, FlatLeaf, leaf_field, leaf_found, leaf_in, leaf_flat, leaf_at}
use Rattle.semantics.specs.Places.{is_filled, is_taken}
use Rattle.laws_reading.specs.Structs.{Told}
use Rattle.laws_reading.proofs.Ends.{Kept, kept_below, whole_ends, kept_parts, placed_at, below_among, Lost}

abbrev pub LostIn : {A : Type 0} → Parts A → End → A → Path → List (At A) → Type 0
LostIn rd e r p xs = (rd.value_of e.part r ≡ None) ⊎ ((not e.many && (has_whole xs || is_taken p xs)) ≡ true)

-- nothing stands both for the whole and for a part
abbrev pub IsApart : FlatLeaf → Type 0
IsApart leaf = (d : Option Definition) (c : Choice) (k : ℕ) (p : Path) (a b : End) → leaf d c [] ≡ Some a → leaf d c (k ∷ p) ≡ Some b → ⊥

flat_apart : (g : Registry) (whole : Bool) (n : ℕ) → IsApart (leaf_flat g whole n)
flat_apart g whole zero d c k p a b e e' = cc
flat_apart g whole (suc n) d c k p a b e e' = cc

whole_filled : {A : Type 0} (xs : List (At A)) → has_whole xs ≡ true → is_filled xs ≡ true
whole_filled [] e = absurd cc
whole_filled (x ∷ xs) e = refl

module _ {A : Type 0} (g : Registry) (rd : Parts A) (whole : Bool) where
  -- so nothing is read of it all, whatever follows
  abbrev pub FlatLost : FlatLeaf → FlatReader A → Type 0
  FlatLost leaf flat = (d : Option Definition) (c : Choice) (p : Path) (s : End) (r : A) → leaf d c p ≡ Some s → (xs ys : List (At A)) (zs : List (At Told)) → Kept (leaf d c) rd xs zs → Lost rd s r p xs → flat d c (xs ++ (placed_at p r ∷ ys)) ≡ None

  own_lost : (f : Field) (r : A) (xs ys : List (At A)) → LostIn rd (one_shape f.shape) r [] xs → read_own g rd f (xs ++ (placed_at [] r ∷ ys)) ≡ None
  own_lost f r [] [] (inl e) = e
  own_lost f r [] [] (inr e) = absurd cc
  own_lost f r [] (y ∷ ys) lost = refl
  own_lost f r (x ∷ []) ys lost = refl
  own_lost f r (x ∷ z ∷ xs) ys lost = refl

  two_read : (f : Field) (k : ℕ) (p : Path) (r : A) (xs ys : List (At A)) → has_whole (xs ++ (placed_at (k ∷ p) r ∷ ys)) ≡ true → read_own g rd f (xs ++ (placed_at (k ∷ p) r ∷ ys)) ≡ None
  two_read f k p r [] [] e = absurd cc
  two_read f k p r [] (y ∷ ys) e = refl
  two_read f k p r (x ∷ []) ys e = refl
  two_read f k p r (x ∷ z ∷ xs) ys e = refl

  whole_here : (r : A) (xs ys : List (At A)) → has_whole (xs ++ (placed_at [] r ∷ ys)) ≡ true
  whole_here r [] ys = refl
  whole_here r (x ∷ xs) ys = ap (λ b. is_end x.path || b) (whole_here r xs ys) ∙ or_true (is_end x.path)
    where
      or_true : (b : Bool) → (b || true) ≡ true
      or_true true = refl
      or_true false = refl

  no_whole : (p : Path) (r : A) (xs ys : List (At A)) → has_whole (xs ++ (placed_at p r ∷ ys)) ≡ false → has_whole xs ≡ false
  no_whole p r [] ys e = refl
  no_whole p r (x ∷ xs) ys e = by_first (is_end x.path) e (no_whole p r xs ys)
    where
      by_first : (b : Bool) → (b || has_whole (xs ++ (placed_at p r ∷ ys))) ≡ false → (has_whole (xs ++ (placed_at p r ∷ ys)) ≡ false → has_whole xs ≡ false) → (b || has_whole xs) ≡ false
      by_first true e rec = absurd cc
      by_first false e rec = rec e

  -- what is lost in a field is lost in its parts
  lost_within : (s : End) (r : A) (p : Path) (xs : List (At A)) → (has_whole xs ≡ true → is_taken p xs ≡ true) → LostIn rd s r p xs → Lost rd s r p xs
  lost_within s r p xs rest (inl e) = inl e
  lost_within s r p xs rest (inr e) = inr (by_whole (has_whole xs) (not s.many) rest e)
    where
      by_whole : (b m : Bool) → (b ≡ true → is_taken p xs ≡ true) → (m && (b || is_taken p xs)) ≡ true → (m && is_taken p xs) ≡ true
      by_whole true m rest e = ap (λ t. m && t) (rest refl) ∙ e
      by_whole false m rest e = e

  field_lost : (leaf : FlatLeaf) (flat : FlatReader A) → IsApart leaf → FlatLost leaf flat → (f : Field) (c : Choice) (p : Path) (s : End) (r : A) → leaf_field leaf g whole c f p ≡ Some s → (xs ys : List (At A)) (zs : List (At Told)) → Kept (leaf_field leaf g whole c f) rd xs zs
      → LostIn rd s r p xs → read_field flat g rd whole c f (xs ++ (placed_at p r ∷ ys)) ≡ None
  field_lost leaf flat apart inner f c p s r e xs ys zs h lost = by_field f.flattened whole p e h lost
    where
      own : (p : Path) → leaf_end (Some (one_shape f.shape)) p ≡ Some s → LostIn rd s r p xs → read_own g rd f (xs ++ (placed_at p r ∷ ys)) ≡ None
      own [] e lost = let same : s ≡ one_shape f.shape = cc in own_lost f r xs ys (subst (λ z. LostIn rd z r [] xs) same lost)
      own (k ∷ p) e lost = absurd cc

      whole_taken : (p : Path) → Kept (leaf (definition_at g f.shape) c) rd xs zs → leaf (definition_at g f.shape) c p ≡ Some s → has_whole xs ≡ true → is_taken p xs ≡ true
      whole_taken [] h e is = whole_filled xs is
      whole_taken (k ∷ p) h e is = let (a, end) = whole_ends (leaf (definition_at g f.shape) c) rd xs zs h is in absurd (apart (definition_at g f.shape) c k p a s end e)

      parts : (p : Path) → Kept (leaf (definition_at g f.shape) c) rd xs zs → leaf (definition_at g f.shape) c p ≡ Some s → LostIn rd s r p xs → flat (definition_at g f.shape) c (xs ++ (placed_at p r ∷ ys)) ≡ None
      parts p h e lost = inner (definition_at g f.shape) c p s r e xs ys zs h (lost_within s r p xs (whole_taken p h e) lost)

      by_whole : (k : ℕ) (p : Path) → leaf (definition_at g f.shape) c (k ∷ p) ≡ Some s → Kept (λ p. cond (not (is_end p)) (leaf (definition_at g f.shape) c p) (leaf_end (Some (one_shape f.shape)) p)) rd xs zs → LostIn rd s r (k ∷ p) xs
          → (b : Bool) → has_whole (xs ++ (placed_at (k ∷ p) r ∷ ys)) ≡ b → cond (not b) (flat (definition_at g f.shape) c (xs ++ (placed_at (k ∷ p) r ∷ ys))) (read_own g rd f (xs ++ (placed_at (k ∷ p) r ∷ ys))) ≡ None
      by_whole k p e h lost true is = two_read f k p r xs ys is
      by_whole k p e h lost false is =
          parts (k ∷ p) (kept_parts (λ p. cond (not (is_end p)) (leaf (definition_at g f.shape) c p) (leaf_end (Some (one_shape f.shape)) p)) (leaf (definition_at g f.shape) c) rd (λ k p. refl) xs zs (no_whole (k ∷ p) r xs ys is) h) e lost

      by_field : (a m : Bool) (p : Path) → cond (a && not (m && is_end p)) (leaf (definition_at g f.shape) c p) (leaf_end (Some (one_shape f.shape)) p) ≡ Some s
          → Kept (λ p. cond (a && not (m && is_end p)) (leaf (definition_at g f.shape) c p) (leaf_end (Some (one_shape f.shape)) p)) rd xs zs → LostIn rd s r p xs
          → cond (a && not (m && has_whole (xs ++ (placed_at p r ∷ ys)))) (flat (definition_at g f.shape) c (xs ++ (placed_at p r ∷ ys))) (read_own g rd f (xs ++ (placed_at p r ∷ ys))) ≡ None
      by_field false m p e h lost = own p e lost
      by_field true false p e h lost = parts p h e lost
      by_field true true [] e h lost = ap (λ b. cond (not b) (flat (definition_at g f.shape) c (xs ++ (placed_at [] r ∷ ys))) (read_own g rd f (xs ++ (placed_at [] r ∷ ys)))) (whole_here r xs ys) ∙ own [] e lost
      by_field true true (k ∷ p) e h lost = by_whole k p e h lost (has_whole (xs ++ (placed_at (k ∷ p) r ∷ ys))) refl

  nothing : (o : Option Tree) → and_trees o None ≡ None
  nothing None = refl
  nothing (Some v) = refl

  -- the i-th field isn't read
  fields_none : (flat : FlatReader A) (c : Choice) (k j i : ℕ) (fs : List Field) (xs : List (At A)) (f : Field) → i ≡ k + j → slice_get fs j ≡ Some f → read_field flat g rd whole (below i c) f (below i xs) ≡ None
      → read_fields flat g rd whole c k fs xs ≡ None
  fields_none flat c k j i [] xs f at is e = absurd cc
  fields_none flat c k zero i (h ∷ fs) xs f at is e =
      let same : i ≡ k = omega (arith, at) in
      let is_f : f ≡ h = cc in
      ap (λ o. and_trees o (read_fields flat g rd whole c (suc k) fs xs)) (ap₂ (λ z q. read_field flat g rd whole (below z c) q (below z xs)) (sym same) (sym is_f) ∙ e)
  fields_none flat c k (suc j) i (h ∷ fs) xs f at is e =
      ap (and_trees (read_field flat g rd whole (below k c) h (below k xs))) (fields_none flat c (suc k) j i fs xs f (omega (arith, at)) is e)
      ∙ nothing (read_field flat g rd whole (below k c) h (below k xs))

  fields_lost : (leaf : FlatLeaf) (flat : FlatReader A) → IsApart leaf → FlatLost leaf flat → (fs : List Field) (c : Choice) (p : Path) (s : End) (r : A) → leaf_in leaf g whole c fs p ≡ Some s → (xs ys : List (At A)) (zs : List (At Told)) → Kept (leaf_in leaf g whole c fs) rd xs zs
      → Lost rd s r p xs → read_fields flat g rd whole c 0 fs (xs ++ (placed_at p r ∷ ys)) ≡ None
  fields_lost leaf flat apart inner fs c [] s r e xs ys zs h lost = absurd cc
  fields_lost leaf flat apart inner fs c (k ∷ p) s r e xs ys zs h lost = by_field (slice_get fs k) refl e (kept_below (leaf_in leaf g whole c fs) rd k xs zs h)
    where
      by_field : (o : Option Field) → slice_get fs k ≡ o → leaf_found leaf g whole (below k c) o p ≡ Some s → Kept (λ p. leaf_found leaf g whole (below k c) (slice_get fs k) p) rd (below k xs) (below k zs) → read_fields flat g rd whole c 0 fs (xs ++ (placed_at (k ∷ p) r ∷ ys)) ≡ None
      by_field None is e h = absurd cc
      by_field (Some f) is e h =
          fields_none flat c 0 k k fs (xs ++ (placed_at (k ∷ p) r ∷ ys)) f (omega arith) is
          (ap (read_field flat g rd whole (below k c) f) (below_among k p r xs ys)
          ∙ field_lost leaf flat apart inner f (below k c) p s r e (below k xs) (below k ys) (below k zs) (subst (λ o. Kept (λ p. leaf_found leaf g whole (below k c) o p) rd (below k xs) (below k zs)) is h) lost)

  flat_lost : (n : ℕ) → FlatLost (leaf_flat g whole n) (read_flat g rd whole n)
  flat_lost zero d c p s r e xs ys zs h lost = absurd cc
  flat_lost (suc n) d c p s r e xs ys zs h lost = absurd cc

-- nothing is read of an object with such an entry
pub layout_lost : {A : Type 0} (g : Registry) (rd : Parts A) (c : Choice) (l : Layout) (p : Path) (s : End) (r : A) → leaf_at g c l p ≡ Some s → (xs ys : List (At A)) (zs : List (At Told)) → Kept (leaf_at g c l) rd xs zs → Lost rd s r p xs
    → read_layout g rd c l (xs ++ (placed_at p r ∷ ys)) ≡ None
layout_lost g rd c l p s r e xs ys zs h lost = fields_lost g rd l.whole (leaf_flat g l.whole (length g)) (read_flat g rd l.whole (length g)) (flat_apart g l.whole (length g)) (flat_lost g rd l.whole (length g)) l.fields c p s r e xs ys zs h lost
