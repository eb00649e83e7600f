-- What was read of entries is read again as the same.
use Rattle.std.proofs.Common.{◌≡◌, ℕ, zero, suc, List, [], ◌∷◌, length, Option, Some, Bool, true, false, cond, not, ◌&&◌, ◌||◌, refl, ap, ap₂, ◌∙◌}
use Rattle.semantics_lines.specs.Shapes.{Field, Definition, Registry, definition_at}
use Rattle.semantics.specs.Places.{Path, At, below, is_end, has_whole, Choice}
use Rattle.semantics.specs.Keys.{Layout}
use Rattle.semantics.specs.Reading.{of_shape, Parts, FlatReader, read_own, in_parts, read_field, and_trees, read_fields, read_flat, read_layout}
use Rattle.semantics.specs.Ends.{End, one_shape, leaf_end, FlatLeaf, leaf_field, leaf_flat, leaf_at}
use Rattle.laws_reading.specs.Structs.{Told, kept}
use Rattle.laws_reading.proofs.Ends.{Ends, Kept, kept_as, kept_below, whole_kept, kept_parts, end_is, Covers, covers_next, covers_first, covers_all}

module _ {A : Type 0} (g : Registry) (rd : Parts A) (whole : Bool) where
  abbrev pub FlatSame : FlatLeaf → FlatReader A → FlatReader Told → Type 0
  FlatSame leaf flat again = (d : Option Definition) (c : Choice) (xs : List (At A)) (ys : List (At Told)) → Kept (leaf d c) rd xs ys → flat d c xs ≡ again d c ys

  own_same : (f : Field) (xs : List (At A)) (ys : List (At Told)) → Kept (leaf_end (Some (one_shape f.shape))) rd xs ys → read_own g rd f xs ≡ read_own g kept f ys
  own_same f [] [] h = refl
  own_same f [] (y ∷ ys) h = absurd h
  own_same f (x ∷ xs) [] h = absurd h
  own_same f (x ∷ []) (y ∷ []) ((s, end, reads, path), more) =
      let is = end_is (Some (one_shape f.shape)) x.path s end in
      let same : one_shape f.shape ≡ s = cc in
      ap (λ (z : End). rd.value_of z.part x.item) same ∙ reads
  own_same f (x ∷ []) (y ∷ z ∷ ys) (first, more) = absurd more
  own_same f (x ∷ z ∷ xs) (y ∷ []) (first, more) = absurd more
  own_same f (x ∷ z ∷ xs) (y ∷ w ∷ ys) h = refl

  whole_same : (f : Field) (ends : Ends) → ends [] ≡ Some (one_shape f.shape) → (xs : List (At A)) (ys : List (At Told)) → Kept ends rd xs ys → has_whole xs ≡ true → read_own g rd f xs ≡ read_own g kept f ys
  whole_same f ends here [] ys h e = absurd cc
  whole_same f ends here (x ∷ xs) [] h e = absurd h
  whole_same f ends here (x ∷ []) (y ∷ []) ((s, end, reads, path), more) e = by_path x.path end e
    where
      by_path : (p : Path) → ends p ≡ Some s → (is_end p || false) ≡ true → rd.value_of (of_shape f.shape) x.item ≡ Some y.item.value
      by_path [] end e = let same : one_shape f.shape ≡ s = cc in ap (λ (z : End). rd.value_of z.part x.item) same ∙ reads
      by_path (k ∷ p) end e = absurd cc
  whole_same f ends here (x ∷ []) (y ∷ z ∷ ys) (first, more) e = absurd more
  whole_same f ends here (x ∷ z ∷ xs) (y ∷ []) (first, more) e = absurd more
  whole_same f ends here (x ∷ z ∷ xs) (y ∷ w ∷ ys) h e = refl

  field_same : (leaf : FlatLeaf) (flat : FlatReader A) (again : FlatReader Told) → FlatSame leaf flat again → (f : Field) (c : Choice) (xs : List (At A)) (ys : List (At Told)) → Kept (leaf_field leaf g whole c f) rd xs ys
      → read_field flat g rd whole c f xs ≡ read_field again g kept whole c f ys
  field_same leaf flat again inner f c xs ys h =
      by_field f.flattened whole h ∙ ap (λ b. cond (in_parts whole f b) (again (definition_at g f.shape) c ys) (read_own g kept f ys)) (whole_kept (leaf_field leaf g whole c f) rd xs ys h)
    where
      by_whole : Kept (λ p. cond (not (is_end p)) (leaf (definition_at g f.shape) c p) (leaf_end (Some (one_shape f.shape)) p)) rd xs ys → (b : Bool) → has_whole xs ≡ b
          → cond (not b) (flat (definition_at g f.shape) c xs) (read_own g rd f xs) ≡ cond (not b) (again (definition_at g f.shape) c ys) (read_own g kept f ys)
      by_whole h true is = whole_same f (λ p. cond (not (is_end p)) (leaf (definition_at g f.shape) c p) (leaf_end (Some (one_shape f.shape)) p)) refl xs ys h is
      by_whole h false is =
          inner (definition_at g f.shape) c xs ys (kept_parts (λ p. cond (not (is_end p)) (leaf (definition_at g f.shape) c p) (leaf_end (Some (one_shape f.shape)) p)) (leaf (definition_at g f.shape) c) rd (λ k p. refl) xs ys is h)

      by_field : (a m : Bool) → Kept (λ p. cond (a && not (m && is_end p)) (leaf (definition_at g f.shape) c p) (leaf_end (Some (one_shape f.shape)) p)) rd xs ys
          → cond (a && not (m && has_whole xs)) (flat (definition_at g f.shape) c xs) (read_own g rd f xs) ≡ cond (a && not (m && has_whole xs)) (again (definition_at g f.shape) c ys) (read_own g kept f ys)
      by_field false m h = own_same f xs ys h
      by_field true false h = inner (definition_at g f.shape) c xs ys h
      by_field true true h = by_whole h (has_whole xs) refl

  fields_same : (leaf : FlatLeaf) (flat : FlatReader A) (again : FlatReader Told) → FlatSame leaf flat again → (c : Choice) (ends : Ends) (k : ℕ) (fs : List Field) → Covers g whole leaf c ends k fs
      → (xs : List (At A)) (ys : List (At Told)) → Kept ends rd xs ys → read_fields flat g rd whole c k fs xs ≡ read_fields again g kept whole c k fs ys
  fields_same leaf flat again inner c ends k [] covers xs ys h = refl
  fields_same leaf flat again inner c ends k (f ∷ fs) covers xs ys h =
      ap₂ and_trees
      (field_same leaf flat again inner f (below k c) (below k xs) (below k ys)
      (kept_as (λ p. ends (k ∷ p)) rd (leaf_field leaf g whole (below k c) f) (covers_first g whole leaf c ends k f fs covers) (below k xs) (below k ys) (kept_below ends rd k xs ys h)))
      (fields_same leaf flat again inner c ends (suc k) fs (covers_next g whole leaf c ends k f fs covers) xs ys h)

  flat_same : (n : ℕ) → FlatSame (leaf_flat g whole n) (read_flat g rd whole n) (read_flat g kept whole n)
  flat_same zero d c xs ys h = refl
  flat_same (suc n) d c xs ys h = refl

pub layout_same : {A : Type 0} (g : Registry) (rd : Parts A) (c : Choice) (l : Layout) (xs : List (At A)) (ys : List (At Told)) → Kept (leaf_at g c l) rd xs ys → read_layout g rd c l xs ≡ read_layout g kept c l ys
layout_same g rd c l xs ys h =
    fields_same g rd l.whole (leaf_flat g l.whole (length g)) (read_flat g rd l.whole (length g)) (read_flat g kept l.whole (length g)) (flat_same g rd l.whole (length g)) c (leaf_at g c l) 0 l.fields (covers_all g l.whole (leaf_flat g l.whole (length g)) c l.fields) xs ys h
