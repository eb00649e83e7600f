-- What was read is gathered as the meaning reads it.
use Rattle.std.proofs.Common.{◌≡◌, ℕ, zero, suc, List, [], ◌∷◌, Option, Some, None, Result, Ok, Err, Bool, true, false, cond, length, refl, ap₂, ◌∙◌}
use Rattle.semantics_lines.specs.Trees.{Tree, Trees}
use Rattle.semantics_lines.specs.Shapes.{Field, Definition, Registry, definition_at}
use Rattle.semantics_lines.specs.Faults.{Step, Fault}
use Rattle.semantics.specs.Places.{At, below, has_whole, Choice}
use Rattle.semantics.specs.Keys.{Layout}
use Rattle.semantics.specs.Reading.{fill, FlatReader, read_own, in_parts, read_field, and_trees, read_fields, read_flat, read_layout}
use Rattle.laws_reading.specs.Input.{Input, ◌>>=◌}
use Rattle.laws_reading.specs.Structs.{Told, Got, kept, Spot, or_missing, gather_own, Gathers, inner_spot, gather_field, with_tree, gather_fields, gather_flat, gathered_trees}

abbrev pub ok_of : {A : Type 0} → Result A Fault → Option A
ok_of (Ok v) = Some v
ok_of (Err e) = None

missing_ok : (g : Registry) (f : Field) (spot : Spot) (o : Option Tree) → ok_of (or_missing g f spot o) ≡ o
missing_ok g f spot None = refl
missing_ok g f spot (Some v) = refl

trees_ok : (r : Result Tree Fault) (s : Result Trees Fault) → ok_of (r >>= λ v. s >>= with_tree v) ≡ and_trees (ok_of r) (ok_of s)
trees_ok (Ok v) (Ok vs) = refl
trees_ok (Ok v) (Err e) = refl
trees_ok (Err e) s = refl

abbrev pub Gathered : Gathers → FlatReader Told → Type 0
Gathered gather flat = (d : Option Definition) (c : Choice) (spot : Spot) (xs : List (At Told)) → ok_of (gather d c spot xs) ≡ flat d c xs

module _ (g : Registry) (whole : Bool) where
  own_ok : (f : Field) (spot : Spot) (xs : List (At Told)) → ok_of (gather_own g f spot xs) ≡ read_own g kept f xs
  own_ok f spot [] = missing_ok g f spot (fill g f)
  own_ok f spot (x ∷ []) = refl
  own_ok f spot (x ∷ y ∷ xs) = refl

  field_ok : (gather : Gathers) (flat : FlatReader Told) → Gathered gather flat → (c : Choice) (f : Field) (spot : Spot) (xs : List (At Told)) → ok_of (gather_field gather g whole c f spot xs) ≡ read_field flat g kept whole c f xs
  field_ok gather flat inner c f spot xs = by_test (in_parts whole f (has_whole xs))
    where
      by_test : (b : Bool) → ok_of (cond b (gather (definition_at g f.shape) c (inner_spot f spot) xs) (gather_own g f spot xs)) ≡ cond b (flat (definition_at g f.shape) c xs) (read_own g kept f xs)
      by_test true = inner (definition_at g f.shape) c (inner_spot f spot) xs
      by_test false = own_ok f spot xs

  fields_ok : (gather : Gathers) (flat : FlatReader Told) → Gathered gather flat → (c : Choice) (spot : Spot) (k : ℕ) (fs : List Field) (xs : List (At Told)) → ok_of (gather_fields gather g whole c spot k fs xs) ≡ read_fields flat g kept whole c k fs xs
  fields_ok gather flat inner c spot k [] xs = refl
  fields_ok gather flat inner c spot k (f ∷ fs) xs =
      trees_ok (gather_field gather g whole (below k c) f spot (below k xs)) (gather_fields gather g whole c spot (suc k) fs xs)
      ∙ ap₂ and_trees (field_ok gather flat inner (below k c) f spot (below k xs)) (fields_ok gather flat inner c spot (suc k) fs xs)

  flat_ok : (n : ℕ) → Gathered (gather_flat g whole n) (read_flat g kept whole n)
  flat_ok zero d c spot xs = refl
  flat_ok (suc n) d c spot xs = refl

pub gathered_ok : (g : Registry) (c : Choice) (l : Layout) (shape : ℕ) (s : Got) (path : List Step) (input : Input) → ok_of (gathered_trees g c l shape s path input) ≡ read_layout g kept c l s.values
gathered_ok g c l shape s path input =
    let spot : Spot = record { shape = shape; path = path; input = input } in
    fields_ok g l.whole (gather_flat g l.whole (length g)) (read_flat g kept l.whole (length g)) (flat_ok g l.whole (length g)) c spot 0 l.fields s.values
