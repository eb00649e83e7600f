-- What is read is of its shape.
use Rattle.std.proofs.Common.{◌≡◌, ◌⊎◌, inl, inr, ℕ, zero, suc, List, [], ◌∷◌, Option, Some, None, Bool, true, false, cond, not, ◌&&◌, length, option_map, option_and_then, bytes_eq, codes, refl, sym, ap, ap₂, ◌∙◌}
use Rattle.std.specs.List.{AllByRecursion as Every}
use Rattle.semantics_lines.specs.Trees.{Tree, unit_value, bool_value, char_value, unsigned, signed, text, none, some, ok, err, list, structure, Trees, no_trees, tree, tree_count}
use Rattle.semantics_lines.specs.Shapes.{is_tuple, Field, StructShape, Definition, scalar_shape, option_shape, result_shape, list_shape, array_shape, struct_shape, transparent_shape, Registry, definition_at}
use Rattle.semantics.specs.Registry.{has_some, is_unbuilt, IsRegistry}
use Rattle.semantics_lines.specs.Events.{Key, named, nameless, ordered, of_struct, of_sequence, object_kind, array_kind}
use Rattle.semantics.specs.Runs.{Run, one, group, tagged, Entry, entries, items}
use Rattle.semantics.specs.Typed.{on_some, base, scalar_of, option_of, ok_of, err_of, item_of, length_of, struct_of, takes_unit, takes_bool, takes_char, takes_unsigned, takes_signed, takes_text, has_length, typed, each_typed, fields_typed}
use Rattle.semantics.specs.Numerals.{only}
use Rattle.semantics.specs.Places.{At, below, has_whole, Choice}
use Rattle.semantics.specs.Keys.{Layout, plan_of, placed, are_allowed}
use Rattle.semantics.specs.Labels.{label_at}
use Rattle.semantics.specs.Reading.{Setting, Source, from_events, Reader, of_shape, Parts, by_run, absent, or_value, fill, read_own, FlatReader, in_parts, read_field, and_trees, read_fields, read_flat, read_layout, read_entries, read_struct, read_object, plain_layout, holds_nothing, is_nothing, read_option, read_sequence, read_each, read_items, by_outcome, read_outcome, read_result, read_elements, entry_runs, read_tuple, read_as, read_shape, read}
use Rattle.laws_lines.proofs.Tests.{both, is_both, if_true, mapped, bound}
use Rattle.laws.proofs.Built.{BuiltField, struct_built, built, base_is}
use Rattle.laws.proofs.Bases.{base_inner}
use Rattle.laws.proofs.ScalarTypes.{taken_typed, scalar_taken}

trees_inverted : (o : Option Tree) (os : Option Trees) (ws : Trees) → and_trees o os ≡ Some ws → (v : Tree) × (vs : Trees) × (o ≡ Some v) × (os ≡ Some vs) × (tree v vs ≡ ws)
trees_inverted None os ws e = absurd cc
trees_inverted (Some v) None ws e = absurd cc
trees_inverted (Some v) (Some vs) ws e = (v, vs, refl, refl, cc)

-- a fill that is there is of the field's shape
abbrev pub FillIsTyped : Registry → Field → Type 0
FillIsTyped g f = (v : Tree) → fill g f ≡ Some v → typed g f.shape v ≡ true

-- an option that is absent holds nothing
absent_typed : (g : Registry) (s : ℕ) (d : Option Definition) (v : Tree) → definition_at g s ≡ d → absent d ≡ Some v → typed g s v ≡ true
absent_typed g s None v at e = absurd cc
absent_typed g s (Some (option_shape t)) v at e =
    let is : none ≡ v = cc in
    ap (typed g s) (sym is) ∙ ap (λ o. on_some (option_and_then option_of o) (λ i. true)) (base_is g s (option_shape t) at refl)
absent_typed g s (Some _) v at e = absurd cc

-- without a declared default, what stands for an absent field is that of its shape
pub fill_typed : (g : Registry) (f : Field) → BuiltField f → FillIsTyped g f
fill_typed g f b v e = absent_typed g f.shape (definition_at g f.shape) v refl (sym (ap (λ o. or_value o (absent (definition_at g f.shape))) b.default) ∙ e)

module _ (g : Registry) {A : Type 0} (rd : Parts A) (parts : (s : ℕ) (x : A) (v : Tree) → rd.value_of (of_shape s) x ≡ Some v → typed g s v ≡ true) where
  own_typed : (f : Field) → FillIsTyped g f → (xs : List (At A)) (v : Tree) → read_own g rd f xs ≡ Some v → typed g f.shape v ≡ true
  own_typed f filled [] v e = filled v e
  own_typed f filled (x ∷ []) v e = parts f.shape x.item v e
  own_typed f filled (x ∷ y ∷ xs) v e = absurd cc

  fields_are_typed : (flat : FlatReader A) (whole : Bool) (c : Choice) (k : ℕ) (fs : List Field) (xs : List (At A)) (vs : Trees)
      → Every (λ f. (f.flattened ≡ false) × FillIsTyped g f) fs → read_fields flat g rd whole c k fs xs ≡ Some vs → fields_typed g fs vs ≡ true
  fields_are_typed flat whole c k [] xs vs all e =
      let is : no_trees ≡ vs = cc in
      ap (fields_typed g []) (sym is)
  fields_are_typed flat whole c k (f ∷ fs) xs vs ((own, filled), all) e =
      let (w, ws, first, rest, is) = trees_inverted (read_field flat g rd whole (below k c) f (below k xs)) (read_fields flat g rd whole c (suc k) fs xs) vs e in
      let unflattened : in_parts whole f (has_whole (below k xs)) ≡ false = ap (λ b. b && not (whole && has_whole (below k xs))) own in
      let mine : read_own g rd f (below k xs) ≡ Some w = sym (ap (λ b. cond b (flat (definition_at g f.shape) (below k c) (below k xs)) (read_own g rd f (below k xs))) unflattened) ∙ first in
      ap (fields_typed g (f ∷ fs)) (sym is)
      ∙ both (typed g f.shape w) (fields_typed g fs ws) (own_typed f filled (below k xs) w mine) (fields_are_typed flat whole c (suc k) fs xs ws all rest)

object_read : {A : Type 0} (mean : List Entry → Option A) (r : Run) (v : A) → read_object mean r ≡ Some v → (es : List Entry) × (mean es ≡ Some v)
object_read mean (group of_struct k n i) v e =
    let (es, cut, is) = bound mean (entries i) v e in
    (es, is)
object_read mean _ v e = absurd cc

entries_inverted : (g : Registry) (rd : Parts Entry) (c : Choice) (deny : Bool) (l : Layout) (es : List Entry) (vs : Trees) → read_entries g rd c deny l es ≡ Some vs
    → (xs : List (At Entry)) × (read_layout g rd c l xs ≡ Some vs)
entries_inverted g rd c deny l es vs e =
    let xs = placed (plan_of g c deny l) 0 es in
    (xs, (if_true (are_allowed (plan_of g c deny l) 0 es) (read_layout g rd c l xs) vs e).1)

struct_inverted : (g : Setting) (rd : Reader) (c : Choice) (deny : Bool) (l : Layout) (es : List Entry) (v : Tree) → read_struct g rd c deny l es ≡ Some v
    → (xs : List (At Entry)) × (vs : Trees) × (read_layout g.registry (by_run g.registry rd) c l xs ≡ Some vs) × (structure vs ≡ v)
struct_inverted g rd c deny l es v e =
    let (vs, read_all, value) = mapped structure (read_entries g.registry (by_run g.registry rd) c deny l es) v e in
    let (xs, is) = entries_inverted g.registry (by_run g.registry rd) c deny l es vs read_all in
    (xs, vs, is, value)

-- what is typed depends on what the shape is made of alone
pub typed_alike : (g : Registry) (s t : ℕ) → base g s ≡ base g t → (v : Tree) → typed g s v ≡ typed g t v
typed_alike g s t is unit_value = ap (λ o. on_some (option_and_then scalar_of o) takes_unit) is
typed_alike g s t is (bool_value b) = ap (λ o. on_some (option_and_then scalar_of o) takes_bool) is
typed_alike g s t is (char_value c) = ap (λ o. on_some (option_and_then scalar_of o) takes_char) is
typed_alike g s t is (unsigned n) = ap (λ o. on_some (option_and_then scalar_of o) (takes_unsigned n)) is
typed_alike g s t is (signed z) = ap (λ o. on_some (option_and_then scalar_of o) (takes_signed z)) is
typed_alike g s t is (text p) = ap (λ o. on_some (option_and_then scalar_of o) takes_text) is
typed_alike g s t is none = ap (λ o. on_some (option_and_then option_of o) (λ i. true)) is
typed_alike g s t is (some v) = ap (λ o. on_some (option_and_then option_of o) (λ i. typed g i v)) is
typed_alike g s t is (ok v) = ap (λ o. on_some (option_and_then ok_of o) (λ i. typed g i v)) is
typed_alike g s t is (err v) = ap (λ o. on_some (option_and_then err_of o) (λ i. typed g i v)) is
typed_alike g s t is (list vs) = ap (λ o. has_length (option_and_then length_of o) (tree_count vs) && on_some (option_and_then item_of o) (λ i. each_typed g i vs)) is
typed_alike g s t is (structure vs) = ap (λ o. on_some (option_and_then struct_of o) (λ d. fields_typed g d.fields vs)) is
typed_alike g s t is _ = refl

-- a sequence, and the runs of its items
sequence_read : (mean : List Run → Option Tree) (r : Run) (v : Tree) → read_sequence mean r ≡ Some v → (rs : List Run) × (mean rs ≡ Some v)
sequence_read mean (group of_sequence k n i) v e =
    let (rs, cut, is) = bound mean (items i) v e in
    (rs, is)
sequence_read mean _ v e = absurd cc

-- the one entry of a result, and what it holds
outcome_inverted : (k : Key) (x y : Option Tree) (v : Tree) → option_and_then (λ o. o) (by_outcome k x y) ≡ Some v → (x ≡ Some v) ⊎ (y ≡ Some v)
outcome_inverted (named t m n) x y v e = by_tests (bytes_eq t.bytes (codes "Ok")) (bytes_eq t.bytes (codes "Err")) e
  where
    by_tests : (b c : Bool) → option_and_then (λ o. o) (cond b (Some x) (cond c (Some y) None)) ≡ Some v → (x ≡ Some v) ⊎ (y ≡ Some v)
    by_tests true c e = inl e
    by_tests false true e = inr e
    by_tests false false e = absurd cc
outcome_inverted (nameless m n) x y v e = absurd cc
outcome_inverted (ordered n) x y v e = absurd cc

none_left : {A : Type 0} (xs : List A) → not (has_some xs) ≡ true → xs ≡ []
none_left [] e = refl
none_left (x ∷ xs) e = absurd cc

-- the values of a tuple
tuple_read : (g : Setting) (rd : Reader) (d : StructShape) (r : Run) (v : Tree) → read_tuple g rd d r ≡ Some v
    → (vs : Trees) × (structure vs ≡ v) × (((rs : List Run) × (read_elements g.registry rd d.fields rs ≡ Some vs)) ⊎ ((d.fields ≡ []) × (vs ≡ no_trees)))
tuple_read g rd d (group of_sequence k n i) v e =
    let (vs, read_all, is) = mapped structure (option_and_then (read_elements g.registry rd d.fields) (items i)) v e in
    let (rs, cut, elements) = bound (read_elements g.registry rd d.fields) (items i) vs read_all in
    (vs, is, inl (rs, elements))
tuple_read g rd d (group of_struct object_kind n i) v e =
    let (vs, read_all, is) = mapped structure (option_and_then (λ es. read_elements g.registry rd d.fields (entry_runs es)) (entries i)) v e in
    let (es, cut, elements) = bound (λ es. read_elements g.registry rd d.fields (entry_runs es)) (entries i) vs read_all in
    (vs, is, inl (entry_runs es, elements))
tuple_read g rd d (group of_struct array_kind n i) v e = absurd cc
tuple_read g rd d (one x n) v e =
    let (test, is) = if_true (not (has_some d.fields) && is_nothing x) (Some (structure no_trees)) v e in
    let value : structure no_trees ≡ v = cc in
    let (empty, nothing) = is_both (not (has_some d.fields)) (is_nothing x) test in
    (no_trees, value, inr (none_left d.fields empty, refl))
tuple_read g rd d (tagged t n r) v e = absurd cc

-- there are as many values as items
each_counted : (rd : Run → Option Tree) (rs : List Run) (vs : Trees) → read_each rd rs ≡ Some vs → tree_count vs ≡ length rs
each_counted rd [] vs e =
    let is : no_trees ≡ vs = cc in
    ap tree_count (sym is)
each_counted rd (r ∷ rs) vs e =
    let (w, ws, first, rest, is) = trees_inverted (rd r) (read_each rd rs) vs e in
    ap tree_count (sym is) ∙ ap suc (each_counted rd rs ws rest)

module _ (g : Setting) (checked : IsRegistry g.registry) (rd : Reader) (parts : (s : ℕ) (source : Source) (r : Run) (v : Tree) → rd s source r ≡ Some v → typed g.registry s v ≡ true) where
  filled : (fs : List Field) → Every BuiltField fs → Every (λ f. (f.flattened ≡ false) × FillIsTyped g.registry f) fs
  filled [] all = tt
  filled (f ∷ fs) (b, all) = ((b.flattened, fill_typed g.registry f b), filled fs all)

  option_typed : (s i : ℕ) → base g.registry s ≡ Some (option_shape i) → (r : Run) (v : Tree) → read_option (rd i from_events) r ≡ Some v → typed g.registry s v ≡ true
  option_typed s i is r v e = by_test (holds_nothing r) e
    where
      by_test : (b : Bool) → cond b (Some none) (option_map some (rd i from_events r)) ≡ Some v → typed g.registry s v ≡ true
      by_test true e =
          let value : none ≡ v = cc in
          ap (typed g.registry s) (sym value) ∙ ap (λ o. on_some (option_and_then option_of o) (λ j. true)) is
      by_test false e =
          let (w, inner, value) = mapped some (rd i from_events r) v e in
          ap (typed g.registry s) (sym value) ∙ ap (λ o. on_some (option_and_then option_of o) (λ j. typed g.registry j w)) is ∙ parts i from_events r w inner

  result_typed : (s i j : ℕ) → base g.registry s ≡ Some (result_shape i j) → (es : List Entry) (v : Tree) → read_result rd i j es ≡ Some v → typed g.registry s v ≡ true
  result_typed s i j is es v e =
      let (x, one_entry, read_one) = bound (read_outcome rd i j) (only es) v e in
      by_side x (outcome_inverted x.key (option_map ok (rd i from_events x.run)) (option_map err (rd j from_events x.run)) v read_one)
    where
      by_side : (x : Entry) → (option_map ok (rd i from_events x.run) ≡ Some v) ⊎ (option_map err (rd j from_events x.run) ≡ Some v) → typed g.registry s v ≡ true
      by_side x (inl e) =
          let (w, inner, value) = mapped ok (rd i from_events x.run) v e in
          ap (typed g.registry s) (sym value) ∙ ap (λ o. on_some (option_and_then ok_of o) (λ k. typed g.registry k w)) is ∙ parts i from_events x.run w inner
      by_side x (inr e) =
          let (w, inner, value) = mapped err (rd j from_events x.run) v e in
          ap (typed g.registry s) (sym value) ∙ ap (λ o. on_some (option_and_then err_of o) (λ k. typed g.registry k w)) is ∙ parts j from_events x.run w inner

  each_is_typed : (i : ℕ) (rs : List Run) (vs : Trees) → read_each (rd i from_events) rs ≡ Some vs → each_typed g.registry i vs ≡ true
  each_is_typed i [] vs e =
      let is : no_trees ≡ vs = cc in
      ap (each_typed g.registry i) (sym is)
  each_is_typed i (r ∷ rs) vs e =
      let (w, ws, first, rest, is) = trees_inverted (rd i from_events r) (read_each (rd i from_events) rs) vs e in
      ap (each_typed g.registry i) (sym is) ∙ both (typed g.registry i w) (each_typed g.registry i ws) (parts i from_events r w first) (each_is_typed i rs ws rest)

  -- a list, or an array, of which it is known what its items are and how many
  items_typed : (s i : ℕ) (d : Definition) (len : Option ℕ) → base g.registry s ≡ Some d → item_of d ≡ Some i → length_of d ≡ len
      → (r : Run) (v : Tree) → read_sequence (read_items (rd i from_events) len) r ≡ Some v → typed g.registry s v ≡ true
  items_typed s i d len is item long r v e =
      let (rs, read_all) = sequence_read (read_items (rd i from_events) len) r v e in
      let (test, mapped_all) = if_true (has_length len (length rs)) (option_map list (read_each (rd i from_events) rs)) v read_all in
      let (vs, each, value) = mapped list (read_each (rd i from_events) rs) v mapped_all in
      let counted : has_length (option_and_then length_of (base g.registry s)) (tree_count vs) ≡ true =
      ap (λ o. has_length (option_and_then length_of o) (tree_count vs)) is ∙ ap₂ has_length long (each_counted (rd i from_events) rs vs each) ∙ test in
      let all : on_some (option_and_then item_of (base g.registry s)) (λ j. each_typed g.registry j vs) ≡ true =
      ap (λ o. on_some (option_and_then item_of o) (λ j. each_typed g.registry j vs)) is ∙ ap (λ o. on_some o (λ j. each_typed g.registry j vs)) item ∙ each_is_typed i rs vs each in
      ap (typed g.registry s) (sym value) ∙ both _ _ counted all

  -- the items of a tuple, of which those that are absent are filled
  elements_typed : (fs : List Field) (rs : List Run) (vs : Trees) → Every (λ f. (f.flattened ≡ false) × FillIsTyped g.registry f) fs → read_elements g.registry rd fs rs ≡ Some vs
      → fields_typed g.registry fs vs ≡ true
  elements_typed [] [] vs all e =
      let is : no_trees ≡ vs = cc in
      ap (fields_typed g.registry []) (sym is)
  elements_typed [] (r ∷ rs) vs all e = absurd cc
  elements_typed (f ∷ fs) [] vs ((own, filled_in), all) e =
      let (w, ws, first, rest, is) = trees_inverted (fill g.registry f) (read_elements g.registry rd fs []) vs e in
      ap (fields_typed g.registry (f ∷ fs)) (sym is) ∙ both (typed g.registry f.shape w) (fields_typed g.registry fs ws) (filled_in w first) (elements_typed fs [] ws all rest)
  elements_typed (f ∷ fs) (r ∷ rs) vs ((own, filled_in), all) e =
      let (w, ws, first, rest, is) = trees_inverted (rd f.shape from_events r) (read_elements g.registry rd fs rs) vs e in
      ap (fields_typed g.registry (f ∷ fs)) (sym is) ∙ both (typed g.registry f.shape w) (fields_typed g.registry fs ws) (parts f.shape from_events r w first) (elements_typed fs rs ws all rest)

  -- a struct is of its shape where its fields are
  structure_typed : (s : ℕ) (d : StructShape) → base g.registry s ≡ Some (struct_shape d) → (vs : Trees) (v : Tree) → structure vs ≡ v → fields_typed g.registry d.fields vs ≡ true
      → typed g.registry s v ≡ true
  structure_typed s d is vs v value all = ap (typed g.registry s) (sym value) ∙ ap (λ o. on_some (option_and_then struct_of o) (λ q. fields_typed g.registry q.fields vs)) is ∙ all

  tuple_typed : (s : ℕ) (d : StructShape) → base g.registry s ≡ Some (struct_shape d) → Every BuiltField d.fields → (r : Run) (v : Tree) → read_tuple g rd d r ≡ Some v → typed g.registry s v ≡ true
  tuple_typed s d is fields r v e =
      let (vs, value, how) = tuple_read g rd d r v e in
      structure_typed s d is vs v value (by_case vs how)
    where
      by_case : (vs : Trees) → (((rs : List Run) × (read_elements g.registry rd d.fields rs ≡ Some vs)) ⊎ ((d.fields ≡ []) × (vs ≡ no_trees))) → fields_typed g.registry d.fields vs ≡ true
      by_case vs (inl (rs, elements)) = elements_typed d.fields rs vs (filled d.fields fields) elements
      by_case vs (inr (empty, nothing)) = ap₂ (fields_typed g.registry) empty nothing

  object_typed : (s : ℕ) (d : StructShape) → base g.registry s ≡ Some (struct_shape d) → Every BuiltField d.fields → (r : Run) (v : Tree)
      → read_object (read_struct g rd [] d.deny (plain_layout d)) r ≡ Some v → typed g.registry s v ≡ true
  object_typed s d is fields r v e =
      let (es, mean) = object_read (read_struct g rd [] d.deny (plain_layout d)) r v e in
      let (xs, vs, read_all, value) = struct_inverted g rd [] d.deny (plain_layout d) es v mean in
      structure_typed s d is vs v value
      (fields_are_typed g.registry (by_run g.registry rd) (λ t x w h. parts t _ x.run w h) (read_flat g.registry (by_run g.registry rd) false (length g.registry)) false [] 0 d.fields xs vs (filled d.fields fields) read_all)

  struct_typed : (s : ℕ) (d : StructShape) → base g.registry s ≡ Some (struct_shape d) → Every BuiltField d.fields → (r : Run) (v : Tree) (b : Bool)
      → cond b (read_tuple g rd d r) (read_object (read_struct g rd [] d.deny (plain_layout d)) r) ≡ Some v → typed g.registry s v ≡ true
  struct_typed s d is fields r v true e = tuple_typed s d is fields r v e
  struct_typed s d is fields r v false e = object_typed s d is fields r v e

  -- one step: where the parts are of their shapes, so is the whole
  step_typed : (s : ℕ) (source : Source) (r : Run) (d : Definition) → definition_at g.registry s ≡ Some d → is_unbuilt d ≡ false → (v : Tree) → read_as g rd s source d r ≡ Some v → typed g.registry s v ≡ true
  step_typed s source r (scalar_shape t) at fine v e = taken_typed g.registry s t (base_is g.registry s (scalar_shape t) at refl) v (scalar_taken g.borrow (label_at g.registry s) t r v e)
  step_typed s source r (option_shape i) at fine v e = option_typed s i (base_is g.registry s (option_shape i) at refl) r v e
  step_typed s source r (result_shape i j) at fine v e =
      let (es, mean) = object_read (read_result rd i j) r v e in
      result_typed s i j (base_is g.registry s (result_shape i j) at refl) es v mean
  step_typed s source r (list_shape i) at fine v e = items_typed s i (list_shape i) None (base_is g.registry s (list_shape i) at refl) refl refl r v e
  step_typed s source r (array_shape i n) at fine v e = items_typed s i (array_shape i n) (Some n) (base_is g.registry s (array_shape i n) at refl) refl refl r v e
  step_typed s source r (struct_shape d) at fine v e = struct_typed s d (base_is g.registry s (struct_shape d) at refl) (struct_built d fine).fields r v (is_tuple d.kind) e
  step_typed s source r (transparent_shape i) at fine v e = typed_alike g.registry s i (base_inner g.registry checked s i at) v ∙ parts i source r v e
  step_typed s source r _ at fine v e = absurd cc

  found_typed : (s : ℕ) (source : Source) (r : Run) (o : Option Definition) → definition_at g.registry s ≡ o → (v : Tree) → read_shape g rd s source r o ≡ Some v → typed g.registry s v ≡ true
  found_typed s source r None is v e = absurd cc
  found_typed s source r (Some d) is v e = step_typed s source r d is (built g.registry checked s d is) v e

pub read_typed : (g : Setting) → IsRegistry g.registry → (n s : ℕ) (source : Source) (r : Run) (v : Tree) → read g n s source r ≡ Some v → typed g.registry s v ≡ true
read_typed g checked zero s source r v e = absurd cc
read_typed g checked (suc n) s source r v e = found_typed g checked (read g n) (read_typed g checked n) s source r (definition_at g.registry s) refl v e
