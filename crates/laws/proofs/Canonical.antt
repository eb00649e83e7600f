-- What a value is written as, its entries in any order, is read as the value.
use Rattle.std.proofs.Common.{◌≡◌, ℕ, zero, suc, ◌≤◌, List, [], ◌∷◌, length, Option, Some, None, Bool, true, false, cond, Ok, codes, option_map, option_and_then, refl, sym, ap, ap₂, ◌∙◌, subst, arith}
use Rattle.std.specs.List.{AllByRecursion as Every}
use Rattle.semantics_lines.specs.Trees.{Tree, none, some, ok, err, list, structure, Trees, no_trees, tree, tree_count}
use Rattle.semantics_lines.specs.Shapes.{ScalarType, is_tuple, Field, StructShape, Definition, scalar_shape, option_shape, result_shape, list_shape, array_shape, struct_shape, transparent_shape, Registry, definition_at}
use Rattle.semantics.specs.Registry.{is_unbuilt, IsRegistry}
use Rattle.semantics_lines.specs.Calls.{null_literal}
use Rattle.semantics_lines.specs.Events.{no_note, named}
use Rattle.semantics.specs.Runs.{Run, Entry}
use Rattle.semantics_lines.specs.Documents.{free, Document, plain, object, Documents, no_documents, document, no_members, member, on_tape}
use Rattle.semantics.specs.Typed.{base, has_length}
use Rattle.semantics.specs.Writing.{where_fits, written_sequence, written_object, write, write_each, write_items, write_fields}
use Rattle.semantics.specs.Labels.{label_at}
use Rattle.semantics.specs.Reading.{Setting, from_events, Reader, plain_layout, read_option, read_scalar, read_sequence, read_each, read_items, by_outcome, read_result, read_elements, read_tuple, read_struct, read_object, and_trees, read_as, read_shape, read}
use Rattle.semantics.specs.Depths.{depth, deepest, deepest_field}
use Rattle.semantics.specs.Validity.{repeated_key, option_over_null, borrowed_text, HasDistinctKeys, OwnsTexts, HasNoClash, may_be_null, Distinct, every_clash, Separable, EachAlike, FieldsAlike}
use Rattle.laws.proofs.Built.{BuiltField, is_opaque, struct_built, built, no_base}
use Rattle.laws.proofs.Based.{write_by, write_is, depth_by, depth_is, positive, alike_by, write_here, depth_here, alike_here, write_inner, depth_inner, alike_inner}
use Rattle.laws.proofs.Nulls.{none_written, not_null, holds_something}
use Rattle.laws.proofs.Orders.{Comes, comes_plain, EachComes, comes_sequence, comes_object, Carried}
use Rattle.semantics.specs.Places.{Choice}
use Rattle.semantics.specs.Keys.{keys}
use Rattle.laws.proofs.Mixes.{Mixes, mixes_one}
use Rattle.laws.proofs.Places.{IsOwn}
use Rattle.laws.proofs.Reached.{here_apart, PartsSeparable, parts_separable, first_part, later_part, each_separable}
use Rattle.laws.proofs.ScalarsBack.{literal_at, scalar_inverted, scalar_back}
use Rattle.laws.proofs.Structs.{ReadAs, FieldsReadAs, FieldsRead, struct_read}
use Rattle.laws.proofs.Writes.{fits_inverted, sequence_inverted, object_inverted, under_inverted, document_inverted}

own_fields : (fs : List Field) → Every BuiltField fs → Every IsOwn fs
own_fields [] all = tt
own_fields (f ∷ fs) (b, all) = (b.flattened, own_fields fs all)

-- such a value was read, where this is what the shape is made of
abbrev pub ReadBy : Registry → Definition → Tree → Option Tree → Type 0
ReadBy g d v o = (w : Tree) × (o ≡ Some w) × alike_by g (Some d) v w

abbrev pub EachReadAs : Registry → ℕ → Trees → Option Trees → Type 0
EachReadAs g s vs o = (ws : Trees) × (o ≡ Some ws) × EachAlike g s vs ws

each_length : (ds : Documents) (rs : List Run) → EachComes ds rs → (vs : Trees) (g : Registry) (s : ℕ) → write_each g s vs ≡ Ok ds → length rs ≡ tree_count vs
each_length no_documents rs is no_trees g s e = ap length is
each_length no_documents rs is (tree v vs) g s e =
    let (x, xs, is_x, is_xs, same) = document_inverted (write g s v) (write_each g s vs) no_documents e in
    absurd cc
each_length (document d ds) rs (r, rest, is, comes, each) no_trees g s e = absurd cc
each_length (document d ds) rs (r, rest, is, comes, each) (tree v vs) g s e =
    let (x, xs, is_x, is_xs, same) = document_inverted (write g s v) (write_each g s vs) (document d ds) e in
    let tails : xs ≡ ds = cc in
    ap length is ∙ ap suc (each_length ds rest each vs g s (is_xs ∙ ap Ok tails))

-- the one entry of a result
one_entry : (name : List ℕ) (d : Document) (es : List Entry) → Mixes Carried (record { mark = free; name = name; document = d } ∷ []) es
    → (e : Entry) × (es ≡ e ∷ []) × ((n : _) × (e.key ≡ named (on_tape name) None n)) × Comes d e.run
one_entry name d es order =
    let (e, is, (y, (same, p), (n, key, shown))) = mixes_one Carried (record { mark = free; name = name; document = d }) es order in
    (e, is, (n, key ∙ ap (λ t. named (on_tape t) None n) same), (y.document, p, shown))

module _ (g : Setting) (checked : IsRegistry g.registry) (n : ℕ) (rd : Reader)
    (parts : (s : ℕ) → Separable every_clash g.registry s → (v : Tree) (d : Document) (r : Run) → depth g.registry s v ≤ n → write g.registry s v ≡ Ok d → Comes d r
    → ReadAs g.registry s v (rd s from_events r)) where
  scalar_step : (s : ℕ) (t : ScalarType) → OwnsTexts (scalar_shape t) → (v : Tree) (d : Document) (r : Run) → write_by g.registry (Some (scalar_shape t)) v ≡ Ok d → Comes d r
      → ReadBy g.registry (scalar_shape t) v (read_scalar g.borrow (label_at g.registry s) t r)
  scalar_step s t apart v d r e comes =
      let (fits, is) = scalar_inverted g.registry t v d e in
      let (note, is_r) = comes_plain (literal_at t v) r (subst (λ x. Comes x r) (sym is) comes) in
      let (w, set, alike) = scalar_back g.registry g.borrow (label_at g.registry s) t v apart fits in
      (w, ap (read_scalar g.borrow (label_at g.registry s) t) is_r ∙ set, alike)

  option_step : (i : ℕ) → may_be_null g.registry i ≡ false → Separable every_clash g.registry i → (v : Tree) (d : Document) (r : Run)
      → depth_by g.registry (Some (option_shape i)) v ≤ suc n → write_by g.registry (Some (option_shape i)) v ≡ Ok d → Comes d r
      → ReadBy g.registry (option_shape i) v (read_option (rd i from_events) r)
  option_step i other sep none d r deep e comes =
      let is : plain null_literal ≡ d = cc in
      let (note, is_r) = comes_plain null_literal r (subst (λ x. Comes x r) (sym is) comes) in
      (none, ap (read_option (rd i from_events)) is_r, refl)
  option_step i other sep (some v) d r deep e comes =
      let here = holds_something d r (not_null g.registry i v d other (sym (write_is g.registry i v) ∙ e)) comes in
      let (w, inner, alike) = parts i sep v d r (omega (arith, deep)) e comes in
      (some w, ap₂ (λ b o. cond b (Some none) (option_map some o)) here inner, (w, refl, alike))
  option_step i other sep _ d r deep e comes = absurd cc

  -- what is read of the one entry of a result
  outcome_back : (i j : ℕ) (name : List ℕ) (x d : Document) (r : Run) → object (member free name x no_members) ≡ d → Comes d r
      → (e : Entry) × Comes x e.run
      × (read_object (read_result rd i j) r ≡ option_and_then (λ o. o) (by_outcome (named (on_tape name) None no_note) (option_map ok (rd i from_events e.run)) (option_map err (rd j from_events e.run))))
  outcome_back i j name x d r is comes =
      let (note, inside, es, is_r, cut, order) = comes_object (member free name x no_members) r (subst (λ q. Comes q r) (sym is) comes) in
      let (e, is_es, (m, key), first) = one_entry name x es order in (
        e,
        first,
        ap (read_object (read_result rd i j)) is_r ∙ ap (option_and_then (read_result rd i j)) cut ∙ ap (read_result rd i j) is_es
            ∙ ap (λ k. option_and_then (λ o. o) (by_outcome k (option_map ok (rd i from_events e.run)) (option_map err (rd j from_events e.run)))) key,
      )

  result_step : (i j : ℕ) → Separable every_clash g.registry i → Separable every_clash g.registry j → (v : Tree) (d : Document) (r : Run)
      → depth_by g.registry (Some (result_shape i j)) v ≤ suc n → write_by g.registry (Some (result_shape i j)) v ≡ Ok d → Comes d r
      → ReadBy g.registry (result_shape i j) v (read_object (read_result rd i j) r)
  result_step i j sep other (ok v) d r deep e comes =
      let (x, is_x, is) = under_inverted (codes "Ok") (write g.registry i v) d e in
      let (entry, first, whole) = outcome_back i j (codes "Ok") x d r is comes in
      let (w, inner, alike) = parts i sep v x entry.run (omega (arith, deep)) is_x first in
      (ok w, whole ∙ ap (option_map ok) inner, (w, refl, alike))
  result_step i j other sep (err v) d r deep e comes =
      let (x, is_x, is) = under_inverted (codes "Err") (write g.registry j v) d e in
      let (entry, first, whole) = outcome_back i j (codes "Err") x d r is comes in
      let (w, inner, alike) = parts j sep v x entry.run (omega (arith, deep)) is_x first in
      (err w, whole ∙ ap (option_map err) inner, (w, refl, alike))
  result_step i j sep other _ d r deep e comes = absurd cc

  each_back : (i : ℕ) → Separable every_clash g.registry i → (vs : Trees) (ds : Documents) (rs : List Run) → deepest g.registry i vs ≤ n → write_each g.registry i vs ≡ Ok ds → EachComes ds rs
      → EachReadAs g.registry i vs (read_each (rd i from_events) rs)
  each_back i sep no_trees ds rs deep e each =
      let is : no_documents ≡ ds = cc in
      let ended : rs ≡ [] = subst (λ q. EachComes q rs) (sym is) each in
      (no_trees, ap (read_each (rd i from_events)) ended, refl)
  each_back i sep (tree v vs) ds rs deep e each =
      let (x, xs, is_x, is_xs, is) = document_inverted (write g.registry i v) (write_each g.registry i vs) ds e in
      let (r, rest, is_rs, first, others) = subst (λ q. EachComes q rs) is each in
      let (w, one_read, alike) = parts i sep v x r (omega (arith, deep)) is_x first in
      let (ws, all_read, alikes) = each_back i sep vs xs rest (omega (arith, deep)) is_xs others in
      (tree w ws, ap (read_each (rd i from_events)) is_rs ∙ ap₂ and_trees one_read all_read, (w, ws, refl, alike, alikes))

  -- a list, or an array of so many items
  items_back : (i : ℕ) (len : Option ℕ) → Separable every_clash g.registry i → (vs : Trees) (d : Document) (r : Run) → deepest g.registry i vs ≤ n
      → where_fits (has_length len (tree_count vs)) (written_sequence (write_each g.registry i vs)) ≡ Ok d → Comes d r
      → (ws : Trees) × (read_sequence (read_items (rd i from_events) len) r ≡ Some (list ws)) × EachAlike g.registry i vs ws
  items_back i len sep vs d r deep e comes =
      let (test, written) = fits_inverted (has_length len (tree_count vs)) (written_sequence (write_each g.registry i vs)) d e in
      let (ds, is_ds, is) = sequence_inverted (write_each g.registry i vs) d written in
      let (note, inside, rs, is_r, cut, each) = comes_sequence ds r (subst (λ q. Comes q r) (sym is) comes) in
      let (ws, all_read, alikes) = each_back i sep vs ds rs deep is_ds each in
      let long : has_length len (length rs) ≡ true = ap (has_length len) (each_length ds rs each vs g.registry i is_ds) ∙ test in (
        ws,
        ap (read_sequence (read_items (rd i from_events) len)) is_r ∙ ap (option_and_then (read_items (rd i from_events) len)) cut
            ∙ ap₂ (λ b o. cond b (option_map list o) None) long all_read,
        alikes,
      )

  list_step : (i : ℕ) → Separable every_clash g.registry i → (v : Tree) (d : Document) (r : Run) → depth_by g.registry (Some (list_shape i)) v ≤ suc n → write_by g.registry (Some (list_shape i)) v ≡ Ok d → Comes d r
      → ReadBy g.registry (list_shape i) v (read_sequence (read_items (rd i from_events) None) r)
  list_step i sep (list vs) d r deep e comes =
      let (ws, whole, alikes) = items_back i None sep vs d r (omega (arith, deep)) e comes in
      (list ws, whole, (ws, refl, alikes))
  list_step i sep _ d r deep e comes = absurd cc

  array_step : (i m : ℕ) → Separable every_clash g.registry i → (v : Tree) (d : Document) (r : Run) → depth_by g.registry (Some (array_shape i m)) v ≤ suc n → write_by g.registry (Some (array_shape i m)) v ≡ Ok d
      → Comes d r → ReadBy g.registry (array_shape i m) v (read_sequence (read_items (rd i from_events) (Some m)) r)
  array_step i m sep (list vs) d r deep e comes =
      let (ws, whole, alikes) = items_back i (Some m) sep vs d r (omega (arith, deep)) e comes in
      (list ws, whole, (ws, refl, alikes))
  array_step i m sep _ d r deep e comes = absurd cc

  elements_back : (fs : List Field) → Every (λ f. Separable every_clash g.registry f.shape) fs → (vs : Trees) (ds : Documents) (rs : List Run) → deepest_field g.registry fs vs ≤ n
      → write_items g.registry fs vs ≡ Ok ds → EachComes ds rs → FieldsReadAs g.registry fs vs (read_elements g.registry rd fs rs)
  elements_back [] sep no_trees ds rs deep e each =
      let is : no_documents ≡ ds = cc in
      let ended : rs ≡ [] = subst (λ q. EachComes q rs) (sym is) each in
      (no_trees, ap (read_elements g.registry rd []) ended, refl)
  elements_back [] sep (tree v vs) ds rs deep e each = absurd cc
  elements_back (f ∷ fs) sep no_trees ds rs deep e each = absurd cc
  elements_back (f ∷ fs) (here, sep) (tree v vs) ds rs deep e each =
      let (x, xs, is_x, is_xs, is) = document_inverted (write g.registry f.shape v) (write_items g.registry fs vs) ds e in
      let (r, rest, is_rs, first, others) = subst (λ q. EachComes q rs) is each in
      let (w, one_read, alike) = parts f.shape here v x r (omega (arith, deep)) is_x first in
      let (ws, all_read, alikes) = elements_back fs sep vs xs rest (omega (arith, deep)) is_xs others in
      (tree w ws, ap (read_elements g.registry rd (f ∷ fs)) is_rs ∙ ap₂ and_trees one_read all_read, (w, ws, refl, alike, alikes))

  tuple_back : (q : StructShape) → Every (λ f. Separable every_clash g.registry f.shape) q.fields → (vs : Trees) (d : Document) (r : Run) → deepest_field g.registry q.fields vs ≤ n
      → written_sequence (write_items g.registry q.fields vs) ≡ Ok d → Comes d r
      → (ws : Trees) × (read_tuple g rd q r ≡ Some (structure ws)) × FieldsAlike g.registry q.fields vs ws
  tuple_back q sep vs d r deep e comes =
      let (ds, is_ds, is) = sequence_inverted (write_items g.registry q.fields vs) d e in
      let (note, inside, rs, is_r, cut, each) = comes_sequence ds r (subst (λ x. Comes x r) (sym is) comes) in
      let (ws, all_read, alikes) = elements_back q.fields sep vs ds rs deep is_ds each in (
        ws,
        ap (read_tuple g rd q) is_r ∙ ap (λ o. option_map structure (option_and_then (read_elements g.registry rd q.fields) o)) cut ∙ ap (option_map structure) all_read,
        alikes,
      )

  fields_read : (fs : List Field) (vs : Trees) → Every (λ f. Separable every_clash g.registry f.shape) fs → deepest_field g.registry fs vs ≤ n → FieldsRead g.registry rd fs vs
  fields_read [] vs sep deep = tt
  fields_read (f ∷ fs) no_trees sep deep = tt
  fields_read (f ∷ fs) (tree v vs) (here, sep) deep = ((λ d r e comes. parts f.shape here v d r (omega (arith, deep)) e comes), fields_read fs vs sep (omega (arith, deep)))

  object_back : (q : StructShape) → Every BuiltField q.fields → ((c : Choice) → Distinct (keys g.registry (plain_layout q) c)) → Every (λ f. Separable every_clash g.registry f.shape) q.fields
      → (vs : Trees) (d : Document) (r : Run) → deepest_field g.registry q.fields vs ≤ n → written_object (write_fields g.registry q.fields vs) ≡ Ok d → Comes d r
      → (ws : Trees) × (read_object (read_struct g rd [] q.deny (plain_layout q)) r ≡ Some (structure ws)) × FieldsAlike g.registry q.fields vs ws
  object_back q fields distinct sep vs d r deep e comes =
      let (ms, is_ms, is) = object_inverted (write_fields g.registry q.fields vs) d e in
      let (note, inside, es, is_r, cut, order) = comes_object ms r (subst (λ x. Comes x r) (sym is) comes) in
      let (ws, all_read, alikes) = struct_read g rd [] q.deny (plain_layout q) vs ms es (distinct []) (own_fields q.fields fields) (fields_read q.fields vs sep deep) is_ms order in (
        ws,
        ap (read_object (read_struct g rd [] q.deny (plain_layout q))) is_r ∙ ap (option_and_then (read_struct g rd [] q.deny (plain_layout q))) cut ∙ all_read,
        alikes,
      )

  -- a struct that is a tuple, or none
  struct_back : (q : StructShape) (b : Bool) → is_tuple q.kind ≡ b → Every BuiltField q.fields → HasDistinctKeys g.registry (struct_shape q) → Every (λ f. Separable every_clash g.registry f.shape) q.fields
      → (vs : Trees) (d : Document) (r : Run) → deepest_field g.registry q.fields vs ≤ n
      → cond b (written_sequence (write_items g.registry q.fields vs)) (written_object (write_fields g.registry q.fields vs)) ≡ Ok d → Comes d r
      → (ws : Trees) × (cond b (read_tuple g rd q r) (read_object (read_struct g rd [] q.deny (plain_layout q)) r) ≡ Some (structure ws)) × FieldsAlike g.registry q.fields vs ws
  struct_back q true kind fields apart sep vs d r deep e comes = tuple_back q sep vs d r deep e comes
  struct_back q false kind fields apart sep vs d r deep e comes = object_back q fields (apart kind) sep vs d r deep e comes

  struct_step : (q : StructShape) → Every BuiltField q.fields → HasDistinctKeys g.registry (struct_shape q) → Every (λ f. Separable every_clash g.registry f.shape) q.fields → (v : Tree) (d : Document) (r : Run)
      → depth_by g.registry (Some (struct_shape q)) v ≤ suc n → write_by g.registry (Some (struct_shape q)) v ≡ Ok d → Comes d r
      → ReadBy g.registry (struct_shape q) v (cond (is_tuple q.kind) (read_tuple g rd q r) (read_object (read_struct g rd [] q.deny (plain_layout q)) r))
  struct_step q fields apart sep (structure vs) d r deep e comes =
      let (ws, whole, alikes) = struct_back q (is_tuple q.kind) refl fields apart sep vs d r (omega (arith, deep)) e comes in
      (structure ws, whole, (ws, refl, alikes))
  struct_step q fields apart sep _ d r deep e comes = absurd cc

  -- one step: where the parts are read back, so is the whole
  step : (s : ℕ) (def : Definition) → is_opaque def ≡ true → is_unbuilt def ≡ false → HasNoClash every_clash g.registry def → PartsSeparable every_clash g.registry def → (v : Tree) (d : Document) (r : Run)
      → depth_by g.registry (Some def) v ≤ suc n → write_by g.registry (Some def) v ≡ Ok d → Comes d r → ReadBy g.registry def v (read_as g rd s from_events def r)
  step s (scalar_shape t) opaque fine apart sep v d r deep e comes = scalar_step s t (apart borrowed_text refl) v d r e comes
  step s (option_shape i) opaque fine apart sep v d r deep e comes = option_step i (apart option_over_null refl) (sep i (first_part i [])) v d r deep e comes
  step s (result_shape i j) opaque fine apart sep v d r deep e comes = result_step i j (sep i (first_part i (j ∷ []))) (sep j (later_part i (j ∷ []) j (first_part j []))) v d r deep e comes
  step s (list_shape i) opaque fine apart sep v d r deep e comes = list_step i (sep i (first_part i [])) v d r deep e comes
  step s (array_shape i m) opaque fine apart sep v d r deep e comes = array_step i m (sep i (first_part i [])) v d r deep e comes
  step s (struct_shape q) opaque fine apart sep v d r deep e comes = struct_step q (struct_built q fine).fields (apart repeated_key refl) (each_separable every_clash g.registry q.fields sep) v d r deep e comes
  step s _ opaque fine apart sep v d r deep e comes = absurd cc

  opaque_step : (s : ℕ) (def : Definition) → definition_at g.registry s ≡ Some def → is_opaque def ≡ true → Separable every_clash g.registry s → (v : Tree) (d : Document) (r : Run)
      → depth g.registry s v ≤ suc n → write g.registry s v ≡ Ok d → Comes d r → ReadAs g.registry s v (read_as g rd s from_events def r)
  opaque_step s def at opaque sep v d r deep e comes =
      let (w, whole, alike) = step s def opaque (built g.registry checked s def at) (here_apart every_clash g.registry s def sep at) (parts_separable every_clash g.registry s def sep at) v d r
      (subst (λ m. m ≤ suc n) (depth_here g.registry s def at opaque v) deep) (sym (write_here g.registry s def at opaque v) ∙ e) comes in
      (w, whole, alike_here g.registry s def at opaque v w alike)

  -- a transparent shape is read as its inner one
  found_step : (s : ℕ) (o : Option Definition) → definition_at g.registry s ≡ o → Separable every_clash g.registry s → (v : Tree) (d : Document) (r : Run)
      → depth g.registry s v ≤ suc n → write g.registry s v ≡ Ok d → Comes d r → ReadAs g.registry s v (read_shape g rd s from_events r o)
  found_step s None at sep v d r deep e comes =
      absurd (none_written g.registry v d (sym (write_is g.registry s v ∙ ap (λ o. write_by g.registry o v) (no_base g.registry s at)) ∙ e))
  found_step s (Some (transparent_shape i)) at sep v d r deep e comes =
      let inner : suc (depth g.registry i v) ≤ suc n = subst (λ m. m ≤ suc n) (depth_inner g.registry checked s i at v) deep in
      let (w, whole, alike) = parts i (parts_separable every_clash g.registry s (transparent_shape i) sep at i (first_part i [])) v d r (omega (arith, inner)) (sym (write_inner g.registry checked s i at v) ∙ e) comes in
      (w, whole, alike_inner g.registry checked s i at v w alike)
  found_step s (Some def) at sep v d r deep e comes = opaque_step s def at refl sep v d r deep e comes

pub law : (g : Setting) → IsRegistry g.registry → (n s : ℕ) → Separable every_clash g.registry s → (v : Tree) (d : Document) (r : Run)
    → depth g.registry s v ≤ n → write g.registry s v ≡ Ok d → Comes d r → ReadAs g.registry s v (read g n s from_events r)
law g checked zero s sep v d r deep e comes =
    let some_depth = positive g.registry (base g.registry s) v in
    absurd (omega (arith, some_depth, deep, depth_is g.registry s v))
law g checked (suc n) s sep v d r deep e comes =
    found_step g checked n (read g n) (law g checked n) s (definition_at g.registry s) refl sep v d r deep e comes
