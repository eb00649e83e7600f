-- The calls of items and fields, from one of them on.
use Rattle.std.proofs.Common.{ℕ, ◌≡◌, ◌≢◌, ◌≤◌, ◌<◌, ◌+◌, List, [], ◌∷◌, Bool, true, false, cond, Option, Some, None, zero, suc, refl, sym, ap, ◌∙◌, arith, get_or, length, map, drop}
use Rattle.std.proofs.lemmas.List.{drop_all, drop_more}
use Rattle.semantics_lines.specs.Trees.{Tree, MapEntry, list, trees_of, tree_count}
use Rattle.semantics_lines.specs.Shapes.{effective_name}
use Rattle.semantics_lines.specs.Calls.{field_key}
use Rattle.semantics.specs.Typed.{has_length, item_at, length_at}
use Rattle.semantics.specs.Calling.{Part, one_call, no_call, no_form, then, part_of, part_if, sequence_calls, Writer, calls_of, calls_of_each, calls_of_items, calls_of_fields}
use Rattle.shape_types.specs.Shapes.{field_of}
use Rattle.shape_types.specs.Trees.{tree_step, entry_step, tree_of}
use Rattle.shape_types.specs.declared.value.Value.{Value, fold-roll-Value}
use Rattle.shape_types.specs.declared.value.Value.TheVariants as value
use Rattle.shape_types.specs.declared.value.Value.TheOpen.{Value-F}
use Rattle.shape_types.specs.declared.field.Field.{Field}
use Rattle.format_write.proofs.Steps.{then_assoc}

-- as many trees as values
pub tree_count_of : (vs : List Value) → tree_count (trees_of (map tree_of vs)) ≡ length vs
tree_count_of [] = refl
tree_count_of (v ∷ vs) = ap suc (tree_count_of vs)

-- a list as a tree
tree_of_list : (vs : List Value) → tree_of (value.List vs) ≡ list (trees_of (map tree_of vs))
tree_of_list vs = ap tree_of (sym (value.rolls-List vs)) ∙ fold-roll-Value Tree MapEntry tree_step entry_step (Value-F.List vs)

list_if : (b : Bool) (o : Option ℕ) (p : ℕ → Part) → part_of o (λ i. part_if b (p i)) ≡ part_of (cond b o None) p
list_if true None p = refl
list_if true (Some i) p = refl
list_if false None p = refl
list_if false (Some i) p = refl

-- a list of the shape has items, and as many as it says
pub list_calls : (w : Writer) (s : ℕ) (vs : List Value) (o : Option ℕ) → o ≡ cond (has_length (length_at w.registry s) (length vs)) (item_at w.registry s) None
    → calls_of w s (tree_of (value.List vs)) ≡ part_of o (λ i. sequence_calls (calls_of_each w i (trees_of (map tree_of vs))))
list_calls w s vs o is =
    let p : ℕ → Part = (λ i. sequence_calls (calls_of_each w i (trees_of (map tree_of vs)))) in
    ap (calls_of w s) (tree_of_list vs)
    ∙ ap (λ n. part_of (item_at w.registry s) (λ i. part_if (has_length (length_at w.registry s) n) (p i))) (tree_count_of vs)
    ∙ list_if (has_length (length_at w.registry s) (length vs)) (item_at w.registry s) p
    ∙ ap (λ x. part_of x p) (sym is)

-- the item at a place, before those that come after it
pub drop_at : {X : Type 0} (xs : List X) (k : ℕ) (x : X) → k < length xs → x ≡ get_or xs k x → drop k xs ≡ x ∷ drop (k + 1) xs
drop_at xs k x lt is = drop_more xs k x lt ∙ ap (λ y. y ∷ drop (k + 1) xs) (sym is)

-- the calls of these parts of a value, from the one at a place on
abbrev pub each_from : Writer → ℕ → List Value → ℕ → Part
each_from w i vs k = calls_of_each w i (trees_of (map tree_of (drop k vs)))

abbrev pub items_from : Writer → List Field → List Value → ℕ → Part
items_from w fs vs k = calls_of_items w (map field_of (drop k fs)) (trees_of (map tree_of (drop k vs)))

abbrev pub fields_from : Writer → List Field → List Value → ℕ → Part
fields_from w fs vs k = calls_of_fields w (map field_of (drop k fs)) (trees_of (map tree_of (drop k vs)))

-- the next item, with its value
module _ (w : Writer) (vs : List Value) (k : ℕ) (v : Value) (last : Part) (are : drop k vs ≡ v ∷ drop (k + 1) vs) where
  pub each_at : (i : ℕ) → then (each_from w i vs k) last ≡ then (calls_of w i (tree_of v)) (then (each_from w i vs (k + 1)) last)
  each_at i =
      ap (λ l. then (calls_of_each w i (trees_of (map tree_of l))) last) are
      ∙ then_assoc (calls_of w i (tree_of v)) (each_from w i vs (k + 1)) last

  module _ (fs : List Field) (f : Field) (is : drop k fs ≡ f ∷ drop (k + 1) fs) where
    pub items_at : then (items_from w fs vs k) last ≡ then (calls_of w f.shape.0 (tree_of v)) (then (items_from w fs vs (k + 1)) last)
    items_at =
        ap (λ l. then (calls_of_items w (map field_of l) (trees_of (map tree_of (drop k vs)))) last) is
        ∙ ap (λ l. then (calls_of_items w (map field_of (f ∷ drop (k + 1) fs)) (trees_of (map tree_of l))) last) are
        ∙ then_assoc (calls_of w f.shape.0 (tree_of v)) (items_from w fs vs (k + 1)) last

    pub fields_at : then (fields_from w fs vs k) last
        ≡ then (one_call (field_key (effective_name (field_of f)))) (then (calls_of w f.shape.0 (tree_of v)) (then (fields_from w fs vs (k + 1)) last))
    fields_at =
        let key = one_call (field_key (effective_name (field_of f))) in
        let inner = calls_of w f.shape.0 (tree_of v) in
        let rest = fields_from w fs vs (k + 1) in
        ap (λ l. then (calls_of_fields w (map field_of l) (trees_of (map tree_of (drop k vs)))) last) is
        ∙ ap (λ l. then (calls_of_fields w (map field_of (f ∷ drop (k + 1) fs)) (trees_of (map tree_of l))) last) are
        ∙ then_assoc (then key inner) rest last
        ∙ then_assoc key inner (then rest last)

-- nothing is left
pub each_end : (w : Writer) (i : ℕ) (vs : List Value) (k : ℕ) → length vs ≤ k → each_from w i vs k ≡ no_call
each_end w i vs k le = ap (λ l. calls_of_each w i (trees_of (map tree_of l))) (drop_all k vs le)

module _ (w : Writer) (fs : List Field) (vs : List Value) (k : ℕ) (le : length fs ≤ k) (also : length vs ≤ k) where
  pub items_end : items_from w fs vs k ≡ no_call
  items_end =
      ap (λ l. calls_of_items w (map field_of l) (trees_of (map tree_of (drop k vs)))) (drop_all k fs le)
      ∙ ap (λ l. calls_of_items w [] (trees_of (map tree_of l))) (drop_all k vs also)

  pub fields_end : fields_from w fs vs k ≡ no_call
  fields_end =
      ap (λ l. calls_of_fields w (map field_of l) (trees_of (map tree_of (drop k vs)))) (drop_all k fs le)
      ∙ ap (λ l. calls_of_fields w [] (trees_of (map tree_of l))) (drop_all k vs also)

-- fields without a value are left
module _ (w : Writer) where
  pub items_short : (fs : List Field) (vs : List Value) (k : ℕ) → k ≤ length fs → k ≡ length vs → length fs ≢ length vs → items_from w fs vs k ≡ no_form
  items_short [] [] zero le e ne = absurd (ne refl)
  items_short (f ∷ fs) [] zero le e ne = refl
  items_short fs (v ∷ vs) zero le e ne = absurd (omega arith)
  items_short fs [] (suc k) le e ne = absurd (omega arith)
  items_short [] (v ∷ vs) (suc k) le e ne = absurd (omega arith)
  items_short (f ∷ fs) (v ∷ vs) (suc k) le e ne = items_short fs vs k (omega arith) (omega arith) (λ x. ne (ap suc x))

  pub fields_short : (fs : List Field) (vs : List Value) (k : ℕ) → k ≤ length fs → k ≡ length vs → length fs ≢ length vs → fields_from w fs vs k ≡ no_form
  fields_short [] [] zero le e ne = absurd (ne refl)
  fields_short (f ∷ fs) [] zero le e ne = refl
  fields_short fs (v ∷ vs) zero le e ne = absurd (omega arith)
  fields_short fs [] (suc k) le e ne = absurd (omega arith)
  fields_short [] (v ∷ vs) (suc k) le e ne = absurd (omega arith)
  fields_short (f ∷ fs) (v ∷ vs) (suc k) le e ne = fields_short fs vs k (omega arith) (omega arith) (λ x. ne (ap suc x))
