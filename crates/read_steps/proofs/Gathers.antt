-- Gathering the fields of a struct one after the other.
use Rattle.std.proofs.Common.{◌≡◌, ℕ, suc, ◌+◌, ◌<◌, ◌≤◌, List, [], ◌∷◌, ◌++◌, map, length, drop, get_or, Option, Some, None, Result, Ok, Err, Bool, true, false, cond, refl, sym, ◌∙◌, ap, add-one, drop-cons, arith}
use Rattle.std.specs.List.{AllByRecursion as Every}
use Rattle.std.proofs.lemmas.List.{drop_all, map-append}
use Rattle.semantics_lines.specs.Trees.{Tree, structure, Trees, no_trees, tree, trees_of}
use Rattle.semantics_lines.specs.Shapes.{Field, Registry, definition_at}
use Rattle.semantics_lines.specs.Events.{Span}
use Rattle.semantics_lines.specs.Faults.{Step, Fault}
use Rattle.semantics.specs.Labels.{label_at}
use Rattle.semantics.specs.Places.{At, below, has_whole}
use Rattle.semantics.specs.Registry.{IsRegistry}
use Rattle.semantics.specs.Reading.{or_value, absent, in_parts}
use Rattle.shape_types.specs.Shapes.{field_of}
use Rattle.shape_types.specs.Trees.{tree_of}
use Rattle.shape_types.specs.declared.field.Field.{Field as DeclaredField}
use Rattle.shape_types.specs.declared.value.Value.{Value}
use Rattle.laws_reading.specs.Input.{◌>>=◌}
use Rattle.laws_reading.specs.Structs.{Told, Got, Spot, gather_own, gather_field, Gathers, inner_spot, with_tree, gather_fields, gather_flat, as_structure, gathered}
use Rattle.laws_reading.specs.Structs as structs
use Rattle.laws_machine.specs.Delivery.{here}
use Rattle.laws.proofs.Built.{BuiltField}
use Rattle.read_steps.specs.Filled.{Taken, taken_of}
use Rattle.read_steps.specs.Filling.{or_missing, own_value, values_from}
use Rattle.read_steps.specs.Stops.{Fails}
use Rattle.read_steps.specs.Tasks.{fields_at}
use Rattle.read_steps.proofs.BuiltFields.{all_built}

module _ (g : Registry) (fields : List DeclaredField) (i shape : ℕ) (values : List Value) (got : List (At Told)) (p : List Step) (span : Span) (field : DeclaredField) (told : Taken)
    (lt : i < length fields) (is : field ≡ get_or fields i field) (same : told ≡ taken_of (below i got)) where
  -- the rest, after this field
  abbrev pub rest : Tree → Result (List Tree) Fault
  rest v = values_from g (map field_of (drop (i + 1) fields)) shape (i + 1) (map tree_of values ++ (v ∷ [])) got p span

  -- what is left to gather, from this field on
  abbrev pub now : Result (List Tree) Fault
  now = values_from g (map field_of (drop i fields)) shape i (map tree_of values) got p span

  next_field : now ≡ (own_value g (field_of field) shape told p span >>= rest)
  next_field =
      let cut : drop i fields ≡ field ∷ drop (i + 1) fields = drop-cons fields i field lt ∙ ap (λ (f : DeclaredField). f ∷ drop (suc i) fields) (sym is) ∙ ap (λ (k : ℕ). field ∷ drop k fields) (sym (add-one i)) in
      let step : now ≡ (own_value g (field_of field) shape (taken_of (below i got)) p span >>= rest) = ap (λ (fs : List DeclaredField). values_from g (map field_of fs) shape i (map tree_of values) got p span) cut in
      step ∙ ap (λ (x : Taken). own_value g (field_of field) shape x p span >>= rest) (sym same)

  -- the value of this field stands behind the others
  pub next_value : (value : Value) (after : List Value) (total : Result (List Tree) Fault) → own_value g (field_of field) shape told p span ≡ Ok (tree_of value) → after ≡ values ++ (value ∷ []) → now ≡ total
      → values_from g (map field_of (drop (i + 1) fields)) shape (i + 1) (map tree_of after) got p span ≡ total
  next_value value after total one put whole =
      let front : map tree_of after ≡ map tree_of values ++ (tree_of value ∷ []) = ap (map tree_of) put ∙ map-append tree_of values (value ∷ []) in
      ap (λ (vs : List Tree). values_from g (map field_of (drop (i + 1) fields)) shape (i + 1) vs got p span) front
      ∙ sym (ap (λ (r : Result Tree Fault). r >>= rest) one)
      ∙ sym next_field
      ∙ whole

  -- this field has no value
  pub value_fails : (e : Option Fault) (total : Result (List Tree) Fault) → Fails e (own_value g (field_of field) shape told p span) → now ≡ total → Fails e total
  value_fails None total one whole = tt
  value_fails (Some f) total one whole = sym whole ∙ next_field ∙ ap (λ (r : Result Tree Fault). r >>= rest) one

pub last_field : (g : Registry) (fields : List DeclaredField) (i shape : ℕ) (front : List Tree) (got : List (At Told)) (p : List Step) (span : Span) → length fields ≤ i → values_from g (map field_of (drop i fields)) shape i front got p span ≡ Ok front
last_field g fields i shape front got p span le = rw (drop_all i fields le) refl

-- trees behind those of a list
abbrev onto : List Tree → Trees → Trees
onto [] ts = ts
onto (v ∷ vs) ts = tree v (onto vs ts)

onto_last : (vs : List Tree) (v : Tree) (ts : Trees) → onto (vs ++ (v ∷ [])) ts ≡ onto vs (tree v ts)
onto_last [] v ts = refl
onto_last (w ∷ vs) v ts = ap (tree w) (onto_last vs v ts)

onto_none : (vs : List Tree) → trees_of vs ≡ onto vs no_trees
onto_none [] = refl
onto_none (v ∷ vs) = ap (tree v) (onto_none vs)

abbrev as_trees : List Tree → Result Trees Fault
as_trees vs = Ok (trees_of vs)

abbrev behind : List Tree → Trees → Result Trees Fault
behind vs ts = Ok (onto vs ts)

module _ (g : Registry) (flat : Gathers) (shape : ℕ) (p : List Step) (span : Span) where
  abbrev spot : Spot
  spot = record { shape = shape; path = p; input = here span }

  -- the value of one field
  field_is : (f : Field) (xs : List (At Told)) → BuiltField f → gather_field flat g false [] f spot xs ≡ own_value g f shape (taken_of xs) p span
  field_is f xs b = ap (λ o. cond o (flat (definition_at g f.shape) [] (inner_spot f spot) xs) (gather_own g f spot xs)) (parts f.flattened b.flattened) ∙ by_list xs
    where
      parts : (o : Bool) → o ≡ false → in_parts false (record f { flattened = o }) (has_whole xs) ≡ false
      parts true e = absurd cc
      parts false e = refl

      missing_is : (o : Option Tree) → structs.or_missing g f spot o ≡ or_missing o f (label_at g shape) p span
      missing_is None = refl
      missing_is (Some v) = refl

      by_list : (xs : List (At Told)) → gather_own g f spot xs ≡ own_value g f shape (taken_of xs) p span
      by_list [] = ap (λ o. structs.or_missing g f spot (or_value o (absent (definition_at g f.shape)))) b.default ∙ missing_is (absent (definition_at g f.shape))
      by_list (x ∷ []) = refl
      by_list (x ∷ y ∷ xs) = refl

  -- the fields one after the other, and all of them as trees
  all_values : (fs : List Field) (k : ℕ) (front : List Tree) (xs : List (At Told)) → Every BuiltField fs
      → (values_from g fs shape k front xs p span >>= as_trees) ≡ (gather_fields flat g false [] spot k fs xs >>= behind front)
  all_values [] k front xs all = ap Ok (onto_none front)
  all_values (f ∷ fs) k front xs (first, all) =
      by_value (own_value g f shape (taken_of (below k xs)) p span) (λ v. ap (λ j. values_from g fs shape j (front ++ (v ∷ [])) xs p span >>= as_trees) (omega arith) ∙ all_values fs (suc k) (front ++ (v ∷ [])) xs all)
      ∙ ap (λ z. (z >>= λ v. gather_fields flat g false [] spot (suc k) fs xs >>= with_tree v) >>= behind front) (sym (field_is f (below k xs) first))
    where
      by_rest : (v : Tree) (r : Result Trees Fault) → (r >>= behind (front ++ (v ∷ []))) ≡ ((r >>= with_tree v) >>= behind front)
      by_rest v (Ok ts) = ap Ok (onto_last front v ts)
      by_rest v (Err e) = refl

      by_value : (r : Result Tree Fault) → ((v : Tree) → (values_from g fs shape (k + 1) (front ++ (v ∷ [])) xs p span >>= as_trees) ≡ (gather_fields flat g false [] spot (suc k) fs xs >>= behind (front ++ (v ∷ []))))
          → ((r >>= λ v. values_from g fs shape (k + 1) (front ++ (v ∷ [])) xs p span) >>= as_trees) ≡ ((r >>= λ v. gather_fields flat g false [] spot (suc k) fs xs >>= with_tree v) >>= behind front)
      by_value (Ok v) rec = rec v ∙ by_rest v (gather_fields flat g false [] spot (suc k) fs xs)
      by_value (Err e) rec = refl

behind_none : (r : Result Trees Fault) → (r >>= behind []) ≡ r
behind_none (Ok ts) = refl
behind_none (Err e) = refl

module _ (g : Registry) (checked : IsRegistry g) (s : ℕ) (got : Got) (p : List Step) (span : Span) where
  abbrev read : Result (List Tree) Fault
  read = values_from g (fields_at g s) s 0 [] got.values p span

  abbrev whole : Result Tree Fault
  whole = gathered g [] (record { fields = fields_at g s; whole = false }) s got p (here span)

  whole_is : whole ≡ ((read >>= as_trees) >>= as_structure)
  whole_is = sym (ap (λ z. z >>= as_structure) (all_values g (gather_flat g false (length g)) s p span (fields_at g s) 0 [] got.values (all_built g checked s) ∙ behind_none _))

  pub gathered_is : (vs : List Tree) → read ≡ Ok vs → whole ≡ Ok (structure (trees_of vs))
  gathered_is vs is = whole_is ∙ ap (λ z. (z >>= as_trees) >>= as_structure) is

  pub gathered_fails : (e : Option Fault) → Fails e read → Fails e whole
  gathered_fails None is = tt
  gathered_fails (Some f) is = whole_is ∙ ap (λ z. (z >>= as_trees) >>= as_structure) is
