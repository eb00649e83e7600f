-- Alike values are written alike.
use Rattle.std.proofs.Common.{◌≡◌, ℕ, suc, List, ◌∷◌, Option, Some, None, cond, codes, refl, sym, ap, ap₂, ◌∙◌}
use Rattle.semantics_lines.specs.Trees.{Tree, text, some, ok, err, list, structure, Trees, no_trees, tree, tree_count}
use Rattle.semantics_lines.specs.Shapes.{is_tuple, Field, effective_name, Registry}
use Rattle.semantics_lines.specs.Calls.{str_literal}
use Rattle.semantics_lines.specs.Documents.{free}
use Rattle.semantics.specs.Typed.{scalar_at, option_at, ok_at, err_at, item_at, length_at, struct_at, takes_text, has_length}
use Rattle.semantics.specs.Writing.{Unwritten, Written, unfit_at, of_form, where_fits, written_plain, written_sequence, written_object, written_under, put_document, put_member, write, write_each, write_items, write_fields}
use Rattle.semantics.specs.Validity.{OnPart, Alike, EachAlike, FieldsAlike}

on_part : {A : Type 0} (o : Option A) (P : A → Type 0) → OnPart o P → (x : A) × (o ≡ Some x) × P x
on_part None P h = absurd h
on_part (Some x) P h = (x, refl, h)

-- where the shape has this part, and it is written alike
form_alike : {A B : Type 0} (why : Unwritten) (o : Option A) (f h : A → Written B) (x : A) → o ≡ Some x → f x ≡ h x → of_form why o f ≡ of_form why o h
form_alike why o f h x at same = ap (λ p. of_form why p f) at ∙ same ∙ sym (ap (λ p. of_form why p h) at)

each_counted : (g : Registry) (s : ℕ) (vs ws : Trees) → EachAlike g s vs ws → tree_count ws ≡ tree_count vs
each_counted g s no_trees ws is = ap tree_count is
each_counted g s (tree v vs) ws (w, ws', is, alike, alikes) = ap tree_count is ∙ ap suc (each_counted g s vs ws' alikes)

mutual
  pub write_alike : (g : Registry) (s : ℕ) (v w : Tree) → Alike g s v w → write g s w ≡ write g s v
  write_alike g s (text t) w (u, is, same) = ap (write g s) is ∙ ap (λ b. of_form (unfit_at g s) (scalar_at g s) (λ y. written_plain (takes_text y) (str_literal b))) same
  write_alike g s (some v) w alike =
      let (i, at, (w', is, same)) = on_part (option_at g s) (λ i. (w' : Tree) × (w ≡ some w') × Alike g i v w') alike in
      ap (write g s) is ∙ form_alike (unfit_at g s) (option_at g s) (λ j. write g j w') (λ j. write g j v) i at (write_alike g i v w' same)
  write_alike g s (ok v) w alike =
      let (i, at, (w', is, same)) = on_part (ok_at g s) (λ i. (w' : Tree) × (w ≡ ok w') × Alike g i v w') alike in
      ap (write g s) is
      ∙ form_alike (unfit_at g s) (ok_at g s) (λ j. written_under (codes "Ok") (write g j w')) (λ j. written_under (codes "Ok") (write g j v)) i at
      (ap (written_under (codes "Ok")) (write_alike g i v w' same))
  write_alike g s (err v) w alike =
      let (i, at, (w', is, same)) = on_part (err_at g s) (λ i. (w' : Tree) × (w ≡ err w') × Alike g i v w') alike in
      ap (write g s) is
      ∙ form_alike (unfit_at g s) (err_at g s) (λ j. written_under (codes "Err") (write g j w')) (λ j. written_under (codes "Err") (write g j v)) i at
      (ap (written_under (codes "Err")) (write_alike g i v w' same))
  write_alike g s (list vs) w alike =
      let (i, at, (ws, is, same)) = on_part (item_at g s) (λ i. (ws : Trees) × (w ≡ list ws) × EachAlike g i vs ws) alike in
      ap (write g s) is
      ∙ form_alike (unfit_at g s) (item_at g s) (λ j. where_fits (has_length (length_at g s) (tree_count ws)) (written_sequence (write_each g j ws)))
      (λ j. where_fits (has_length (length_at g s) (tree_count vs)) (written_sequence (write_each g j vs))) i at
      (ap₂ (λ n o. where_fits (has_length (length_at g s) n) (written_sequence o)) (each_counted g i vs ws same) (each_write_alike g i vs ws same))
  write_alike g s (structure vs) w alike =
      let (q, at, (ws, is, same)) = on_part (struct_at g s) (λ d. (ws : Trees) × (w ≡ structure ws) × FieldsAlike g d.fields vs ws) alike in
      ap (write g s) is
      ∙ form_alike (unfit_at g s) (struct_at g s) (λ d. cond (is_tuple d.kind) (written_sequence (write_items g d.fields ws)) (written_object (write_fields g d.fields ws)))
      (λ d. cond (is_tuple d.kind) (written_sequence (write_items g d.fields vs)) (written_object (write_fields g d.fields vs))) q at
      (ap₂ (λ x y. cond (is_tuple q.kind) (written_sequence x) (written_object y)) (items_write_alike g q.fields vs ws same) (fields_write_alike g q.fields vs ws same))
  write_alike g s _ w is = ap (write g s) is

  each_write_alike : (g : Registry) (s : ℕ) (vs ws : Trees) → EachAlike g s vs ws → write_each g s ws ≡ write_each g s vs
  each_write_alike g s no_trees ws is = ap (write_each g s) is
  each_write_alike g s (tree v vs) ws (w, ws', is, alike, alikes) = ap (write_each g s) is ∙ ap₂ put_document (write_alike g s v w alike) (each_write_alike g s vs ws' alikes)

  items_write_alike : (g : Registry) (fs : List Field) (vs ws : Trees) → FieldsAlike g fs vs ws → write_items g fs ws ≡ write_items g fs vs
  items_write_alike g (f ∷ fs) (tree v vs) ws (w, ws', is, alike, alikes) =
      ap (write_items g (f ∷ fs)) is ∙ ap₂ put_document (write_alike g f.shape v w alike) (items_write_alike g fs vs ws' alikes)
  items_write_alike g fs vs ws is = ap (write_items g fs) is

  fields_write_alike : (g : Registry) (fs : List Field) (vs ws : Trees) → FieldsAlike g fs vs ws → write_fields g fs ws ≡ write_fields g fs vs
  fields_write_alike g (f ∷ fs) (tree v vs) ws (w, ws', is, alike, alikes) =
      ap (write_fields g (f ∷ fs)) is ∙ ap₂ (put_member free (effective_name f)) (write_alike g f.shape v w alike) (fields_write_alike g fs vs ws' alikes)
  fields_write_alike g fs vs ws is = ap (write_fields g fs) is
