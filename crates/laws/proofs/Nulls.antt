-- What is written of another shape than unit and the options is never null.
use Rattle.std.proofs.Common.{◌≡◌, ℕ, [], ◌∷◌, length, Some, None, Option, Bool, true, false, cond, Ok, codes, refl, sym, ap, ◌∙◌}
use Rattle.semantics_lines.specs.Trees.{Tree, none, ok, err, list, structure, tree_count}
use Rattle.semantics_lines.specs.Shapes.{Definition, scalar_shape, option_shape, result_shape, list_shape, array_shape, set_shape, map_shape, struct_shape, enum_shape, transparent_shape, is_tuple, Registry}
use Rattle.semantics_lines.specs.Calls.{Literal, unit_literal, null_literal}
use Rattle.semantics.specs.Runs.{Run}
use Rattle.semantics_lines.specs.Documents.{Document, plain, sequence, object, Documents, Members, scalar_of_literal}
use Rattle.semantics.specs.Typed.{base, on_some, has_length}
use Rattle.semantics.specs.Writing.{Written, where_fits, written_sequence, written_object, write, write_each, write_items, write_fields}
use Rattle.semantics.specs.Reading.{is_nothing, holds_nothing}
use Rattle.semantics.specs.Validity.{is_null_form, null_within, may_be_null}
use Rattle.laws.proofs.Based.{write_by}
use Rattle.laws.proofs.Orders.{Comes, comes_plain, comes_sequence, comes_object}
use Rattle.laws.proofs.ScalarsBack.{scalar_inverted, is_null, scalar_not_null}
use Rattle.laws.proofs.Writes.{fits_inverted, sequence_inverted, object_inverted, under_inverted}

sequence_not_null : (o : Written Documents) (d : Document) → written_sequence o ≡ Ok d → is_null d ≡ false
sequence_not_null o d e =
    let (ds, is_ds, is) = sequence_inverted o d e in
    ap is_null (sym is)

object_not_null : (o : Written Members) (d : Document) → written_object o ≡ Ok d → is_null d ≡ false
object_not_null o d e =
    let (ms, is_ms, is) = object_inverted o d e in
    ap is_null (sym is)

struct_not_null : (b : Bool) (o : Written Documents) (p : Written Members) (d : Document) → cond b (written_sequence o) (written_object p) ≡ Ok d → is_null d ≡ false
struct_not_null true o p d e = sequence_not_null o d e
struct_not_null false o p d e = object_not_null p d e

items_not_null : (b : Bool) (o : Written Documents) (d : Document) → where_fits b (written_sequence o) ≡ Ok d → is_null d ≡ false
items_not_null b o d e = sequence_not_null o d (fits_inverted b (written_sequence o) d e).1

pub none_written : (g : Registry) (v : Tree) (d : Document) → write_by g None v ≡ Ok d → ⊥
none_written g none d e = cc
none_written g _ d e = cc

module _ (g : Registry) (inner : ℕ → Bool) where
  form_not_null : (def : Definition) (v : Tree) (d : Document) → is_null_form inner def ≡ false → write_by g (Some def) v ≡ Ok d → is_null d ≡ false
  form_not_null (scalar_shape t) v d other e =
      let (fits, is) = scalar_inverted g t v d e in
      ap is_null (sym is) ∙ scalar_not_null inner t v other fits
  form_not_null (option_shape i) v d other e = absurd cc
  form_not_null (result_shape i j) (ok v) d other e =
      let (x, is_x, is) = under_inverted (codes "Ok") (write g i v) d e in
      ap is_null (sym is)
  form_not_null (result_shape i j) (err v) d other e =
      let (x, is_x, is) = under_inverted (codes "Err") (write g j v) d e in
      ap is_null (sym is)
  form_not_null (list_shape i) (list vs) d other e = items_not_null true (write_each g i vs) d e
  form_not_null (array_shape i n) (list vs) d other e = items_not_null (has_length (Some n) (tree_count vs)) (write_each g i vs) d e
  form_not_null (struct_shape q) (structure vs) d other e = struct_not_null (is_tuple q.kind) (write_items g q.fields vs) (write_fields g q.fields vs) d e
  form_not_null (set_shape i) none d other e = absurd cc
  form_not_null (set_shape i) _ d other e = absurd cc
  form_not_null (map_shape i j) none d other e = absurd cc
  form_not_null (map_shape i j) _ d other e = absurd cc
  form_not_null (enum_shape form vs) none d other e = absurd cc
  form_not_null (enum_shape form vs) _ d other e = absurd cc
  form_not_null (transparent_shape i) none d other e = absurd cc
  form_not_null (transparent_shape i) _ d other e = absurd cc
  form_not_null _ _ d other e = absurd cc

  not_null_form : (o : Option Definition) (v : Tree) (d : Document) → on_some o (is_null_form inner) ≡ false → write_by g o v ≡ Ok d → is_null d ≡ false
  not_null_form None v d other e = absurd (none_written g v d e)
  not_null_form (Some def) v d other e = form_not_null def v d other e

pub not_null : (g : Registry) (s : ℕ) (v : Tree) (d : Document) → may_be_null g s ≡ false → write_by g (base g s) v ≡ Ok d → is_null d ≡ false
not_null [] s v d other e = absurd (none_written [] v d e)
not_null (x ∷ g) s v d other e = not_null_form (x ∷ g) (null_within (x ∷ g) (length g)) (base (x ∷ g) s) v d other e

literal_not_nothing : (l : Literal) → is_null (plain l) ≡ false → is_nothing (scalar_of_literal l) ≡ false
literal_not_nothing null_literal other = absurd cc
literal_not_nothing unit_literal other = absurd cc
literal_not_nothing _ other = refl

-- and then neither is its run
pub holds_something : (d : Document) (r : Run) → is_null d ≡ false → Comes d r → holds_nothing r ≡ false
holds_something (plain l) r other comes =
    let (n, is) = comes_plain l r comes in
    ap holds_nothing is ∙ literal_not_nothing l other
holds_something (sequence ds) r other comes =
    let (n, i, rs, is, cut, each) = comes_sequence ds r comes in
    ap holds_nothing is
holds_something (object ms) r other comes =
    let (n, i, es, is, cut, order) = comes_object ms r comes in
    ap holds_nothing is
