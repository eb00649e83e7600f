-- What is said of a value at a shape depends on what the shape is made of alone, but for its transparent layers.
use Rattle.std.proofs.Common.{◌≡◌, ℕ, suc, ◌+◌, ◌≤◌, Option, Some, true, cond, Ok, Err, codes, option_and_then, refl, sym, ap, ◌∙◌, subst, arith}
use Rattle.semantics_lines.specs.Trees.{Tree, unit_value, bool_value, char_value, unsigned, signed, text, none, some, ok, err, list, mapping, structure, variant, Trees, tree_count}
use Rattle.semantics_lines.specs.Shapes.{Definition, is_tuple, transparent_shape, Registry, definition_at}
use Rattle.semantics.specs.Registry.{IsRegistry}
use Rattle.semantics_lines.specs.Calls.{null_literal, bool_literal, char_literal, str_literal}
use Rattle.semantics_lines.specs.Documents.{Document, plain}
use Rattle.semantics.specs.Typed.{base, scalar_of, option_of, ok_of, err_of, item_of, length_of, struct_of, takes_unit, takes_bool, takes_char, takes_unsigned, takes_signed, takes_text, has_length}
use Rattle.semantics.specs.Writing.{Written, unfit, of_form, where_fits, written_plain, unsigned_literal, signed_literal, written_sequence, written_object, written_under, write, write_each, write_items, write_fields}
use Rattle.semantics.specs.Depths.{of_part, layers, depth, deepest, deepest_field}
use Rattle.semantics.specs.Validity.{AlikeText, OnPart, Alike, EachAlike, FieldsAlike}
use Rattle.laws.proofs.Built.{is_opaque, base_is}
use Rattle.laws.proofs.Bases.{base_inner, layers_inner, layers_none}

-- what a value is written as, where this is what its shape is made of
abbrev pub write_by : Registry → Option Definition → Tree → Written Document
write_by g o unit_value = of_form (unfit o) (option_and_then scalar_of o) (λ t. written_plain (takes_unit t) null_literal)
write_by g o (bool_value b) = of_form (unfit o) (option_and_then scalar_of o) (λ t. written_plain (takes_bool t) (bool_literal b))
write_by g o (char_value c) = of_form (unfit o) (option_and_then scalar_of o) (λ t. written_plain (takes_char t) (char_literal c))
write_by g o (unsigned n) = of_form (unfit o) (option_and_then scalar_of o) (λ t. written_plain (takes_unsigned n t) (unsigned_literal t n))
write_by g o (signed z) = of_form (unfit o) (option_and_then scalar_of o) (λ t. written_plain (takes_signed z t) (signed_literal t z))
write_by g o (text p) = of_form (unfit o) (option_and_then scalar_of o) (λ t. written_plain (takes_text t) (str_literal p.bytes))
write_by g o none = of_form (unfit o) (option_and_then option_of o) (λ i. Ok (plain null_literal))
write_by g o (some v) = of_form (unfit o) (option_and_then option_of o) (λ i. write g i v)
write_by g o (ok v) = of_form (unfit o) (option_and_then ok_of o) (λ i. written_under (codes "Ok") (write g i v))
write_by g o (err v) = of_form (unfit o) (option_and_then err_of o) (λ i. written_under (codes "Err") (write g i v))
write_by g o (list vs) = of_form (unfit o) (option_and_then item_of o) (λ i. where_fits (has_length (option_and_then length_of o) (tree_count vs)) (written_sequence (write_each g i vs)))
write_by g o (structure vs) = of_form (unfit o) (option_and_then struct_of o) (λ d. cond (is_tuple d.kind) (written_sequence (write_items g d.fields vs)) (written_object (write_fields g d.fields vs)))
write_by g o (mapping ps) = Err (unfit o)
write_by g o (variant i vs) = Err (unfit o)

pub write_is : (g : Registry) (s : ℕ) (v : Tree) → write g s v ≡ write_by g (base g s) v
write_is g s unit_value = refl
write_is g s _ = refl

-- how deep a value is, but for the layers
abbrev pub depth_by : Registry → Option Definition → Tree → ℕ
depth_by g o (some v) = suc (of_part (option_and_then option_of o) (λ i. depth g i v))
depth_by g o (ok v) = suc (of_part (option_and_then ok_of o) (λ i. depth g i v))
depth_by g o (err v) = suc (of_part (option_and_then err_of o) (λ i. depth g i v))
depth_by g o (list vs) = suc (of_part (option_and_then item_of o) (λ i. deepest g i vs))
depth_by g o (structure vs) = suc (of_part (option_and_then struct_of o) (λ d. deepest_field g d.fields vs))
depth_by g o _ = 1

pub depth_is : (g : Registry) (s : ℕ) (v : Tree) → depth g s v ≡ layers g s + depth_by g (base g s) v
depth_is g s (some v) = refl
depth_is g s _ = refl

-- no value has no depth
pub positive : (g : Registry) (o : Option Definition) (v : Tree) → 1 ≤ depth_by g o v
positive g o (some v) = omega arith
positive g o _ = omega arith

-- one value, where this is what its shape is made of
abbrev pub alike_by : Registry → Option Definition → Tree → Tree → Type 0
alike_by g o (text t) w = AlikeText t w
alike_by g o (some v) w = OnPart (option_and_then option_of o) (λ i. (w' : Tree) × (w ≡ some w') × Alike g i v w')
alike_by g o (ok v) w = OnPart (option_and_then ok_of o) (λ i. (w' : Tree) × (w ≡ ok w') × Alike g i v w')
alike_by g o (err v) w = OnPart (option_and_then err_of o) (λ i. (w' : Tree) × (w ≡ err w') × Alike g i v w')
alike_by g o (list vs) w = OnPart (option_and_then item_of o) (λ i. (ws : Trees) × (w ≡ list ws) × EachAlike g i vs ws)
alike_by g o (structure vs) w = OnPart (option_and_then struct_of o) (λ d. (ws : Trees) × (w ≡ structure ws) × FieldsAlike g d.fields vs ws)
alike_by g o v w = w ≡ v

alike_is : (g : Registry) (s : ℕ) (v w : Tree) → alike_by g (base g s) v w → Alike g s v w
alike_is g s (text t) w alike = alike
alike_is g s _ w alike = alike

of_alike : (g : Registry) (s : ℕ) (v w : Tree) → Alike g s v w → alike_by g (base g s) v w
of_alike g s (text t) w alike = alike
of_alike g s _ w alike = alike

module _ (g : Registry) (s : ℕ) (d : Definition) (at : definition_at g s ≡ Some d) (opaque : is_opaque d ≡ true) where
  pub write_here : (v : Tree) → write g s v ≡ write_by g (Some d) v
  write_here v = write_is g s v ∙ ap (λ o. write_by g o v) (base_is g s d at opaque)

  pub depth_here : (v : Tree) → depth g s v ≡ depth_by g (Some d) v
  depth_here v =
      let bare : depth_by g (base g s) v ≡ depth_by g (Some d) v = ap (λ o. depth_by g o v) (base_is g s d at opaque) in
      let flat = layers_none g s d at opaque in
      depth_is g s v ∙ omega (arith, bare, flat)

  pub alike_here : (v w : Tree) → alike_by g (Some d) v w → Alike g s v w
  alike_here v w alike = alike_is g s v w (subst (λ o. alike_by g o v w) (sym (base_is g s d at opaque)) alike)

module _ (g : Registry) (checked : IsRegistry g) (s t : ℕ) (at : definition_at g s ≡ Some (transparent_shape t)) where
  -- a transparent shape has the values of its inner one
  pub write_inner : (v : Tree) → write g s v ≡ write g t v
  write_inner v = write_is g s v ∙ ap (λ o. write_by g o v) (base_inner g checked s t at) ∙ sym (write_is g t v)

  -- and they are one deeper at it
  pub depth_inner : (v : Tree) → depth g s v ≡ suc (depth g t v)
  depth_inner v =
      let bare : depth_by g (base g s) v ≡ depth_by g (base g t) v = ap (λ o. depth_by g o v) (base_inner g checked s t at) in
      let deeper = layers_inner g checked s t at in
      let inner = depth_is g t v in
      depth_is g s v ∙ omega (arith, bare, deeper, inner)

  pub alike_inner : (v w : Tree) → Alike g t v w → Alike g s v w
  alike_inner v w alike = alike_is g s v w (subst (λ o. alike_by g o v w) (sym (base_inner g checked s t at)) (of_alike g t v w alike))
