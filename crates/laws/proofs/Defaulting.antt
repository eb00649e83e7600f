-- The default of a shape is of that shape.
use Rattle.std.proofs.Common.{◌≡◌, ℕ, Option, Some, None, true, false, ◌&&◌, option_and_then, refl, sym, ap, ◌∙◌}
use Rattle.semantics_lines.specs.Trees.{Tree, none, list, no_trees}
use Rattle.semantics_lines.specs.Shapes.{Definition, scalar_shape, option_shape, list_shape, struct_shape, Registry}
use Rattle.semantics.specs.Registry.{is_unbuilt, IsRegistry}
use Rattle.semantics.specs.Typed.{on_some, base, option_of, item_of, length_of, has_length, typed}
use Rattle.semantics_lines.specs.Scalars.{scalar_default}
use Rattle.semantics.specs.Defaults.{default_of}
use Rattle.laws.proofs.Built.{built, base_defined, struct_declares_none}
use Rattle.laws.proofs.ScalarTypes.{default_taken, taken_typed}

definition_typed : (g : Registry) (s : ℕ) (d : Definition) (v : Tree) → base g s ≡ Some d → is_unbuilt d ≡ false → default_of d ≡ Some v → typed g s v ≡ true
definition_typed g s (scalar_shape t) v is fine e =
    let value : scalar_default t ≡ v = cc in
    ap (typed g s) (sym value) ∙ taken_typed g s t is (scalar_default t) (default_taken t)
definition_typed g s (option_shape t) v is fine e =
    let value : none ≡ v = cc in
    ap (typed g s) (sym value) ∙ ap (λ o. on_some (option_and_then option_of o) (λ i. true)) is
definition_typed g s (list_shape t) v is fine e =
    let value : list no_trees ≡ v = cc in
    ap (typed g s) (sym value) ∙ ap (λ o. has_length (option_and_then length_of o) 0 && on_some (option_and_then item_of o) (λ i. true)) is
definition_typed g s (struct_shape q) v is fine e =
    let none = struct_declares_none q fine in
    absurd cc
definition_typed g s _ v is fine e = absurd cc

by_base : (g : Registry) → IsRegistry g → (s : ℕ) (v : Tree) (o : Option Definition) → base g s ≡ o → option_and_then default_of o ≡ Some v → typed g s v ≡ true
by_base g checked s v None is e = absurd cc
by_base g checked s v (Some d) is e =
    let (t, at) = base_defined g s d is in
    definition_typed g s d v is (built g checked t d at) e

pub default_typed : (g : Registry) → IsRegistry g → (s : ℕ) (v : Tree) → option_and_then default_of (base g s) ≡ Some v → typed g s v ≡ true
default_typed g checked s v e = by_base g checked s v (base g s) refl e
