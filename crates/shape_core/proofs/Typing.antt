-- Steps of the walks through transparent shapes, and over fields and values.
use Rattle.std.proofs.Common.{◌≡◌, ℕ, zero, suc, ◌+◌, ◌-◌, ◌<◌, ◌≤◌, List, [], ◌∷◌, length, drop, map, Option, Some, refl, ap, ◌∙◌, arith, nat_eq}
use Rattle.std.specs.Option.{option_map_or}
use Rattle.std.proofs.Math.Dec.{eqb-suc-zero, eqb-suc-suc}
use Rattle.semantics_lines.specs.Trees.{trees_of, tree_count}
use Rattle.semantics_lines.specs.Shapes.{Registry, Definition, definition_at, scalar_shape, option_shape, result_shape, list_shape, array_shape, set_shape, map_shape, struct_shape, enum_shape, transparent_shape}
use Rattle.semantics.specs.Typed.{through, base_within, fields_typed}
use Rattle.shape_core.specs.Base.{transparent_of}
use Rattle.shape_types.specs.Shapes.{field_of}
use Rattle.shape_types.specs.Trees.{tree_of}
use Rattle.shape_types.specs.declared.field.Field.{Field}
use Rattle.shape_types.specs.declared.value.Value.{Value}

-- a transparent shape is passed, any other one is where it ends
through_at : (inner : ℕ → Option Definition) (d : Definition) (o : Option ℕ) → transparent_of d ≡ o → through inner d ≡ option_map_or inner o (Some d)
through_at inner (transparent_shape s) o e = rw (← e) refl
through_at inner (scalar_shape t) o e = rw (← e) refl
through_at inner (option_shape s) o e = rw (← e) refl
through_at inner (result_shape s t) o e = rw (← e) refl
through_at inner (list_shape s) o e = rw (← e) refl
through_at inner (array_shape s n) o e = rw (← e) refl
through_at inner (set_shape s) o e = rw (← e) refl
through_at inner (map_shape s t) o e = rw (← e) refl
through_at inner (struct_shape d) o e = rw (← e) refl
through_at inner (enum_shape f vs) o e = rw (← e) refl

-- one shape on the way
pub base_step : (g : Registry) (n k s : ℕ) (d : Definition) (o : Option ℕ) → k < n → definition_at g s ≡ Some d → transparent_of d ≡ o
    → base_within g (n - k) s ≡ option_map_or (base_within g (n - (k + 1))) o (Some d)
base_step g n k s d o lt there e =
    let more : n - k ≡ suc (n - (k + 1)) = omega arith in
    rw (more, there) (through_at (base_within g (n - (k + 1))) d o e)

-- as many trees as values
pub tree_count_of : (vs : List Value) → tree_count (trees_of (map tree_of vs)) ≡ length vs
tree_count_of [] = refl
tree_count_of (v ∷ vs) = ap suc (tree_count_of vs)

-- the walk ends where both lists do
pub fields_end : (g : Registry) (fs : List Field) (vs : List Value) (i : ℕ) → i ≤ length fs → i ≡ length vs
    → nat_eq (length fs) (length vs) ≡ fields_typed g (map field_of (drop i fs)) (trees_of (map tree_of (drop i vs)))
fields_end g [] [] zero le e = refl
fields_end g (f ∷ fs) [] zero le e = eqb-suc-zero (length fs)
fields_end g fs (v ∷ vs) zero le e = absurd (omega arith)
fields_end g fs [] (suc i) le e = absurd (omega arith)
fields_end g [] (v ∷ vs) (suc i) le e = absurd (omega arith)
fields_end g (f ∷ fs) (v ∷ vs) (suc i) le e = eqb-suc-suc (length fs) (length vs) ∙ fields_end g fs vs i (omega arith) (omega arith)
