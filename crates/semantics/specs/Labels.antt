-- How errors name the shapes of a registry.
use Rattle.std.specs.Prelude.{ℕ, List, [], option_map, unwrap_or, slice_get}
use Rattle.semantics_lines.specs.Shapes.{Registry}
use Rattle.semantics_lines.specs.Faults.{ShapeLabel}

-- the name of the shape of this number, and none where there is no such shape
abbrev pub name_at : Registry → ℕ → List ℕ
name_at g s = unwrap_or (option_map (λ shape. shape.name) (slice_get g s)) []

-- its number and its name
abbrev pub label_at : Registry → ℕ → ShapeLabel
label_at g s = record { number = s; name = name_at g s }
