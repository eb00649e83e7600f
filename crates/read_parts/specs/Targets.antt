-- What a scalar is set into, as the definitions see it.
use Rattle.std.specs.Prelude.{ℕ, List}
use Rattle.semantics_lines.specs.Shapes.{ScalarType}
use Rattle.semantics_lines.specs.Faults.{ShapeLabel}
use Rattle.shape_types.specs.Scalars.{scalar_type_of}
use Rattle.read_parts.specs.declared.target.Target.{Target}

-- the scalar type
abbrev pub target_type : Target → ScalarType
target_type t = scalar_type_of t.scalar

-- the number and the name of the shape
abbrev pub target_shape : Target → ShapeLabel
target_shape t = record { number = t.shape.0; name = t.name.now }

-- what the event is, in a word
abbrev pub target_event : Target → List ℕ
target_event t = t.event.now
