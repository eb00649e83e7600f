-- What stays the same while a value is read, as the definitions see it.
use Rattle.std.specs.Prelude.{ℕ, List, [], Option, Some, Bool, false}
use Rattle.semantics_lines.specs.Shapes.{Field, Definition, struct_shape, Registry, definition_at}
use Rattle.semantics.specs.Reading.{Side}
use Rattle.shape_types.specs.Shapes.{registry}
use Rattle.laws_reading.specs.Options.{Sides}
use Rattle.laws_reading.specs.Values.{Terms}
use Rattle.read_steps.specs.declared.task.Task.{Task}
use Rattle.read_steps.specs.declared.task.Sides.{Sides as DeclaredSides}
use Rattle.read_steps.specs.declared.task.Side.{Side as DeclaredSide}

-- how values are read
abbrev pub terms_of : Task → Terms
terms_of t = record { setting = record { registry = registry t.shapes.now; borrow = t.borrow; describes_itself = t.describes_itself }; limit = t.limit }

-- the shapes of both sides of a result
abbrev pub sides_view : DeclaredSides → Sides
sides_view s = record { ok_shape = s.ok.0; err_shape = s.err.0 }

-- the name and the shape of one side
abbrev pub side_view : DeclaredSide → Side
side_view s = record { name = s.name.now; shape = s.shape.0 }

-- the fields of a struct, of which another shape has none
abbrev pub fields_in : Option Definition → List Field
fields_in (Some (struct_shape d)) = d.fields
fields_in _ = []

-- whether a struct refuses unknown keys
abbrev pub denies_in : Option Definition → Bool
denies_in (Some (struct_shape d)) = d.deny
denies_in _ = false

-- the same by the number of a shape
abbrev pub fields_at : Registry → ℕ → List Field
fields_at g s = fields_in (definition_at g s)

abbrev pub denies_at : Registry → ℕ → Bool
denies_at g s = denies_in (definition_at g s)
