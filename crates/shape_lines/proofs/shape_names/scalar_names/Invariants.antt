use Rattle.std.proofs.Common.{◌≡◌, take, map}
use Rattle.shape_types.specs.Scalars.{scalar_name}
use Rattle.shape_lines.specs.ShapeLines.{texts}
use Rattle.shape_lines.proofs.shape_names.scalar_names.Given as goal

abbrev pub invariant-loop-scalar : goal.invariant-loop-scalar
invariant-loop-scalar l = texts l.names ≡ map scalar_name (take l.scalar-index l.scalar-items)
