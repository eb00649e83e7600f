use Rattle.std.proofs.Common.{◌≡◌, drop, map}
use Rattle.semantics.specs.Registry.{misplaces}
use Rattle.shape_types.specs.Shapes.{field_of}
use Rattle.shape_core.proofs.kinds.misplaces.Given as goal

abbrev pub invariant-loop-place : goal.invariant-loop-place
invariant-loop-place l = misplaces l.place (map field_of (drop l.place l.fields)) ≡ misplaces 0 (map field_of l.fields)
