use Rattle.std.proofs.Common.{◌≡◌, ◌++◌, drop, map}
use Rattle.semantics_lines.specs.ShapeText.{variants}
use Rattle.shape_types.specs.Shapes.{variant_of}
use Rattle.shape_lines.specs.ShapeLines.{shape_line}
use Rattle.shape_lines.specs.ShapeScopes.{scope_view}
use Rattle.shape_lines.proofs.shape_members.variants.Given as goal

abbrev pub invariant-lines : goal.invariant-lines
invariant-lines l = map variant_of l.found ++ variants (scope_view l.scope) (map shape_line (drop l.at l.lines)) ≡ variants (scope_view l.scope) (map shape_line l.lines)
