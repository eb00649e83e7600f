use Rattle.std.proofs.Common.{◌≡◌, ◌++◌, drop, map}
use Rattle.semantics_lines.specs.ShapeText.{members}
use Rattle.shape_types.specs.Shapes.{field_of}
use Rattle.shape_lines.specs.ShapeLines.{shape_line}
use Rattle.shape_lines.specs.ShapeScopes.{scope_view}
use Rattle.shape_lines.proofs.shape_members.members.Given as goal

abbrev pub invariant-lines : goal.invariant-lines
invariant-lines l = map field_of l.fields ++ members (scope_view l.scope) l.at (map shape_line (drop l.at l.lines)) ≡ members (scope_view l.scope) 0 (map shape_line l.lines)
