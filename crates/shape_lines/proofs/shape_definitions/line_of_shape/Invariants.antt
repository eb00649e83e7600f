use Rattle.std.proofs.Common.{◌≡◌, ◌≤◌, map, take}
use Rattle.semantics_lines.specs.ShapeText.{shape_count}
use Rattle.shape_lines.specs.ShapeLines.{shape_line}
use Rattle.shape_lines.proofs.shape_definitions.line_of_shape.Given as goal

abbrev pub invariant-lines : goal.invariant-lines
invariant-lines l = record {
  count : l.number ≡ shape_count (map shape_line (take l.at l.lines));
  below : l.number ≤ l.shape.0;
}
