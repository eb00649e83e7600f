use Rattle.std.proofs.Common.{◌≡◌, ◌++◌, drop, map}
use Rattle.semantics_lines.specs.ShapeText.{all_names, shape_names}
use Rattle.shape_lines.specs.ShapeLines.{shape_line, texts}
use Rattle.shape_lines.proofs.shape_names.listed_names.Given as goal

abbrev pub invariant-lines : goal.invariant-lines
invariant-lines l = texts l.names ++ shape_names (map shape_line (drop l.line-index l.lines)) ≡ all_names (map shape_line l.lines)
