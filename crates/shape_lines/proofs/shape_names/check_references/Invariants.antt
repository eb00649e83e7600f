use Rattle.std.proofs.Common.{◌≡◌, true, map, take}
use Rattle.std.specs.List.{list_all}
use Rattle.semantics_lines.specs.ShapeText.{is_known}
use Rattle.shape_lines.specs.ShapeLines.{shape_line}
use Rattle.shape_lines.proofs.shape_names.check_references.Given as goal

abbrev pub invariant-lines : goal.invariant-lines
invariant-lines l = list_all (is_known l.names) (map shape_line (take l.at l.lines)) ≡ true
