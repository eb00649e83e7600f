use Rattle.std.proofs.Common.{◌≡◌, ◌++◌, drop, map}
use Rattle.semantics_lines.specs.ShapeText.{shape_maps}
use Rattle.shape_lines.specs.ShapeLines.{shape_line}
use Rattle.shape_lines.specs.ShapeScopes.{all_maps}
use Rattle.shape_lines.proofs.shape_names.all_maps.Given as goal

abbrev pub invariant-lines : goal.invariant-lines
invariant-lines l = l.maps ++ shape_maps (map shape_line (drop l.line-index l.lines)) ≡ all_maps (map shape_line l.lines)
