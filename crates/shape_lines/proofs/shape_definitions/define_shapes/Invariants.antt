use Rattle.std.proofs.Common.{map}
use Rattle.shape_types.specs.Shapes.{drafts_of}
use Rattle.semantics_lines.specs.ShapeText.{scope_of}
use Rattle.shape_lines.specs.ShapeLines.{shape_line}
use Rattle.shape_lines.proofs.Defining.{DefiningAt}
use Rattle.shape_lines.proofs.shape_definitions.define_shapes.Given as goal

abbrev pub invariant-lines : goal.invariant-lines
invariant-lines l = DefiningAt (scope_of (map shape_line l.lines)) l.lines l.at (drafts_of l.builder) l.number
