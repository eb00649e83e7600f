use Rattle.std.proofs.Common.{map, length}
use Rattle.shape_types.specs.Shapes.{drafts_of}
use Rattle.shape_lines.specs.ShapeLines.{shape_line}
use Rattle.shape_lines.specs.ShapePlaces.{place_view}
use Rattle.shape_lines.proofs.LineSteps.{LinesRead}
use Rattle.shape_lines.proofs.shape_lines.read_lines.Given as goal

abbrev pub invariant-lines : goal.invariant-lines
invariant-lines l = LinesRead l.text l.left (map shape_line l.lines) (place_view l.place) (drafts_of l.builder)

abbrev pub decreases-lines : goal.decreases-lines
decreases-lines l = length l.left
