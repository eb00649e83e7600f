use Rattle.std.proofs.Common.{◌≡◌, ◌-◌, length, map}
use Rattle.event_core.specs.Metadata.{span_view}
use Rattle.laws_machine.specs.Frames.{path}
use Rattle.shape_types.specs.Shapes.{registry}
use Rattle.shape_types.specs.Trees.{tree_of}
use Rattle.read_steps.specs.Filling.{filled_at}
use Rattle.read_steps.specs.Tasks.{terms_of, fields_at}
use Rattle.read_steps.specs.Views.{open_of}
use Rattle.read_steps.proofs.fill.fill_items.Given as goal

abbrev pub invariant-items : goal.invariant-items
invariant-items l =
    filled_at (registry l.task.shapes.now) l.shape.0 (map tree_of l.items.items) (path (terms_of l.task) (open_of (terms_of l.task) l.stack)) (span_view l.span)
    ≡ filled_at (registry l.task.shapes.now) l.shape.0 (map tree_of l.fn.items.items) (path (terms_of l.task) (open_of (terms_of l.task) l.stack)) (span_view l.span)

abbrev pub decreases-items : goal.decreases-items
decreases-items l = length (fields_at (registry l.task.shapes.now) l.shape.0) - length l.items.items
