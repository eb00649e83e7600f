use Rattle.std.proofs.Common.{◌≡◌, [], map, ℕ, ◌≤◌, drop}
use Rattle.semantics.specs.Places.{below}
use Rattle.shape_types.specs.Shapes.{field_of, registry}
use Rattle.shape_types.specs.Trees.{tree_of}
use Rattle.event_core.specs.Metadata.{span_view}
use Rattle.laws_machine.specs.Frames.{path}
use Rattle.read_steps.specs.Filling.{values_from}
use Rattle.read_steps.specs.Tasks.{terms_of}
use Rattle.read_steps.specs.Views.{open_of, told_of}
use Rattle.read_steps.proofs.fill.gather_values.Given as goal

abbrev pub invariant-fields : goal.invariant-fields
invariant-fields l = record {
  told : values_from (registry l.task.shapes.now) (map field_of (drop l.place l.fields)) l.shape.0 l.place (map tree_of l.values.items) (map told_of l.fn.filled.items) (path (terms_of l.task) (open_of (terms_of l.task) l.stack)) (span_view l.span)
      ≡ values_from (registry l.task.shapes.now) (map field_of l.fields) l.shape.0 0 [] (map told_of l.fn.filled.items) (path (terms_of l.task) (open_of (terms_of l.task) l.stack)) (span_view l.span);
  to_come : (j : ℕ) → l.place ≤ j → below j (map told_of l.filled.items) ≡ below j (map told_of l.fn.filled.items);
}
