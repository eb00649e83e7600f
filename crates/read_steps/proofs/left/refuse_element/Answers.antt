use Rattle.std.proofs.Common.{◌≡◌, ◌∙◌, length, map, slice_get, Some, ap, arith}
use Rattle.std.proofs.lemmas.List.{length-map}
use Rattle.semantics_lines.specs.Faults.{too_deep}
use Rattle.event_core.specs.Events.{event_of}
use Rattle.event_core.specs.Metadata.{span_view}
use Rattle.laws_machine.specs.Frames.{Frames}
use Rattle.shape_types.specs.Shapes.{field_of, registry}
use Rattle.shape_types.specs.Trees.{tree_of}
use Rattle.read_steps.specs.Refusals.{fault_in}
use Rattle.read_steps.specs.Stops.{told_stop}
use Rattle.read_steps.specs.Tasks.{terms_of, fields_at}
use Rattle.read_steps.specs.Views.{outer_of, tuple_of}
use Rattle.read_steps.proofs.LeftParts.{element_left}
use Rattle.read_steps.proofs.Telling.{fault_told}
use Rattle.read_steps.proofs.left.refuse_element.Goals as goal

pub returns-in-Some-clause-exact : goal.returns-in-Some-clause-exact
returns-in-Some-clause-exact c =
    let t = terms_of c.args.task.now in
    let g = registry c.args.task.now.shapes.now in
    let part = c.args.part.now in
    let before = span_view c.args.before in
    let outer = outer_of t c.args.stack.now in
    let count : length (map tree_of part.front.items) ≡ c.len.result = omega (arith, length-map part.front.items tree_of, part.front.ok.0, c.len.ensures) in
    let there : slice_get (fields_at g part.shape.0) (length (map tree_of part.front.items)) ≡ Some (field_of c.in-Some.field-0.now) = ap (slice_get (fields_at g part.shape.0)) count ∙ c.in-Some.ensures in
    fault_told (told_stop c.too_deep.result) _ _ _ c.too_deep.ensures.is
    (ap (λ (fs : Frames). fault_in t fs (too_deep t.limit) before) c.requires.inside)
    (element_left t (event_of c.args.event.now) before (tuple_of t part) outer (field_of c.in-Some.field-0.now) c.requires.leaves there)
