use Rattle.std.proofs.Common.{◌≡◌, ◌∙◌, ap, slice_get, length, arith}
use Rattle.shape_types.specs.Shapes.{field_of, registry}
use Rattle.event_core.specs.Metadata.{span_view}
use Rattle.laws_machine.specs.Frames.{path}
use Rattle.read_steps.specs.Stops.{told_stop}
use Rattle.read_steps.specs.Tasks.{terms_of, fields_at}
use Rattle.read_steps.specs.Views.{open_of}
use Rattle.read_steps.proofs.Tuples.{filled_more, filled_fails}
use Rattle.read_steps.proofs.fill.fill_item.Goals as goal

pub returns-in_ok-push-in-Ok-clause-goes : goal.returns-in_ok-push-in-Ok-clause-goes
returns-in_ok-push-in-Ok-clause-goes c =
    let t = terms_of c.args.task.now in
    let g = registry c.args.task.now.shapes.now in
    let count : length c.args.items.now.items ≡ c.len.result = omega (arith, c.args.items.now.ok.0, c.len.ensures) in
    filled_more g c.rules.ensures c.args.shape.0 (path t (open_of t c.args.stack.now)) (span_view c.args.span) c.args.items.now.items c.push.new.self.items (field_of c.in-Some.field.now) c.in-Ok.value
    (ap (slice_get (fields_at g c.args.shape.0)) count ∙ c.in-Some.ensures)
    c.in-Ok.ensures.exact c.in_ok-push-in-Ok.ensures.items

pub returns-in-Err-clause-goes : goal.returns-in-Err-clause-goes
returns-in-Err-clause-goes c =
    let t = terms_of c.args.task.now in
    let g = registry c.args.task.now.shapes.now in
    let count : length c.args.items.now.items ≡ c.len.result = omega (arith, c.args.items.now.ok.0, c.len.ensures) in
    filled_fails g c.rules.ensures c.args.shape.0 (path t (open_of t c.args.stack.now)) (span_view c.args.span) c.args.items.now.items (field_of c.in-Some.field.now) (told_stop c.in-Err.stop)
    (ap (slice_get (fields_at g c.args.shape.0)) count ∙ c.in-Some.ensures)
    c.in-Err.ensures.exact
