use Rattle.std.proofs.Common.{◌∙◌, ap, map, arith}
use Rattle.shape_types.specs.Shapes.{registry}
use Rattle.event_core.specs.Metadata.{span_view}
use Rattle.laws_machine.specs.Frames.{path}
use Rattle.read_steps.specs.Filled.{taken_of}
use Rattle.read_steps.specs.Tasks.{terms_of}
use Rattle.read_steps.specs.Views.{open_of, told_of}
use Rattle.read_steps.proofs.Gathers.{next_value, value_fails}
use Rattle.read_steps.proofs.fill.gather_values.Goals as goal

pub returns-in-Err-clause-exact : goal.returns-in-Err-clause-exact
returns-in-Err-clause-exact c =
    let t = terms_of c.args.task.now in
    let here = c.take_value-told.ensures.value ∙ ap taken_of (c.fields.invariant.to_come c.fields.place (omega arith)) in
    value_fails (registry c.args.task.now.shapes.now) c.args.fields.now c.fields.place c.args.shape.0 c.fields.values.items (map told_of c.args.filled.now.items) (path t (open_of t c.args.stack.now)) (span_view c.args.span) c.index-fields-place.result _
    (omega arith) c.index-fields-place.is here _ _ c.in-Err.ensures.exact c.fields.invariant.told

pub fields-preserved : goal.fields-preserved
fields-preserved c =
    let t = terms_of c.args.task.now in
    let here = c.take_value-told.ensures.value ∙ ap taken_of (c.fields.invariant.to_come c.fields.place (omega arith)) in
    record {
      told = next_value (registry c.args.task.now.shapes.now) c.args.fields.now c.fields.place c.args.shape.0 c.fields.values.items (map told_of c.args.filled.now.items) (path t (open_of t c.args.stack.now)) (span_view c.args.span) c.index-fields-place.result _
          (omega arith) c.index-fields-place.is here _ _ _ c.in-Ok.ensures.exact c.in_ok-push.ensures.items c.fields.invariant.told;
      to_come = λ j le. c.take_value-told.ensures.others j (omega (arith, le)) ∙ c.fields.invariant.to_come j (omega (arith, le));
    }
