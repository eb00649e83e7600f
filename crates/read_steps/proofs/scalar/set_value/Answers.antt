use Rattle.event_core.specs.Events.{scalar_of}
use Rattle.event_core.specs.Kinds.{scalar_name}
use Rattle.event_core.specs.Metadata.{span_view}
use Rattle.shape_types.specs.Scalars.{scalar_type_of}
use Rattle.laws_reading.specs.Values.{target_of}
use Rattle.laws_machine.specs.Delivery.{here}
use Rattle.laws_machine.specs.Frames.{path}
use Rattle.read_steps.specs.Stops.{told_stop}
use Rattle.read_steps.specs.Tasks.{terms_of}
use Rattle.read_steps.specs.Views.{open_of}
use Rattle.read_steps.proofs.Setting.{value_set, value_refused}
use Rattle.read_steps.proofs.scalar.set_value.Goals as goal

pub returns-in-Ok-clause-exact : goal.returns-in-Ok-clause-exact
returns-in-Ok-clause-exact c =
    let t = terms_of c.args.task.now in
    value_set (target_of t c.args.shape.0 (scalar_type_of c.args.target)) (scalar_of c.args.scalar) (path t (open_of t c.args.stack.now)) (here (span_view c.args.span))
    (scalar_name c.args.scalar) c.in-Ok.value c.in-Ok.ensures

pub returns-in-Err-clause-exact : goal.returns-in-Err-clause-exact
returns-in-Err-clause-exact c =
    let t = terms_of c.args.task.now in
    value_refused (target_of t c.args.shape.0 (scalar_type_of c.args.target)) (scalar_of c.args.scalar) (path t (open_of t c.args.stack.now)) (here (span_view c.args.span))
    (scalar_name c.args.scalar) c.in-Err.kind (told_stop c.refused_set.result) c.in-Err.ensures c.refused_set.ensures.is c.refused_set.ensures.memory
