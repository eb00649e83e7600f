use Rattle.std.proofs.Common.{◌∙◌, map, Ok, sym, ap}
use Rattle.shape_types.specs.Shapes.{registry}
use Rattle.shape_types.specs.Trees.{tree_of}
use Rattle.event_core.specs.Metadata.{span_view}
use Rattle.laws_machine.specs.Frames.{path}
use Rattle.read_steps.specs.Stops.{told_stop}
use Rattle.read_steps.specs.Tasks.{terms_of}
use Rattle.read_steps.specs.Views.{open_of, got_of}
use Rattle.read_steps.proofs.Gathers.{gathered_is, gathered_fails}
use Rattle.read_steps.proofs.fill.gather.Goals as goal

pub returns-in-Ok-clause-exact : goal.returns-in-Ok-clause-exact
returns-in-Ok-clause-exact c =
    let t = terms_of c.args.task.now in
    gathered_is (registry c.args.task.now.shapes.now) c.rules.ensures c.args.shape.0 (got_of 0 c.args.filled.items) (path t (open_of t c.args.stack.now)) (span_view c.args.span) (map tree_of c.in-Ok.values) c.in-Ok.ensures.exact
    ∙ ap Ok (sym c.structure.ensures)

pub returns-clause-exact : goal.returns-clause-exact
returns-clause-exact c =
    let t = terms_of c.args.task.now in
    gathered_fails (registry c.args.task.now.shapes.now) c.rules.ensures c.args.shape.0 (got_of 0 c.args.filled.items) (path t (open_of t c.args.stack.now)) (span_view c.args.span) (told_stop c.in-Err.stop) c.in-Err.ensures.exact
