use Rattle.std.proofs.Common.{sym, ◌∙◌}
use Rattle.event_core.specs.Events.{event_of}
use Rattle.read_steps.specs.Tasks.{terms_of}
use Rattle.read_steps.proofs.Leavings.{leaves_here}
use Rattle.read_steps.proofs.leaving.begin_leaves.Goals as goal

pub returns : goal.returns
returns c =
    let wanted = c.descend.new.wanted in
    sym (leaves_here (terms_of c.args.task.now) (event_of c.args.event.now) wanted.depth wanted.shape.0 (c.descend.ensures.last c.parts-test.false))
    ∙ c.descend.ensures.same
    ∙ c.parts.invariant
