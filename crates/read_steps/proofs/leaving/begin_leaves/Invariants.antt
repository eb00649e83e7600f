use Rattle.std.proofs.Common.{◌≡◌}
use Rattle.event_core.specs.Events.{event_of}
use Rattle.laws_machine.specs.Leaves.{begin_leaves}
use Rattle.read_steps.specs.Tasks.{terms_of}
use Rattle.read_steps.proofs.leaving.begin_leaves.Given as goal

abbrev pub invariant-parts : goal.invariant-parts
invariant-parts l = begin_leaves (terms_of l.task) (event_of l.event) l.wanted.depth l.wanted.shape.0 ≡ begin_leaves (terms_of l.task) (event_of l.event) l.fn.depth l.fn.shape.0

abbrev pub decreases-parts : goal.decreases-parts
decreases-parts l = l.wanted.depth
