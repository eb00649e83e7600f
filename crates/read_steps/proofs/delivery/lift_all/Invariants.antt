use Rattle.std.proofs.Common.{◌≡◌, length}
use Rattle.shape_types.specs.Trees.{tree_of}
use Rattle.laws_machine.specs.Delivery.{deliver}
use Rattle.read_steps.specs.Tasks.{terms_of}
use Rattle.read_steps.specs.Views.{open_of}
use Rattle.read_steps.proofs.delivery.lift_all.Given as goal

abbrev pub invariant-options : goal.invariant-options
invariant-options l = deliver (open_of (terms_of l.task) l.stack) (tree_of l.value) ≡ deliver (open_of (terms_of l.task) l.fn.stack) (tree_of l.fn.value)

abbrev pub decreases-options : goal.decreases-options
decreases-options l = length (open_of (terms_of l.task) l.stack)
