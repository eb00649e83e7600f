-- What there is behind an event, as the definitions see it.
use Rattle.shape_types.specs.Trees.{tree_of}
use Rattle.laws_machine.specs.Frames.{Frames}
use Rattle.laws_machine.specs.Delivery as machine
use Rattle.read_steps.specs.declared.steps.Status.{Status}
use Rattle.read_steps.specs.declared.steps.Status.TheVariants as status

-- what is open, or the whole value
abbrev pub status_of : Status → Frames → machine.Status
status_of status.Going fs = machine.going fs
status_of (status.Complete v) fs = machine.complete (tree_of v)
