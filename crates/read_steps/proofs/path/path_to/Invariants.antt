use Rattle.std.proofs.Common.{◌≡◌, take, reverse}
use Rattle.event_core.specs.Faults.{path_of}
use Rattle.laws_machine.specs.Frames.{path}
use Rattle.read_steps.specs.Tasks.{terms_of}
use Rattle.read_steps.specs.Views.{below_of}
use Rattle.read_steps.proofs.path.path_to.Given as goal

abbrev pub invariant-frames : goal.invariant-frames
invariant-frames l = path_of l.way ≡ path (terms_of l.task) (below_of (terms_of l.task) (reverse (take l.frame-index l.place.stack.now.below.items)))
