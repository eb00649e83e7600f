use Rattle.laws_machine.proofs.Loops.{loop_keeps}
use Rattle.laws_machine.proofs.loops_keep.Goals as goal

pub returns : goal.returns
returns c = loop_keeps
