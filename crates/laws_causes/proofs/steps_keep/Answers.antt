use Rattle.laws_causes.proofs.Stops.{steps_keep}
use Rattle.laws_causes.proofs.steps_keep.Goals as goal

pub returns : goal.returns
returns c = steps_keep
