use Rattle.laws.proofs.Defaulting.{default_typed}
use Rattle.laws.proofs.default_is_typed.Goals as goal

pub returns : goal.returns
returns c g checked shape value is = default_typed g checked shape value is
