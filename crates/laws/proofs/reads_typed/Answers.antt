use Rattle.laws.proofs.Typing.{read_typed}
use Rattle.laws.proofs.reads_typed.Goals as goal

pub returns : goal.returns
returns c g checked depth shape source run value e = read_typed g checked depth shape source run value e
