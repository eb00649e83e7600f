use Rattle.laws_lines.proofs.OneTape.{one_tape}
use Rattle.laws_lines.proofs.one_tape.Goals as goal

pub returns : goal.returns
returns c events other input first again = one_tape events other input first again
