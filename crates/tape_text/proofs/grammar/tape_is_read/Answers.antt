use Rattle.tape_text.proofs.TapeLaws.{tape_is_read}
use Rattle.tape_text.proofs.grammar.tape_is_read.Goals as goal

pub returns : goal.returns
returns c = tape_is_read
