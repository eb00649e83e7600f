use Rattle.tape_text.proofs.LineLaws.{line_is_read}
use Rattle.tape_text.proofs.grammar.line_is_read.Goals as goal

pub returns : goal.returns
returns c = line_is_read
