use Rattle.tape_text.proofs.LineLaws.{one_event}
use Rattle.tape_text.proofs.grammar.one_line_one_event.Goals as goal

pub returns : goal.returns
returns c = one_event
