use Rattle.laws_lines.proofs.LineLaws.{one_content}
use Rattle.laws_lines.proofs.one_event.Goals as goal

pub returns : goal.returns
returns c a b line x y = one_content a b line x y
