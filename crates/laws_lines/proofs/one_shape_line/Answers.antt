use Rattle.std.proofs.Common.{ap, ◌∙◌}
use Rattle.laws_lines.specs.ShapeLineReading.{line_of}
use Rattle.laws_lines.proofs.ShapeLineLaws.{line-takes, line-again}
use Rattle.laws_lines.proofs.ShapeTextLines.{one_spelling}
use Rattle.laws_lines.proofs.one_shape_line.Goals as goal

pub returns : goal.returns
returns c = (λ l m h k e. one_spelling l m h k e, λ text l. (line-takes text l, λ s. ap line_of s.1 ∙ line-again l s.0))
