use Rattle.laws.proofs.ShapeTextLaws.{one_meaning, no_fault}
use Rattle.laws.proofs.one_shape_text.Goals as goal

pub returns : goal.returns
returns c text a x = (λ b y. one_meaning text a b x y, no_fault text a x)
