use Rattle.laws.proofs.ShapeTextFaults.{one_fault}
use Rattle.laws.proofs.one_shape_text_fault.Goals as goal

pub returns : goal.returns
returns c text line other kind also a b = one_fault text line other kind also a b
