use Rattle.laws.proofs.Readable.{readable}
use Rattle.laws.proofs.valid_is_readable.Goals as goal

pub returns : goal.returns
returns c g checked root budget input value document valid = readable g checked root budget input value document valid
