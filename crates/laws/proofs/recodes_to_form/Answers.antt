use Rattle.laws.proofs.Readable.{recoded}
use Rattle.laws.proofs.recodes_to_form.Goals as goal

pub returns : goal.returns
returns c g checked root budget input out value document valid recodes = recoded g checked root budget input out value document valid recodes
