use Rattle.laws.proofs.Fitting.{permuted_fits, written_fits}
use Rattle.laws.proofs.Taped.{form_taped}
use Rattle.laws.proofs.forms_are_tapes.Goals as goal

pub returns : goal.returns
returns c g checked root value document permuted texts written order =
    form_taped permuted (permuted_fits document permuted order (written_fits g checked root value document texts written))
