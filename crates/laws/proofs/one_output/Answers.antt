use Rattle.std.proofs.Common.{sym, ◌∙◌}
use Rattle.laws.proofs.Reread.{written_alike}
use Rattle.laws.proofs.one_output.Goals as goal

pub returns : goal.returns
returns c g root budget input other value v w valid again first second =
    written_alike g root budget input value v valid first ∙ sym (written_alike g root budget other value w again second)
