use Rattle.std.proofs.Common.{sym, ap, ◌∙◌}
use Rattle.read_parts.proofs.Numerals.{read_of, unsigned_read}
use Rattle.read_parts.proofs.text.whole_number.Goals as goal

pub returns-in-Ok : goal.returns-in-Ok
returns-in-Ok c = ap read_of (sym c.in-Ok.is) ∙ unsigned_read c.args.text.now _ c.parse.ensures.value.0

pub returns-in-Err : goal.returns-in-Err
returns-in-Err c = ap read_of (sym c.in-Err.is) ∙ unsigned_read c.args.text.now _ c.parse.ensures.value.0
