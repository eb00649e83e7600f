use Rattle.std.proofs.Common.{refl}
use Rattle.shape_lines.proofs.Numbers.{next_numbered}
use Rattle.shape_lines.proofs.shape_numbers.numbers_of.Goals as goal

pub names-preserved : goal.names-preserved
names-preserved c = next_numbered c.args.names.now c.names.number _ _ c.names.numbers c.add_number.new.numbers c.names-test.true refl c.names.invariant c.in_ok-add_number.ensures
