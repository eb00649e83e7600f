use Rattle.tape_text.proofs.Small.{all_small}
use Rattle.tape_text.proofs.writer.TapeWriter.add_bytes.Goals as goal

pub returns-clause-small : goal.returns-clause-small
returns-clause-small c = all_small c.args.items.now c.type_inv.items
