use Rattle.read_parts.proofs.Characters.{char_read, char_refused}
use Rattle.read_parts.proofs.text.char_of.Goals as goal

pub returns-in-Ok : goal.returns-in-Ok
returns-in-Ok c = char_read c.args.text.now _ c.utf8.text (rw c.in-Ok.is at c.parse.ensures.value)

pub returns-in-Err : goal.returns-in-Err
returns-in-Err c = char_refused c.args.text.now c.utf8.text (rw c.in-Err.is at c.parse.ensures.value)
