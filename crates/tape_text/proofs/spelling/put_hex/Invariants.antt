use Rattle.std.proofs.Common.{◌≡◌, ◌++◌, take}
use Rattle.semantics_lines.specs.Lines.{hex}
use Rattle.tape_text.proofs.spelling.put_hex.Given as goal

abbrev pub invariant-items : goal.invariant-items
invariant-items l = l.bytes.items ≡ l.fn.bytes.items ++ hex (take l.item-index l.items)
