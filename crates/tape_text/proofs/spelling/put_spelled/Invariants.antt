use Rattle.std.proofs.Common.{◌≡◌, ◌++◌, take}
use Rattle.std.specs.List.{flat_map}
use Rattle.semantics_lines.specs.Lines.{escape}
use Rattle.tape_text.proofs.spelling.put_spelled.Given as goal

abbrev pub invariant-bytes : goal.invariant-bytes
invariant-bytes l = l.bytes.items ≡ l.fn.bytes.items ++ flat_map escape (take l.byte-index l.text)
