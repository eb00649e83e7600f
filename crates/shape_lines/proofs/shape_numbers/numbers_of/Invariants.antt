use Rattle.std.proofs.Common.{take}
use Rattle.shape_lines.specs.ShapeLines.{texts}
use Rattle.shape_lines.specs.ShapeNumbers.{AreNumbers}
use Rattle.shape_lines.proofs.shape_numbers.numbers_of.Given as goal

abbrev pub invariant-names : goal.invariant-names
invariant-names l = AreNumbers l.numbers (texts (take l.number l.names))
