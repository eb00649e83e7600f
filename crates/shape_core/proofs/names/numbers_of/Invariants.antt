use Rattle.std.proofs.Common.{take}
use Rattle.shape_core.specs.Names.{FindsShapes}
use Rattle.shape_core.proofs.names.numbers_of.Given as goal

abbrev pub invariant-shapes : goal.invariant-shapes
invariant-shapes l = FindsShapes l.numbers (take l.at l.shapes)
