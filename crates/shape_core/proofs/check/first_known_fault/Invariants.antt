use Rattle.semantics.specs.Registry.{NoFaultBelow}
use Rattle.shape_types.specs.Shapes.{drafts_of}
use Rattle.shape_core.proofs.check.first_known_fault.Given as goal

abbrev pub invariant-shapes : goal.invariant-shapes
invariant-shapes l = NoFaultBelow (drafts_of l.drafts) l.at
