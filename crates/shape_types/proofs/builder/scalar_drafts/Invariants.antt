use Rattle.std.proofs.Common.{◌≡◌, take, map}
use Rattle.shape_types.specs.Scalars.{scalar_draft, all_scalars}
use Rattle.shape_types.specs.Shapes.{drafts_of}
use Rattle.shape_types.proofs.builder.scalar_drafts.Given as goal

abbrev pub invariant-loop-scalar : goal.invariant-loop-scalar
invariant-loop-scalar l = drafts_of l.drafts.items ≡ map scalar_draft (take l.scalar-index all_scalars)
