use Rattle.std.proofs.Common.{◌≡◌, arith, refl}
use Rattle.semantics_lines.specs.Scalars.{scalar_drafts}
use Rattle.shape_types.proofs.builder.scalar_drafts.Goals as goal

pub returns : goal.returns
unfolding scalar_drafts
returns c = let all : c.loop-scalar.scalar-index ≡ 17 = omega arith in rw (c.loop-scalar.invariant, all) refl
