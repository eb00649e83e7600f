use Rattle.shape_types.proofs.Drafts.{scalars_hold}
use Rattle.shape_types.proofs.builder.DraftsBuilder.new.Goals as goal

pub invariant_of-result : goal.invariant_of-result
invariant_of-result c = scalars_hold _ c.in_ok-drafts.ensures
