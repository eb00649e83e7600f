-- The names of the scalars.
use Rattle.std.proofs.Common.{◌≡◌, map, refl}
use Rattle.shape_types.specs.Scalars.{scalar_name, all_scalars}
use Rattle.semantics_lines.specs.Scalars.{scalar_drafts}
use Rattle.shape_lines.specs.ShapeLines.{scalar_texts}

pub all_scalar_texts : map scalar_name all_scalars ≡ scalar_texts
unfolding scalar_drafts
all_scalar_texts = refl
