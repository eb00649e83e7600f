use Rattle.std.proofs.Common.{refl}
use Rattle.std.specs.Fmt.{digits}
use Rattle.semantics_lines.specs.Scalars.{scalar_drafts}
use Rattle.shape_text_tests.proofs.variant_rows.Goals as goal

pub returns : goal.returns
unfolding digits scalar_drafts
returns c = record {
  spelled = refl;
  said = refl;
}
