use Rattle.std.proofs.Common.{◌∙◌, map, ap}
use Rattle.std.proofs.lemmas.List.{take_all}
use Rattle.shape_types.specs.Scalars.{scalar_name, all_scalars}
use Rattle.shape_lines.proofs.Names.{all_scalar_texts}
use Rattle.shape_lines.proofs.shape_names.scalar_names.Goals as goal

pub returns : goal.returns
returns c = c.loop-scalar.invariant ∙ ap (map scalar_name) (take_all c.loop-scalar.scalar-index all_scalars c.loop-scalar-test.false) ∙ all_scalar_texts
