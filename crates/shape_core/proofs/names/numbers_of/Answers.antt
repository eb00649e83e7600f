use Rattle.std.proofs.Common.{refl, ap, ◌∙◌}
use Rattle.shape_types.specs.declared.shape.Shape.{Shape}
use Rattle.shape_core.proofs.Tables.{next_found}
use Rattle.shape_core.proofs.names.numbers_of.Goals as goal

pub shapes-preserved : goal.shapes-preserved
shapes-preserved c =
    let here = c.as_str.ensures ∙ ap (λ (s : Shape). s.name) c.index-shapes-at.is in
    next_found c.args.shapes.now c.shapes.at c.shapes.at c.index-shapes-at.result c.as_str.result.now c.shapes.numbers c.add_number.new.numbers c.shapes-test.true refl here c.shapes.invariant c.in_ok-add_number.ensures
