use Rattle.std.proofs.Common.{List, option_map, sym, ap, ◌∙◌}
use Rattle.std.specs.Prelude.{bytes_eq}
use Rattle.std.specs.List.{position}
use Rattle.std.specs.Option.{option_copied}
use Rattle.shape_types.specs.Shapes.{registry}
use Rattle.shape_types.specs.declared.shape.Shape.{Shape}
use Rattle.shape_core.proofs.Tables.{shape_found}
use Rattle.shape_core.proofs.shapes.Shapes.find.Goals as goal

pub returns-in_err-number : goal.returns-in_err-number
returns-in_err-number c =
    let name = c.args.name.now in
    ap (option_map (λ id. id.0)) c.from_residual.ensures ∙ sym (ap option_copied c.in_err-number.was) ∙ c.get.ensures.value
    ∙ shape_found c.self.inside.shapes c.self.inside.numbers c.self.invariant.finds name
    ∙ ap (λ (shapes : List Shape). position (λ s. bytes_eq s.name name) (registry shapes)) c.self.view_is

pub returns : goal.returns
returns c =
    let name = c.args.name.now in
    sym (ap option_copied c.in_ok-number.was) ∙ c.get.ensures.value
    ∙ shape_found c.self.inside.shapes c.self.inside.numbers c.self.invariant.finds name
    ∙ ap (λ (shapes : List Shape). position (λ s. bytes_eq s.name name) (registry shapes)) c.self.view_is
