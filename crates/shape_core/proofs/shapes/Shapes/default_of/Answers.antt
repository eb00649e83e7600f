use Rattle.std.proofs.Common.{option_map, sym, ap, ◌∙◌}
use Rattle.std.specs.Option.{option_copied}
use Rattle.shape_types.specs.Shapes.{definition_of, registry}
use Rattle.shape_core.proofs.Undeclared.{base_undeclared}
use Rattle.shape_core.proofs.shapes.Shapes.default_of.Goals as goal

pub default_of-requires : goal.default_of-requires
default_of-requires c =
    base_undeclared (registry c.args.self.now) c.rules.ensures c.args.id.0 (definition_of c.in-Some.def.now)
    (sym c.base.ensures ∙ ap (λ o. option_map definition_of (option_copied o)) c.in-Some.is)
