use Rattle.std.proofs.Common.{◌≡◌, Bool, sym, ap, ◌∙◌, subst}
use Rattle.std.specs.Prelude.{bytes_eq, IfOk}
use Rattle.semantics.specs.Registry.{has_pair, repeats_variant}
use Rattle.shape_types.specs.Shapes.{variant_of, definition_of}
use Rattle.shape_core.proofs.Tables.{pair_map}
use Rattle.shape_core.proofs.rules.repeats_variant.Goals as goal

pub returns-in-Enum : goal.returns-in-Enum
returns-in-Enum c =
    let same = ap (has_pair (λ v w. bytes_eq v.name w.name)) c.as_slice.ensures ∙ sym (pair_map (λ v w. bytes_eq v.name w.name) variant_of c.in-Enum.def.variants)
    ∙ ap (λ d. repeats_variant (definition_of d)) (sym c.in-Enum.is) in
    subst (λ (b : Bool). IfOk c.variants_repeat.result (λ found. found ≡ b)) same c.variants_repeat.ensures
