use Rattle.std.proofs.Common.{◌≡◌, drop}
use Rattle.std.specs.List.{list_any}
use Rattle.semantics.specs.Registry.{repeats_field}
use Rattle.shape_types.specs.Shapes.{variant_of}
use Rattle.shape_core.proofs.rules.variants_repeat_field.Given as goal

abbrev pub invariant-variants : goal.invariant-variants
invariant-variants l = list_any (λ v. repeats_field (variant_of v).fields) (drop l.variant-index l.variants) ≡ list_any (λ v. repeats_field (variant_of v).fields) l.variants
