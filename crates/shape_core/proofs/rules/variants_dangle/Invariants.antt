use Rattle.std.proofs.Common.{◌≡◌, drop}
use Rattle.std.specs.List.{list_any}
use Rattle.semantics.specs.Registry.{is_missing}
use Rattle.shape_types.specs.Shapes.{variant_of}
use Rattle.shape_core.proofs.rules.variants_dangle.Given as goal

abbrev pub invariant-loop-variant : goal.invariant-loop-variant
invariant-loop-variant l = list_any (λ v. list_any (λ f. is_missing l.count f.shape) (variant_of v).fields) (drop l.variant-index l.variants) ≡ list_any (λ v. list_any (λ f. is_missing l.count f.shape) (variant_of v).fields) l.variants
