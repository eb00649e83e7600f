use Rattle.std.proofs.Common.{◌≡◌, map, take}
use Rattle.shape_core.specs.Names.{texts}
use Rattle.shape_core.proofs.names.variant_names.Given as goal

abbrev pub invariant-variants : goal.invariant-variants
invariant-variants l = texts l.names ≡ map (λ f. f.name) (take l.variant-index l.variants)
