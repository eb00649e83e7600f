use Rattle.std.proofs.Common.{◌≡◌, drop, map}
use Rattle.std.specs.List.{list_all}
use Rattle.semantics.specs.Registry.{variant_is_utf8}
use Rattle.shape_types.specs.Shapes.{variant_of}
use Rattle.shape_core.proofs.utf8.variants_utf8.Given as goal

abbrev pub invariant-loop-variant : goal.invariant-loop-variant
invariant-loop-variant l = list_all variant_is_utf8 (map variant_of (drop l.variant-index l.variants)) ≡ list_all variant_is_utf8 (map variant_of l.variants)
