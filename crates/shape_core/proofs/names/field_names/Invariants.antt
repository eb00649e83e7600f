use Rattle.std.proofs.Common.{◌≡◌, map, take}
use Rattle.shape_core.specs.Names.{texts}
use Rattle.shape_core.proofs.names.field_names.Given as goal

abbrev pub invariant-fields : goal.invariant-fields
invariant-fields l = texts l.names ≡ map (λ f. f.name) (take l.field-index l.fields)
