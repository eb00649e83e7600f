use Rattle.std.proofs.Common.{◌≡◌, map, take}
use Rattle.semantics.specs.Registry.{key_texts}
use Rattle.shape_core.specs.Names.{texts}
use Rattle.shape_types.specs.Shapes.{field_of}
use Rattle.shape_core.proofs.keys.field_keys.Given as goal

abbrev pub invariant-fields : goal.invariant-fields
invariant-fields l = texts l.keys ≡ key_texts (map field_of (take l.field-index l.fields))
