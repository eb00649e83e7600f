use Rattle.std.proofs.Common.{◌≡◌, drop, map}
use Rattle.std.specs.List.{list_all}
use Rattle.semantics.specs.Registry.{field_is_utf8}
use Rattle.shape_types.specs.Shapes.{field_of}
use Rattle.shape_core.proofs.utf8.fields_utf8.Given as goal

abbrev pub invariant-loop-field : goal.invariant-loop-field
invariant-loop-field l = list_all field_is_utf8 (map field_of (drop l.field-index l.fields)) ≡ list_all field_is_utf8 (map field_of l.fields)
