use Rattle.std.proofs.Common.{◌≡◌, drop}
use Rattle.std.specs.List.{list_any}
use Rattle.semantics.specs.Registry.{is_missing}
use Rattle.shape_types.specs.Shapes.{field_of}
use Rattle.shape_core.proofs.rules.fields_dangle.Given as goal

abbrev pub invariant-loop-field : goal.invariant-loop-field
invariant-loop-field l = list_any (λ f. is_missing l.count (field_of f).shape) (drop l.field-index l.fields) ≡ list_any (λ f. is_missing l.count (field_of f).shape) l.fields
