-- The fields of a struct, as they are declared and as the definitions see them.
use Rattle.std.proofs.Common.{◌≡◌, ℕ, List, map, Option, slice_get, option_map, sym, ap, ◌∙◌}
use Rattle.std.proofs.lemmas.Option.{slice_get-map}
use Rattle.shape_types.specs.Shapes.{field_of}
use Rattle.shape_types.specs.declared.field.Field.{Field}

pub field_seen : (fs : List Field) (i : ℕ) (o : Option Field) → o ≡ slice_get fs i → slice_get (map field_of fs) i ≡ option_map field_of o
field_seen fs i o is = slice_get-map field_of fs i ∙ ap (option_map field_of) (sym is)
