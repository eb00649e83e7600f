-- The keys of the fields of a struct.
use Rattle.std.specs.Prelude.{ℕ, List, Option, Some, None, Bool, false, ◌&&◌, ◌||◌, not, bytes_eq}
use Rattle.std.specs.List.{position_from}
use Rattle.semantics_lines.specs.Shapes.{Field, effective_name}
use Rattle.shape_types.specs.Shapes.{field_of}
use Rattle.shape_types.specs.declared.field.Field.{Field as DeclaredField}

abbrev pub is_text : List ℕ → Option (List ℕ) → Bool
is_text t None = false
is_text t (Some a) = bytes_eq a t

-- the field is read under this key
abbrev pub is_called : List ℕ → Field → Bool
is_called t f = not f.flattened && (bytes_eq (effective_name f) t || is_text t f.alias)

-- the same of a field as it is declared
abbrev pub calls : List ℕ → DeclaredField → Bool
calls t f = is_called t (field_of f)

-- the first field that is read under this key
abbrev pub place_in : List Field → List ℕ → Option ℕ
place_in fs t = position_from (is_called t) 0 fs
