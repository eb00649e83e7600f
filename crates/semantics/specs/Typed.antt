-- Which values are of a shape.
use Rattle.std.specs.Prelude.{ℕ, nat_lt, zero, suc, ℤ, Bool, true, false, cond, ◌&&◌, ◌==◌, List, [], ◌∷◌, length, Option, Some, None, option_and_then}
use Rattle.std.specs.Str.{is_utf8, all_scalars}
use Rattle.semantics_lines.specs.Trees.{Tree, unit_value, bool_value, char_value, unsigned, signed, text, none, some, ok, err, list, mapping, structure, variant, Trees, no_trees, tree, tree_count, Pairs, no_pairs, pair}
use Rattle.semantics_lines.specs.Shapes.{ScalarType, unit_type, bool_type, char_type, unsigned_type, signed_type, string_type, str_type, is_tuple, Field, StructShape, Definition, scalar_shape, option_shape, result_shape, list_shape, array_shape, struct_shape, transparent_shape, Registry, definition_at}
use Rattle.semantics_lines.specs.Scalars.{fits_unsigned, fits_signed}

-- a test of what an option holds
abbrev pub on_some : {A : Type 0} → Option A → (A → Bool) → Bool
on_some None p = false
on_some (Some x) p = p x

-- A transparent shape stands for its inner one: this looks through so many of them.
abbrev pub through : (ℕ → Option Definition) → Definition → Option Definition
through inner (transparent_shape s) = inner s
through inner d = Some d

-- what the values of the shape are made of, where at most so many transparent shapes stand before it
abbrev pub base_within : Registry → ℕ → ℕ → Option Definition
base_within g zero s = None
base_within g (suc n) s = option_and_then (through (base_within g n)) (definition_at g s)

-- what the values of the shape are made of
abbrev pub base : Registry → ℕ → Option Definition
base g s = base_within g (length g) s

-- the parts of a definition, each where it is of that form
abbrev pub scalar_of : Definition → Option ScalarType
scalar_of (scalar_shape t) = Some t
scalar_of _ = None

-- what an option holds
abbrev pub option_of : Definition → Option ℕ
option_of (option_shape s) = Some s
option_of _ = None

-- what a result holds where it went well, and where it didn't
abbrev pub ok_of : Definition → Option ℕ
ok_of (result_shape s t) = Some s
ok_of _ = None

-- what a result holds where it went wrong
abbrev pub err_of : Definition → Option ℕ
err_of (result_shape s t) = Some t
err_of _ = None

-- the items of a list or an array
abbrev pub item_of : Definition → Option ℕ
item_of (list_shape s) = Some s
item_of (array_shape s n) = Some s
item_of _ = None

-- how many items there have to be, where that is said
abbrev pub length_of : Definition → Option ℕ
length_of (array_shape s n) = Some n
length_of _ = None

-- the struct
abbrev pub struct_of : Definition → Option StructShape
struct_of (struct_shape s) = Some s
struct_of _ = None

-- a struct that is written and read as an object of its fields
abbrev pub object_of : Definition → Option StructShape
object_of (struct_shape s) = cond (is_tuple s.kind) None (Some s)
object_of _ = None

-- a struct that is written and read as a sequence of its items
abbrev pub tuple_of : Definition → Option StructShape
tuple_of (struct_shape s) = cond (is_tuple s.kind) (Some s) None
tuple_of _ = None

-- the scalar that the shape of this number is, looked for through transparent shapes, as in all that follow
abbrev pub scalar_at : Registry → ℕ → Option ScalarType
scalar_at g s = option_and_then scalar_of (base g s)

-- what an option of this number holds
abbrev pub option_at : Registry → ℕ → Option ℕ
option_at g s = option_and_then option_of (base g s)

-- what a result of this number holds where it went well
abbrev pub ok_at : Registry → ℕ → Option ℕ
ok_at g s = option_and_then ok_of (base g s)

-- what a result of this number holds where it went wrong
abbrev pub err_at : Registry → ℕ → Option ℕ
err_at g s = option_and_then err_of (base g s)

-- the items of a list or an array of this number
abbrev pub item_at : Registry → ℕ → Option ℕ
item_at g s = option_and_then item_of (base g s)

-- how many items the shape of this number has, where that is said
abbrev pub length_at : Registry → ℕ → Option ℕ
length_at g s = option_and_then length_of (base g s)

-- the struct of this number
abbrev pub struct_at : Registry → ℕ → Option StructShape
struct_at g s = option_and_then struct_of (base g s)

-- the struct of this number that is written and read as an object
abbrev pub object_at : Registry → ℕ → Option StructShape
object_at g s = option_and_then object_of (base g s)

-- the values that a scalar takes
abbrev pub takes_unit : ScalarType → Bool
takes_unit unit_type = true
takes_unit _ = false

-- truth values
abbrev pub takes_bool : ScalarType → Bool
takes_bool bool_type = true
takes_bool _ = false

-- characters
abbrev pub takes_char : ScalarType → Bool
takes_char char_type = true
takes_char _ = false

-- whole numbers that fit an unsigned type
abbrev pub takes_unsigned : ℕ → ScalarType → Bool
takes_unsigned n (unsigned_type w) = fits_unsigned w n
takes_unsigned n _ = false

-- whole numbers that fit a signed type
abbrev pub takes_signed : ℤ → ScalarType → Bool
takes_signed z (signed_type w) = fits_signed w z
takes_signed z _ = false

-- texts
abbrev pub takes_text : ScalarType → Bool
takes_text string_type = true
takes_text str_type = true
takes_text _ = false

-- there are so many, where that is said
abbrev pub has_length : Option ℕ → ℕ → Bool
has_length None n = true
has_length (Some m) n = m == n

-- there are fewer than are wanted, where that is said
abbrev pub has_room : Option ℕ → ℕ → Bool
has_room None n = true
has_room (Some m) n = nat_lt n m

-- The value is of the shape. An array has as many items as it says, and a struct has one value of its shape for each
-- field. Sets, maps and enums aren't built yet: no value is of such a shape.
abbrev mutual
  pub typed : Registry → ℕ → Tree → Bool
  typed g s unit_value = on_some (scalar_at g s) takes_unit
  typed g s (bool_value b) = on_some (scalar_at g s) takes_bool
  typed g s (char_value c) = on_some (scalar_at g s) takes_char
  typed g s (unsigned n) = on_some (scalar_at g s) (takes_unsigned n)
  typed g s (signed z) = on_some (scalar_at g s) (takes_signed z)
  typed g s (text t) = on_some (scalar_at g s) takes_text
  typed g s none = on_some (option_at g s) (λ i. true)
  typed g s (some v) = on_some (option_at g s) (λ i. typed g i v)
  typed g s (ok v) = on_some (ok_at g s) (λ i. typed g i v)
  typed g s (err v) = on_some (err_at g s) (λ i. typed g i v)
  typed g s (list vs) = has_length (length_at g s) (tree_count vs) && on_some (item_at g s) (λ i. each_typed g i vs)
  typed g s (structure vs) = on_some (struct_at g s) (λ d. fields_typed g d.fields vs)
  typed g s (mapping ps) = false
  typed g s (variant i vs) = false

  pub each_typed : Registry → ℕ → Trees → Bool
  each_typed g s no_trees = true
  each_typed g s (tree v vs) = typed g s v && each_typed g s vs

  pub fields_typed : Registry → List Field → Trees → Bool
  fields_typed g [] no_trees = true
  fields_typed g (f ∷ fs) (tree v vs) = typed g f.shape v && fields_typed g fs vs
  fields_typed g _ _ = false

-- the texts of a value are texts, and so UTF-8, and its characters are characters
abbrev mutual
  pub tree_is_utf8 : Tree → Bool
  tree_is_utf8 (text t) = is_utf8 t.bytes
  tree_is_utf8 (some v) = tree_is_utf8 v
  tree_is_utf8 (ok v) = tree_is_utf8 v
  tree_is_utf8 (err v) = tree_is_utf8 v
  tree_is_utf8 (list vs) = trees_are_utf8 vs
  tree_is_utf8 (mapping ps) = pairs_are_utf8 ps
  tree_is_utf8 (structure vs) = trees_are_utf8 vs
  tree_is_utf8 (variant i vs) = trees_are_utf8 vs
  tree_is_utf8 unit_value = true
  tree_is_utf8 (bool_value b) = true
  tree_is_utf8 (char_value c) = all_scalars (c ∷ [])
  tree_is_utf8 (unsigned n) = true
  tree_is_utf8 (signed z) = true
  tree_is_utf8 none = true

  pub trees_are_utf8 : Trees → Bool
  trees_are_utf8 no_trees = true
  trees_are_utf8 (tree v vs) = tree_is_utf8 v && trees_are_utf8 vs

  pub pairs_are_utf8 : Pairs → Bool
  pairs_are_utf8 no_pairs = true
  pairs_are_utf8 (pair k v ps) = tree_is_utf8 k && (tree_is_utf8 v && pairs_are_utf8 ps)
