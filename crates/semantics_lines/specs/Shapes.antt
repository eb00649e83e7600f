-- Shapes: what describes a type. A shape refers to others by their numbers.
use Rattle.std.specs.Prelude.{ℕ, ℤ, Bool, true, false, List, Option, Some, option_and_then, unwrap_or, slice_get}
use Rattle.semantics_lines.specs.Trees.{Tree}

-- of a number
pub data Width : Type 0 where
  bits8 : Width
  bits16 : Width
  bits32 : Width
  bits64 : Width
  bits128 : Width
  -- as wide as an address: 64 bits
  address : Width

-- the seventeen types of scalars
pub data ScalarType : Type 0 where
  unit_type : ScalarType
  bool_type : ScalarType
  char_type : ScalarType
  unsigned_type : Width → ScalarType
  signed_type : Width → ScalarType
  -- a text of its own, and one that has to be borrowed
  string_type : ScalarType
  str_type : ScalarType

-- without fields, a tuple, a struct with places for names, or one with named fields
pub data StructKind : Type 0 where
  unit_kind : StructKind
  tuple_kind : StructKind
  tuple_struct_kind : StructKind
  named_kind : StructKind

-- named fields
abbrev pub is_named : StructKind → Bool
is_named named_kind = true
is_named _ = false

-- fields by their places
abbrev pub is_tuple : StructKind → Bool
is_tuple tuple_kind = true
is_tuple tuple_struct_kind = true
is_tuple _ = false

-- no fields
abbrev pub is_unit : StructKind → Bool
is_unit unit_kind = true
is_unit _ = false

-- when a field isn't written
pub data SkipRule : Type 0 where
  skip_never : SkipRule
  skip_always : SkipRule
  skip_none : SkipRule
  skip_empty : SkipRule
  skip_default : SkipRule

-- what a metadata field of a container holds
pub data MetaKind : Type 0 where
  span_meta : MetaKind
  doc_meta : MetaKind
  tag_meta : MetaKind

-- how a variant is told from others: by its tag, as the one for unknown tags, or without a tag
pub data VariantMode : Type 0 where
  tagged_mode : VariantMode
  other_mode : VariantMode
  untagged_mode : VariantMode

-- how a tag names its variant
pub data TagKind : Type 0 where
  by_name : TagKind
  by_unsigned : TagKind
  by_signed : TagKind

-- a field: its name, what stands in place of it, its shape by number, and its attributes
pub record Field : Type 0 where
  pub name : List ℕ
  pub rename : Option (List ℕ)
  pub alias : Option (List ℕ)
  pub shape : ℕ
  pub default : Option Tree
  pub skip : SkipRule
  pub flattened : Bool
  pub metadata : Option MetaKind
  pub proxy : Option ℕ

-- the name by which a field is written and read
abbrev pub effective_name : Field → List ℕ
effective_name f = unwrap_or f.rename f.name

-- a struct: its kind, its fields in order, and its attributes
pub record StructShape : Type 0 where
  pub kind : StructKind
  pub fields : List Field
  -- whether an unknown key is refused
  pub deny : Bool
  pub default : Option Tree
  pub container : Bool

-- a variant of an enum: its name, what it holds, and its attributes
pub record Variant : Type 0 where
  pub name : List ℕ
  pub rename : Option (List ℕ)
  pub kind : StructKind
  pub fields : List Field
  pub discriminant : Option ℤ
  pub mode : VariantMode

-- how the variants of an enum are told apart in a format
pub data EnumForm : Type 0 where
  external : EnumForm
  internal : List ℕ → TagKind → EnumForm
  -- the tag, the content key, and how the tag names the variant
  adjacent : List ℕ → List ℕ → TagKind → EnumForm
  numeric : EnumForm
  untagged : EnumForm
  cow : EnumForm

-- what a shape is; the shapes that it refers to stand by their numbers
pub data Definition : Type 0 where
  scalar_shape : ScalarType → Definition
  option_shape : ℕ → Definition
  result_shape : ℕ → ℕ → Definition
  list_shape : ℕ → Definition
  -- the item, and the length
  array_shape : ℕ → ℕ → Definition
  set_shape : ℕ → Definition
  map_shape : ℕ → ℕ → Definition
  struct_shape : StructShape → Definition
  enum_shape : EnumForm → List Variant → Definition
  transparent_shape : ℕ → Definition

-- a shape: its name, what it is, and the shape in whose form it is written, where there is one
pub record Shape : Type 0 where
  pub name : List ℕ
  pub definition : Definition
  pub proxy : Option ℕ

-- a shape that is being built: its definition may be missing
pub record Draft : Type 0 where
  pub name : List ℕ
  pub definition : Option Definition
  pub proxy : Option ℕ

-- the shapes, by their numbers
abbrev pub Registry : Type 0
Registry = List Shape

-- what a shape is, as an option
abbrev pub definition_of : Shape → Option Definition
definition_of s = Some s.definition

-- what the shape of this number is
abbrev pub definition_at : Registry → ℕ → Option Definition
definition_at g s = option_and_then definition_of (slice_get g s)
