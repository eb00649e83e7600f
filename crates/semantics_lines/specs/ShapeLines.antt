-- Lines of a shape text: what each says, and how it is spelled.
use Rattle.std.specs.Prelude.{ℕ, ℤ, ◌^◌, nat_le, nat_lt, ◌==◌, List, [], ◌∷◌, ◌++◌, length, codes, Bool, true, false, ◌&&◌, ◌||◌, not, Option, None, Some, encode_utf8}
use Rattle.std.specs.List.{list_all}
use Rattle.std.specs.Fmt.{decimal, signed_decimal}
use Rattle.std.specs.Str.{is_utf8, all_scalars}
use Rattle.semantics_lines.specs.Lines.{quoted, bool_word, magnitude}
use Rattle.semantics_lines.specs.Shapes.{SkipRule, skip_never, skip_always, skip_none, skip_empty, skip_default, MetaKind, span_meta, doc_meta, tag_meta, TagKind, by_name, by_unsigned, by_signed, EnumForm, external, internal, adjacent, numeric, untagged, cow}

-- a letter, a digit or an underscore, in ASCII
abbrev pub is_name_byte : ℕ → Bool
is_name_byte b = b == 95 || (nat_le 48 b && nat_le b 57) || (nat_le 65 b && nat_le b 90) || (nat_le 97 b && nat_le b 122)

-- one such byte or more
abbrev pub is_name : List ℕ → Bool
is_name text = not (length text == 0) && list_all is_name_byte text

-- what a line says of the shape that begins there; other shapes stand by their names
pub data Head : Type 0 where
  option_head : List ℕ → Head
  list_head : List ℕ → Head
  set_head : List ℕ → Head
  transparent_head : List ℕ → Head
  -- what went well, and the error
  result_head : List ℕ → List ℕ → Head
  -- the key, and the value
  map_head : List ℕ → List ℕ → Head
  -- the length, and the item
  array_head : ℕ → List ℕ → Head
  unit_head : Head
  tuple_head : Head
  -- whether unknown keys are refused, whether it has a default, and whether it is a container
  struct_head : Bool → Bool → Bool → Head
  enum_head : EnumForm → Head

-- the default of a field
pub data Literal : Type 0 where
  unit_literal : Literal
  bool_literal : Bool → Literal
  char_literal : ℕ → Literal
  unsigned_literal : ℕ → Literal
  signed_literal : ℤ → Literal
  text_literal : List ℕ → Literal
  none_literal : Literal
  -- no items, or no entries
  empty_literal : Literal
  -- the default of its shape
  own_literal : Literal

-- a field, its shape by the name, and its attributes
pub record FieldLine : Type 0 where
  pub name : List ℕ
  pub shape : List ℕ
  pub rename : Option (List ℕ)
  pub alias : Option (List ℕ)
  pub default : Option Literal
  pub skip : SkipRule
  pub flattened : Bool
  pub metadata : Option MetaKind

-- what belongs behind a line: nothing, items by their places, or fields by their names
pub data Body : Type 0 where
  no_body : Body
  item_body : Body
  field_body : Body

-- a variant, what belongs to it, and its attributes
pub record VariantLine : Type 0 where
  pub name : List ℕ
  pub body : Body
  pub rename : Option (List ℕ)
  pub discriminant : Option ℤ

-- What a line says: a shape of this name begins; there is an item, of the shape with this name; a field; a variant.
pub data ShapeLine : Type 0 where
  head_line : List ℕ → Head → ShapeLine
  item_line : List ℕ → ShapeLine
  field_line : FieldLine → ShapeLine
  variant_line : VariantLine → ShapeLine

-- words that stand there where they are meant
abbrev pub flag_words : List ℕ → Bool → List ℕ
flag_words words true = words
flag_words words false = []

-- words and a text, where there is one
abbrev pub text_words : List ℕ → Option (List ℕ) → List ℕ
text_words words None = []
text_words words (Some text) = words ++ quoted text

-- how the tag names its variant
abbrev pub tag_words : TagKind → List ℕ
tag_words by_name = []
tag_words by_unsigned = codes " unsigned"
tag_words by_signed = codes " signed"

-- how the variants of an enum are told apart
abbrev pub form_words : EnumForm → List ℕ
form_words external = codes " external"
form_words numeric = codes " numeric"
form_words untagged = codes " untagged"
form_words cow = codes " cow"
form_words (internal tag by) = codes " internal " ++ (quoted tag ++ tag_words by)
form_words (adjacent tag content by) = codes " adjacent " ++ (quoted tag ++ (codes " " ++ (quoted content ++ tag_words by)))

-- two names, a space between them
abbrev pub pair_words : List ℕ → List ℕ → List ℕ
pair_words name other = name ++ (codes " " ++ other)

-- what stands behind the name of a shape
abbrev pub head_words : Head → List ℕ
head_words (option_head shape) = codes " option " ++ shape
head_words (list_head shape) = codes " list " ++ shape
head_words (set_head shape) = codes " set " ++ shape
head_words (transparent_head shape) = codes " transparent " ++ shape
head_words (result_head shape other) = codes " result " ++ pair_words shape other
head_words (map_head key value) = codes " map " ++ pair_words key value
head_words (array_head len shape) = codes " array " ++ pair_words (decimal len) shape
head_words unit_head = codes " unit"
head_words tuple_head = codes " tuple"
head_words (struct_head deny default container) = codes " struct" ++ (flag_words (codes " deny") deny ++ (flag_words (codes " default") default ++ flag_words (codes " container") container))
head_words (enum_head form) = codes " enum" ++ form_words form

-- how a default is spelled
abbrev pub literal_words : Literal → List ℕ
literal_words unit_literal = codes "unit"
literal_words (bool_literal b) = bool_word b
literal_words (char_literal c) = codes "c " ++ quoted (encode_utf8 c)
literal_words (unsigned_literal n) = codes "u " ++ decimal n
literal_words (signed_literal z) = codes "i " ++ signed_decimal z
literal_words (text_literal text) = codes "s " ++ quoted text
literal_words none_literal = codes "none"
literal_words empty_literal = codes "empty"
literal_words own_literal = codes "own"

-- the attribute of a default, where there is one
abbrev pub default_words : Option Literal → List ℕ
default_words None = []
default_words (Some l) = codes " default " ++ literal_words l

-- the attribute of a rule, where the field isn't always written
abbrev pub skip_words : SkipRule → List ℕ
skip_words skip_never = []
skip_words skip_always = codes " skip always"
skip_words skip_none = codes " skip none"
skip_words skip_empty = codes " skip empty"
skip_words skip_default = codes " skip default"

-- the attribute of metadata, where the field holds some
abbrev pub meta_words : Option MetaKind → List ℕ
meta_words None = []
meta_words (Some span_meta) = codes " meta span"
meta_words (Some doc_meta) = codes " meta doc"
meta_words (Some tag_meta) = codes " meta tag"

-- the attributes of a field, in their order
abbrev pub attribute_words : FieldLine → List ℕ
attribute_words f = text_words (codes " rename ") f.rename ++ (text_words (codes " alias ") f.alias ++ (default_words f.default ++ (skip_words f.skip ++ (flag_words (codes " flatten") f.flattened ++ meta_words f.metadata))))

-- what the content of a variant is called
abbrev pub body_words : Body → List ℕ
body_words no_body = codes " unit"
body_words item_body = codes " tuple"
body_words field_body = codes " struct"

-- the number of a variant, where it has one
abbrev pub discriminant_words : Option ℤ → List ℕ
discriminant_words None = []
discriminant_words (Some z) = codes " disc " ++ signed_decimal z

-- how a line is spelled, without its line feed
abbrev pub spelling : ShapeLine → List ℕ
spelling (head_line name head) = codes "shape " ++ (name ++ head_words head)
spelling (item_line shape) = codes "item " ++ shape
spelling (field_line f) = codes "field " ++ (f.name ++ (codes " " ++ (f.shape ++ attribute_words f)))
spelling (variant_line v) = codes "variant " ++ (v.name ++ (body_words v.body ++ (text_words (codes " rename ") v.rename ++ discriminant_words v.discriminant)))

-- the names of the shapes that a head refers to
abbrev pub head_references : Head → List (List ℕ)
head_references (option_head shape) = shape ∷ []
head_references (list_head shape) = shape ∷ []
head_references (set_head shape) = shape ∷ []
head_references (transparent_head shape) = shape ∷ []
head_references (result_head shape other) = shape ∷ other ∷ []
head_references (map_head key value) = key ∷ value ∷ []
head_references (array_head len shape) = shape ∷ []
head_references unit_head = []
head_references tuple_head = []
head_references (struct_head deny default container) = []
head_references (enum_head form) = []

-- the shapes that a line refers to, by their names
abbrev pub references : ShapeLine → List (List ℕ)
references (head_line name head) = head_references head
references (item_line shape) = shape ∷ []
references (field_line f) = f.shape ∷ []
references (variant_line v) = []

-- the name that a line gives
abbrev pub given_names : ShapeLine → List (List ℕ)
given_names (head_line name head) = name ∷ []
given_names (item_line shape) = []
given_names (field_line f) = f.name ∷ []
given_names (variant_line v) = v.name ∷ []

-- the number is below 2 to the power of `half`, or is no less than its negative
abbrev pub fits_half : ℕ → ℤ → Bool
fits_half half z = nat_lt (magnitude z) (2 ^ half)

-- a character is one, and numbers take no more than 128 bits
abbrev pub literal_fits : Literal → Bool
literal_fits (char_literal c) = all_scalars (c ∷ [])
literal_fits (unsigned_literal n) = nat_lt n (2 ^ 128)
literal_fits (signed_literal z) = fits_half 127 z
literal_fits _ = true

-- the same of a default, where there is one
abbrev pub default_fits : Option Literal → Bool
default_fits None = true
default_fits (Some l) = literal_fits l

-- a discriminant takes no more than 64 bits
abbrev pub discriminant_fits : Option ℤ → Bool
discriminant_fits None = true
discriminant_fits (Some z) = fits_half 63 z

-- a length takes no more than 32 bits
abbrev pub head_fits : Head → Bool
head_fits (array_head len shape) = nat_lt len (2 ^ 32)
head_fits _ = true

-- its numbers are in their ranges
abbrev pub line_fits : ShapeLine → Bool
line_fits (head_line name head) = head_fits head
line_fits (item_line shape) = true
line_fits (field_line f) = default_fits f.default
line_fits (variant_line v) = discriminant_fits v.discriminant

-- its names are names, and its numbers fit
abbrev pub has_parts : ShapeLine → Bool
has_parts l = list_all is_name (given_names l) && (list_all is_name (references l) && line_fits l)

-- UTF-8, and no line feed
abbrev pub is_one_line : List ℕ → Bool
is_one_line text = is_utf8 text && list_all (λ b. not (b == 10)) text

-- a line that can stand in a text
abbrev pub is_line : ShapeLine → Bool
is_line l = has_parts l && is_one_line (spelling l)
