-- Rows of shape texts whose forms aren't built: the text beside what the definitions say of it.
use Rattle.std.specs.Prelude.{◌≡◌, ℕ, ℤ, pos, negsuc, List, [], ◌∷◌, ◌++◌, Bool, true, false, Option, None, Some, codes}
use Rattle.std.specs.List.{flat_map}
use Rattle.semantics_lines.specs.Trees as value
use Rattle.semantics_lines.specs.Shapes.{StructKind, unit_kind, tuple_struct_kind, named_kind, SkipRule, skip_never, skip_always, skip_none, skip_empty, skip_default, MetaKind, span_meta, doc_meta, tag_meta, tagged_mode, by_name, by_unsigned, by_signed, EnumForm, external, internal, adjacent, numeric, untagged, cow, Field, Variant, enum_shape}
use Rattle.semantics_lines.specs.ShapeLines.{Head, struct_head, enum_head, Literal, unit_literal, bool_literal, char_literal, unsigned_literal, signed_literal, text_literal, none_literal, empty_literal, own_literal, no_body, item_body, field_body, ShapeLine, head_line, item_line, field_line, variant_line, spelling}
use Rattle.semantics_lines.specs.ShapeText.{shape_text, scope_of, literal_tree, definition_said}

-- The line is spelled so.
abbrev pub Says : List ℕ → ShapeLine → Type 0
Says text line = spelling line ≡ text

-- the line of the struct or the enum A
abbrev pub a_shape : Head → ShapeLine
a_shape head = head_line (codes "A") head

abbrev pub an_enum : EnumForm → ShapeLine
an_enum form = a_shape (enum_head form)

-- a field x of the shape u8, with these attributes
abbrev pub a_field : Option (List ℕ) → Option (List ℕ) → Option Literal → SkipRule → Bool → Option MetaKind → ShapeLine
a_field rename alias default skip flattened metadata = field_line (record { name = codes "x"; shape = codes "u8"; rename = rename; alias = alias; default = default; skip = skip; flattened = flattened; metadata = metadata })

-- a field x of the shape u8 with this default
abbrev pub defaulted : Literal → ShapeLine
defaulted literal = a_field None None (Some literal) skip_never false None

-- How lines are spelled, each beside what it says.
pub record LineRows : Type 0 where
  pub no_words : Says (codes "shape A struct") (a_shape (struct_head false false false))
  pub denies : Says (codes "shape A struct deny") (a_shape (struct_head true false false))
  pub has_default : Says (codes "shape A struct default") (a_shape (struct_head false true false))
  pub is_container : Says (codes "shape A struct container") (a_shape (struct_head false false true))
  pub two_words : Says (codes "shape A struct deny default") (a_shape (struct_head true true false))
  pub all_words : Says (codes "shape A struct deny default container") (a_shape (struct_head true true true))
  pub external_tag : Says (codes "shape A enum external") (an_enum external)
  pub number_tag : Says (codes "shape A enum numeric") (an_enum numeric)
  pub no_tag : Says (codes "shape A enum untagged") (an_enum untagged)
  pub borrowed_or_owned : Says (codes "shape A enum cow") (an_enum cow)
  pub internal_tag : Says (codes "shape A enum internal \"t\"") (an_enum (internal (codes "t") by_name))
  pub spelled_tag : Says (codes "shape A enum internal \" \\\" unsigned\" unsigned") (an_enum (internal (codes " \" unsigned") by_unsigned))
  pub signed_tag : Says (codes "shape A enum internal \"t\" signed") (an_enum (internal (codes "t") by_signed))
  pub adjacent_tag : Says (codes "shape A enum adjacent \"t\" \"c\"") (an_enum (adjacent (codes "t") (codes "c") by_name))
  pub unsigned_tag : Says (codes "shape A enum adjacent \"t\" \"c\" unsigned") (an_enum (adjacent (codes "t") (codes "c") by_unsigned))
  pub empty_tag : Says (codes "shape A enum adjacent \"\" \"\\n\" signed") (an_enum (adjacent [] (10 ∷ []) by_signed))
  pub no_attributes : Says (codes "field x u8") (a_field None None None skip_never false None)
  pub renames : Says (codes "field x u8 rename \"a b\"") (a_field (Some (codes "a b")) None None skip_never false None)
  pub has_alias : Says (codes "field x u8 alias \"\"") (a_field None (Some []) None skip_never false None)
  pub all_attributes : Says (codes "field x u8 rename \"\\\\\\\"\\n\" alias \"e\" default u 1 skip default flatten meta tag") (a_field (Some (92 ∷ 34 ∷ 10 ∷ [])) (Some (codes "e")) (Some (unsigned_literal 1)) skip_default true (Some tag_meta))
  pub skips_always : Says (codes "field x u8 skip always") (a_field None None None skip_always false None)
  pub skips_none : Says (codes "field x u8 skip none") (a_field None None None skip_none false None)
  pub skips_empty : Says (codes "field x u8 skip empty flatten") (a_field None None None skip_empty true None)
  pub flattens : Says (codes "field x u8 flatten") (a_field None None None skip_never true None)
  pub holds_span : Says (codes "field x u8 meta span") (a_field None None None skip_never false (Some span_meta))
  pub holds_doc : Says (codes "field x u8 flatten meta doc") (a_field None None None skip_never true (Some doc_meta))
  pub unit_default : Says (codes "field x u8 default unit") (defaulted unit_literal)
  pub true_default : Says (codes "field x u8 default true") (defaulted (bool_literal true))
  pub false_default : Says (codes "field x u8 default false") (defaulted (bool_literal false))
  pub none_default : Says (codes "field x u8 default none") (defaulted none_literal)
  pub own_default : Says (codes "field x u8 default own") (defaulted own_literal)
  pub empty_default : Says (codes "field x u8 default empty") (defaulted empty_literal)
  pub char_default : Says (codes "field x u8 default c \"a\"") (defaulted (char_literal 97))
  pub line_feed : Says (codes "field x u8 default c \"\\n\"") (defaulted (char_literal 10))
  pub wide_char : Says (codes "field x u8 default c \"" ++ 240 ∷ 157 ∷ 132 ∷ 158 ∷ 34 ∷ []) (defaulted (char_literal 119070))
  pub zero_default : Says (codes "field x u8 default i 0") (defaulted (signed_literal (pos 0)))
  pub below_zero : Says (codes "field x u8 default i -1") (defaulted (signed_literal (negsuc 0)))
  pub least : Says (codes "field x u8 default i -170141183460469231731687303715884105728") (defaulted (signed_literal (negsuc 170141183460469231731687303715884105727)))
  pub greatest : Says (codes "field x u8 default i 170141183460469231731687303715884105727") (defaulted (signed_literal (pos 170141183460469231731687303715884105727)))
  pub no_number : Says (codes "field x u8 default u 0") (defaulted (unsigned_literal 0))
  pub widest : Says (codes "field x u8 default u 340282366920938463463374607431768211455") (defaulted (unsigned_literal 340282366920938463463374607431768211455))
  pub text_default : Says (codes "field x u8 default s \"a\\\\b\"") (defaulted (text_literal (codes "a\\b")))

-- the lines of an enum E with four variants, and of a shape behind it
abbrev pub enum_lines : List ShapeLine
enum_lines =
    variant_line (record { name = codes "A"; body = no_body; rename = None; discriminant = None })
    ∷ variant_line (record { name = codes "B"; body = item_body; rename = Some (codes "b"); discriminant = None })
    ∷ item_line (codes "u8")
    ∷ item_line (codes "E")
    ∷ variant_line (record { name = codes "C"; body = field_body; rename = Some (codes "c"); discriminant = Some (negsuc 9223372036854775807) })
    ∷ field_line (record { name = codes "x"; shape = codes "u64"; rename = None; alias = None; default = None; skip = skip_never; flattened = false; metadata = None })
    ∷ variant_line (record { name = codes "D"; body = no_body; rename = None; discriminant = Some (pos 9223372036854775807) })
    ∷ head_line (codes "F") (enum_head external)
    ∷ []

abbrev pub all_lines : List ShapeLine
all_lines = head_line (codes "E") (enum_head external) ∷ enum_lines

abbrev pub lines : List (List ℕ) → List ℕ
lines ls = flat_map (λ l. l ++ (10 ∷ [])) ls

-- a field without attributes
abbrev pub plain_field : List ℕ → ℕ → Field
plain_field name shape = record { name = name; rename = None; alias = None; shape = shape; default = None; skip = skip_never; flattened = false; metadata = None; proxy = None }

abbrev pub a_variant : List ℕ → Option (List ℕ) → StructKind → List Field → Option ℤ → Variant
a_variant name rename kind fields discriminant = record { name = name; rename = rename; kind = kind; fields = fields; discriminant = discriminant; mode = tagged_mode }

-- The variants that the lines of an enum say.
pub record VariantRows : Type 0 where
  pub spelled : shape_text all_lines ≡ lines (codes "shape E enum external" ∷ codes "variant A unit" ∷ codes "variant B tuple rename \"b\"" ∷ codes "item u8" ∷ codes "item E" ∷ codes "variant C struct rename \"c\" disc -9223372036854775808" ∷ codes "field x u64" ∷ codes "variant D unit disc 9223372036854775807" ∷ codes "shape F enum external" ∷ [])
  pub said : definition_said (scope_of all_lines) (enum_head external) enum_lines ≡ enum_shape external (
      a_variant (codes "A") None unit_kind [] None
      ∷ a_variant (codes "B") (Some (codes "b")) tuple_struct_kind (plain_field (codes "0") 3 ∷ plain_field (codes "1") 17 ∷ []) None
      ∷ a_variant (codes "C") (Some (codes "c")) named_kind (plain_field (codes "x") 6 ∷ []) (Some (negsuc 9223372036854775807))
      ∷ a_variant (codes "D") None unit_kind [] (Some (pos 9223372036854775807))
      ∷ [])

-- The value that a default says; the flag says that its shape is a map.
abbrev pub Means : Bool → Literal → value.Tree → Type 0
Means over_map literal tree = literal_tree over_map literal ≡ tree

-- The values that declared defaults say.
pub record DefaultRows : Type 0 where
  pub unit_default : Means false unit_literal value.unit_value
  pub true_default : Means false (bool_literal true) (value.bool_value true)
  pub false_default : Means false (bool_literal false) (value.bool_value false)
  pub none_default : Means false none_literal value.none
  pub own_default : Means false own_literal value.unit_value
  pub empty_list : Means false empty_literal (value.list value.no_trees)
  pub empty_map : Means true empty_literal (value.mapping value.no_pairs)
  pub char_default : Means false (char_literal 97) (value.char_value 97)
  pub unsigned_default : Means false (unsigned_literal 0) (value.unsigned 0)
  pub signed_default : Means false (signed_literal (negsuc 0)) (value.signed (negsuc 0))
  pub text_default : Means false (text_literal (codes "a\\b")) (value.text (record { bytes = codes "a\\b"; borrowed = false }))
