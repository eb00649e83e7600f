-- What a serializer is called with.
use Rattle.std.specs.Prelude.{ℕ, ℤ, Bool, false, List, Option}
use Rattle.semantics_lines.specs.Texts.{Phrase}
use Rattle.semantics_lines.specs.Trees.{Tree}
use Rattle.semantics_lines.specs.Shapes.{ScalarType, Field, Shape, Variant}
use Rattle.semantics_lines.specs.Events.{Metadata, Scalar, unit, null, bool, char, i64, u64, i128, u128, str, bytes}

-- A scalar that is written. Its text is bytes alone, whatever it was borrowed from.
pub data Literal : Type 0 where
  unit_literal : Literal
  null_literal : Literal
  bool_literal : Bool → Literal
  char_literal : ℕ → Literal
  i64_literal : ℤ → Literal
  u64_literal : ℕ → Literal
  i128_literal : ℤ → Literal
  u128_literal : ℕ → Literal
  str_literal : List ℕ → Literal
  bytes_literal : List ℕ → Literal

-- what a scalar of an event is written as
abbrev pub literal_of : Scalar → Literal
literal_of unit = unit_literal
literal_of null = null_literal
literal_of (bool b) = bool_literal b
literal_of (char c) = char_literal c
literal_of (i64 z) = i64_literal z
literal_of (u64 n) = u64_literal n
literal_of (i128 z) = i128_literal z
literal_of (u128 n) = u128_literal n
literal_of (str t) = str_literal t.bytes
literal_of (bytes t) = bytes_literal t.bytes

-- One call of a serializer, with its arguments. A shape is passed by its number where it is looked up.
pub data Call : Type 0 where
  begin_struct : Call
  field_key : List ℕ → Call
  end_struct : Call
  begin_seq : Call
  end_seq : Call
  write_scalar : Literal → Call
  -- the name and the metadata of the key
  emit_field_key : Option Phrase → Option Metadata → Call
  field_metadata : Field → Call
  struct_metadata : Shape → Call
  variant_metadata : Variant → Call
  field_metadata_with_value : Field → Tree → Call
  serialize_metadata_container : Shape → Tree → Call
  serialize_map_key : ℕ → Tree → Call
  write_variant_tag : List ℕ → Call
  serialize_byte_sequence : List ℕ → Call
  serialize_byte_array : List ℕ → Call
  begin_seq_with_len : ℕ → Call
  begin_map_with_len : ℕ → Call
  end_map : Call
  typed_scalar : ScalarType → Tree → Call
  begin_option_some : Call
  begin_enum_variant : ℕ → List ℕ → Call
  finish_variant_tag_unit_payload : Call
  serialize_none : Call
  begin_struct_after_tag : Call
  begin_seq_after_tag : Call

-- whether the keys of fields are written
pub data StructFieldMode : Type 0 where
  named_fields : StructFieldMode
  unnamed_fields : StructFieldMode

-- whether a map is written as an object of its entries, or as a list of pairs
pub data MapEncoding : Type 0 where
  maps_as_objects : MapEncoding
  maps_as_pairs : MapEncoding

-- whether a variant is told by its name, or by its place
pub data EnumVariantEncoding : Type 0 where
  tagged_variants : EnumVariantEncoding
  indexed_variants : EnumVariantEncoding

-- how a serializer wants values written, and what it answers to each call that answers a bool
pub record Settings : Type 0 where
  pub fields : StructFieldMode
  pub maps : MapEncoding
  pub variants : EnumVariantEncoding
  pub answers : Call → Bool

-- the settings of a serializer that says nothing else
abbrev pub default_settings : Settings
default_settings = record { fields = named_fields; maps = maps_as_objects; variants = tagged_variants; answers = λ call. false }
