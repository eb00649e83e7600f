-- What scalars are as texts.
use Rattle.std.specs.Prelude.{ℕ, List, [], ◌++◌, Bool, true, false, Option, Some, None, codes, encode_utf8}
use Rattle.std.specs.Fmt.{decimal, signed_decimal}
use Rattle.shape_types.specs.Texts.{text_bytes}
use Rattle.event_core.specs.declared.scalar.ScalarValue.{ScalarValue}
use Rattle.event_core.specs.declared.scalar.ScalarValue.TheVariants as scalars

-- a truth value in a word
abbrev pub bool_text : Bool → List ℕ
bool_text true = codes "true"
bool_text false = codes "false"

-- A scalar as a text: a number in decimal, a character and a text as they are. Bytes are none.
abbrev pub string_of : ScalarValue → Option (List ℕ)
string_of scalars.Unit = Some []
string_of scalars.Null = Some (codes "null")
string_of (scalars.Bool b) = Some (bool_text b)
string_of (scalars.Char c) = Some (encode_utf8 c)
string_of (scalars.I64 z) = Some (signed_decimal z)
string_of (scalars.U64 n) = Some (decimal n)
string_of (scalars.I128 z) = Some (signed_decimal z)
string_of (scalars.U128 n) = Some (decimal n)
string_of (scalars.Str t) = Some (text_bytes t)
string_of (scalars.Bytes b) = None

-- a word, and a text in round brackets
abbrev pub in_brackets : List ℕ → List ℕ → List ℕ
in_brackets word text = word ++ (codes "(" ++ (text ++ codes ")"))

-- what a scalar is and its text, or what it is alone; a text is itself
abbrev pub display_of : ScalarValue → List ℕ
display_of scalars.Unit = codes "unit"
display_of scalars.Null = codes "null"
display_of (scalars.Bool b) = in_brackets (codes "bool") (bool_text b)
display_of (scalars.Char c) = in_brackets (codes "char") (encode_utf8 c)
display_of (scalars.I64 z) = in_brackets (codes "i64") (signed_decimal z)
display_of (scalars.U64 n) = in_brackets (codes "u64") (decimal n)
display_of (scalars.I128 z) = in_brackets (codes "i128") (signed_decimal z)
display_of (scalars.U128 n) = in_brackets (codes "u128") (decimal n)
display_of (scalars.Str t) = text_bytes t
display_of (scalars.Bytes b) = codes "bytes"
