-- Lines of a tape: one event each, spelled so.
use Rattle.std.specs.Prelude.{◌≡◌, ℕ, ℤ, pos, negsuc, ◌+◌, ◌/◌, ◌%◌, ◌^◌, nat_lt, ◌==◌, List, [], ◌∷◌, ◌++◌, Bool, true, false, ◌&&◌, cond, Option, Some, None, option_map, is_none, codes, encode_utf8, IsTrue}
use Rattle.std.specs.List.{flat_map, list_all}
use Rattle.std.specs.Fmt.{decimal, signed_decimal}
use Rattle.std.specs.Str.{is_utf8, all_scalars}
use Rattle.semantics_lines.specs.Texts.{Phrase, is_plain}
use Rattle.semantics_lines.specs.Events.{Metadata, Scalar, unit, null, bool, char, i64, u64, i128, u128, str, bytes, Key, named, nameless, ordered, scalar, key, tag, of_struct, of_sequence, object_kind, array_kind, Event, leaf, start, stop}

-- a backslash before a backslash, a quote and an n, which stands for a line feed
abbrev pub escape : ℕ → List ℕ
escape b = cond (b == 92) (92 ∷ 92 ∷ []) (cond (b == 34) (92 ∷ 34 ∷ []) (cond (b == 10) (92 ∷ 110 ∷ []) (b ∷ [])))

-- a text between quotes
abbrev pub quoted : List ℕ → List ℕ
quoted text = 34 ∷ (flat_map escape text ++ (34 ∷ []))

-- a hexadecimal digit in lower case
abbrev pub hex_digit : ℕ → ℕ
hex_digit n = cond (nat_lt n 10) (48 + n) (87 + n)

-- two digits for each byte
abbrev pub hex_pair : ℕ → List ℕ
hex_pair b = hex_digit (b / 16) ∷ hex_digit (b % 16) ∷ []

-- bytes in hexadecimal digits
abbrev pub hex : List ℕ → List ℕ
hex text = flat_map hex_pair text

-- a number in its range, in decimal
abbrev pub number : ℕ → ℕ → Option (List ℕ)
number bits n = cond (nat_lt n (2 ^ bits)) (Some (decimal n)) None

-- what a signed number needs room for: itself, or one less than its absolute value where it is negative
abbrev pub magnitude : ℤ → ℕ
magnitude (pos n) = n
magnitude (negsuc n) = n

-- a signed number in its range, which has one bit less for the magnitude
abbrev pub signed_number : ℕ → ℤ → Option (List ℕ)
signed_number half z = cond (nat_lt (magnitude z) (2 ^ half)) (Some (signed_decimal z)) None

-- one character between quotes
abbrev pub character : ℕ → Option (List ℕ)
character c = cond (all_scalars (c ∷ [])) (Some (quoted (encode_utf8 c))) None

-- behind a word
abbrev pub after : List ℕ → Option (List ℕ) → Option (List ℕ)
after word o = option_map (λ rest. word ++ rest) o

-- the word of a truth value
abbrev pub bool_word : Bool → List ℕ
bool_word true = codes "true"
bool_word false = codes "false"

-- how a scalar is spelled, without its metadata
abbrev pub scalar_body : Scalar → Option (List ℕ)
scalar_body unit = Some (codes "unit")
scalar_body null = Some (codes "null")
scalar_body (bool b) = Some (bool_word b)
scalar_body (char c) = after (codes "c ") (character c)
scalar_body (i64 z) = after (codes "i ") (signed_number 63 z)
scalar_body (u64 n) = after (codes "u ") (number 64 n)
scalar_body (i128 z) = after (codes "I ") (signed_number 127 z)
scalar_body (u128 n) = after (codes "U ") (number 128 n)
scalar_body (str t) = Some (codes "s " ++ quoted t.bytes)
scalar_body (bytes t) = cond (list_all (λ b. nat_lt b 256) t.bytes) (Some (codes "b " ++ hex t.bytes)) None

-- the name of a variant holds nothing that would need a spelling
abbrev pub tag_body : Option (List ℕ) → Option (List ℕ)
tag_body None = Some (codes "v -")
tag_body (Some t) = cond (is_plain t) (Some (codes "v " ++ quoted t)) None

-- how a tag is spelled, where there is one
abbrev pub tag_suffix : Option Phrase → List ℕ
tag_suffix None = []
tag_suffix (Some t) = codes " tag " ++ quoted t.bytes

-- how a line of documentation is spelled
abbrev pub doc_suffix : Phrase → List ℕ
doc_suffix t = codes " doc " ++ quoted t.bytes

-- a tag, and then lines of documentation
abbrev pub suffix : Metadata → List ℕ
suffix m = tag_suffix m.tag ++ flat_map doc_suffix m.docs

-- there is nothing in it
abbrev pub is_empty_list : {A : Type 0} → List A → Bool
is_empty_list [] = true
is_empty_list (x ∷ xs) = false

-- no tag and no documentation
abbrev pub says_nothing : Metadata → Bool
says_nothing m = is_none m.tag && is_empty_list m.docs

-- Metadata that a tape tells has no place.
abbrev pub with_metadata : Metadata → Option (List ℕ) → Option (List ℕ)
with_metadata m body = cond (is_none m.span) (option_map (λ text. text ++ suffix m) body) None

-- metadata that is there says something
abbrev pub with_some : Option Metadata → Option (List ℕ) → Option (List ℕ)
with_some None body = body
with_some (Some m) body = cond (says_nothing m) None (with_metadata m body)

-- where none can stand
abbrev pub with_none : Option Metadata → Option (List ℕ) → Option (List ℕ)
with_none None body = body
with_none (Some m) body = None

-- after `b ` the line ends where there is no pair of digits
abbrev pub scalar_line : Scalar → Option Metadata → Option (List ℕ)
scalar_line (bytes t) m = cond (is_empty_list t.bytes) (with_none m (scalar_body (bytes t))) (with_some m (scalar_body (bytes t)))
scalar_line s m = with_some m (scalar_body s)

-- The metadata on the line of a key is the key's.
abbrev pub key_line : Key → Option (List ℕ)
key_line (named t m n) = with_none n.metadata (with_some m (Some (codes "k " ++ quoted t.bytes)))
key_line (nameless m n) = with_none n.metadata (with_metadata m (Some (codes "k -")))
key_line (ordered n) = with_none n.metadata (Some (codes "o"))

-- The line of an event, without its line feed. Some events have none.
abbrev pub line_of : Event → Option (List ℕ)
line_of (leaf (scalar s n)) = scalar_line s n.metadata
line_of (leaf (key k)) = key_line k
line_of (leaf (tag t n)) = with_some n.metadata (tag_body t)
line_of (start of_struct object_kind n) = with_some n.metadata (Some (codes "{"))
line_of (start of_struct array_kind n) = None
line_of (start of_sequence array_kind n) = with_some n.metadata (Some (codes "["))
line_of (start of_sequence object_kind n) = None
line_of (stop of_struct n) = with_none n.metadata (Some (codes "}"))
line_of (stop of_sequence n) = with_none n.metadata (Some (codes "]"))

-- A text is borrowed from the tape exactly where it is spelled as it stands.
abbrev pub IsTapeText : Phrase → Type 0
IsTapeText t = t.borrowed ≡ is_plain t.bytes

-- the same of a tag, where there is one
abbrev pub IsTapeTag : Option Phrase → Type 0
IsTapeTag None = Unit {0}
IsTapeTag (Some t) = IsTapeText t

-- the same of each text
abbrev pub AreTapeTexts : List Phrase → Type 0
AreTapeTexts [] = Unit {0}
AreTapeTexts (t ∷ ts) = IsTapeText t × AreTapeTexts ts

-- the same of all texts of metadata, where there is some
abbrev pub IsTapeMetadata : Option Metadata → Type 0
IsTapeMetadata None = Unit {0}
IsTapeMetadata (Some m) = IsTapeTag m.tag × AreTapeTexts m.docs

-- the same of the text of a scalar; bytes are never borrowed, since they are spelled in digits
abbrev pub IsTapeScalar : Scalar → Type 0
IsTapeScalar (str t) = IsTapeText t
IsTapeScalar (bytes t) = t.borrowed ≡ false
IsTapeScalar _ = Unit {0}

-- the same of a key and its metadata
abbrev pub IsTapeKey : Key → Type 0
IsTapeKey (named t m n) = IsTapeText t × IsTapeMetadata m
IsTapeKey (nameless m n) = IsTapeMetadata (Some m)
IsTapeKey (ordered n) = Unit {0}

-- the same of all texts of an event
abbrev pub HasTapeTexts : Event → Type 0
HasTapeTexts (leaf (scalar s n)) = IsTapeScalar s × IsTapeMetadata n.metadata
HasTapeTexts (leaf (key k)) = IsTapeKey k
HasTapeTexts (leaf (tag t n)) = IsTapeMetadata n.metadata
HasTapeTexts (start b c n) = IsTapeMetadata n.metadata
HasTapeTexts (stop b n) = IsTapeMetadata n.metadata

-- the text is the line of the event, whose texts are borrowed as they would be from the tape
pub record IsLineOf (e : Event) (line : List ℕ) : Type 0 where
  pub spelled : line_of e ≡ Some line
  pub texts : HasTapeTexts e
  pub utf8 : IsTrue (is_utf8 line)

-- no event has this line
abbrev pub IsNoLine : List ℕ → Type 0
IsNoLine line = (e : Event) → IsLineOf e line → ⊥
