-- Reading the body of a line: what it says before its metadata.
use Rattle.std.specs.Prelude.{ℕ, List, [], ◌∷◌, Bool, true, false, not, Option, None, Some, option_map, codes}
use Rattle.std.specs.Option.{option_or}
use Rattle.semantics_lines.specs.Texts.{Phrase}
use Rattle.semantics_lines.specs.Events.{Scalar, unit, null, bool, char, i64, u64, i128, u128, str, bytes, Bracket, of_struct, of_sequence}
use Rattle.semantics_lines.specs.Lines.{is_empty_list}
use Rattle.laws_lines.specs.Fronts.{strip, number_at, signed_at, bytes_at}
use Rattle.laws_lines.specs.Quoted.{unquoted, text_at, char_at}

-- what a line says before its metadata
pub data Body : Type 0 where
  opens : Bracket → Body
  closes : Bracket → Body
  next_field : Body
  -- a key, perhaps with a name
  names : Option Phrase → Body
  -- the tag of a variant, where it has one
  tags : Option (List ℕ) → Body
  holds : Scalar → Body

-- bytes that aren't empty, or another scalar
abbrev pub scalar_takes_metadata : Scalar → Bool
scalar_takes_metadata (bytes t) = not (is_empty_list t.bytes)
scalar_takes_metadata _ = true

-- metadata may stand behind it
abbrev pub takes_metadata : Body → Bool
takes_metadata (closes b) = false
takes_metadata next_field = false
takes_metadata (holds s) = scalar_takes_metadata s
takes_metadata _ = true

-- a body, and what stands behind it
abbrev pub Found : Type 0
Found = Option (Body × List ℕ)

abbrev pub Reader : Type 0
Reader = List ℕ → Found

-- the words of letters, or of a letter and a dash, that are bodies by themselves
abbrev pub letter_words : List (List ℕ × Body)
letter_words =
    (codes "unit", holds unit)
    ∷ (codes "null", holds null)
    ∷ (codes "true", holds (bool true))
    ∷ (codes "false", holds (bool false))
    ∷ (codes "k -", names None)
    ∷ (codes "v -", tags None)
    ∷ []

-- the words that are bodies by themselves
abbrev pub bare_words : List (List ℕ × Body)
bare_words =
    (codes "{", opens of_struct)
    ∷ (codes "}", closes of_struct)
    ∷ (codes "[", opens of_sequence)
    ∷ (codes "]", closes of_sequence)
    ∷ (codes "o", next_field)
    ∷ letter_words

abbrev pub fixed : List ℕ → Body → Reader
fixed word body text = option_map (λ rest. (body, rest)) (strip word text)

abbrev pub bare_in : List (List ℕ × Body) → Reader
bare_in [] text = None
bare_in (w ∷ ws) text = option_or (fixed w.0 w.1 text) (bare_in ws text)

-- a body that is a word
unfoldable pub bare_at : Reader
bare_at text = bare_in bare_words text

abbrev pub owned_bytes : List ℕ → Scalar
owned_bytes bs = bytes (record { bytes = bs; borrowed = false })

-- what stands behind the word of each other body
unfoldable pub key_at : Reader
key_at text = option_map (λ p. (names (Some p.0), p.1)) (text_at text)

unfoldable pub str_at : Reader
str_at text = option_map (λ p. (holds (str p.0), p.1)) (text_at text)

unfoldable pub letter_at : Reader
letter_at text = option_map (λ p. (holds (char p.0), p.1)) (char_at text)

unfoldable pub hex_at : Reader
hex_at text = option_map (λ p. (holds (owned_bytes p.0), p.1)) (bytes_at text)

unfoldable pub variant_at : Reader
variant_at text = option_map (λ p. (tags (Some p.0), p.1)) (unquoted text)

unfoldable pub small_at : Reader
small_at text = option_map (λ p. (holds (u64 p.0), p.1)) (number_at 64 text)

unfoldable pub small_signed_at : Reader
small_signed_at text = option_map (λ p. (holds (i64 p.0), p.1)) (signed_at 63 64 text)

unfoldable pub large_at : Reader
large_at text = option_map (λ p. (holds (u128 p.0), p.1)) (number_at 128 text)

unfoldable pub large_signed_at : Reader
large_signed_at text = option_map (λ p. (holds (i128 p.0), p.1)) (signed_at 127 128 text)

-- the words that tags of variants and numbers begin with
abbrev pub plain_rows : List (List ℕ × Reader)
plain_rows =
    (codes "v \"", variant_at)
    ∷ (codes "u ", small_at)
    ∷ (codes "i ", small_signed_at)
    ∷ (codes "U ", large_at)
    ∷ (codes "I ", large_signed_at)
    ∷ []

-- the words that bodies with a content begin with
abbrev pub rows : List (List ℕ × Reader)
rows =
    (codes "k ", key_at)
    ∷ (codes "s ", str_at)
    ∷ (codes "c ", letter_at)
    ∷ (codes "b ", hex_at)
    ∷ plain_rows

abbrev pub by_word : Reader → Found → Option (List ℕ) → Found
by_word read others None = others
by_word read others (Some rest) = read rest

abbrev pub body_in : List (List ℕ × Reader) → Reader
body_in [] text = None
body_in (row ∷ more) text = by_word row.1 (body_in more text) (strip row.0 text)

-- a body, and what stands behind it
unfoldable pub body_at : Reader
body_at text = option_or (bare_at text) (body_in rows text)
