-- Texts and bytes, as the definitions see them.
use Rattle.std.specs.Prelude.{ℕ, List, Bool, true, false}
use Rattle.semantics_lines.specs.Texts.{Phrase}
use Rattle.shape_types.specs.declared.text.Text.{Text}
use Rattle.shape_types.specs.declared.text.Text.TheVariants as text
use Rattle.shape_types.specs.declared.bytes.Bytes.{Bytes}
use Rattle.shape_types.specs.declared.bytes.Bytes.TheVariants as bytes

-- what the text holds, in bytes
abbrev pub text_bytes : Text → List ℕ
text_bytes (text.Borrowed r) = r.now
text_bytes (text.Owned n) = n

-- whether the text lies in the input
abbrev pub is_borrowed : Text → Bool
is_borrowed (text.Borrowed r) = true
is_borrowed (text.Owned n) = false

-- the text as a phrase
abbrev pub phrase_of : Text → Phrase
phrase_of t = record { bytes = text_bytes t; borrowed = is_borrowed t }

-- the same bytes, owned
abbrev pub owned : Phrase → Phrase
owned p = record { bytes = p.bytes; borrowed = false }

-- the bytes themselves
abbrev pub byte_list : Bytes → List ℕ
byte_list (bytes.Borrowed r) = r.now
byte_list (bytes.Owned n) = n

-- whether the bytes lie in the input
abbrev pub bytes_are_borrowed : Bytes → Bool
bytes_are_borrowed (bytes.Borrowed r) = true
bytes_are_borrowed (bytes.Owned n) = false

-- the bytes as a phrase
abbrev pub bytes_phrase : Bytes → Phrase
bytes_phrase b = record { bytes = byte_list b; borrowed = bytes_are_borrowed b }
