-- Reading a line of the whole grammar, for the proof that it is the line of one event.
use Rattle.std.proofs.Common.{ℕ, ℤ, zero, suc, pos, negsuc, ◌-◌, ◌*◌, ◌+◌, List, [], ◌∷◌, length, true, false, cond, Option, Some, None, option_map, option_and_then}
use Rattle.std.specs.Prelude.{◌==◌, codes}
use Rattle.std.specs.Char.{digit_value}
use Rattle.std.specs.Str.{bytes_eq, chars}
use Rattle.std.specs.Str.Parse.{digits_value}
use Rattle.semantics_lines.specs.Texts.{Phrase}
use Rattle.semantics_lines.specs.Events.{Metadata, Note, no_span, Scalar, unit, null, bool, char, i64, u64, i128, u128, str, bytes, named, nameless, ordered, scalar, key, tag, of_struct, of_sequence, object_kind, array_kind, Event, leaf, start, stop}
use Rattle.laws_lines.specs.Fronts.{strip}
use Rattle.laws_lines.specs.Quoted.{unquote}

-- a text and what follows it
abbrev pub Front : Type 0
Front = List ℕ × List ℕ

-- the bytes before the first space, and those from it on
abbrev pub word_of : List ℕ → List ℕ
word_of [] = []
word_of (b ∷ bs) = cond (b == 32) [] (b ∷ word_of bs)

abbrev pub rest_of : List ℕ → List ℕ
rest_of [] = []
rest_of (b ∷ bs) = cond (b == 32) (b ∷ bs) (rest_of bs)

abbrev pub owned : List ℕ → Phrase
owned text = record { bytes = text; borrowed = false }

abbrev pub Tagged : Type 0
Tagged = Option Phrase × List ℕ

abbrev pub with_tag : Front → Tagged
with_tag p = (Some (owned p.0), p.1)

abbrev pub tag_in : List ℕ → Option (List ℕ) → Option Tagged
tag_in bs None = Some (None, bs)
tag_in bs (Some rest) = option_map with_tag (unquote false rest)

abbrev pub tag_at : List ℕ → Option Tagged
tag_at bs = tag_in bs (strip (codes " tag \"") bs)

abbrev pub first_doc : Option (List Phrase) → List ℕ → Option (List Phrase)
first_doc o text = option_map (λ (ts : List Phrase). owned text ∷ ts) o

abbrev pub doc_in : (List ℕ → Option (List Phrase)) → Option Front → Option (List Phrase)
doc_in docs None = None
doc_in docs (Some p) = first_doc (docs p.1) p.0

-- so many texts of documentation at most
abbrev pub docs_at : ℕ → List ℕ → Option (List Phrase)
docs_at n [] = Some []
docs_at zero (b ∷ bs) = None
docs_at (suc n) (b ∷ bs) = doc_in (docs_at n) (option_and_then (unquote false) (strip (codes " doc \"") (b ∷ bs)))

abbrev pub told : Option Phrase → List Phrase → Metadata
told t docs = record { tag = t; docs = docs; span = None }

abbrev pub told_of : Tagged → Option Metadata
told_of x = option_map (told x.0) (docs_at (length x.1) x.1)

abbrev pub metadata_at : List ℕ → Option Metadata
metadata_at bs = option_and_then told_of (tag_at bs)

-- none where the line ends
abbrev pub suffix_at : List ℕ → Option (Option Metadata)
suffix_at [] = Some None
suffix_at (b ∷ bs) = option_map (λ (m : Metadata). Some m) (metadata_at (b ∷ bs))

abbrev pub noted : Option Metadata → Note
noted m = record { span = no_span; metadata = m }

abbrev pub Make : Type 0
Make = Option Metadata → Event

-- an event with the metadata behind it
abbrev pub made : Make → List ℕ → Option Event
made make bs = option_map make (suffix_at bs)

-- an event whose line ends here
abbrev pub ended_by : Event → List ℕ → Option Event
ended_by e [] = Some e
ended_by e (b ∷ bs) = None

abbrev pub with_text : (List ℕ → Make) → Front → Option Event
with_text make p = made (make p.0) p.1

abbrev pub texted : (List ℕ → Make) → List ℕ → Option Event
texted make bs = option_and_then (with_text make) (option_and_then (unquote false) (strip (codes " \"") bs))

-- the word behind a space
abbrev pub with_word : (List ℕ → Make) → List ℕ → Option Event
with_word make bs = made (make (word_of bs)) (rest_of bs)

abbrev pub worded : (List ℕ → Make) → List ℕ → Option Event
worded make bs = option_and_then (with_word make) (strip (codes " ") bs)

abbrev pub scalar_made : Scalar → Make
scalar_made s m = leaf (scalar s (noted m))

abbrev pub signed_value : List ℕ → ℤ
signed_value [] = pos 0
signed_value (b ∷ bs) = cond (b == 45) (negsuc (digits_value 10 bs - 1)) (pos (digits_value 10 (b ∷ bs)))

abbrev pub first_char : List ℕ → ℕ
first_char [] = 0
first_char (c ∷ cs) = c

abbrev pub unhex : List ℕ → List ℕ
unhex [] = []
unhex (a ∷ []) = []
unhex (a ∷ b ∷ bs) = (16 * digit_value a + digit_value b) ∷ unhex bs

abbrev pub named_made : List ℕ → Make
named_made text m = leaf (key (named (owned text) m (noted None)))

abbrev pub nameless_of : Metadata → Event
nameless_of m = leaf (key (nameless m (noted None)))

abbrev pub nameless_at : List ℕ → Option Event
nameless_at bs = option_map nameless_of (metadata_at bs)

abbrev pub or_else : Option Event → Option Event → Option Event
or_else (Some e) o = Some e
or_else None o = o

abbrev pub Reader : Type 0
Reader = List ℕ → Option Event

abbrev pub key_reader : Reader
key_reader bs = or_else (option_and_then nameless_at (strip (codes " -") bs)) (texted named_made bs)

abbrev pub tag_made : Option (List ℕ) → Make
tag_made t m = leaf (tag t (noted m))

abbrev pub tag_reader : Reader
tag_reader bs = or_else (option_and_then (made (tag_made None)) (strip (codes " -") bs)) (texted (λ t. tag_made (Some t)) bs)

-- a line by its first word
abbrev pub by_word : List (List ℕ × Reader) → List ℕ → Reader
by_word [] w bs = None
by_word (row ∷ rows) w bs = cond (bytes_eq row.0 w) (row.1 bs) (by_word rows w bs)

abbrev pub rows : List (List ℕ × Reader)
rows =
    (codes "{", made (λ m. start of_struct object_kind (noted m)))
    ∷ (codes "[", made (λ m. start of_sequence array_kind (noted m)))
    ∷ (codes "}", ended_by (stop of_struct (noted None)))
    ∷ (codes "]", ended_by (stop of_sequence (noted None)))
    ∷ (codes "o", ended_by (leaf (key (ordered (noted None)))))
    ∷ (codes "k", key_reader)
    ∷ (codes "v", tag_reader)
    ∷ (codes "unit", made (scalar_made unit))
    ∷ (codes "null", made (scalar_made null))
    ∷ (codes "true", made (scalar_made (bool true)))
    ∷ (codes "false", made (scalar_made (bool false)))
    ∷ (codes "c", texted (λ t. scalar_made (char (first_char (chars t)))))
    ∷ (codes "s", texted (λ t. scalar_made (str (owned t))))
    ∷ (codes "u", worded (λ w. scalar_made (u64 (digits_value 10 w))))
    ∷ (codes "U", worded (λ w. scalar_made (u128 (digits_value 10 w))))
    ∷ (codes "i", worded (λ w. scalar_made (i64 (signed_value w))))
    ∷ (codes "I", worded (λ w. scalar_made (i128 (signed_value w))))
    ∷ (codes "b", worded (λ w. scalar_made (bytes (owned (unhex w)))))
    ∷ []

-- the event of a line
abbrev pub event_at : List ℕ → Option Event
event_at line = by_word rows (word_of line) (rest_of line)
