-- The tape of such a form is the tape of its events.
use Rattle.std.proofs.Common.{◌≡◌, ℕ, ℤ, pos, negsuc, ◌+◌, ◌^◌, List, [], ◌∷◌, ◌++◌, length, map, Bool, Some, None, true, false, cond, codes, refl, ap, ap₂, ◌∙◌, append_assoc, append-nil, arith}
use Rattle.std.proofs.lemmas.Bool.Decides.{nat_tests}
use Rattle.std.proofs.lemmas.Str.{is_utf8-from_IsUtf8}
use Rattle.std.specs.Prelude.{IsTrue, nat_lt}
use Rattle.std.specs.Char.{encode_utf8}
use Rattle.std.specs.List.{flat_map, AllByRecursion as Every}
use Rattle.std.specs.Fmt.{decimal, signed_decimal}
use Rattle.std.specs.Str.{chars, is_utf8, all_scalars}
use Rattle.semantics_lines.specs.Shapes.{bits64, bits128}
use Rattle.semantics_lines.specs.Scalars.{fits_unsigned, fits_signed}
use Rattle.semantics_lines.specs.Calls.{Literal, null_literal, bool_literal, char_literal, i64_literal, u64_literal, str_literal}
use Rattle.semantics_lines.specs.Events.{Span, Note, no_note, scalar, named, key, of_struct, of_sequence, object_kind, array_kind, Event, leaf, start, stop, span_of, unplaced}
use Rattle.semantics_lines.specs.Documents.{Document, plain, sequence, object, Documents, no_documents, document, Members, no_members, member, on_tape, scalar_of_literal, scalar_event, key_event, document_events, documents_events, members_events}
use Rattle.semantics_lines.specs.Lines.{escape, quoted, after, magnitude, bool_word, scalar_line, line_of, IsTapeScalar, IsLineOf}
use Rattle.semantics_lines.specs.Tapes.{ended, tape, document_tape, line_span, IsTapeFrom, IsTape}
use Rattle.laws.proofs.Decimals.{joined_text, unsigned_is_text, signed_is_text}
use Rattle.laws_lines.proofs.Escapes.{spelled_text}
use Rattle.laws.proofs.Fitting.{IsKeyText, FitsLiteral, Fits, DocumentsFit, MembersFit}

-- the event has a line, wherever it stands
pub record HasLine (e : Event) : Type 0 where
  pub line : List ℕ
  pub spelled : line_of e ≡ Some line
  pub at : (s : Span) → (x : Event) × IsLineOf x line × (span_of x ≡ s) × (unplaced x ≡ e)

abbrev placed_note : Span → Note
placed_note s = record { span = s; metadata = None }

start_text : IsTrue (is_utf8 (codes "{"))
unfolding is_utf8 chars encode_utf8
start_text = refl

stop_text : IsTrue (is_utf8 (codes "}"))
unfolding is_utf8 chars encode_utf8
stop_text = refl

sequence_start_text : IsTrue (is_utf8 (codes "["))
unfolding is_utf8 chars encode_utf8
sequence_start_text = refl

sequence_stop_text : IsTrue (is_utf8 (codes "]"))
unfolding is_utf8 chars encode_utf8
sequence_stop_text = refl

null_text : is_utf8 (codes "null") ≡ true
unfolding is_utf8 chars encode_utf8
null_text = refl

bool_is_text : (b : Bool) → is_utf8 (bool_word b) ≡ true
unfolding is_utf8 chars encode_utf8
bool_is_text true = refl
bool_is_text false = refl

number_front : is_utf8 (codes "u ") ≡ true
unfolding is_utf8 chars encode_utf8
number_front = refl

signed_front : is_utf8 (codes "i ") ≡ true
unfolding is_utf8 chars encode_utf8
signed_front = refl

char_front : is_utf8 (codes "c \"") ≡ true
unfolding is_utf8 chars encode_utf8
char_front = refl

text_front : is_utf8 (codes "s \"") ≡ true
unfolding is_utf8 chars encode_utf8
text_front = refl

key_front : is_utf8 (codes "k \"") ≡ true
unfolding is_utf8 chars encode_utf8
key_front = refl

quote : is_utf8 (codes "\"") ≡ true
unfolding is_utf8 chars encode_utf8
quote = refl

-- a word and a quote, a text, and a quote
quoted_text : (front t : List ℕ) → is_utf8 front ≡ true → is_utf8 t ≡ true → is_utf8 (front ++ (flat_map escape t ++ codes "\"")) ≡ true
quoted_text front t word text = joined_text front (flat_map escape t ++ codes "\"") word (joined_text (flat_map escape t) (codes "\"") (spelled_text t text) quote)

char_is_text : (c : ℕ) → all_scalars (c ∷ []) ≡ true → is_utf8 (encode_utf8 c) ≡ true
char_is_text c is = is_utf8-from_IsUtf8 (encode_utf8 c) (c ∷ [], (is, append-nil (encode_utf8 c)))

-- the line of a scalar
scalar_has_line : (l : Literal) (line : List ℕ) → scalar_line (scalar_of_literal l) None ≡ Some line → IsTapeScalar (scalar_of_literal l) → is_utf8 line ≡ true → HasLine (scalar_event l)
scalar_has_line l line spelled borrowed text = record {
  line = line;
  spelled = spelled;
  at = λ s. (leaf (scalar (scalar_of_literal l) (placed_note s)), record { spelled = spelled; texts = (borrowed, tt); utf8 = text }, refl, refl);
}

wider : (n : ℕ) → fits_unsigned bits64 n ≡ true → fits_unsigned bits128 n ≡ true
wider n fits = grind (arith, nat_tests)

wider_signed : (z : ℤ) → fits_signed bits64 z ≡ true → fits_signed bits128 z ≡ true
wider_signed (pos n) fits = grind (arith, nat_tests)
wider_signed (negsuc n) fits = grind (arith, nat_tests)

small : (z : ℤ) → fits_signed bits64 z ≡ true → nat_lt (magnitude z) (2 ^ 63) ≡ true
small (pos n) fits = fits
small (negsuc n) fits = fits

literal_line : (l : Literal) → FitsLiteral l → HasLine (scalar_event l)
literal_line null_literal fits = scalar_has_line null_literal (codes "null") refl tt null_text
literal_line (bool_literal b) fits = scalar_has_line (bool_literal b) (bool_word b) refl tt (bool_is_text b)
literal_line (char_literal c) fits =
    scalar_has_line (char_literal c) (codes "c " ++ quoted (encode_utf8 c)) (ap (λ b. after (codes "c ") (cond b (Some (quoted (encode_utf8 c))) None)) fits) tt
    (quoted_text (codes "c \"") (encode_utf8 c) char_front (char_is_text c fits))
literal_line (i64_literal z) fits =
    scalar_has_line (i64_literal z) (codes "i " ++ signed_decimal z) (ap (λ b. after (codes "i ") (cond b (Some (signed_decimal z)) None)) (small z fits)) tt
    (joined_text (codes "i ") (signed_decimal z) signed_front (signed_is_text z (wider_signed z fits)))
literal_line (u64_literal n) fits =
    scalar_has_line (u64_literal n) (codes "u " ++ decimal n) (ap (λ b. after (codes "u ") (cond b (Some (decimal n)) None)) fits) tt
    (joined_text (codes "u ") (decimal n) number_front (unsigned_is_text n (wider n fits)))
literal_line (str_literal t) fits = scalar_has_line (str_literal t) (codes "s " ++ quoted t) refl refl (quoted_text (codes "s \"") t text_front fits)
literal_line _ fits = absurd fits

key_line : (t : List ℕ) → IsKeyText t → HasLine (key_event t)
key_line t is = record {
  line = codes "k " ++ quoted t;
  spelled = refl;
  at = λ s. (leaf (key (named (on_tape t) None (placed_note s))), record { spelled = refl; texts = (refl, tt); utf8 = quoted_text (codes "k \"") t key_front is }, refl, refl);
}

start_line : HasLine (start of_struct object_kind no_note)
start_line = record { line = codes "{"; spelled = refl; at = λ s. (start of_struct object_kind (placed_note s), record { spelled = refl; texts = tt; utf8 = start_text }, refl, refl) }

stop_line : HasLine (stop of_struct no_note)
stop_line = record { line = codes "}"; spelled = refl; at = λ s. (stop of_struct (placed_note s), record { spelled = refl; texts = tt; utf8 = stop_text }, refl, refl) }

sequence_start_line : HasLine (start of_sequence array_kind no_note)
sequence_start_line = record { line = codes "["; spelled = refl; at = λ s. (start of_sequence array_kind (placed_note s), record { spelled = refl; texts = tt; utf8 = sequence_start_text }, refl, refl) }

sequence_stop_line : HasLine (stop of_sequence no_note)
sequence_stop_line = record { line = codes "]"; spelled = refl; at = λ s. (stop of_sequence (placed_note s), record { spelled = refl; texts = tt; utf8 = sequence_stop_text }, refl, refl) }

every_appended : {A : Type 0} (P : A → Type 0) (xs ys : List A) → Every P xs → Every P ys → Every P (xs ++ ys)
every_appended P [] ys all more = more
every_appended P (x ∷ xs) ys (p, all) more = (p, every_appended P xs ys all more)

mutual
  form_lines : (d : Document) → Fits d → Every HasLine (document_events d)
  form_lines (plain l) fits = (literal_line l fits, tt)
  form_lines (sequence ds) fits = (sequence_start_line, every_appended HasLine (documents_events ds) (stop of_sequence no_note ∷ []) (documents_lines ds fits) (sequence_stop_line, tt))
  form_lines (object ms) fits = (start_line, every_appended HasLine (members_events ms) (stop of_struct no_note ∷ []) (members_lines ms fits) (stop_line, tt))

  documents_lines : (ds : Documents) → DocumentsFit ds → Every HasLine (documents_events ds)
  documents_lines no_documents fits = tt
  documents_lines (document d ds) (fits, rest) = every_appended HasLine (document_events d) (documents_events ds) (form_lines d fits) (documents_lines ds rest)

  members_lines : (ms : Members) → MembersFit ms → Every HasLine (members_events ms)
  members_lines no_members fits = tt
  members_lines (member m k d ms) ((name, fits), rest) = (key_line k name, every_appended HasLine (document_events d) (members_events ms) (form_lines d fits) (members_lines ms rest))

taped_from : (es : List Event) → Every HasLine es → (at : ℕ) → (list : List Event) × IsTapeFrom at list (tape es) × (map unplaced list ≡ es)
taped_from [] all at = ([], refl, refl)
taped_from (e ∷ es) (has, all) at =
    let (x, is, spanned, same) = has.at (line_span at has.line) in
    let (list, rest, unspanned) = taped_from es all (at + length has.line + 1) in (
      x ∷ list,
      (has.line, tape es, ap (λ o. ended o ++ tape es) has.spelled ∙ append_assoc has.line (10 ∷ []) (tape es), is, spanned, rest),
      ap₂ (λ y l. y ∷ l) same unspanned,
    )

pub form_taped : (d : Document) → Fits d → (list : List Event) × IsTape list (document_tape d) × (map unplaced list ≡ document_events d)
form_taped d fits = taped_from (document_events d) (form_lines d fits) 0
