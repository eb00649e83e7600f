-- Tapes: lines, each with its line feed.
use Rattle.std.specs.Prelude.{◌≡◌, ℕ, ◌+◌, ◌==◌, List, [], ◌∷◌, ◌++◌, length, take, Bool, not, Option, Some, None, IsTrue}
use Rattle.std.specs.List.{flat_map, list_all}
use Rattle.std.specs.Str.{is_utf8, chars}
use Rattle.semantics_lines.specs.Events.{no_note, of_struct, of_sequence, object_kind, array_kind, Event, start, stop, Span, span_of}
use Rattle.semantics_lines.specs.Calls.{Call, begin_struct, field_key, end_struct, begin_seq, end_seq, write_scalar}
use Rattle.semantics_lines.specs.Faults.{FaultKind, unexpected_char, unexpected_eof, invalid_utf8, Fault, Ending, ends, stops}
use Rattle.semantics_lines.specs.Documents.{Document, key_event, scalar_event, document_events}
use Rattle.semantics_lines.specs.Lines.{line_of, IsLineOf, IsNoLine}

-- a line and its line feed, where there is one
abbrev pub ended : Option (List ℕ) → List ℕ
ended None = []
ended (Some line) = line ++ (10 ∷ [])

-- the line of an event and its line feed
abbrev pub tape_line : Event → List ℕ
tape_line e = ended (line_of e)

-- the tape of some events
abbrev pub tape : List Event → List ℕ
tape es = flat_map tape_line es

-- the tape of a document
abbrev pub document_tape : Document → List ℕ
document_tape d = tape (document_events d)

-- what a call of a serializer puts on a tape: one event for each of the six that write, and nothing for the others
abbrev pub call_events : Call → List Event
call_events begin_struct = start of_struct object_kind no_note ∷ []
call_events (field_key name) = key_event name ∷ []
call_events end_struct = stop of_struct no_note ∷ []
call_events begin_seq = start of_sequence array_kind no_note ∷ []
call_events end_seq = stop of_sequence no_note ∷ []
call_events (write_scalar l) = scalar_event l ∷ []
call_events _ = []

-- the tape of some calls
abbrev pub calls_tape : List Call → List ℕ
calls_tape calls = tape (flat_map call_events calls)

-- the span of a line that begins at a byte
abbrev pub line_span : ℕ → List ℕ → Span
line_span at line = record { offset = at; len = length line }

-- The input, whose first byte is byte `at` of the whole, is the tape of these events, each with its span.
abbrev pub IsTapeFrom : ℕ → List Event → List ℕ → Type 0
IsTapeFrom at [] input = input ≡ []
IsTapeFrom at (e ∷ es) input = (line rest : List ℕ) × (input ≡ line ++ (10 ∷ rest)) × IsLineOf e line
    × (span_of e ≡ line_span at line) × IsTapeFrom (at + length line + 1) es rest

-- the whole input is the tape of these events
abbrev pub IsTape : List Event → List ℕ → Type 0
IsTape es input = IsTapeFrom 0 es input

-- the first character of a line, or the line feed of an empty one
abbrev pub first_or_end : List ℕ → ℕ
first_or_end [] = 10
first_or_end (c ∷ cs) = c

-- there is no line feed in it
abbrev pub has_no_end : List ℕ → Bool
has_no_end line = list_all (λ b. not (b == 10)) line

-- a fault at a line, with no path
abbrev pub at_line : FaultKind → ℕ → List ℕ → Fault
at_line kind at line = record { kind = kind; span = Some (line_span at line); path = None }

-- The fault of what stands at byte `at`: bytes without a line feed, a line that is no text, or one that no event has.
pub data IsLineFault (at : ℕ) (input : List ℕ) (f : Fault) : Type 0 where
  no_end : (b : ℕ) (more : List ℕ) → input ≡ b ∷ more → IsTrue (has_no_end input) → f ≡ at_line unexpected_eof at input → IsLineFault at input f
  no_text : (line rest : List ℕ) → IsTrue (has_no_end line) → input ≡ line ++ (10 ∷ rest)
      → (IsTrue (is_utf8 line) → ⊥) → f ≡ at_line (invalid_utf8 (take 16 line)) at line → IsLineFault at input f
  no_event : (line rest : List ℕ) → IsTrue (has_no_end line) → input ≡ line ++ (10 ∷ rest)
      → IsTrue (is_utf8 line) → IsNoLine line → f ≡ at_line (unexpected_char (first_or_end (chars line))) at line → IsLineFault at input f

-- What comes of the input: the events of its lines before the first bad one, and then their end or its fault.
pub data Comes (input : List ℕ) (events : List Event) (ending : Ending) : Type 0 where
  to_the_end : ending ≡ ends → IsTape events input → Comes input events ending
  to_a_fault : (good rest : List ℕ) (f : Fault) → ending ≡ stops f → input ≡ good ++ rest → IsTape events good
      → IsLineFault (length good) rest f → Comes input events ending
