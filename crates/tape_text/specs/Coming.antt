-- What comes from a tape: the events of its lines up to the first bad one, and what stands behind them.
use Rattle.std.specs.Prelude.{ℕ, ◌+◌, ◌==◌, cond, List, [], ◌∷◌, length, take, Option, Some, None}
use Rattle.std.specs.Str.{is_utf8, chars}
use Rattle.semantics_lines.specs.Events.{Event}
use Rattle.semantics_lines.specs.Faults.{unexpected_char, unexpected_eof, invalid_utf8, Fault, Ending, ends, stops, Coming}
use Rattle.semantics_lines.specs.Tapes.{line_span, first_or_end, at_line}
use Rattle.tape_text.specs.Reading.{event_of}

-- the lines of the bytes, each without its line feed, and what stands behind the last of these
pub record Lines : Type 0 where
  pub whole : List (List ℕ)
  pub rest : List ℕ

-- with one byte more in front
abbrev pub longer : ℕ → Lines → Lines
longer b ls = elim (ls.whole) [ [] ↦ record { whole = []; rest = b ∷ ls.rest } | l ∷ more ↦ record { whole = (b ∷ l) ∷ more; rest = ls.rest } ]

unfoldable pub lines_of : List ℕ → Lines
lines_of [] = record { whole = []; rest = [] }
lines_of (b ∷ bs) = cond (b == 10) (record { whole = [] ∷ (lines_of bs).whole; rest = (lines_of bs).rest }) (longer b (lines_of bs))

-- what a line is
pub data Judged : Type 0 where
  good : Event → Judged
  bad : Fault → Judged

abbrev pub judged_text : ℕ → List ℕ → Option Event → Judged
judged_text at line None = bad (at_line (unexpected_char (first_or_end (chars line))) at line)
judged_text at line (Some e) = good e

-- the event of a line, or its fault
unfoldable pub judged : ℕ → List ℕ → Judged
judged at line = cond (is_utf8 line) (judged_text at line (event_of (line_span at line) line)) (bad (at_line (invalid_utf8 (take 16 line)) at line))

-- an event, and then what comes
abbrev pub before : Event → Coming → Coming
before e c = record { events = e ∷ c.events; ending = c.ending }

-- no event
abbrev pub only : Ending → Coming
only ending = record { events = []; ending = ending }

abbrev pub on_line : Judged → Coming → Coming
on_line (good e) later = before e later
on_line (bad f) later = only (stops f)

abbrev pub on_rest : ℕ → List ℕ → Coming
on_rest at [] = only ends
on_rest at (b ∷ bs) = only (stops (at_line unexpected_eof at (b ∷ bs)))

-- what comes from lines, the first of which stands at byte `at`
abbrev pub coming_lines : ℕ → List (List ℕ) → List ℕ → Coming
coming_lines at [] rest = on_rest at rest
coming_lines at (l ∷ ls) rest = on_line (judged at l) (coming_lines (at + length l + 1) ls rest)

-- what comes from bytes, the first of which is byte `at` of the tape
unfoldable pub coming_from : ℕ → List ℕ → Coming
coming_from at bytes = coming_lines at (lines_of bytes).whole (lines_of bytes).rest
