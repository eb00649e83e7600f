-- What holds of the reading of a tape.
use Rattle.std.specs.Prelude.{◌≡◌, ℕ, List, Some, None}
use Rattle.semantics_lines.specs.Events.{Event, Span, span_of, unplaced}
use Rattle.semantics_lines.specs.Faults.{Ending, ends}
use Rattle.semantics_lines.specs.Lines.{IsLineOf, IsNoLine}
use Rattle.semantics_lines.specs.Tapes.{IsTape}
use Rattle.semantics_lines.specs.Tapes.{Comes}
use Rattle.tape_text.specs.Reading.{event_of}
use Rattle.tape_text.specs.Coming.{coming_from}

-- A line is read as an event exactly where it is the event's line, and as none exactly where no event has it.
pub record LineIsRead (span : Span) (line : List ℕ) : Type 0 where
  pub sound : (e : Event) → event_of span line ≡ Some e → IsLineOf e line × (span_of e ≡ span)
  pub whole : (e : Event) → IsLineOf e line → span_of e ≡ span → event_of span line ≡ Some e
  pub none : event_of span line ≡ None → IsNoLine line
  pub never : IsNoLine line → event_of span line ≡ None

-- What comes from an input is what it is the tape of, and then its end or the fault of its first bad line. No other
-- events come of it, and it is the tape of one list of events at most.
pub record TapeIsRead (input : List ℕ) : Type 0 where
  pub comes : Comes input (coming_from 0 input).events (coming_from 0 input).ending
  pub only : (es : List Event) (ending : Ending) → Comes input es ending → coming_from 0 input ≡ record { events = es; ending = ending }
  pub tape : (es : List Event) → coming_from 0 input ≡ record { events = es; ending = ends } → IsTape es input
  pub one : (es fs : List Event) → IsTape es input → IsTape fs input → es ≡ fs

-- Wherever they stand, two events don't share a line.
abbrev pub OneLineOneEvent : Type 0
OneLineOneEvent = (a b : Event) (line : List ℕ) → IsLineOf a line → IsLineOf b line → unplaced a ≡ unplaced b
