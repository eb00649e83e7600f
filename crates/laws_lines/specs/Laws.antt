-- What holds of lines, and of the texts that they make.
use Rattle.std.specs.Prelude.{◌≡◌, ◌↔◌, ℕ, List, Some, IsTrue}
use Rattle.semantics_lines.specs.Divided.{joined, IsDivided}
use Rattle.semantics_lines.specs.ShapeLines.{ShapeLine, spelling, has_parts}
use Rattle.laws_lines.specs.ShapeLineReading.{line_of as shape_line_of}
use Rattle.semantics_lines.specs.Events.{Event, content_of}
use Rattle.semantics_lines.specs.Lines.{line_of}
use Rattle.semantics_lines.specs.Tapes.{IsTape}

-- Two events that share a line say the same, wherever they stand and whatever their texts are borrowed from.
abbrev pub OneEvent : Type 0
OneEvent = (a b : Event) (line : List ℕ) → line_of a ≡ Some line → line_of b ≡ Some line → content_of a ≡ content_of b

-- Bytes are the tape of one list of events at most.
abbrev pub OneTape : Type 0
OneTape = (events other : List Event) (input : List ℕ) → IsTape events input → IsTape other input → events ≡ other

-- A line of a shape text has one spelling, is spelled by no other line, and is read from the left as what it says.
abbrev pub OneShapeLine : Type 0
OneShapeLine = ((l m : ShapeLine) → IsTrue (has_parts l) → IsTrue (has_parts m) → spelling l ≡ spelling m → l ≡ m)
    × ((text : List ℕ) (l : ShapeLine) → (shape_line_of text ≡ Some l) ↔ (IsTrue (has_parts l) × (text ≡ spelling l)))

-- An input is divided into one shape text and one tape.
abbrev pub OneDivision : Type 0
OneDivision = (input : List ℕ) (ls ms : List (List ℕ)) (r s : List ℕ) → IsDivided input ls r → IsDivided input ms s → (joined ls ≡ joined ms) × (r ≡ s)
