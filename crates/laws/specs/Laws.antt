-- What holds of the definitions.
use Rattle.std.specs.Prelude.{◌≡◌, ℕ, ◌≤◌, List, ◌++◌, map, true, false, Some, Ok, IsTrue, MatchResult}
use Rattle.semantics_lines.specs.Trees.{Tree}
use Rattle.semantics_lines.specs.Shapes.{Registry}
use Rattle.semantics_lines.specs.Shapes.{Draft}
use Rattle.semantics.specs.CheckedText.{IsShapeText, IsShapeTextFault}
use Rattle.semantics_lines.specs.ShapeText.{ShapeTextKind}
use Rattle.semantics.specs.Registry.{IsRegistry}
use Rattle.semantics_lines.specs.Events.{Event, unplaced}
use Rattle.semantics.specs.Runs.{Run, run_events}
use Rattle.semantics_lines.specs.Documents.{Document, Permuted, document_events}
use Rattle.semantics.specs.Typed.{typed, tree_is_utf8}
use Rattle.semantics.specs.Defaults.{default_at}
use Rattle.semantics.specs.Writing.{write}
use Rattle.semantics.specs.Calling.{Writer, calls_of}
use Rattle.semantics.specs.Reading.{Setting, Source, from_events, read, Reads}
use Rattle.semantics.specs.Depths.{depth}
use Rattle.semantics.specs.Validity.{every_clash, Separable, Clean, Alike}
use Rattle.semantics_lines.specs.Tapes.{document_tape, IsTape, calls_tape}
use Rattle.semantics.specs.Recoding.{Recodes, IsReadable, IsValid}

-- Of the whole runs that begin one list of events there is at most one.
abbrev pub OneRun : Type 0
OneRun = (r u : Run) (x y : List Event) → run_events r ++ x ≡ run_events u ++ y → (r ≡ u) × (x ≡ y)

-- Events are read as one value at most.
abbrev pub OneValue : Type 0
OneValue = (g : Setting) (depth shape : ℕ) (source : Source) (events : List Event) (v w : Tree)
    → Reads g depth shape source events v → Reads g depth shape source events w → v ≡ w

-- What is read at a shape of a checked registry is of that shape.
abbrev pub ReadsTyped : Type 0
ReadsTyped = (g : Setting) → IsRegistry g.registry → (depth shape : ℕ) (source : Source) (run : Run) (value : Tree)
    → read g depth shape source run ≡ Some value → IsTrue (typed g.registry shape value)

-- The default of a shape of a checked registry is of that shape.
abbrev pub DefaultIsTyped : Type 0
DefaultIsTyped = (g : Registry) → IsRegistry g → (shape : ℕ) (value : Tree) → default_at g shape ≡ Some value → IsTrue (typed g shape value)

-- The calls of a value come to their end exactly where it has a form, under any settings, and then their tape is the
-- form's.
abbrev pub CallsWrite : Type 0
CallsWrite = (w : Writer) (shape : ℕ) (value : Tree)
    → MatchResult (write w.registry shape value)
    (λ form. ((calls_of w shape value).whole ≡ true) × (calls_tape (calls_of w shape value).calls ≡ document_tape form))
    (λ why. (calls_of w shape value).whole ≡ false)

-- The events are those of what the value is written as, the entries of each object in any order. The value is one that
-- can be read back: it is of the root and clean, no deeper than the budget, and no shape that is reached has a clash.
pub record Valid (g : Setting) (root budget : ℕ) (input : List Event) (value : Tree) : Type 0 where
  pub checked : IsRegistry g.registry
  pub separable : Separable every_clash g.registry root
  pub of_root : IsTrue (typed g.registry root value)
  pub utf8 : IsTrue (tree_is_utf8 value)
  pub clean : Clean g.registry root value
  pub deep : depth g.registry root value ≤ budget
  pub document : Document
  pub written : write g.registry root value ≡ Ok document
  pub permuted : Document
  pub order : Permuted document permuted
  pub listed : map unplaced input ≡ document_events permuted

-- The events are read as a value that is alike and is written alike.
abbrev pub ReadsBack : Setting → ℕ → ℕ → List Event → Tree → Type 0
ReadsBack g root budget input value =
    (w : Tree) × Reads g budget root from_events input w × Alike g.registry root value w × (write g.registry root w ≡ write g.registry root value)

abbrev pub CanonicalForms : Type 0
CanonicalForms = (g : Setting) (root budget : ℕ) (input : List Event) (value : Tree) → Valid g root budget input value → ReadsBack g root budget input value

-- Two orders of one value's entries are read as values that are written alike.
abbrev pub OneOutput : Type 0
OneOutput = (g : Setting) (root budget : ℕ) (input other : List Event) (value v w : Tree)
    → Valid g root budget input value → Valid g root budget other value
    → Reads g budget root from_events input v → Reads g budget root from_events other w → write g.registry root v ≡ write g.registry root w

-- The tape of what a value is written as, in any order of entries, is the tape of events, and these are its events. Its
-- texts and characters have to be such.
abbrev pub FormsAreTapes : Type 0
FormsAreTapes = (g : Registry) → IsRegistry g → (root : ℕ) (value : Tree) (document permuted : Document)
    → IsTrue (tree_is_utf8 value) → write g root value ≡ Ok document → Permuted document permuted
    → (events : List Event) × IsTape events (document_tape permuted) × (map unplaced events ≡ document_events permuted)

-- A valid tape is read as a value that has the document of the tape's value.
abbrev pub ValidIsReadable : Type 0
ValidIsReadable = (g : Registry) → IsRegistry g → (root budget : ℕ) (input : List ℕ) (value : Tree) (document : Document)
    → IsValid g root budget input value document → IsReadable g root budget input document

-- Whatever a valid tape is recoded to is the tape of its value's document.
abbrev pub RecodesToForm : Type 0
RecodesToForm = (g : Registry) → IsRegistry g → (root budget : ℕ) (input out : List ℕ) (value : Tree) (document : Document)
    → IsValid g root budget input value document → Recodes g root budget input out → out ≡ document_tape document

-- The tape of a value's own document is valid, where the value can be read back.
abbrev pub FormIsValid : Type 0
FormIsValid = (g : Registry) (root budget : ℕ) (value : Tree) (document : Document) → Separable every_clash g root → IsTrue (typed g root value)
    → IsTrue (tree_is_utf8 value) → Clean g root value → depth g root value ≤ budget → write g root value ≡ Ok document
    → IsValid g root budget (document_tape document) value document

-- A text describes at most one list of shapes, and where it describes one it has no fault.
abbrev pub OneShapeText : Type 0
OneShapeText = (text : List ℕ) (a : List Draft) → IsShapeText text a
    → ((b : List Draft) → IsShapeText text b → a ≡ b) × ((line : ℕ) (kind : ShapeTextKind) → IsShapeTextFault text line kind → ⊥)

-- A text has at most one first fault.
abbrev pub OneShapeTextFault : Type 0
OneShapeTextFault = (text : List ℕ) (line other : ℕ) (kind also : ShapeTextKind) → IsShapeTextFault text line kind → IsShapeTextFault text other also → (line ≡ other) × (kind ≡ also)
