-- What the program answers.
use Rattle.std.specs.Prelude.{◌≡◌, ◌≢◌, ◌≤◌, ◌<◌, ℕ, List, [], length, map, take, bytes_eq, Option, Some, None, Result, Ok, Err, IfSome}
use Rattle.std.specs.List.{position}
use Rattle.std.specs.Io.KnownBytes.{Appends, Consumes, IsAtEnd}
use Rattle.semantics_lines.specs.Shapes.{Registry}
use Rattle.semantics.specs.Registry.{drafted}
use Rattle.semantics_lines.specs.Documents.{Document}
use Rattle.semantics.specs.Recoding.{Recodes, IsReadable}
use Rattle.semantics_lines.specs.Divided.{joined, IsDivided}
use Rattle.semantics.specs.CheckedText.{IsShapeText, IsShapeTextFault}
use Rattle.semantics_lines.specs.ShapeText.{ShapeTextKind}
use Rattle.recode_top.specs.Outside.Counting.{Rose}
use Rattle.shape_lines.specs.ShapeErrors.{text_kind}
use Rattle.recode_top.specs.ShapeNotes.{shapes_note}
use Rattle.recode_top.specs.Recode.{IsRefusedFor}
use Rattle.recode_top.specs.RecodeTexts.{recode_error_text}
use Rattle.recode_top.specs.Requests.{Request, Asks, AsksNothing}
use Rattle.recode_top.specs.Stopping.{status_of, note_of}
use Rattle.recode_top.specs.declared.error.RecodeError.{RecodeError}
use Rattle.recode_top.specs.declared.error.RecodeError.TheVariants as errors
use Rattle.shape_lines.specs.declared.shape_fault.ReadShapesError.{ReadShapesError}
use Rattle.shape_lines.specs.declared.shape_fault.ReadShapesError.TheVariants as reading
use Rattle.recode_top.specs.declared.stop.Stop.{Stop}
use Rattle.recode_top.specs.declared.stop.Stop.TheVariants as stops

-- how many bytes are read at most
abbrev pub input_limit : ℕ
input_limit = 67108864

-- The input is a shape text, the line `---` and a tape. The text describes this registry, in which the root has this
-- number.
pub record IsLoaded (root input : List ℕ) (g : Registry) (number : ℕ) (tape : List ℕ) : Type 0 where
  pub lines : List (List ℕ)
  pub divided : IsDivided input lines tape
  pub described : IsShapeText (joined lines) (map drafted g)
  pub found : position (λ s. bytes_eq s.name root) g ≡ Some number

-- no line divides the input
abbrev pub IsUndividedInput : List ℕ → Type 0
IsUndividedInput input = (lines : List (List ℕ)) (rest : List ℕ) → IsDivided input lines rest → ⊥

-- the shape text of the input has this fault
pub record HasBadShapes (input text : List ℕ) : Type 0 where
  pub lines : List (List ℕ)
  pub tape : List ℕ
  pub divided : IsDivided input lines tape
  pub line : ℕ
  pub kind : ShapeTextKind
  pub fault : IsShapeTextFault (joined lines) line kind
  pub is : text ≡ shapes_note line kind

-- no shape of the text has the name of the root
pub record HasNoRoot (root input : List ℕ) : Type 0 where
  pub lines : List (List ℕ)
  pub tape : List ℕ
  pub divided : IsDivided input lines tape
  pub registry : Registry
  pub described : IsShapeText (joined lines) (map drafted registry)
  pub missing : position (λ s. bytes_eq s.name root) registry ≡ None

-- The text is what recoding's error prints, where that is known.
abbrev pub IsErrorText : RecodeError → List ℕ → Type 0
IsErrorText error text = IfSome (recode_error_text error) (λ printed. text ≡ printed)

-- The tape is refused for a cause in it, which the text tells. With room for events to be read ahead no document is
-- what it is recoded to.
pub record IsRefusedTape (g : Registry) (number capacity depth : ℕ) (tape text : List ℕ) : Type 0 where
  pub error : RecodeError
  pub known : error ≢ errors.Alloc
  pub cause : IsRefusedFor g number capacity depth tape error
  pub told : IsErrorText error text
  pub unreadable : (document : Document) → 1 ≤ capacity → IsReadable g number depth tape document → ⊥

-- the tape of the input is refused, and the text tells why
pub record HasBadTape (request : Request) (input text : List ℕ) : Type 0 where
  pub registry : Registry
  pub number : ℕ
  pub tape : List ℕ
  pub loaded : IsLoaded request.root input registry number tape
  pub refused : IsRefusedTape registry number request.capacity request.depth tape text

-- the tape of the input is recoded to this, with room for events to be read ahead
pub record HasOutput (request : Request) (input out : List ℕ) : Type 0 where
  pub registry : Registry
  pub number : ℕ
  pub tape : List ℕ
  pub loaded : IsLoaded request.root input registry number tape
  pub recodes : Recodes registry number request.depth tape out
  pub room : 1 ≤ request.capacity

-- the tape of the input can be recoded, with room for events to be read ahead
pub record IsAnswerable (request : Request) (input : List ℕ) (document : Document) : Type 0 where
  pub registry : Registry
  pub number : ℕ
  pub tape : List ℕ
  pub loaded : IsLoaded request.root input registry number tape
  pub readable : IsReadable registry number request.depth tape document
  pub room : 1 ≤ request.capacity

-- why the program stops at an input
abbrev pub IsInputStop : Request → List ℕ → Stop → Type 0
IsInputStop request input stops.NoDivider = IsUndividedInput input
IsInputStop request input (stops.Shapes text) = HasBadShapes input text
IsInputStop request input (stops.UnknownRoot name) = (name.now ≡ request.root) × HasNoRoot request.root input
IsInputStop request input (stops.Refused text) = HasBadTape request input text
IsInputStop request input stops.Memory = Unit {0}
IsInputStop request input _ = ⊥

-- the answer is this output, unless memory ran out
abbrev pub IsOutputUnlessMemory : List ℕ → Result (List ℕ) Stop → Type 0
IsOutputUnlessMemory out (Ok o) = o ≡ out
IsOutputUnlessMemory out (Err stops.Memory) = Unit {0}
IsOutputUnlessMemory out (Err _) = ⊥

-- a refusal with the text of its error, or want of memory
abbrev pub IsRefused : RecodeError → Stop → Type 0
IsRefused error (stops.Refused text) = IsErrorText error text
IsRefused error stops.Memory = Unit {0}
IsRefused error _ = ⊥

-- why a tape is refused
abbrev pub IsTapeStop : Registry → ℕ → ℕ → ℕ → List ℕ → Stop → Type 0
IsTapeStop g number capacity depth tape (stops.Refused text) = IsRefusedTape g number capacity depth tape text
IsTapeStop g number capacity depth tape stops.Memory = Unit {0}
IsTapeStop g number capacity depth tape _ = ⊥

-- what is said of a refusal
abbrev pub IsRefusal : RecodeError → Stop → Type 0
IsRefusal errors.Alloc s = s ≡ stops.Memory
IsRefusal error s = IsRefused error s

-- what is said of a shape text's fault
abbrev pub IsFaultStop : ℕ → ShapeTextKind → Stop → Type 0
IsFaultStop line kind (stops.Shapes text) = text ≡ shapes_note line kind
IsFaultStop line kind stops.Memory = Unit {0}
IsFaultStop line kind _ = ⊥

abbrev pub IsShapesStop : ReadShapesError → Stop → Type 0
IsShapesStop (reading.Fault fault) s = IsFaultStop fault.line (text_kind fault.kind) s
IsShapesStop reading.Alloc s = s ≡ stops.Memory

-- what a run sees and changes: the bytes left to read and those written, where they are told, and the counts of faults
pub record World : Type 0 where
  pub left : Option (List ℕ)
  pub read_faults : ℕ
  pub written : Option (List ℕ)
  pub write_faults : ℕ

abbrev pub world : Option (List ℕ) → ℕ → Option (List ℕ) → ℕ → World
world left read_faults written write_faults = record { left = left; read_faults = read_faults; written = written; write_faults = write_faults }

-- the source gave these bytes and then its end
pub record IsInput (input : List ℕ) (old new : World) : Type 0 where
  pub bytes : Consumes old.left new.left input
  pub over : IsAtEnd new.left
  pub short : length input ≤ input_limit

-- nothing was written
abbrev pub WroteNothing : World → World → Type 0
WroteNothing old new = Appends old.written new.written []

-- All was done: the words ask for a root, and the bytes written are the canonical tape of the whole input.
pub record IsDone (words : List (List ℕ)) (old new : World) : Type 0 where
  pub request : Request
  pub input : List ℕ
  pub out : List ℕ
  pub asked : Asks words request
  pub given : IsInput input old new
  pub output : HasOutput request input out
  pub wrote : Appends old.written new.written out

-- the source's count of faults rose
pub record HasReadFault (words : List (List ℕ)) (old new : World) : Type 0 where
  pub request : Request
  pub asked : Asks words request
  pub rose : Rose old.read_faults new.read_faults

-- the source gave more bytes than are read
pub record IsTooLong (words : List (List ℕ)) (old new : World) : Type 0 where
  pub request : Request
  pub asked : Asks words request
  pub bytes : List ℕ
  pub given : Consumes old.left new.left bytes
  pub long : input_limit < length bytes

-- the whole input was read, and it is refused
pub record HasInputStop (words : List (List ℕ)) (old new : World) (stop : Stop) : Type 0 where
  pub request : Request
  pub input : List ℕ
  pub asked : Asks words request
  pub given : IsInput input old new
  pub why : IsInputStop request input stop

-- the sink's count of faults rose, and it holds the front of the output
pub record HasWriteFault (words : List (List ℕ)) (old new : World) : Type 0 where
  pub request : Request
  pub input : List ℕ
  pub out : List ℕ
  pub asked : Asks words request
  pub given : IsInput input old new
  pub output : HasOutput request input out
  pub rose : Rose old.write_faults new.write_faults
  pub count : ℕ
  pub some : count ≤ length out
  pub wrote : Appends old.written new.written (take count out)

-- why a run stops before all is done
abbrev pub IsRunStop : List (List ℕ) → World → World → Stop → Type 0
IsRunStop words old new stops.Usage = AsksNothing words × WroteNothing old new
IsRunStop words old new stops.ReadFault = HasReadFault words old new × WroteNothing old new
IsRunStop words old new stops.TooLong = IsTooLong words old new × WroteNothing old new
IsRunStop words old new stops.WriteFault = HasWriteFault words old new
IsRunStop words old new stops.Memory = ((request : Request) × Asks words request) × WroteNothing old new
IsRunStop words old new stop = HasInputStop words old new stop × WroteNothing old new

-- How a run ends: all is done and nothing is said, or it stops, and its status and the line of its notes tell why.
pub data Ends (words : List (List ℕ)) (old new : World) (says : List ℕ → Type 0) (status : ℕ) : Type 0 where
  done : status ≡ 0 → IsDone words old new → says [] → Ends words old new says status
  stopped : (stop : Stop) → status ≡ status_of stop → IsRunStop words old new stop → says (note_of stop) → Ends words old new says status

-- The status is 0 and this output was written, or a count of faults rose, or memory ran out.
pub data CompletesWith (out : List ℕ) (old new : World) (status : ℕ) : Type 0 where
  wrote : status ≡ 0 → Appends old.written new.written out → CompletesWith out old new status
  read_failed : status ≡ 4 → Rose old.read_faults new.read_faults → CompletesWith out old new status
  write_failed : status ≡ 5 → Rose old.write_faults new.write_faults → CompletesWith out old new status
  no_memory : status ≡ 6 → CompletesWith out old new status

-- the words ask for a root with room for events, and the source has an input that can be recoded and isn't too long
pub record IsAsked (words : List (List ℕ)) (old : World) (document : Document) : Type 0 where
  pub request : Request
  pub input : List ℕ
  pub asked : Asks words request
  pub told : old.left ≡ Some input
  pub short : length input ≤ input_limit
  pub answerable : IsAnswerable request input document

-- how recoding ended, before its status is told
abbrev pub CompletesAs : List ℕ → World → World → Result (Unit {0}) Stop → Type 0
CompletesAs out old new (Ok u) = Appends old.written new.written out
CompletesAs out old new (Err stops.ReadFault) = Rose old.read_faults new.read_faults
CompletesAs out old new (Err stops.WriteFault) = Rose old.write_faults new.write_faults
CompletesAs out old new (Err stops.Memory) = Unit {0}
CompletesAs out old new (Err _) = ⊥
