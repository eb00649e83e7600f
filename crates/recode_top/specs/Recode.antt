-- What recoding answers.
use Rattle.std.specs.Prelude.{◌≡◌, ◌≤◌, ◌⊎◌, ℕ, zero, suc, List, [], codes, cond, Result, Ok, Err, IsTrue}
use Rattle.semantics_lines.specs.Trees.{Tree}
use Rattle.semantics_lines.specs.Shapes.{Registry}
use Rattle.semantics_lines.specs.Events.{scalar, key, named, nameless, ordered, tag, of_struct, of_sequence, Span, no_span, Event, leaf, start, stop, span_of}
use Rattle.semantics_lines.specs.Faults.{Fault, Ending, ends, Coming}
use Rattle.semantics_lines.specs.Documents.{Document}
use Rattle.semantics.specs.Typed.{typed}
use Rattle.semantics.specs.Reading.{Setting, from_events, Reads}
use Rattle.semantics.specs.Writing.{Unwritten, Written}
use Rattle.semantics_lines.specs.Tapes.{document_tape, IsTape}
use Rattle.semantics_causes.specs.Causes.{IsTrailing, HasNoForm}
use Rattle.semantics.specs.Recoding.{tape_setting}
use Rattle.semantics_causes.specs.Refusals.{HasCauseFrom, IsFaultBehind, IsReadFaultWithin}
use Rattle.semantics_lines.specs.Tapes.{Comes}
use Rattle.shape_types.specs.declared.value.Value.{Value}
use Rattle.shape_types.specs.Trees.{tree_of}
use Rattle.event_core.specs.Building.{is_memory}
use Rattle.event_core.specs.Faults.{fault_of}
use Rattle.event_core.specs.Metadata.{span_view}
use Rattle.event_core.specs.declared.error.DeserializeError.{DeserializeError}
use Rattle.event_core.specs.declared.error.SerializeError.{SerializeError}
use Rattle.event_core.specs.declared.error.SerializeError.TheVariants.{Unsupported, Alloc}
use Rattle.laws_reading.specs.Input.{Input, feed}
use Rattle.recode_top.specs.declared.error.RecodeError.{RecodeError}
use Rattle.recode_top.specs.declared.error.RecodeError.TheVariants as errors

-- what an event is, in a word or two
abbrev pub event_name : Event → List ℕ
event_name (leaf (scalar s n)) = codes "scalar"
event_name (leaf (key (named t m n))) = codes "field key"
event_name (leaf (key (nameless m n))) = codes "field key"
event_name (leaf (key (ordered n))) = codes "ordered field"
event_name (leaf (tag t n)) = codes "variant tag"
event_name (start of_struct k n) = codes "struct start"
event_name (start of_sequence k n) = codes "sequence start"
event_name (stop of_struct n) = codes "struct end"
event_name (stop of_sequence n) = codes "sequence end"

-- What a reader that may read so many events ahead gets of what comes: at none it gets no event.
abbrev pub told : ℕ → Coming → Input
told zero c = feed [] ends no_span
told (suc n) c = feed c.events c.ending no_span

-- All events are read as this value of the shape, and the end stands behind them.
pub record IsAlone (g : Setting) (root depth : ℕ) (input : Input) (value : Tree) : Type 0 where
  pub reads : Reads g depth root from_events input.events value
  pub ending : input.ending ≡ ends
  pub of_root : IsTrue (typed g.registry root value)

-- an event of this name and at this place stands behind the value
pub record IsBehind (g : Setting) (root depth : ℕ) (events : List Event) (kind : List ℕ) (span : Span) : Type 0 where
  pub trailing : IsTrailing g root depth events span
  pub called : kind ≡ event_name trailing.event

-- why no value stands alone, whatever is left of the events, or memory ran out
abbrev pub IsNotAlone : Setting → ℕ → ℕ → Input → RecodeError → Type 0
IsNotAlone g root depth input (errors.Deserialize e) = ((left : List Event) × HasCauseFrom g root depth input.last input.events input.ending left (fault_of e))
    ⊎ IsFaultBehind g root depth input.events input.ending (fault_of e)
IsNotAlone g root depth input (errors.Trailing kind span) = IsBehind g root depth input.events kind.now (span_view span)
IsNotAlone g root depth input (errors.Serialize e) = ⊥
IsNotAlone g root depth input errors.Alloc = Unit {0}

-- the answer is this value, unless memory ran out
abbrev pub IsTreeUnlessMemory : Tree → Result Value RecodeError → Type 0
IsTreeUnlessMemory value (Ok v) = tree_of v ≡ value
IsTreeUnlessMemory value (Err errors.Alloc) = Unit {0}
IsTreeUnlessMemory value (Err _) = ⊥

-- where a value stands alone, it is the answer
abbrev pub FindsAlone : Setting → ℕ → ℕ → Input → Result Value RecodeError → Type 0
FindsAlone g root depth input result = (value : Tree) → Reads g depth root from_events input.events value → input.ending ≡ ends → IsTreeUnlessMemory value result

-- the reader's refusal: want of memory, or why the value can't be read
abbrev pub RefusesAs : DeserializeError → RecodeError → Type 0
RefusesAs e error = error ≡ cond (is_memory e.kind) errors.Alloc (errors.Deserialize e)

-- the refusal of an event behind the value
abbrev pub TrailsAs : Event → RecodeError → Type 0
TrailsAs e (errors.Trailing kind span) = (kind.now ≡ event_name e) × (span_view span ≡ span_of e)
TrailsAs e _ = ⊥

-- the answer is this tape, unless memory ran out
abbrev pub IsTapeUnlessMemory : List ℕ → Result (List ℕ) RecodeError → Type 0
IsTapeUnlessMemory tape (Ok out) = out ≡ tape
IsTapeUnlessMemory tape (Err errors.Alloc) = Unit {0}
IsTapeUnlessMemory tape (Err _) = ⊥

-- an event of this name and at this place stands behind the value
pub record HasTrailing (g : Registry) (root depth : ℕ) (input kind : List ℕ) (span : Span) : Type 0 where
  pub events : List Event
  pub ending : Ending
  pub comes : Comes input events ending
  pub trailing : IsTrailing (tape_setting g) root depth events span
  pub called : kind ≡ event_name trailing.event

-- the whole input is read as a value that has no written form
pub record HasUnwritten (g : Registry) (root depth : ℕ) (input : List ℕ) : Type 0 where
  pub events : List Event
  pub taped : IsTape events input
  pub unwritten : HasNoForm (tape_setting g) root depth events

-- The serializer refuses for this reason alone.
abbrev pub IsUnsupported : {E : Type 0} → SerializeError E → Type 0 → Type 0
IsUnsupported (Unsupported message) P = P
IsUnsupported _ P = ⊥

-- why a value has no tape: it has no written form, or memory ran out
abbrev pub Unwrites : {E : Type 0} → Written Document → SerializeError E → Type 0
Unwrites form (Unsupported message) = (why : Unwritten) × (form ≡ Err why)
Unwrites form Alloc = Unit {0}
Unwrites form _ = ⊥

-- this is the tape of what is written
abbrev pub IsWritten : Written Document → List ℕ → Type 0
IsWritten form out = (d : Document) × (form ≡ Ok d) × (out ≡ document_tape d)

-- nothing is written, or memory ran out
abbrev pub IsUnwritten : Written Document → RecodeError → Type 0
IsUnwritten form (errors.Serialize e) = IsUnsupported e ((why : Unwritten) × (form ≡ Err why))
IsUnwritten form errors.Alloc = Unit {0}
IsUnwritten form _ = ⊥

-- what has its cause in events comes only where some may be read ahead
abbrev pub WithRoom : ℕ → Type 0 → Type 0
WithRoom capacity P = (1 ≤ capacity) × P

-- the cause of each refusal
abbrev pub IsRefusedFor : Registry → ℕ → ℕ → ℕ → List ℕ → RecodeError → Type 0
IsRefusedFor g root capacity depth input (errors.Deserialize e) = IsReadFaultWithin capacity g root depth input (fault_of e)
IsRefusedFor g root capacity depth input (errors.Trailing kind span) = WithRoom capacity (HasTrailing g root depth input kind.now (span_view span))
IsRefusedFor g root capacity depth input (errors.Serialize e) = WithRoom capacity (IsUnsupported e (HasUnwritten g root depth input))
IsRefusedFor g root capacity depth input errors.Alloc = Unit {0}
