-- Events, as the definitions see them: nothing of where their texts lie.
use Rattle.std.specs.Prelude.{ℕ, List}
use Rattle.std.specs.Option.{option_map}
use Rattle.std.specs.Borrow.{Bor}
use Rattle.semantics_lines.specs.Events.{Note, Scalar, unit, null, bool, char, i64, u64, i128, u128, str, bytes, ordered, scalar, key, tag, of_struct, of_sequence, ContainerKind, object_kind, array_kind, Event, leaf, start, stop}
use Rattle.shape_types.specs.Texts.{phrase_of, bytes_phrase}
use Rattle.event_core.specs.Metadata.{note_view}
use Rattle.event_core.specs.Keys.{key_of}
use Rattle.event_core.specs.declared.event.ContainerKind.{ContainerKind as DeclaredContainer}
use Rattle.event_core.specs.declared.event.ContainerKind.TheVariants.{Object, Array}
use Rattle.event_core.specs.declared.event.ParseEventKind.{ParseEventKind}
use Rattle.event_core.specs.declared.event.ParseEventKind.TheVariants as events
use Rattle.event_core.specs.declared.event.ParseEvent.{ParseEvent}
use Rattle.event_core.specs.declared.scalar.ScalarValue.{ScalarValue}
use Rattle.event_core.specs.declared.scalar.ScalarValue.TheVariants as scalars

-- what a start says that it opens
abbrev pub container_of : DeclaredContainer → ContainerKind
container_of Object = object_kind
container_of Array = array_kind

-- a scalar, with nothing of where its text lies
abbrev pub scalar_of : ScalarValue → Scalar
scalar_of scalars.Unit = unit
scalar_of scalars.Null = null
scalar_of (scalars.Bool b) = bool b
scalar_of (scalars.Char c) = char c
scalar_of (scalars.I64 z) = i64 z
scalar_of (scalars.U64 n) = u64 n
scalar_of (scalars.I128 z) = i128 z
scalar_of (scalars.U128 n) = u128 n
scalar_of (scalars.Str t) = str (phrase_of t)
scalar_of (scalars.Bytes b) = bytes (bytes_phrase b)

-- the bytes of a borrowed text
abbrev pub bytes_at : Bor (List ℕ) → List ℕ
bytes_at text = text.now

-- an event of this kind, with its place and metadata
abbrev pub event_from : ParseEventKind → Note → Event
event_from (events.StructStart k) n = start of_struct (container_of k) n
event_from events.StructEnd n = stop of_struct n
event_from (events.FieldKey k) n = leaf (key (key_of k n))
event_from events.OrderedField n = leaf (key (ordered n))
event_from (events.SequenceStart k) n = start of_sequence (container_of k) n
event_from events.SequenceEnd n = stop of_sequence n
event_from (events.Scalar v) n = leaf (scalar (scalar_of v) n)
event_from (events.VariantTag t) n = leaf (tag (option_map bytes_at t) n)

-- an event, with nothing of where its texts lie
abbrev pub event_of : ParseEvent → Event
event_of e = event_from e.kind (note_view e.span e.meta)
