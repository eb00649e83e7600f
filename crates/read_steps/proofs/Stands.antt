-- Where events stand.
use Rattle.std.proofs.Common.{◌≡◌, Option, Some, None, option_map, refl}
use Rattle.semantics_lines.specs.Texts.{Phrase}
use Rattle.semantics_lines.specs.Events.{Metadata, Note, key_note, span_of}
use Rattle.shape_types.specs.Texts.{phrase_of}
use Rattle.event_core.specs.Events.{event_from, event_of}
use Rattle.event_core.specs.Keys.{key_of, full_key}
use Rattle.event_core.specs.Metadata.{metadata_of, note_view, span_view}
use Rattle.event_core.specs.declared.event.ParseEvent.{ParseEvent}
use Rattle.event_core.specs.declared.event.ParseEventKind.{ParseEventKind}
use Rattle.event_core.specs.declared.event.ParseEventKind.TheVariants as events
use Rattle.event_core.specs.declared.key.FieldKey.{FieldKey}
use Rattle.event_core.specs.declared.key.FieldKey.TheVariants as keys

full_stands : (o : Option Phrase) (m : Metadata) (n : Note) → (key_note (full_key o m n)).span ≡ n.span
full_stands None m n = refl
full_stands (Some t) m n = refl

key_stands : (k : FieldKey) (n : Note) → (key_note (key_of k n)).span ≡ n.span
key_stands (keys.Name t) n = refl
key_stands (keys.Full k) n = full_stands (option_map phrase_of k.name) (metadata_of k.meta) n

kind_stands : (k : ParseEventKind) (n : Note) → span_of (event_from k n) ≡ n.span
kind_stands (events.FieldKey k) n = key_stands k n
kind_stands _ n = refl

-- where an event stands
pub stands : (e : ParseEvent) → span_of (event_of e) ≡ span_view e.span
stands e = kind_stands e.kind (note_view e.span e.meta)
