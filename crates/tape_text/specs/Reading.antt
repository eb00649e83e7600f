-- Reading a line: its event.
use Rattle.std.specs.Prelude.{ℕ, List, Bool, ◌&&◌, ◌||◌, cond, is_none, Option, None, Some, option_and_then}
use Rattle.semantics_lines.specs.Texts.{Phrase}
use Rattle.semantics_lines.specs.Events.{Span, Metadata, Note, named, nameless, ordered, Key, scalar, key, tag, of_struct, of_sequence, Bracket, ContainerKind, object_kind, array_kind, Event, leaf, start, stop}
use Rattle.semantics_lines.specs.Lines.{is_empty_list}
use Rattle.tape_text.specs.Suffixes.{metadata_at}
use Rattle.tape_text.specs.Bodies.{Body, opens, closes, next_field, names, tags, holds, takes_metadata, body_at}

-- nothing is told, not even a place
abbrev pub is_silent : Metadata → Bool
is_silent m = is_none m.tag && (is_empty_list m.docs && is_none m.span)

-- the metadata, where they tell something
abbrev pub told : Metadata → Option Metadata
told m = cond (is_silent m) None (Some m)

-- a place, and what is told there
abbrev pub noted : Span → Metadata → Note
noted span m = record { span = span; metadata = told m }

-- a place alone
abbrev pub line_note : Span → Note
line_note span = record { span = span; metadata = None }

abbrev pub kind_in : Bracket → ContainerKind
kind_in of_struct = object_kind
kind_in of_sequence = array_kind

-- a key with its own metadata
abbrev pub key_with : Option Phrase → Metadata → Note → Key
key_with None m n = nameless m n
key_with (Some t) m n = named t (told m) n

-- the event of a body at a place, with what is told behind it
abbrev pub event_from : Body → Span → Metadata → Event
event_from (opens b) span m = start b (kind_in b) (noted span m)
event_from (closes b) span m = stop b (noted span m)
event_from next_field span m = leaf (key (ordered (noted span m)))
event_from (names t) span m = leaf (key (key_with t m (line_note span)))
event_from (tags t) span m = leaf (tag t (noted span m))
event_from (holds s) span m = leaf (scalar s (noted span m))

-- the same, where the body may have what is told
abbrev pub event_with : Body → Span → Metadata → Option Event
event_with body span m = cond (takes_metadata body || is_silent m) (Some (event_from body span m)) None

abbrev pub completed : Span → Body × List ℕ → Option Event
completed span p = option_and_then (event_with p.0 span) (metadata_at p.1)

-- the event of a line that stands there
unfoldable pub event_of : Span → List ℕ → Option Event
event_of span line = option_and_then (completed span) (body_at line)
