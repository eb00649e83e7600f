-- Places and metadata, as the definitions see them.
use Rattle.std.specs.Prelude.{List, [], ◌∷◌, map, Option, Some, None}
use Rattle.std.specs.Option.{option_map}
use Rattle.semantics_lines.specs.Texts.{Phrase}
use Rattle.semantics_lines.specs.Events.{Span, Metadata, Note}
use Rattle.shape_types.specs.Texts.{phrase_of}
use Rattle.shape_types.specs.declared.text.Text.{Text}
use Rattle.event_core.specs.declared.span.Span.{Span as DeclaredSpan}
use Rattle.event_core.specs.declared.metadata.ValueMeta.{ValueMeta}
use Rattle.event_core.specs.declared.metadata.ValueMetaBuilder.{ValueMetaBuilder}

-- where something stands
abbrev pub span_view : DeclaredSpan → Span
span_view s = record { offset = s.offset; len = s.len }

-- the lines, none where none were told
abbrev pub lines_of : Option (List Text) → List Phrase
lines_of None = []
lines_of (Some lines) = map phrase_of lines

-- what is told of a value
abbrev pub metadata_of : ValueMeta → Metadata
metadata_of m = record { tag = option_map phrase_of m.tag; docs = lines_of m.doc; span = option_map span_view m.span }

-- the place and the metadata of an event
abbrev pub note_view : DeclaredSpan → Option ValueMeta → Note
note_view s m = record { span = span_view s; metadata = option_map metadata_of m }

-- nothing is told
abbrev pub no_metadata : Metadata
no_metadata = record { tag = None; docs = []; span = None }

-- a tag and lines of documentation, at no place
abbrev pub said : Option Phrase → List Phrase → Metadata
said tag docs = record { tag = tag; docs = docs; span = None }

-- the list, where it has an item
abbrev pub nonempty : {A : Type 0} → List A → Option (List A)
nonempty [] = None
nonempty (x ∷ xs) = Some (x ∷ xs)

-- what was set so far
abbrev pub built : ValueMetaBuilder → Metadata
built b = metadata_of b.meta

-- the first list where it has an item, else the second one
abbrev pub told_or : {A : Type 0} → List A → List A → List A
told_or [] others = others
told_or (x ∷ xs) others = x ∷ xs

-- the first where it is there, else the second one
abbrev pub given_or : {A : Type 0} → Option A → Option A → Option A
given_or None other = other
given_or (Some x) other = Some x

-- the lines of documentation, where there is one
abbrev pub docs_told : Metadata → Option (List Phrase)
docs_told m = nonempty m.docs

-- the tag, where there is one
abbrev pub tag_told : Metadata → Option Phrase
tag_told m = m.tag
