-- Events: what a parser gives, one by one.
use Rattle.std.specs.Prelude.{ℕ, ℤ, Bool, false, List, map, Option, None, option_map}
use Rattle.semantics_lines.specs.Texts.{Phrase}

-- where something stands in the input, in bytes
pub record Span : Type 0 where
  pub offset : ℕ
  pub len : ℕ

-- a tag, lines of documentation and a place, each where it was told
pub record Metadata : Type 0 where
  pub tag : Option Phrase
  pub docs : List Phrase
  pub span : Option Span

-- what every event has beside its kind
pub record Note : Type 0 where
  pub span : Span
  pub metadata : Option Metadata

-- what one scalar event carries: characters and numbers by their values, texts with whether they are borrowed
pub data Scalar : Type 0 where
  unit : Scalar
  null : Scalar
  bool : Bool → Scalar
  char : ℕ → Scalar
  i64 : ℤ → Scalar
  u64 : ℕ → Scalar
  i128 : ℤ → Scalar
  u128 : ℕ → Scalar
  str : Phrase → Scalar
  bytes : Phrase → Scalar

-- what stands before the value of an entry
pub data Key : Type 0 where
  -- a name; the metadata is there where the key was told with some
  named : Phrase → Option Metadata → Note → Key
  nameless : Metadata → Note → Key
  -- the next field by its place
  ordered : Note → Key

-- what opens and closes nothing
pub data Leaf : Type 0 where
  scalar : Scalar → Note → Leaf
  key : Key → Leaf
  -- the tag of a variant, before its content
  tag : Option (List ℕ) → Note → Leaf

-- the two pairs of a start and its end
pub data Bracket : Type 0 where
  of_struct : Bracket
  of_sequence : Bracket

-- what a start says that it opens
pub data ContainerKind : Type 0 where
  object_kind : ContainerKind
  array_kind : ContainerKind

-- An event: a scalar, a key or a tag; the start of an object or a sequence; or its end.
pub data Event : Type 0 where
  leaf : Leaf → Event
  start : Bracket → ContainerKind → Note → Event
  stop : Bracket → Note → Event

-- the span and the metadata of a key
abbrev pub key_note : Key → Note
key_note (named t m n) = n
key_note (nameless m n) = n
key_note (ordered n) = n

-- those of an event that opens and closes nothing
abbrev pub leaf_note : Leaf → Note
leaf_note (scalar s n) = n
leaf_note (key k) = key_note k
leaf_note (tag t n) = n

-- those of any event
abbrev pub note_of : Event → Note
note_of (leaf l) = leaf_note l
note_of (start b c n) = n
note_of (stop b n) = n

-- where an event stands
abbrev pub span_of : Event → Span
span_of e = (note_of e).span

-- the span of what stands nowhere: nothing, at the very front
abbrev pub no_span : Span
no_span = record { offset = 0; len = 0 }

-- no metadata, at no place
abbrev pub no_note : Note
no_note = record { span = no_span; metadata = None }

-- the same metadata, at no place
abbrev pub unplaced_note : Note → Note
unplaced_note n = record n { span = no_span }

-- the same key, at no place
abbrev pub unplaced_key : Key → Key
unplaced_key (named t m n) = named t m (unplaced_note n)
unplaced_key (nameless m n) = nameless m (unplaced_note n)
unplaced_key (ordered n) = ordered (unplaced_note n)

-- the same scalar, key or tag, at no place
abbrev pub unplaced_leaf : Leaf → Leaf
unplaced_leaf (scalar s n) = scalar s (unplaced_note n)
unplaced_leaf (key k) = key (unplaced_key k)
unplaced_leaf (tag t n) = tag t (unplaced_note n)

-- the event, wherever it stands
abbrev pub unplaced : Event → Event
unplaced (leaf l) = leaf (unplaced_leaf l)
unplaced (start b c n) = start b c (unplaced_note n)
unplaced (stop b n) = stop b (unplaced_note n)

-- the same text, borrowed from nothing
abbrev pub owned_text : Phrase → Phrase
owned_text t = record { bytes = t.bytes; borrowed = false }

-- the same metadata, whose texts are borrowed from nothing
abbrev pub owned_metadata : Metadata → Metadata
owned_metadata m = record { tag = option_map owned_text m.tag; docs = map owned_text m.docs; span = m.span }

-- the same, at no place
abbrev pub owned_note : Note → Note
owned_note n = record { span = no_span; metadata = option_map owned_metadata n.metadata }

-- the same scalar, whose text is borrowed from nothing
abbrev pub owned_scalar : Scalar → Scalar
owned_scalar (str t) = str (owned_text t)
owned_scalar (bytes t) = bytes (owned_text t)
owned_scalar s = s

-- the same key, at no place and borrowed from nothing
abbrev pub owned_key : Key → Key
owned_key (named t m n) = named (owned_text t) (option_map owned_metadata m) (owned_note n)
owned_key (nameless m n) = nameless (owned_metadata m) (owned_note n)
owned_key (ordered n) = ordered (owned_note n)

-- the same scalar, key or tag, at no place and borrowed from nothing
abbrev pub owned_leaf : Leaf → Leaf
owned_leaf (scalar s n) = scalar (owned_scalar s) (owned_note n)
owned_leaf (key k) = key (owned_key k)
owned_leaf (tag t n) = tag t (owned_note n)

-- what the event says, wherever it stands and whatever its texts are borrowed from
abbrev pub content_of : Event → Event
content_of (leaf l) = leaf (owned_leaf l)
content_of (start b c n) = start b c (owned_note n)
content_of (stop b n) = stop b (owned_note n)
