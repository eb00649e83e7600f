-- Documents: what a value is written as, before it is spelled.
use Rattle.std.specs.Prelude.{◌≡◌, ℕ, List, [], ◌∷◌, ◌++◌, None, false}
use Rattle.std.specs.List.{AllByRecursion}
use Rattle.semantics_lines.specs.Texts.{Phrase, is_plain}
use Rattle.semantics_lines.specs.Events.{Scalar, unit, null, bool, char, i64, u64, i128, u128, str, bytes, no_note, scalar, key, named, of_struct, of_sequence, object_kind, array_kind, Event, leaf, start, stop}
use Rattle.semantics_lines.specs.Calls.{Literal, unit_literal, null_literal, bool_literal, char_literal, i64_literal, u64_literal, i128_literal, u128_literal, str_literal, bytes_literal}

-- Entries of a map keep their order among themselves.
pub data Mark : Type 0 where
  in_map : Mark
  free : Mark

mutual
  pub data Document : Type 0 where
    plain : Literal → Document
    sequence : Documents → Document
    object : Members → Document

  pub data Documents : Type 0 where
    no_documents : Documents
    document : Document → Documents → Documents

  -- the entries of an object: each a mark, the text of its key, and a document
  pub data Members : Type 0 where
    no_members : Members
    member : Mark → List ℕ → Document → Members → Members

-- an entry of an object by itself
pub record Member : Type 0 where
  pub mark : Mark
  pub name : List ℕ
  pub document : Document

-- the entries of an object as a list
abbrev pub member_list : Members → List Member
member_list no_members = []
member_list (member m k d ms) = record { mark = m; name = k; document = d } ∷ member_list ms

-- the entry belongs to no map, so it may change its place
abbrev pub IsFree : Member → Type 0
IsFree x = x.mark ≡ free

-- The second document is the first with the entries of each object in another order, those of maps in theirs.
abbrev mutual
  pub Permuted : Document → Document → Type 0
  Permuted (plain s) d = d ≡ plain s
  Permuted (sequence ds) d = (es : Documents) × (d ≡ sequence es) × EachPermuted ds es
  Permuted (object ms) d = (ns : Members) × (d ≡ object ns) × Reordered ms (member_list ns)

  pub EachPermuted : Documents → Documents → Type 0
  EachPermuted no_documents es = es ≡ no_documents
  EachPermuted (document d ds) es = (d' : Document) × (ds' : Documents) × (es ≡ document d' ds') × Permuted d d' × EachPermuted ds ds'

  -- the first member stands somewhere, behind no entry of a map if it is one, and the others are the rest
  pub Reordered : Members → List Member → Type 0
  Reordered no_members xs = xs ≡ []
  Reordered (member m k d ms) xs = (before after : List Member) × (d' : Document)
      × (xs ≡ before ++ (record { mark = m; name = k; document = d' } ∷ after))
      × (m ≡ in_map → AllByRecursion IsFree before) × Permuted d d' × Reordered ms (before ++ after)

-- a text as it stands on a tape: borrowed exactly where it is spelled as it stands
abbrev pub on_tape : List ℕ → Phrase
on_tape text = record { bytes = text; borrowed = is_plain text }

-- a text that is borrowed from nothing
abbrev pub owned : List ℕ → Phrase
owned text = record { bytes = text; borrowed = false }

-- the scalar of an event by which a literal is told
abbrev pub scalar_of_literal : Literal → Scalar
scalar_of_literal unit_literal = unit
scalar_of_literal null_literal = null
scalar_of_literal (bool_literal b) = bool b
scalar_of_literal (char_literal c) = char c
scalar_of_literal (i64_literal z) = i64 z
scalar_of_literal (u64_literal n) = u64 n
scalar_of_literal (i128_literal z) = i128 z
scalar_of_literal (u128_literal n) = u128 n
scalar_of_literal (str_literal t) = str (on_tape t)
scalar_of_literal (bytes_literal t) = bytes (owned t)

-- the event of a scalar, at no place
abbrev pub scalar_event : Literal → Event
scalar_event l = leaf (scalar (scalar_of_literal l) no_note)

-- the event of a key, at no place
abbrev pub key_event : List ℕ → Event
key_event name = leaf (key (named (on_tape name) None no_note))

-- The events of a document, at no place. A parser gives these for its tape, each with its span.
abbrev mutual
  pub document_events : Document → List Event
  document_events (plain l) = scalar_event l ∷ []
  document_events (sequence ds) = start of_sequence array_kind no_note ∷ (documents_events ds ++ (stop of_sequence no_note ∷ []))
  document_events (object ms) = start of_struct object_kind no_note ∷ (members_events ms ++ (stop of_struct no_note ∷ []))

  pub documents_events : Documents → List Event
  documents_events no_documents = []
  documents_events (document d ds) = document_events d ++ documents_events ds

  pub members_events : Members → List Event
  members_events no_members = []
  members_events (member m k d ms) = key_event k ∷ (document_events d ++ members_events ms)
