-- Why something is refused. Of the events `taken` those were taken, and those `looked` were only looked at.
use Rattle.std.specs.Prelude.{◌≡◌, ℕ, zero, ◌+◌, ◌<◌, ◌⊎◌, List, [], ◌∷◌, ◌++◌, length, Bool, true, false, not, ◌&&◌, is_some, cond, Option, Some, None, option_and_then, slice_get, Err}
use Rattle.semantics_lines.specs.Texts.{Phrase}
use Rattle.semantics_lines.specs.Trees.{Tree}
use Rattle.semantics_lines.specs.Shapes.{ScalarType, Field, StructShape, Definition, scalar_shape, result_shape, list_shape, array_shape, struct_shape, is_tuple, Registry, definition_at}
use Rattle.semantics_lines.specs.Events.{Span, Metadata, Note, Scalar, Key, named, nameless, ordered, key_note, ContainerKind, object_kind, of_struct, of_sequence, Event, leaf, scalar, key, start, stop, span_of}
use Rattle.semantics_lines.specs.Faults.{ShapeLabel, Step, FaultKind}
use Rattle.semantics.specs.Registry.{has_some}
use Rattle.semantics.specs.Typed.{object_of}
use Rattle.semantics.specs.Labels.{label_at}
use Rattle.semantics.specs.Runs.{Run, one, run_events, Entry}
use Rattle.semantics.specs.Setters.{set_scalar}
use Rattle.semantics.specs.Writing.{Unwritten, write}
use Rattle.semantics.specs.Places.{Path, Choice, all_below, comes_before}
use Rattle.semantics.specs.Keys.{Plan, ordered_count, is_allowed}
use Rattle.semantics.specs.Reading.{Setting, from_events, of_shape, key_text, fill, plain_layout, is_argument, is_key, arguments, is_nothing, by_outcome, read, Reads}
use Rattle.semantics.specs.Ends.{Gap, gap_at}
use Rattle.semantics.specs.Seen.{ends_sequence}
use Rattle.semantics_causes.specs.Taken.{struct_plan, leads_behind, label_behind, placed_in, Place, at_start, in_object, in_sequence, in_passed}
use Rattle.semantics_causes.specs.Due.{Part, defined_at, IsObject, IsTuple, IsNamed, IsDue, Spot}

-- No run that these events begin with is read.
abbrev pub NoRun : Setting → ℕ → ℕ → List Event → Type 0
NoRun g depth root events = (run : Run) (rest : List Event) → events ≡ run_events run ++ rest → read g depth root from_events run ≡ None

-- a tuple takes it as its first event: a start, and null or unit where it has no items
abbrev pub tuple_takes : StructShape → Event → Bool
tuple_takes d (start of_sequence k n) = true
tuple_takes d (start of_struct object_kind n) = true
tuple_takes d (leaf (scalar x n)) = not (has_some d.fields) && is_nothing x
tuple_takes d _ = false

-- it starts an object
abbrev pub starts_object : Event → Bool
starts_object (start of_struct k n) = true
starts_object _ = false

-- it starts a sequence
abbrev pub starts_sequence : Event → Bool
starts_sequence (start of_sequence k n) = true
starts_sequence _ = false

-- it is a scalar, or starts a node
abbrev pub starts_scalar : Event → Bool
starts_scalar (leaf (scalar x n)) = true
starts_scalar e = starts_object e

-- A value of this definition takes it as its first event. Of a form that isn't built none is.
abbrev pub takes_first : Option Definition → Event → Bool
takes_first (Some (scalar_shape t)) e = starts_scalar e
takes_first (Some (result_shape i j)) e = starts_object e
takes_first (Some (list_shape i)) e = starts_sequence e
takes_first (Some (array_shape i len)) e = starts_sequence e
takes_first (Some (struct_shape d)) e = cond (is_tuple d.kind) (tuple_takes d e) (starts_object e)
takes_first _ e = false

-- the run of an argument is one scalar
abbrev pub is_one : Run → Bool
is_one (one x n) = true
is_one _ = false

-- a scalar stands for the argument of a node
abbrev pub has_argument : List Run → Bool
has_argument [] = false
has_argument (r ∷ rs) = is_one r

-- a node takes it behind these entries: a key that isn't by order, and the end where the argument came
abbrev pub node_takes : List Entry → Event → Bool
node_takes es (leaf (key q)) = is_key q
node_takes es (stop of_struct n) = has_argument (arguments es)
node_takes es _ = false

-- a result takes it behind these entries: a key that names a side, and the end behind what it holds
abbrev pub result_takes : List Entry → Event → Bool
result_takes [] (leaf (key q)) = is_some (by_outcome q true false)
result_takes (e ∷ es) (stop of_struct n) = true
result_takes es _ = false

-- a tuple takes it in an object: a key, and the end
abbrev pub entry_takes : Event → Bool
entry_takes (leaf (key q)) = true
entry_takes (stop of_struct n) = true
entry_takes _ = false

-- A key may stand in a struct where k fields were named by their order: one by order where it is allowed, and each other,
-- whether it is known or not.
abbrev pub may_stand : Plan → ℕ → Key → Bool
may_stand plan k (named t m n) = true
may_stand plan k (nameless m n) = true
may_stand plan k (ordered n) = is_allowed plan k (ordered n)

-- a struct takes it behind these entries: a key that may stand there, and the end
abbrev pub struct_takes : Registry → Choice → StructShape → List Entry → Event → Bool
struct_takes g c d es (leaf (key q)) = may_stand (struct_plan g c d) (ordered_count 0 es) q
struct_takes g c d es (stop of_struct n) = true
struct_takes g c d es _ = false

-- a value of this definition takes it in its object, behind these entries
abbrev pub takes_in_object : Registry → Choice → Option Definition → List Entry → Event → Bool
takes_in_object g c (Some (scalar_shape t)) es e = node_takes es e
takes_in_object g c (Some (result_shape i j)) es e = result_takes es e
takes_in_object g c (Some (struct_shape d)) es e = cond (is_tuple d.kind) (entry_takes e) (struct_takes g c d es e)
takes_in_object g c _ es e = false

-- No such event is taken there, whatever it carries. In a sequence each is: it ends the sequence, or begins an item. In a
-- value that is passed over none is taken with which no whole run goes on.
abbrev pub TakesNo : Registry → Choice → Option Definition → Place → Event → Type 0
TakesNo g c d at_start e = takes_first d e ≡ false
TakesNo g c d (in_object k es) e = takes_in_object g c d es e ≡ false
TakesNo g c d (in_sequence rs) e = ⊥
TakesNo g c d (in_passed es q inside) e = (run : Run) (rest : List Event) → run_events run ≡ inside ++ (e ∷ rest) → ⊥

-- The event that is refused is the last one that was taken, and a part was due before it.
pub record At (g : Setting) (root : Part) (taken looked : List Event) : Type 0 where
  pub front : List Event
  pub event : Event
  pub is : taken ≡ front ++ (event ∷ [])
  pub spot : Spot g root front (event ∷ looked)

-- The event that is refused was only looked at, and a part is due before it.
pub record Before (g : Setting) (root : Part) (taken looked : List Event) : Type 0 where
  pub event : Event
  pub is : looked ≡ event ∷ []
  pub spot : Spot g root taken looked

-- The part that is due has no depth left.
pub record IsTooDeep (g : Setting) (root : Part) (taken looked : List Event) (path : List Step) : Type 0 where
  pub due : Part
  pub so_far : List Event
  pub is_due : IsDue g root.depth root taken looked due so_far
  pub none_left : due.depth ≡ zero
  pub at : due.path ≡ path

-- The part that is due takes no such event as the last one.
pub record IsUnexpected (g : Setting) (root : Part) (taken looked : List Event) (path : List Step) : Type 0 where
  pub here : At g root taken looked
  pub takes_none : TakesNo g.registry here.spot.stands.choice (defined_at g.registry here.spot.due.what) here.spot.place here.event
  pub at : here.spot.due.path ≡ path

-- where a scalar sets the part that is due: at its beginning, or as the argument of a node
pub data SetsHere (place : Place) : Type 0 where
  at_once : place ≡ at_start → SetsHere place
  as_argument : (es : List Entry) (q : Key) → place ≡ in_passed es q [] → is_argument q ≡ true → SetsHere place

-- The last event is a scalar that doesn't set the scalar shape that is due, for this reason.
pub record IsUnset (g : Setting) (root : Part) (taken looked : List Event) (kind : FaultKind) (path : List Step) : Type 0 where
  pub here : At g root taken looked
  pub shape : ℕ
  pub is_shape : here.spot.due.what ≡ of_shape shape
  pub type : ScalarType
  pub is_scalar : definition_at g.registry shape ≡ Some (scalar_shape type)
  pub sets : SetsHere here.spot.place
  pub value : Scalar
  pub note : Note
  pub event : here.event ≡ leaf (scalar value note)
  pub unset : set_scalar g.borrow (label_at g.registry shape) type value ≡ Err kind
  pub at : here.spot.due.path ≡ path

-- The last event ends an object, and a field of the struct has no entry and no fill. It is the first such field, and the
-- fault names the struct that has it.
pub record IsMissing (g : Setting) (root : Part) (taken looked : List Event) (name : List ℕ) (shape : ShapeLabel) (path : List Step) : Type 0 where
  pub here : At g root taken looked
  pub note : Note
  pub event : here.event ≡ stop of_struct note
  pub struct : StructShape
  pub object : IsObject g.registry here.spot.due.what struct
  pub number : ℕ
  pub numbered : here.spot.due.what ≡ of_shape number
  pub container : ContainerKind
  pub entries : List Entry
  pub place : here.spot.place ≡ in_object container entries
  pub way : Path
  pub gap : Gap
  pub is_gap : gap_at g.registry here.spot.stands.choice (plain_layout struct) (record { shape = number; path = here.spot.due.path }) way ≡ Some gap
  pub no_entry : all_below way (placed_in g.registry here.spot.stands.choice struct entries) ≡ []
  pub no_fill : fill g.registry gap.field ≡ None
  pub first : (earlier : Path) (other : Gap) → comes_before earlier way ≡ true
      → gap_at g.registry here.spot.stands.choice (plain_layout struct) (record { shape = number; path = here.spot.due.path }) earlier ≡ Some other
      → all_below earlier (placed_in g.registry here.spot.stands.choice struct entries) ≡ [] → fill g.registry other.field ≡ None → ⊥
  pub named : gap.field.name ≡ name
  pub of : label_at g.registry gap.owner.shape ≡ shape
  pub at : gap.owner.path ≡ path

-- so many items of a tuple came, and then comes its end
pub data ItemsEnd (place : Place) (count : ℕ) (event : Event) : Type 0 where
  of_items : (rs : List Run) → place ≡ in_sequence rs → length rs ≡ count → (note : Note) → event ≡ stop of_sequence note → ItemsEnd place count event
  of_entries : (k : ContainerKind) (es : List Entry) → place ≡ in_object k es → length es ≡ count → (note : Note) → event ≡ stop of_struct note → ItemsEnd place count event

-- The last event ends a tuple, and an item that hasn't come has no fill. It is the first such item.
pub record IsLacking (g : Setting) (root : Part) (taken looked : List Event) (name : List ℕ) (shape : ShapeLabel) (path : List Step) : Type 0 where
  pub here : At g root taken looked
  pub tuple : StructShape
  pub is_tuple : IsTuple g.registry here.spot.due.what tuple
  pub count : ℕ
  pub ended : ItemsEnd here.spot.place count here.event
  -- how many places the item stands behind the last one that came
  pub behind : ℕ
  pub field : Field
  pub is_field : slice_get tuple.fields (count + behind) ≡ Some field
  pub no_fill : fill g.registry field ≡ None
  pub first : (earlier : ℕ) (other : Field) → earlier < behind → slice_get tuple.fields (count + earlier) ≡ Some other → fill g.registry other ≡ None → ⊥
  pub named : field.name ≡ name
  pub of : IsNamed g.registry here.spot.due.what shape
  pub at : here.spot.due.path ≡ path

-- An item stands behind the last one that a tuple has: in a sequence its first event is only looked at, and in an object
-- its key was taken.
pub data IsTooMany (g : Setting) (root : Part) (taken looked : List Event) (shape : ShapeLabel) (count : ℕ) (path : List Step) : Type 0 where
  another_item : (before : Before g root taken looked) (tuple : StructShape) → IsTuple g.registry before.spot.due.what tuple → length tuple.fields ≡ count
      → (rs : List Run) → before.spot.place ≡ in_sequence rs → length rs ≡ count → ends_sequence before.event ≡ false
      → IsNamed g.registry before.spot.due.what shape → before.spot.due.path ≡ path → IsTooMany g root taken looked shape count path
  another_entry : (here : At g root taken looked) (tuple : StructShape) → IsTuple g.registry here.spot.due.what tuple → length tuple.fields ≡ count
      → (k : ContainerKind) (es : List Entry) → here.spot.place ≡ in_object k es → length es ≡ count → (q : Key) → here.event ≡ leaf (key q)
      → IsNamed g.registry here.spot.due.what shape → here.spot.due.path ≡ path → IsTooMany g root taken looked shape count path

-- An array ends behind fewer items than it has, or another item stands behind as many, which is only looked at.
pub data IsOtherLength (g : Setting) (root : Part) (taken looked : List Event) (shape : ShapeLabel) (wanted got : ℕ) (path : List Step) : Type 0 where
  too_short : (here : At g root taken looked) (item : ℕ) → defined_at g.registry here.spot.due.what ≡ Some (array_shape item wanted)
      → (rs : List Run) → here.spot.place ≡ in_sequence rs → length rs ≡ got → got < wanted → ends_sequence here.event ≡ true
      → IsNamed g.registry here.spot.due.what shape → here.spot.due.path ≡ path → IsOtherLength g root taken looked shape wanted got path
  too_long : (before : Before g root taken looked) (item : ℕ) → defined_at g.registry before.spot.due.what ≡ Some (array_shape item wanted)
      → (rs : List Run) → before.spot.place ≡ in_sequence rs → length rs ≡ wanted → got ≡ wanted + 1 → ends_sequence before.event ≡ false
      → IsNamed g.registry before.spot.due.what shape → before.spot.due.path ≡ path → IsOtherLength g root taken looked shape wanted got path

-- Of two paths one is the other, or leads to it.
abbrev pub Collide : Path → Path → Type 0
Collide p q = (r : Path) × ((q ≡ p ++ r) ⊎ (p ≡ q ++ r))

-- The last event is a key with a name that leads nowhere, in a struct that refuses such keys.
pub record IsUnknown (g : Setting) (root : Part) (taken looked : List Event) (name : List ℕ) (path : List Step) : Type 0 where
  pub here : At g root taken looked
  pub text : Phrase
  pub metadata : Option Metadata
  pub note : Note
  pub event : here.event ≡ leaf (key (named text metadata note))
  pub struct : StructShape
  pub object : IsObject g.registry here.spot.due.what struct
  pub container : ContainerKind
  pub entries : List Entry
  pub place : here.spot.place ≡ in_object container entries
  pub nowhere : leads_behind g.registry here.spot.stands.choice struct entries (named text metadata note) ≡ None
  pub denies : struct.deny ≡ true
  pub called : text.bytes ≡ name
  pub at : here.spot.due.path ≡ path

-- Two keys of an object that can't stand together, the later one of this name: both lead to one part of a struct, or into
-- one another, or both name the argument of a node.
pub data Clashes (g : Registry) (what : Option Definition) (c : Choice) (object : Option StructShape) (before : List Entry) (earlier : Entry) (after : List Entry) (again : Key) (name : List ℕ) : Type 0 where
  same_part : (d : StructShape) → object ≡ Some d → (here there : Path)
      → leads_behind g c d (before ++ (earlier ∷ after)) again ≡ Some here → leads_behind g c d before earlier.key ≡ Some there
      → Collide there here → label_behind g c d (before ++ (earlier ∷ after)) again ≡ name → Clashes g what c object before earlier after again name
  same_argument : (type : ScalarType) → what ≡ Some (scalar_shape type) → is_argument earlier.key ≡ true → is_argument again ≡ true → key_text again ≡ name
      → Clashes g what c object before earlier after again name

-- The last event is a key of this name that an earlier entry's key clashes with, which stood at `first`.
pub record IsDuplicate (g : Setting) (root : Part) (taken looked : List Event) (name : List ℕ) (first : Span) (path : List Step) : Type 0 where
  pub here : At g root taken looked
  pub again : Key
  pub event : here.event ≡ leaf (key again)
  pub container : ContainerKind
  pub before : List Entry
  pub earlier : Entry
  pub after : List Entry
  pub place : here.spot.place ≡ in_object container (before ++ (earlier ∷ after))
  pub clashes : Clashes g.registry (defined_at g.registry here.spot.due.what) here.spot.stands.choice (option_and_then object_of (defined_at g.registry here.spot.due.what)) before earlier after again name
  pub first_span : (key_note earlier.key).span ≡ first
  pub at : here.spot.due.path ≡ path

-- A whole run was read, and another event follows it.
pub record IsTrailing (g : Setting) (root depth : ℕ) (events : List Event) (span : Span) : Type 0 where
  pub front : List Event
  pub event : Event
  pub rest : List Event
  pub cut : events ≡ front ++ (event ∷ rest)
  pub value : Tree
  pub reads : Reads g depth root from_events front value
  pub spanned : span_of event ≡ span

-- What is read has no written form.
pub record HasNoForm (g : Setting) (root depth : ℕ) (events : List Event) : Type 0 where
  pub value : Tree
  pub reads : Reads g depth root from_events events value
  pub reason : Unwritten
  pub unwritten : write g.registry root value ≡ Err reason
