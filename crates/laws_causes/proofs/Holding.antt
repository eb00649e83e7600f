-- What is open while a value is read, as parts of it: what each frame holds, and which part of it comes next.
use Rattle.std.specs.Prelude.{◌≡◌, ℕ, ◌≤◌, List, [], ◌∷◌, ◌++◌, length, take, slice_get, Option, Some, None, Bool, true, false}
use Rattle.semantics_lines.specs.Trees.{Tree, trees_of}
use Rattle.semantics_lines.specs.Shapes.{ScalarType, Field, StructShape, Definition, scalar_shape, option_shape, result_shape, list_shape, array_shape, struct_shape, is_tuple, Registry, definition_at}
use Rattle.semantics_lines.specs.Events.{Span, Note, Key, key_note, key, of_struct, of_sequence, ContainerKind, object_kind, Event, leaf, start}
use Rattle.semantics.specs.Runs.{Run, runs_events, Entry, entries_events}
use Rattle.semantics.specs.Typed.{has_room}
use Rattle.semantics.specs.Labels.{label_at}
use Rattle.semantics.specs.Places.{Path}
use Rattle.semantics.specs.Keys.{ordered_count}
use Rattle.semantics.specs.Reading.{from_events, of_shape, part_value, parts_by, plain_layout, set_by, is_argument, arguments, by_outcome, read_each, read_elements, entry_runs, read}
use Rattle.semantics.specs.Ends.{End, steps_at}
use Rattle.semantics.specs.Seen.{OnFirst, is_nothing_event, ends_sequence}
use Rattle.semantics_causes.specs.Taken.{leads_behind, end_in, placed_in, TakesKey, TookEntries, TakesNodeKey, TookNode}
use Rattle.semantics_causes.specs.Due.{Part, field_part, item_part, inner_part, outcome_part}
use Rattle.semantics_causes.specs.Causes.{has_argument}
use Rattle.laws_reading.specs.Structs.{Got}
use Rattle.laws_reading.specs.Options.{side_of}
use Rattle.laws_reading.specs.Values.{Terms, target_of}
use Rattle.laws_reading.proofs.Ends.{Kept}
use Rattle.laws_causes.proofs.Lacking.{Spanned}
use Rattle.laws_causes.proofs.Apart.{Apart}
use Rattle.laws_machine.specs.Frames.{ItemsPart, TuplePart, StructPart, Entered, ResultPart, NodePart, Frame, awaits, option, items, elements, keyed, keyed_item, object, field, outcome_key, outcome_side, outcome_end, node, argument}
use Rattle.laws_machine.specs.Delivery.{past_key}
use Rattle.laws_machine.specs.Steps.{entered}

-- the event that comes next, where it is known
abbrev pub Next : Type 0
Next = Option Event

-- the first of some events, or what comes behind them
abbrev pub first_of : List Event → Next → Next
first_of [] next = next
first_of (e ∷ es) next = Some e

-- it is known, and has the property
abbrev pub OnNext : Next → (Event → Type 0) → Type 0
OnNext None P = ⊥
OnNext (Some e) P = P e

-- where it is known, it is the first of these events
abbrev pub NextIs : Next → List Event → Type 0
NextIs None es = Unit {0}
NextIs (Some e) es = OnFirst es (λ x. x ≡ e)

module _ (t : Terms) where
  abbrev pub reg : Registry
  reg = t.setting.registry

  -- the number of a shape and its definition, of which a part is a value
  pub record IsOf (part : Part) (s : ℕ) (d : Definition) : Type 0 where
    pub what : part.what ≡ of_shape s
    pub defined : definition_at reg s ≡ Some d

  -- a list, or an array of so many items
  pub data ListDefined (s : ℕ) (l : ItemsPart) : Type 0 where
    a_list : definition_at reg s ≡ Some (list_shape l.item) → l.items.len ≡ None → ListDefined s l
    an_array : (len : ℕ) → definition_at reg s ≡ Some (array_shape l.item len) → l.items.len ≡ Some len → ListDefined s l

  -- These events came of a list: its start, and items that were read.
  pub record HoldsItems (l : ItemsPart) (part : Part) (n : ℕ) (own : List Event) : Type 0 where
    pub what : part.what ≡ of_shape l.items.shape.number
    pub named : l.items.shape ≡ label_at reg l.items.shape.number
    pub defined : ListDefined l.items.shape.number l
    pub depth : l.depth ≡ n
    pub kind : ContainerKind
    pub note : Note
    pub runs : List Run
    pub is : own ≡ start of_sequence kind note ∷ runs_events runs
    pub reads : read_each (read t.setting n l.item from_events) runs ≡ Some (trees_of l.front)
    pub fits : (m : ℕ) → l.items.len ≡ Some m → length runs ≤ m

  -- a tuple, by its struct
  pub record TupleDefined (l : TuplePart) (part : Part) (n : ℕ) (d : StructShape) : Type 0 where
    pub of : IsOf part l.elements.shape.number (struct_shape d)
    pub named : l.elements.shape ≡ label_at reg l.elements.shape.number
    pub tuple : is_tuple d.kind ≡ true
    pub fields : l.elements.fields ≡ d.fields
    pub depth : l.depth ≡ n

  -- These events came of a tuple as a sequence: its start, and items that were read.
  pub record HoldsElements (l : TuplePart) (part : Part) (n : ℕ) (own : List Event) : Type 0 where
    pub struct : StructShape
    pub defined : TupleDefined l part n struct
    pub kind : ContainerKind
    pub note : Note
    pub runs : List Run
    pub is : own ≡ start of_sequence kind note ∷ runs_events runs
    pub reads : read_elements reg (read t.setting n) (take (length runs) struct.fields) runs ≡ Some (trees_of l.front)

  -- These events came of a tuple as an object: its start, and entries whose values were read.
  pub record HoldsKeyed (l : TuplePart) (part : Part) (n : ℕ) (own : List Event) : Type 0 where
    pub struct : StructShape
    pub defined : TupleDefined l part n struct
    pub note : Note
    pub entries : List Entry
    pub is : own ≡ start of_struct object_kind note ∷ entries_events entries
    pub reads : read_elements reg (read t.setting n) (take (length (entry_runs entries)) struct.fields) (entry_runs entries) ≡ Some (trees_of l.front)

  -- What was read of a struct's entries is what was kept, where their keys stood, and no place has two.
  pub record KeepsGot (n : ℕ) (d : StructShape) (es : List Entry) (got : Got) : Type 0 where
    pub count : got.count ≡ ordered_count 0 es
    pub kept : Kept (end_in reg [] d) (parts_by (part_value reg (read t.setting n))) (placed_in reg [] d es) got.values
    pub spanned : Spanned (placed_in reg [] d es) got.values
    pub apart : Apart (end_in reg [] d) got.values

  -- a struct that is read as an object
  pub record ObjectDefined (s : StructPart) (part : Part) (n : ℕ) (d : StructShape) : Type 0 where
    pub of : IsOf part s.shape (struct_shape d)
    pub plain : is_tuple d.kind ≡ false
    pub layout : s.layout ≡ plain_layout d
    pub deny : s.deny ≡ d.deny
    pub choice : s.choice ≡ []
    pub depth : s.depth ≡ n

  -- These events came of a struct: its start, and entries that were taken.
  pub record HoldsObject (s : StructPart) (part : Part) (n : ℕ) (own : List Event) : Type 0 where
    pub struct : StructShape
    pub defined : ObjectDefined s part n struct
    pub kind : ContainerKind
    pub note : Note
    pub entries : List Entry
    pub is : own ≡ start of_struct kind note ∷ entries_events entries
    pub took : TookEntries t.setting n [] struct [] entries
    pub keeps : KeepsGot n struct entries s.got

  -- the start of a result came
  pub record HoldsResult (r : ResultPart) (part : Part) (n : ℕ) (own : List Event) : Type 0 where
    pub shape : ℕ
    pub of : IsOf part shape (result_shape r.sides.ok_shape r.sides.err_shape)
    pub depth : r.depth ≡ n
    pub kind : ContainerKind
    pub note : Note
    pub is : own ≡ start of_struct kind note ∷ []

  -- the start of a result came, and its entry, which was read
  pub record HoldsOutcome (b : Bool) (v : Tree) (part : Part) (n : ℕ) (own : List Event) : Type 0 where
    pub shape : ℕ
    pub sides : ResultPart
    pub of : IsOf part shape (result_shape sides.sides.ok_shape sides.sides.err_shape)
    pub kind : ContainerKind
    pub note : Note
    pub q : Key
    pub run : Run
    pub is : own ≡ start of_struct kind note ∷ entries_events (record { key = q; run = run } ∷ [])
    pub named : by_outcome q true false ≡ Some b
    pub reads : read t.setting n (side_of sides.sides b).shape from_events run ≡ Some v

  -- what is known of the argument of a node of such a scalar, behind these entries
  pub data KeepsArgument (shape : ℕ) (type : ScalarType) (es : List Entry) (first : Option Span) (value : Option Tree) : Type 0 where
    no_argument : arguments es ≡ [] → first ≡ None → value ≡ None → KeepsArgument shape type es first value
    one_argument : (before : List Entry) (earlier : Entry) (after : List Entry) → es ≡ before ++ (earlier ∷ after) → is_argument earlier.key ≡ true → arguments es ≡ earlier.run ∷ []
        → first ≡ Some (key_note earlier.key).span → value ≡ set_by t.setting.borrow (label_at reg shape) type earlier.run → (value ≡ None → has_argument (earlier.run ∷ []) ≡ false)
        → KeepsArgument shape type es first value

  -- These events came of a node: its start, and entries that were taken.
  pub record HoldsNode (p : NodePart) (part : Part) (n : ℕ) (own : List Event) : Type 0 where
    pub shape : ℕ
    pub type : ScalarType
    pub of : IsOf part shape (scalar_shape type)
    pub target : p.target ≡ target_of t shape type
    pub kind : ContainerKind
    pub note : Note
    pub entries : List Entry
    pub is : own ≡ start of_struct kind note ∷ entries_events entries
    pub took : TookNode t.setting.borrow (label_at reg shape) type [] entries
    pub keeps : KeepsArgument shape type entries p.node.first p.node.value

  -- The same, and the key of the argument, which stands there.
  pub record HoldsArgument (p : NodePart) (first : Span) (part : Part) (n : ℕ) (own : List Event) : Type 0 where
    pub before : List Event
    pub node : HoldsNode p part n before
    pub q : Key
    pub is : own ≡ before ++ (leaf (key q) ∷ [])
    pub takes : TakesNodeKey node.entries q
    pub names : is_argument q ≡ true
    pub spanned : first ≡ (key_note q).span

  -- These events came of the part that a frame is.
  abbrev pub Holds : Frame → Part → ℕ → List Event → Type 0
  Holds (awaits a) part n own = (part.what ≡ of_shape a.shape) × (a.depth ≡ n) × (own ≡ [])
  Holds (items l) part n own = HoldsItems l part n own
  Holds (elements l) part n own = HoldsElements l part n own
  Holds (keyed l) part n own = HoldsKeyed l part n own
  Holds (object s) part n own = HoldsObject s part n own
  Holds (outcome_key r) part n own = HoldsResult r part n own
  Holds (outcome_end b v) part n own = HoldsOutcome b v part n own
  Holds (node p) part n own = HoldsNode p part n own
  Holds (argument p first) part n own = HoldsArgument p first part n own
  Holds _ part n own = ⊥

  -- an item of a list comes
  pub record AwaitsItem (l : ItemsPart) (whole : Part) (n : ℕ) (own : List Event) (part : Part) (next : Next) : Type 0 where
    pub holds : HoldsItems l whole n own
    pub room : has_room l.items.len (length l.front) ≡ true
    pub on : OnNext next (λ e. ends_sequence e ≡ false)
    pub is : part ≡ item_part whole n (length l.front) l.item

  -- an item of a tuple comes, in a sequence
  pub record AwaitsElement (l : TuplePart) (whole : Part) (n : ℕ) (own : List Event) (part : Part) (next : Next) : Type 0 where
    pub holds : HoldsElements l whole n own
    pub field : Field
    pub here : slice_get l.elements.fields (length l.front) ≡ Some field
    pub on : OnNext next (λ e. ends_sequence e ≡ false)
    pub is : part ≡ item_part whole n (length l.front) field.shape

  -- an item of a tuple comes, behind its key
  pub record AwaitsKeyed (l : TuplePart) (whole : Part) (n : ℕ) (own : List Event) (part : Part) : Type 0 where
    pub before : List Event
    pub holds : HoldsKeyed l whole n before
    pub q : Key
    pub own_is : own ≡ before ++ (leaf (key q) ∷ [])
    pub field : Field
    pub here : slice_get l.elements.fields (length l.front) ≡ Some field
    pub is : part ≡ item_part whole n (length l.front) field.shape

  -- the value of a struct's key comes, which leads to a path
  pub record AwaitsField (s : StructPart) (e : Entered) (whole : Part) (n : ℕ) (own : List Event) (part : Part) : Type 0 where
    pub before : List Event
    pub earlier : StructPart
    pub holds : HoldsObject earlier whole n before
    pub q : Key
    pub past : s ≡ past_key earlier q
    pub own_is : own ≡ before ++ (leaf (key q) ∷ [])
    pub takes : TakesKey reg [] holds.struct holds.entries q
    pub way : Path
    pub end : End
    pub leads : leads_behind reg [] holds.struct holds.entries q ≡ Some way
    pub ends : end_in reg [] holds.struct way ≡ Some end
    pub entered : e ≡ entered way q
    pub is : part ≡ field_part whole n q (steps_at reg [] (plain_layout holds.struct) way) end

  -- what a result holds comes, behind its key
  pub record AwaitsOutcome (r : ResultPart) (b : Bool) (whole : Part) (n : ℕ) (own : List Event) (part : Part) : Type 0 where
    pub before : List Event
    pub holds : HoldsResult r whole n before
    pub q : Key
    pub own_is : own ≡ before ++ (leaf (key q) ∷ [])
    pub named : by_outcome q true false ≡ Some b
    pub is : part ≡ outcome_part whole n (side_of r.sides b)

  -- what an option holds comes
  pub record AwaitsSome (whole : Part) (n : ℕ) (own : List Event) (part : Part) (next : Next) : Type 0 where
    pub shape : ℕ
    pub inner : ℕ
    pub of : IsOf whole shape (option_shape inner)
    pub own_is : own ≡ []
    pub on : OnNext next (λ e. is_nothing_event e ≡ false)
    pub is : part ≡ inner_part whole n inner from_events

  -- A part of the part that a frame is comes next, of which these events came.
  abbrev pub Awaits : Frame → Part → ℕ → List Event → Part → Next → Type 0
  Awaits option whole n own part next = AwaitsSome whole n own part next
  Awaits (items l) whole n own part next = AwaitsItem l whole n own part next
  Awaits (elements l) whole n own part next = AwaitsElement l whole n own part next
  Awaits (keyed_item l) whole n own part next = AwaitsKeyed l whole n own part
  Awaits (field s e) whole n own part next = AwaitsField s e whole n own part
  Awaits (outcome_side r b) whole n own part next = AwaitsOutcome r b whole n own part
  Awaits _ whole n own part next = ⊥
