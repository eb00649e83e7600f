-- Which part of a value is due: the innermost one that has begun, or has to, and isn't complete.
use Rattle.std.specs.Prelude.{◌≡◌, ℕ, zero, suc, ◌⊎◌, List, [], ◌∷◌, ◌++◌, length, true, false, Option, Some, None, option_and_then, slice_get}
use Rattle.semantics_lines.specs.Shapes.{Field, StructShape, Definition, option_shape, result_shape, transparent_shape, Registry, definition_at}
use Rattle.semantics_lines.specs.Events.{Key, key, ContainerKind, object_kind, Event, leaf}
use Rattle.semantics_lines.specs.Faults.{ShapeLabel, Step, index_step, variant_step}
use Rattle.semantics.specs.Labels.{label_at}
use Rattle.semantics.specs.Runs.{Run, Entry}
use Rattle.semantics.specs.Typed.{object_of, tuple_of, item_of, length_of, has_room}
use Rattle.semantics.specs.Places.{Path, Choice}
use Rattle.semantics.specs.Reading.{Setting, Source, from_events, of_shape, of_variant, of_tag, of_entry, source_of, plain_layout, by_outcome, Side, ok_side, err_side}
use Rattle.semantics.specs.Reading as reading
use Rattle.semantics.specs.Ends.{End, steps_at}
use Rattle.semantics.specs.Seen.{OnFirst, is_nothing_event, ends_sequence}
use Rattle.semantics_causes.specs.Taken.{leads_behind, end_in, TakesKey, Place, at_start, in_object, in_sequence, Reaches, Took}

-- a part of a value: what it is, what is left of the depth, its path, and where its metadata comes from
pub record Part : Type 0 where
  pub what : reading.Part
  pub depth : ℕ
  pub path : List Step
  pub source : Source

-- what a part is made of, where it is a value of a shape
abbrev pub defined_at : Registry → reading.Part → Option Definition
defined_at g (of_shape s) = definition_at g s
defined_at g (of_variant j v) = None
defined_at g (of_tag t) = None
defined_at g (of_entry s t) = None

-- The choice of variants for a part of which these events are seen. No variant is chosen yet.
abbrev pub IsChosen : Registry → reading.Part → List Event → Choice → Type 0
IsChosen g what seen c = c ≡ []

-- the part is a struct that is read as an object
abbrev pub IsObject : Registry → reading.Part → StructShape → Type 0
IsObject g what d = option_and_then object_of (defined_at g what) ≡ Some d

-- the part is a tuple
abbrev pub IsTuple : Registry → reading.Part → StructShape → Type 0
IsTuple g what d = option_and_then tuple_of (defined_at g what) ≡ Some d

-- the part is a value of the shape that errors name so
abbrev pub IsNamed : Registry → reading.Part → ShapeLabel → Type 0
IsNamed g what label = (what ≡ of_shape label.number) × (label ≡ label_at g label.number)

-- the part is a list or an array of this item
abbrev pub IsListOf : Registry → reading.Part → ℕ → Type 0
IsListOf g what item = option_and_then item_of (defined_at g what) ≡ Some item

-- how many items the part has, where it says so
abbrev pub length_in : Registry → reading.Part → Option ℕ
length_in g what = option_and_then length_of (defined_at g what)

-- A value of a shape stands at a place: these events of it came and were taken. Its parts have n left of the depth.
pub record Stands (g : Setting) (part : Part) (n : ℕ) (so_far seen : List Event) (place : Place) : Type 0 where
  pub shape : ℕ
  pub is_shape : part.what ≡ of_shape shape
  pub choice : Choice
  pub chosen : IsChosen g.registry part.what seen choice
  pub reaches : Reaches so_far place
  pub took : Took g n choice shape (definition_at g.registry shape) place

-- the part that a key leads to, by these steps
abbrev pub field_part : Part → ℕ → Key → List Step → End → Part
field_part part n q steps end = record { what = end.part; depth = n; path = part.path ++ steps; source = source_of q }

-- an item of the part, by its place
abbrev pub item_part : Part → ℕ → ℕ → ℕ → Part
item_part part n k s = record { what = of_shape s; depth = n; path = part.path ++ (index_step k ∷ []); source = from_events }

-- what an option or a transparent shape holds, which has the path of the part itself
abbrev pub inner_part : Part → ℕ → ℕ → Source → Part
inner_part part n s source = record { what = of_shape s; depth = n; path = part.path; source = source }

-- what a result holds
abbrev pub outcome_part : Part → ℕ → Side → Part
outcome_part part n side = record { what = of_shape side.shape; depth = n; path = part.path ++ (variant_step side.name ∷ []); source = from_events }

-- From a place of the part one comes to a part of it: by a key, which is `between`, or at once, where the events come next.
-- That is what is at the end of the path that the key leads to, what a transparent shape, an option or a result holds, an
-- item of a list or an array, and an item of a tuple, in a sequence or behind a key.
pub data Into (g : Setting) (part : Part) (n : ℕ) (c : Choice) (place : Place) (between next : List Event) (inner : Part) : Type 0 where
  into_field : (d : StructShape) → IsObject g.registry part.what d → (k : ContainerKind) (es : List Entry) → place ≡ in_object k es → (q : Key) → between ≡ leaf (key q) ∷ [] → TakesKey g.registry c d es q
      → (way : Path) (end : End) → leads_behind g.registry c d es q ≡ Some way → end_in g.registry c d way ≡ Some end
      → inner ≡ field_part part n q (steps_at g.registry c (plain_layout d) way) end → Into g part n c place between next inner
  into_transparent : (s : ℕ) → defined_at g.registry part.what ≡ Some (transparent_shape s) → place ≡ at_start → between ≡ []
      → inner ≡ inner_part part n s part.source → Into g part n c place between next inner
  into_some : (s : ℕ) → defined_at g.registry part.what ≡ Some (option_shape s) → place ≡ at_start → between ≡ [] → OnFirst next (λ e. is_nothing_event e ≡ false)
      → inner ≡ inner_part part n s from_events → Into g part n c place between next inner
  into_outcome : (s t : ℕ) → defined_at g.registry part.what ≡ Some (result_shape s t) → (k : ContainerKind) → place ≡ in_object k [] → (q : Key) → between ≡ leaf (key q) ∷ []
      → (side : Side) → by_outcome q (ok_side s) (err_side t) ≡ Some side → inner ≡ outcome_part part n side → Into g part n c place between next inner
  into_item : (s : ℕ) → IsListOf g.registry part.what s → (rs : List Run) → place ≡ in_sequence rs → between ≡ [] → has_room (length_in g.registry part.what) (length rs) ≡ true
      → OnFirst next (λ e. ends_sequence e ≡ false) → inner ≡ item_part part n (length rs) s → Into g part n c place between next inner
  into_element : (d : StructShape) → IsTuple g.registry part.what d → (rs : List Run) → place ≡ in_sequence rs → between ≡ [] → (field : Field) → slice_get d.fields (length rs) ≡ Some field
      → OnFirst next (λ e. ends_sequence e ≡ false) → inner ≡ item_part part n (length rs) field.shape → Into g part n c place between next inner
  into_entry : (d : StructShape) → IsTuple g.registry part.what d → (es : List Entry) → place ≡ in_object object_kind es → (q : Key) → between ≡ leaf (key q) ∷ []
      → (field : Field) → slice_get d.fields (length es) ≡ Some field → inner ≡ item_part part n (length es) field.shape → Into g part n c place between next inner

-- The events so far begin a part of the part, of which those inside came, and these come next.
pub record Entered (g : Setting) (part : Part) (n : ℕ) (events next : List Event) (inner : Part) (inside : List Event) : Type 0 where
  pub so_far : List Event
  pub place : Place
  pub stands : Stands g part n so_far (events ++ next) place
  pub between : List Event
  pub into : Into g part n stands.choice place between (inside ++ next) inner
  pub is : events ≡ so_far ++ (between ++ inside)

-- After these events of a part, which these come next to, the part `due` of it is reached, of which `so_far` came.
abbrev pub IsDue : Setting → ℕ → Part → List Event → List Event → Part → List Event → Type 0
IsDue g zero part events next due so_far = (part.depth ≡ zero) × (events ≡ []) × (due ≡ part) × (so_far ≡ [])
IsDue g (suc n) part events next due so_far = (part.depth ≡ suc n) × (
    ((due ≡ part) × (so_far ≡ events))
    ⊎ ((inner : Part) × (inside : List Event) × Entered g part n events next inner inside × IsDue g n inner inside next due so_far))

-- the whole value
abbrev pub root_part : ℕ → ℕ → Part
root_part root depth = record { what = of_shape root; depth = depth; path = []; source = from_events }

-- Where the events so far end: a part that is due, at a place of it, and what of the depth is left for its parts.
pub record Spot (g : Setting) (root : Part) (events next : List Event) : Type 0 where
  pub due : Part
  pub so_far : List Event
  pub is_due : IsDue g root.depth root events next due so_far
  pub left : ℕ
  pub deep : due.depth ≡ suc left
  pub place : Place
  pub stands : Stands g due left so_far (events ++ next) place
