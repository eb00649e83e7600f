-- What a run is read as.
use Rattle.std.specs.Prelude.{◌≡◌, ℕ, zero, suc, List, [], ◌∷◌, Bool, true, false, cond, ◌&&◌, not, length, map, Option, Some, None, option_map, option_and_then, Ok, Err, bytes_eq, codes}
use Rattle.std.specs.List.{list_all}
use Rattle.semantics_lines.specs.Texts.{Phrase}
use Rattle.semantics_lines.specs.Trees.{Tree, none, some, ok, err, list, structure, Trees, no_trees, tree}
use Rattle.semantics_lines.specs.Shapes.{ScalarType, is_tuple, Field, StructShape, Variant, Definition, scalar_shape, option_shape, result_shape, list_shape, array_shape, struct_shape, transparent_shape, Registry, definition_at}
use Rattle.semantics_lines.specs.Events.{Metadata, Scalar, unit, null, Key, named, nameless, ordered, of_struct, of_sequence, object_kind, array_kind, Event}
use Rattle.semantics_lines.specs.Faults.{ShapeLabel}
use Rattle.semantics.specs.Labels.{label_at}
use Rattle.semantics.specs.Runs.{Run, one, group, tagged, Entry, entries, items, run_events}
use Rattle.semantics.specs.Registry.{has_some}
use Rattle.semantics.specs.Typed.{has_length}
use Rattle.semantics.specs.Numerals.{only}
use Rattle.semantics.specs.Setters.{Outcome, set_scalar}
use Rattle.semantics.specs.Places.{At, below, has_whole, Choice}
use Rattle.semantics.specs.Keys.{Layout, plan_of, placed, are_allowed}

-- what reading depends on beside the shape and the run
pub record Setting : Type 0 where
  pub registry : Registry
  -- whether a borrowed text stays borrowed
  pub borrow : Bool
  -- whether the format tells by itself what its values are
  pub describes_itself : Bool

-- where the metadata of a value comes from
pub data Source : Type 0 where
  given : Metadata → Source
  from_events : Source

-- reads a part of a shape, by its number
abbrev pub Reader : Type 0
Reader = ℕ → Source → Run → Option Tree

-- What stands at the end of a path.
pub data Part : Type 0 where
  -- a value of a shape
  of_shape : ℕ → Part
  -- what stands under the name of a flattened enum's variant, which has this place
  of_variant : ℕ → Variant → Part
  -- the text of a flattened enum's tag
  of_tag : List ℕ → Part
  -- an entry of a flattened map, whose keys and values are of these shapes
  of_entry : ℕ → ℕ → Part

-- how the things that stand at the ends of paths are read
pub record Parts (A : Type 0) : Type 0 where
  pub value_of : Part → A → Option Tree

-- the text of a key, with whether it is borrowed, and none where it has no name
abbrev pub key_phrase : Key → Phrase
key_phrase (named t m n) = t
key_phrase (nameless m n) = record { bytes = []; borrowed = false }
key_phrase (ordered n) = record { bytes = []; borrowed = false }

-- its bytes
abbrev pub key_text : Key → List ℕ
key_text q = (key_phrase q).bytes

-- a field's value has the metadata of its key, where the key has some
abbrev pub key_source : Option Metadata → Source
key_source None = from_events
key_source (Some m) = given m

-- where the metadata of the value of a key comes from
abbrev pub source_of : Key → Source
source_of (named t m n) = key_source m
source_of (nameless m n) = given m
source_of (ordered n) = from_events

-- reads what stands at the end of a path, by its key and its run
abbrev pub PartReader : Type 0
PartReader = Part → Key → Run → Option Tree

-- A value of a shape has the source of its key. Nothing else stands at the end of a path yet.
abbrev pub part_value : Registry → Reader → PartReader
part_value g rd (of_shape s) q r = rd s (source_of q) r
part_value g rd (of_variant j v) q r = None
part_value g rd (of_tag t) q r = None
part_value g rd (of_entry s t) q r = None

-- entries, whose runs are read so
abbrev pub parts_by : PartReader → Parts Entry
parts_by read = record { value_of = λ p e. read p e.key e.run }

-- by the runs of entries
abbrev pub by_run : Registry → Reader → Parts Entry
by_run g rd = parts_by (part_value g rd)

-- the first value that is there
abbrev pub or_value : Option Tree → Option Tree → Option Tree
or_value (Some v) o = Some v
or_value None o = o

-- what an absent value of a shape is
abbrev pub absent : Option Definition → Option Tree
absent (Some (option_shape s)) = Some none
absent _ = None

-- what stands for a field that has no entry: its declared default, or None at an option
abbrev pub fill : Registry → Field → Option Tree
fill g f = or_value f.default (absent (definition_at g f.shape))

-- a field has at most one entry
abbrev pub read_own : {A : Type 0} → Registry → Parts A → Field → List (At A) → Option Tree
read_own g rd f [] = fill g f
read_own g rd f (x ∷ []) = rd.value_of (of_shape f.shape) x.item
read_own g rd f (x ∷ y ∷ xs) = None

-- reads a flattened shape of what leads into it
abbrev pub FlatReader : Type 0 → Type 0
FlatReader A = Option Definition → Choice → List (At A) → Option Tree

-- whether a field is read of its parts, where something may stand for it as a whole
abbrev pub in_parts : Bool → Field → Bool → Bool
in_parts whole f here = f.flattened && not (whole && here)

-- a field: what leads to it is its one entry, or the parts of a flattened shape
abbrev pub read_field : {A : Type 0} → FlatReader A → Registry → Parts A → Bool → Choice → Field → List (At A) → Option Tree
read_field flat g rd whole c f xs = cond (in_parts whole f (has_whole xs)) (flat (definition_at g f.shape) c xs) (read_own g rd f xs)

-- a value and those after it, where all are there
abbrev pub and_trees : Option Tree → Option Trees → Option Trees
and_trees o os = option_and_then (λ v. option_map (tree v) os) o

-- the values of these fields, the first of which has place k
abbrev pub read_fields : {A : Type 0} → FlatReader A → Registry → Parts A → Bool → Choice → ℕ → List Field → List (At A) → Option Trees
read_fields flat g rd whole c k [] xs = Some no_trees
read_fields flat g rd whole c k (f ∷ fs) xs = and_trees (read_field flat g rd whole (below k c) f (below k xs)) (read_fields flat g rd whole c (suc k) fs xs)

-- Within so many layers. No shape can be flattened yet.
abbrev pub read_flat : {A : Type 0} → Registry → Parts A → Bool → ℕ → FlatReader A
read_flat g rd whole zero d c xs = None
read_flat g rd whole (suc n) d c xs = None

-- what is read of the things that stand at the paths of an object
abbrev pub read_layout : {A : Type 0} → Registry → Parts A → Choice → Layout → List (At A) → Option Trees
read_layout g rd c l xs = read_fields (read_flat g rd l.whole (length g)) g rd l.whole c 0 l.fields xs

-- The entries of an object, under a choice of variants, as the values of its fields: each key is allowed, and each field is
-- read of what leads to it.
abbrev pub read_entries : Registry → Parts Entry → Choice → Bool → Layout → List Entry → Option Trees
read_entries g rd c deny l es = cond (are_allowed (plan_of g c deny l) 0 es) (read_layout g rd c l (placed (plan_of g c deny l) 0 es)) None

-- the entries of a struct
abbrev pub read_struct : Setting → Reader → Choice → Bool → Layout → List Entry → Option Tree
read_struct g rd c deny l es = option_map structure (read_entries g.registry (by_run g.registry rd) c deny l es)

-- an object, whose entries are read so
abbrev pub read_object : {A : Type 0} → (List Entry → Option A) → Run → Option A
read_object mean (group of_struct k n i) = option_and_then mean (entries i)
read_object mean _ = None

-- the layout of a struct that is no variant
abbrev pub plain_layout : StructShape → Layout
plain_layout s = record { fields = s.fields; whole = false }

-- what an outcome gives, where it gives a value
abbrev pub value_of : Outcome → Option Tree
value_of (Ok v) = Some v
value_of (Err f) = None

-- what a scalar of an event sets a scalar shape to, which errors name so
abbrev pub set_to : Bool → ShapeLabel → ScalarType → Scalar → Option Tree
set_to borrow s t x = value_of (set_scalar borrow s t x)

-- a run of one scalar sets a scalar shape
abbrev pub set_by : Bool → ShapeLabel → ScalarType → Run → Option Tree
set_by borrow s t (one x n) = set_to borrow s t x
set_by borrow s t _ = None

-- the key of a node's argument
abbrev pub is_argument : Key → Bool
is_argument (named t m n) = bytes_eq t.bytes (codes "_arg")
is_argument (nameless m n) = false
is_argument (ordered n) = false

-- a key, with a name or without one
abbrev pub is_key : Key → Bool
is_key (named t m n) = true
is_key (nameless m n) = true
is_key (ordered n) = false

-- the runs of a node's arguments
abbrev pub arguments : List Entry → List Run
arguments [] = []
arguments (e ∷ es) = cond (is_argument e.key) (e.run ∷ arguments es) (arguments es)

-- a node: an object of keys alone, whose one argument is a scalar
abbrev pub read_node : Bool → ShapeLabel → ScalarType → List Entry → Option Tree
read_node borrow s t es = cond (list_all (λ e. is_key e.key) es) (option_and_then (set_by borrow s t) (only (arguments es))) None

-- a scalar, or a node
abbrev pub read_scalar : Bool → ShapeLabel → ScalarType → Run → Option Tree
read_scalar borrow s t (one x n) = set_to borrow s t x
read_scalar borrow s t (group of_struct k n i) = option_and_then (read_node borrow s t) (entries i)
read_scalar borrow s t _ = None

-- null or unit, which stand for nothing
abbrev pub is_nothing : Scalar → Bool
is_nothing null = true
is_nothing unit = true
is_nothing _ = false

-- the run is one scalar that stands for nothing
abbrev pub holds_nothing : Run → Bool
holds_nothing (one x n) = is_nothing x
holds_nothing _ = false

-- an option: null or unit for nothing, and else what it holds
abbrev pub read_option : (Run → Option Tree) → Run → Option Tree
read_option rd r = cond (holds_nothing r) (Some none) (option_map some (rd r))

-- a sequence, whose items are read so
abbrev pub read_sequence : (List Run → Option Tree) → Run → Option Tree
read_sequence mean (group of_sequence k n i) = option_and_then mean (items i)
read_sequence mean _ = None

-- each run is read by itself, and all have to be read
abbrev pub read_each : (Run → Option Tree) → List Run → Option Trees
read_each rd [] = Some no_trees
read_each rd (r ∷ rs) = and_trees (rd r) (read_each rd rs)

-- the items of a list, or of an array, which has as many as it says
abbrev pub read_items : (Run → Option Tree) → Option ℕ → List Run → Option Tree
read_items rd len rs = cond (has_length len (length rs)) (option_map list (read_each rd rs)) None

-- how a result went, by the text of its key
abbrev pub by_outcome : {A : Type 0} → Key → A → A → Option A
by_outcome (named t m n) x y = cond (bytes_eq t.bytes (codes "Ok")) (Some x) (cond (bytes_eq t.bytes (codes "Err")) (Some y) None)
by_outcome (nameless m n) x y = None
by_outcome (ordered n) x y = None

-- the name and the shape of a side of a result
pub record Side : Type 0 where
  pub name : List ℕ
  pub shape : ℕ

-- the side of a result that went well
abbrev pub ok_side : ℕ → Side
ok_side s = record { name = codes "Ok"; shape = s }

-- the side of a result that went wrong
abbrev pub err_side : ℕ → Side
err_side s = record { name = codes "Err"; shape = s }

-- a result: one entry, under `Ok` or `Err`
abbrev pub read_outcome : Reader → ℕ → ℕ → Entry → Option Tree
read_outcome rd s t e = option_and_then (λ o. o) (by_outcome e.key (option_map ok (rd s from_events e.run)) (option_map err (rd t from_events e.run)))

-- a result: one entry, whose key tells how it went
abbrev pub read_result : Reader → ℕ → ℕ → List Entry → Option Tree
read_result rd s t es = option_and_then (read_outcome rd s t) (only es)

-- the items of a tuple, of which those that are absent at the end have to have a fill
abbrev pub read_elements : Registry → Reader → List Field → List Run → Option Trees
read_elements g rd [] [] = Some no_trees
read_elements g rd [] (r ∷ rs) = None
read_elements g rd (f ∷ fs) [] = and_trees (fill g f) (read_elements g rd fs [])
read_elements g rd (f ∷ fs) (r ∷ rs) = and_trees (rd f.shape from_events r) (read_elements g rd fs rs)

-- the runs of some entries
abbrev pub entry_runs : List Entry → List Run
entry_runs es = map (λ e. e.run) es

-- A tuple: a sequence, or an object whose keys are passed over. One without items may also be null or unit.
abbrev pub read_tuple : Setting → Reader → StructShape → Run → Option Tree
read_tuple g rd d (group of_sequence k n i) = option_map structure (option_and_then (read_elements g.registry rd d.fields) (items i))
read_tuple g rd d (group of_struct object_kind n i) = option_map structure (option_and_then (λ es. read_elements g.registry rd d.fields (entry_runs es)) (entries i))
read_tuple g rd d (group of_struct array_kind n i) = None
read_tuple g rd d (one x n) = cond (not (has_some d.fields) && is_nothing x) (Some (structure no_trees)) None
read_tuple g rd d (tagged t n r) = None

-- One step of reading a shape of number s, where rd reads the parts. Sets, maps and enums aren't built yet.
abbrev pub read_as : Setting → Reader → ℕ → Source → Definition → Run → Option Tree
read_as g rd s source (scalar_shape t) r = read_scalar g.borrow (label_at g.registry s) t r
read_as g rd s source (option_shape i) r = read_option (rd i from_events) r
read_as g rd s source (result_shape i j) r = read_object (read_result rd i j) r
read_as g rd s source (list_shape i) r = read_sequence (read_items (rd i from_events) None) r
read_as g rd s source (array_shape i len) r = read_sequence (read_items (rd i from_events) (Some len)) r
read_as g rd s source (struct_shape d) r = cond (is_tuple d.kind) (read_tuple g rd d r) (read_object (read_struct g rd [] d.deny (plain_layout d)) r)
read_as g rd s source (transparent_shape i) r = rd i source r
read_as g rd s source _ r = None

-- what a run is read as by a shape, which has to be there
abbrev pub read_shape : Setting → Reader → ℕ → Source → Run → Option Definition → Option Tree
read_shape g rd s source r None = None
read_shape g rd s source r (Some d) = read_as g rd s source d r

-- what a run is read as, within a depth
abbrev pub read : Setting → ℕ → Reader
read g zero s source r = None
read g (suc n) s source r = read_shape g (read g n) s source r (definition_at g.registry s)

-- What a run is read as where it stands for a part, within a depth. Only values of shapes are parts yet.
abbrev pub read_part : Setting → ℕ → Part → Source → Run → Option Tree
read_part g n (of_shape s) source r = read g n s source r
read_part g n (of_variant j v) source r = None
read_part g n (of_tag t) source r = None
read_part g n (of_entry s t) source r = None

-- These events are one run, which is read as this value of the shape.
pub record Reads (g : Setting) (depth shape : ℕ) (source : Source) (events : List Event) (value : Tree) : Type 0 where
  pub run : Run
  pub cut : events ≡ run_events run
  pub is : read g depth shape source run ≡ Some value
