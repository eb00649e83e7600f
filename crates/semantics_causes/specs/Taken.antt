-- What came of a value so far, and was taken: each key was allowed, and each value was read.
use Rattle.std.specs.Prelude.{◌≡◌, ◌≤◌, ℕ, List, [], ◌∷◌, ◌++◌, length, take, Bool, true, false, cond, not, ◌||◌, Option, Some, None}
use Rattle.semantics_lines.specs.Trees.{Tree, Trees}
use Rattle.semantics_lines.specs.Shapes.{ScalarType, StructShape, Definition, scalar_shape, result_shape, list_shape, array_shape, struct_shape, is_tuple, Registry}
use Rattle.semantics_lines.specs.Events.{Note, Key, key, of_struct, of_sequence, ContainerKind, object_kind, Event, leaf, start}
use Rattle.semantics_lines.specs.Faults.{ShapeLabel}
use Rattle.semantics.specs.Labels.{label_at}
use Rattle.semantics.specs.Runs.{Run, one, runs_events, Entry, entries_events}
use Rattle.semantics.specs.Places.{Path, Choice, is_taken}
use Rattle.semantics.specs.Keys.{Plan, plan_of, leads, key_label, ordered_count, Placed, placed, is_allowed}
use Rattle.semantics.specs.Reading.{Setting, from_events, source_of, plain_layout, set_to, is_argument, is_key, arguments, read_each, read_elements, read_outcome, entry_runs, read, read_part}
use Rattle.semantics.specs.Ends.{End, leaf_at}
use Rattle.semantics.specs.Seen.{IsOpen}

-- what is asked of a struct: where its keys lead, under a choice of variants
abbrev pub struct_plan : Registry → Choice → StructShape → Plan
struct_plan g c d = plan_of g c d.deny (plain_layout d)

-- where a key of a struct leads behind these entries
abbrev pub leads_behind : Registry → Choice → StructShape → List Entry → Key → Option Path
leads_behind g c d es q = leads (struct_plan g c d) (ordered_count 0 es) q

-- what a key of a struct is called behind these entries
abbrev pub label_behind : Registry → Choice → StructShape → List Entry → Key → List ℕ
label_behind g c d es q = key_label (struct_plan g c d) (ordered_count 0 es) q

-- what stands at the end of a path of a struct
abbrev pub end_in : Registry → Choice → StructShape → Path → Option End
end_in g c d way = leaf_at g c (plain_layout d) way

-- the entries of a struct that lead somewhere
abbrev pub placed_in : Registry → Choice → StructShape → List Entry → List Placed
placed_in g c d es = placed (struct_plan g c d) 0 es

-- there is something at the end of the path, and no other entry leads there, or many may
abbrev pub is_free : Option End → Path → List Placed → Bool
is_free None way xs = false
is_free (Some e) way xs = e.many || not (is_taken way xs)

-- A struct takes a key behind these entries: it is allowed, and where it leads somewhere, no entry stands there yet.
pub record TakesKey (g : Registry) (c : Choice) (d : StructShape) (before : List Entry) (q : Key) : Type 0 where
  pub allowed : is_allowed (struct_plan g c d) (ordered_count 0 before) q ≡ true
  pub free : (way : Path) → leads_behind g c d before q ≡ Some way → is_free (end_in g c d way) way (placed_in g c d before) ≡ true

-- A struct took an entry behind these: its key, and its value, which was read where the key leads somewhere.
pub record TookEntry (g : Setting) (n : ℕ) (c : Choice) (d : StructShape) (before : List Entry) (e : Entry) : Type 0 where
  pub key : TakesKey g.registry c d before e.key
  pub value : (way : Path) (end : End) → leads_behind g.registry c d before e.key ≡ Some way → end_in g.registry c d way ≡ Some end
      → (v : Tree) × (read_part g n end.part (source_of e.key) e.run ≡ Some v)

-- a struct took each of these entries, behind those before it
abbrev pub TookEntries : Setting → ℕ → Choice → StructShape → List Entry → List Entry → Type 0
TookEntries g n c d before [] = Unit {0}
TookEntries g n c d before (e ∷ es) = TookEntry g n c d before e × TookEntries g n c d (before ++ (e ∷ [])) es

-- A node takes a key behind these entries: one that isn't by order, and the argument's once.
pub record TakesNodeKey (before : List Entry) (q : Key) : Type 0 where
  pub is_key : is_key q ≡ true
  pub once : is_argument q ≡ true → arguments before ≡ []

-- The run of an argument sets the scalar, where it is one scalar. Another is passed over.
abbrev pub Sets : Bool → ShapeLabel → ScalarType → Run → Type 0
Sets borrow s t (one x m) = (v : Tree) × (set_to borrow s t x ≡ Some v)
Sets borrow s t _ = Unit {0}

-- a node took each of these entries, behind those before it
abbrev pub TookNode : Bool → ShapeLabel → ScalarType → List Entry → List Entry → Type 0
TookNode borrow s t before [] = Unit {0}
TookNode borrow s t before (e ∷ es) = TakesNodeKey before e.key × (is_argument e.key ≡ true → Sets borrow s t e.run) × TookNode borrow s t (before ++ (e ∷ [])) es

-- Where a value stands of which something came.
pub data Place : Type 0 where
  -- before its first event
  at_start : Place
  -- behind the start of an object and these entries
  in_object : ContainerKind → List Entry → Place
  -- behind the start of a sequence and these items
  in_sequence : List Run → Place
  -- behind the start of an object, these entries, and a key whose value is passed over, of which these events came
  in_passed : List Entry → Key → List Event → Place

-- these events lead to the place
abbrev pub Reaches : List Event → Place → Type 0
Reaches so_far at_start = so_far ≡ []
Reaches so_far (in_object k es) = (n : Note) × (so_far ≡ start of_struct k n ∷ entries_events es)
Reaches so_far (in_sequence rs) = (k : ContainerKind) × (n : Note) × (so_far ≡ start of_sequence k n ∷ runs_events rs)
Reaches so_far (in_passed es q inside) = (k : ContainerKind) × (n : Note) × (so_far ≡ (start of_struct k n ∷ entries_events es) ++ (leaf (key q) ∷ inside))

-- what came of a struct that is read as an object
abbrev pub TookObject : Setting → ℕ → Choice → StructShape → Place → Type 0
TookObject g n c d at_start = Unit {0}
TookObject g n c d (in_object k es) = TookEntries g n c d [] es
TookObject g n c d (in_sequence rs) = ⊥
TookObject g n c d (in_passed es q inside) = TookEntries g n c d [] es × TakesKey g.registry c d es q × (leads_behind g.registry c d es q ≡ None) × IsOpen inside

-- the first items of a tuple were read
abbrev pub ReadElements : Setting → ℕ → StructShape → List Run → Type 0
ReadElements g n d rs = (vs : Trees) × (read_elements g.registry (read g n) (take (length rs) d.fields) rs ≡ Some vs)

-- what came of a tuple
abbrev pub TookTuple : Setting → ℕ → StructShape → Place → Type 0
TookTuple g n d at_start = Unit {0}
TookTuple g n d (in_object object_kind es) = ReadElements g n d (entry_runs es)
TookTuple g n d (in_sequence rs) = ReadElements g n d rs
TookTuple g n d _ = ⊥

-- the items of a list were read
abbrev pub ReadItems : Setting → ℕ → ℕ → List Run → Type 0
ReadItems g n s rs = (vs : Trees) × (read_each (read g n s from_events) rs ≡ Some vs)

-- what came of a list
abbrev pub TookList : Setting → ℕ → ℕ → Place → Type 0
TookList g n s at_start = Unit {0}
TookList g n s (in_sequence rs) = ReadItems g n s rs
TookList g n s _ = ⊥

-- what came of an array, which has no more items than it says
abbrev pub TookArray : Setting → ℕ → ℕ → ℕ → Place → Type 0
TookArray g n s len at_start = Unit {0}
TookArray g n s len (in_sequence rs) = ReadItems g n s rs × (length rs ≤ len)
TookArray g n s len _ = ⊥

-- what came of a result: nothing behind its start, or its one entry
abbrev pub TookResult : Setting → ℕ → ℕ → ℕ → Place → Type 0
TookResult g n i j at_start = Unit {0}
TookResult g n i j (in_object k []) = Unit {0}
TookResult g n i j (in_object k (e ∷ [])) = (v : Tree) × (read_outcome (read g n) i j e ≡ Some v)
TookResult g n i j _ = ⊥

-- what came of a scalar, which a node may stand for
abbrev pub TookScalar : Setting → ℕ → ScalarType → Place → Type 0
TookScalar g s t at_start = Unit {0}
TookScalar g s t (in_object k es) = TookNode g.borrow (label_at g.registry s) t [] es
TookScalar g s t (in_sequence rs) = ⊥
TookScalar g s t (in_passed es q inside) = TookNode g.borrow (label_at g.registry s) t [] es × TakesNodeKey es q × IsOpen inside

-- what came of a value without places of its own
abbrev pub TookNothing : Place → Type 0
TookNothing at_start = Unit {0}
TookNothing _ = ⊥

-- What came of a value of the shape of number s, up to the place, was taken; its parts have n left of the depth.
abbrev pub Took : Setting → ℕ → Choice → ℕ → Option Definition → Place → Type 0
Took g n c s (Some (scalar_shape t)) p = TookScalar g s t p
Took g n c s (Some (result_shape i j)) p = TookResult g n i j p
Took g n c s (Some (list_shape i)) p = TookList g n i p
Took g n c s (Some (array_shape i len)) p = TookArray g n i len p
Took g n c s (Some (struct_shape d)) p = cond (is_tuple d.kind) (TookTuple g n d p) (TookObject g n c d p)
Took g n c s _ p = TookNothing p
