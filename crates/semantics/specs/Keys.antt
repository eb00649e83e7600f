-- The keys that the object of a struct may have, and where each leads.
use Rattle.std.specs.Prelude.{ℕ, zero, suc, nat_lt, List, [], ◌∷◌, ◌++◌, map, Bool, true, false, cond, ◌&&◌, ◌||◌, not, length, Option, Some, None, option_map, unwrap_or, slice_get, bytes_eq, is_some}
use Rattle.std.specs.List.{list_any, cons_option}
use Rattle.semantics_lines.specs.Shapes.{Field, effective_name, Definition, Registry, definition_at}
use Rattle.semantics_lines.specs.Events.{Key, named, nameless, ordered}
use Rattle.semantics.specs.Runs.{Entry}
use Rattle.semantics.specs.Places.{Path, At, below, under, Choice}

-- the text of a key, where it leads
abbrev pub Declared : Type 0
Declared = At (List ℕ)

-- the key of an alias, where the field of this place has one
abbrev pub alias_key : ℕ → Option (List ℕ) → List Declared
alias_key k None = []
alias_key k (Some a) = record { path = k ∷ []; item = a } ∷ []

-- a field's effective name, and then its alias
abbrev pub own_keys : ℕ → Field → List Declared
own_keys k f = record { path = k ∷ []; item = effective_name f } ∷ alias_key k f.alias

-- The fields of an object. Where `whole` says so, a flattened field may also stand as a whole under its own name, in each
-- layer of flattening.
pub record Layout : Type 0 where
  pub fields : List Field
  pub whole : Bool

-- the keys of a flattened shape
abbrev pub InnerKeys : Type 0
InnerKeys = Option Definition → Choice → List Declared

-- the keys of one field: its own, or those of the flattened shape below it
abbrev pub field_keys : Registry → InnerKeys → Bool → Choice → ℕ → Field → List Declared
field_keys g inner whole c k f = cond f.flattened (cond whole (own_keys k f) [] ++ map (under k) (inner (definition_at g f.shape) (below k c))) (own_keys k f)

-- the keys of these fields, the first of which has place k
abbrev pub keys_by : Registry → InnerKeys → Bool → Choice → ℕ → List Field → List Declared
keys_by g inner whole c k [] = []
keys_by g inner whole c k (f ∷ fs) = field_keys g inner whole c k f ++ keys_by g inner whole c (suc k) fs

-- Within so many layers. No shape can be flattened yet.
abbrev pub flat_keys : Registry → Bool → ℕ → InnerKeys
flat_keys g whole zero d c = []
flat_keys g whole (suc n) d c = []

-- all keys that an object of these fields may have, and where each leads
abbrev pub keys : Registry → Layout → Choice → List Declared
keys g l c = keys_by g (flat_keys g l.whole (length g)) l.whole c 0 l.fields

-- where the first key of this text leads
abbrev pub path_of : List Declared → List ℕ → Option Path
path_of [] t = None
path_of (x ∷ xs) t = cond (bytes_eq x.item t) (Some x.path) (path_of xs t)

-- the first path that is there
abbrev pub or_path : Option Path → Option Path → Option Path
or_path (Some p) o = Some p
or_path None o = o

-- where the keys lead that nothing declares, in a flattened shape: to its map
abbrev pub InnerStray : Type 0
InnerStray = Option Definition → Choice → Option Path

-- where unknown keys lead among these fields, the first of which has place k
abbrev pub stray_by : Registry → InnerStray → Choice → ℕ → List Field → Option Path
stray_by g inner c k [] = None
stray_by g inner c k (f ∷ fs) = or_path (cond f.flattened (option_map (λ p. k ∷ p) (inner (definition_at g f.shape) (below k c))) None) (stray_by g inner c (suc k) fs)

-- Within so many layers. No shape can be flattened yet.
abbrev pub flat_stray : Registry → ℕ → InnerStray
flat_stray g zero d c = None
flat_stray g (suc n) d c = None

-- where the keys of an object lead
pub record Plan : Type 0 where
  pub declared : List Declared
  pub stray : Option Path
  -- whether an unknown key is refused
  pub deny : Bool
  -- the effective names of its fields, by their places
  pub names : List (List ℕ)
  -- whether a key may name the next field by its order
  pub by_order : Bool

-- Keys may name the fields of such an object by their order where none is flattened.
abbrev pub takes_order : Layout → Bool
takes_order l = not (list_any (λ f. f.flattened) l.fields)

-- what is asked of the keys of an object, under a choice of variants
abbrev pub plan_of : Registry → Choice → Bool → Layout → Plan
plan_of g c deny l = record {
  declared = keys g l c;
  stray = stray_by g (flat_stray g (length g)) c 0 l.fields;
  deny = deny;
  names = map effective_name l.fields;
  by_order = takes_order l;
}

-- where the key of an entry leads; k fields were named by their order before it
abbrev pub leads : Plan → ℕ → Key → Option Path
leads plan k (named t m n) = or_path (path_of plan.declared t.bytes) plan.stray
leads plan k (nameless m n) = None
leads plan k (ordered n) = Some (k ∷ [])

-- what a key is called where it stands again: its text, or the effective name of the field that comes next by order
abbrev pub key_label : Plan → ℕ → Key → List ℕ
key_label plan k (named t m n) = t.bytes
key_label plan k (nameless m n) = []
key_label plan k (ordered n) = unwrap_or (slice_get plan.names k) []

-- how many fields were named by their order, counting this key
abbrev pub after_key : ℕ → Key → ℕ
after_key k (named t m n) = k
after_key k (nameless m n) = k
after_key k (ordered n) = suc k

-- how many fields were named by their order in these entries
abbrev pub ordered_count : ℕ → List Entry → ℕ
ordered_count k [] = k
ordered_count k (e ∷ es) = ordered_count (after_key k e.key) es

-- an entry, where it leads
abbrev pub Placed : Type 0
Placed = At Entry

-- the entry at the path, where there is one
abbrev pub with_entry : Entry → Option Path → Option Placed
with_entry e None = None
with_entry e (Some p) = Some (record { path = p; item = e })

-- the entries that lead somewhere, in order
abbrev pub placed : Plan → ℕ → List Entry → List Placed
placed plan k [] = []
placed plan k (e ∷ es) = cons_option (with_entry e (leads plan k e.key)) (placed plan (after_key k e.key) es)

-- A named key that leads nowhere is allowed where unknown keys aren't refused, and a key without a name is always. A key
-- by order is allowed where the plan says so and there is one more field.
abbrev pub is_allowed : Plan → ℕ → Key → Bool
is_allowed plan k (named t m n) = is_some (leads plan k (named t m n)) || not plan.deny
is_allowed plan k (nameless m n) = true
is_allowed plan k (ordered n) = plan.by_order && nat_lt k (length plan.names)

-- each key is allowed, the first after k fields that were named by their order
abbrev pub are_allowed : Plan → ℕ → List Entry → Bool
are_allowed plan k [] = true
are_allowed plan k (e ∷ es) = is_allowed plan k e.key && are_allowed plan (after_key k e.key) es
