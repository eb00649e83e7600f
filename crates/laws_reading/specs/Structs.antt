-- Structs: what is read behind each key is kept under the path of its field, and gathered at the end.
use Rattle.std.specs.Prelude.{ℕ, zero, suc, List, [], ◌∷◌, ◌++◌, length, Option, Some, None, Result, Ok, Bool, cond, not, ◌&&◌}
use Rattle.semantics_lines.specs.Trees.{Tree, structure, Trees, no_trees, tree}
use Rattle.semantics_lines.specs.Shapes.{Field, Definition, Registry, definition_at}
use Rattle.semantics_lines.specs.Events.{Span, Key, named, nameless, ordered, key_note}
use Rattle.semantics_lines.specs.Faults.{Step, field_step, unknown_field, missing_field, duplicate_field, Fault}
use Rattle.semantics.specs.Labels.{label_at}
use Rattle.semantics.specs.Places.{Path, At, below, is_end, has_whole, is_taken, Choice}
use Rattle.semantics.specs.Keys.{Layout, Plan, plan_of, leads, key_label, after_key, is_allowed}
use Rattle.semantics.specs.Reading.{Source, Part, of_shape, of_variant, of_tag, of_entry, Parts, source_of, fill, in_parts}
use Rattle.semantics.specs.Ends.{End, leaf_at, steps_at}
use Rattle.laws_reading.specs.Input.{Input, ◌>>=◌, Reads, refused, unexpected, never}
use Rattle.laws_reading.specs.Objects.{Takes, Finish, object_at}
use Rattle.laws_reading.specs.Skips.{Opened, skip_at}

-- reads a part of a shape, by its number
abbrev pub ReadsPart : Type 0
ReadsPart = ℕ → Source → Reads Tree

-- reads what stands at the end of a path, behind its key
abbrev pub ReadsEnd : Type 0
ReadsEnd = Part → Key → Reads Tree

-- A value of a shape has the source of its key. Nothing else stands at the end of a path yet.
abbrev pub end_at : ReadsPart → ReadsEnd
end_at read (of_shape s) q path input = read s (source_of q) path input
end_at read (of_variant j v) q path input = never path input
end_at read (of_tag t) q path input = never path input
end_at read (of_entry s t) q path input = never path input

-- what was read, and where its key stood
pub record Told : Type 0 where
  pub span : Span
  pub value : Tree

-- how many keys named their field by its order, and what was read, under its path
pub record Got : Type 0 where
  pub count : ℕ
  pub values : List (At Told)

abbrev pub nothing_got : Got
nothing_got = record { count = 0; values = [] }

abbrev pub first_span : List (At Told) → Option Span
first_span [] = None
first_span (x ∷ xs) = Some x.item.span

abbrev pub whole_span : List (At Told) → Option Span
whole_span [] = None
whole_span (x ∷ xs) = cond (is_end x.path) (Some x.item.span) (whole_span xs)

abbrev pub or_span : Option Span → Option Span → Option Span
or_span (Some s) o = Some s
or_span None o = o

-- where the key stood of what is there at this path, before it or below it
abbrev pub taken_span : Path → List (At Told) → Option Span
taken_span [] xs = first_span xs
taken_span (k ∷ p) xs = or_span (whole_span (below k xs)) (taken_span p (below k xs))

abbrev pub told_at : Path → Key → Tree → At Told
told_at p q v = record { path = p; item = record { span = (key_note q).span; value = v } }

abbrev pub got_value : ℕ → List (At Told) → Path → Key → Tree × Input → Result (Got × Input) Fault
got_value n got p q v = Ok (record { count = n; values = got ++ (told_at p q v.0 ∷ []) }, v.1)

-- the value of a key of this name, which leads to this end
abbrev pub at_end_of : List ℕ → Option End → List Step → ReadsEnd → Path → Key → ℕ → List (At Told) → Reads Got
at_end_of name None steps read p q n got path input = never path input
at_end_of name (Some e) steps read p q n got path input =
    cond (not e.many && is_taken p got)
    (refused (duplicate_field name (taken_span p got)) path input)
    (read e.part q (path ++ steps) input >>= got_value n got p q)

abbrev pub passed_over : ℕ → List (At Told) → Opened × Input → Result (Got × Input) Fault
passed_over n got x = Ok (record { count = n; values = got }, x.1)

-- the value behind a key of this name that leads there, or nowhere
abbrev pub at_path : List ℕ → (Path → Option End) → (Path → List Step) → Option Path → ReadsEnd → Key → ℕ → List (At Told) → Reads Got
at_path name ends steps None read q n got path input = skip_at path input >>= passed_over n got
at_path name ends steps (Some p) read q n got path input = at_end_of name (ends p) (steps p) read p q n got path input

-- a key that isn't allowed: unknown, or one too many by order
abbrev pub key_fault : {A : Type 0} → Key → List Step → Input → Result A Fault
key_fault (named t m n) path input = refused (unknown_field t.bytes) path input
key_fault (nameless m n) path input = unexpected path input
key_fault (ordered n) path input = unexpected path input

-- a key, and the value behind it
abbrev pub field_at : (Path → Option End) → (Path → List Step) → Plan → ReadsEnd → Takes Got
field_at ends steps plan read q s path input =
    cond (is_allowed plan s.count q) (at_path (key_label plan s.count q) ends steps (leads plan s.count q) read q (after_key s.count q) s.values path input) (key_fault q path input)

-- what was read stands for itself
abbrev pub kept : Parts Told
kept = record { value_of = λ p y. Some y.value }

-- a struct by its shape's number, at its path, and its end
pub record Spot : Type 0 where
  pub shape : ℕ
  pub path : List Step
  pub input : Input

abbrev pub or_missing : Registry → Field → Spot → Option Tree → Result Tree Fault
or_missing g f spot None = refused (missing_field f.name (label_at g spot.shape)) spot.path spot.input
or_missing g f spot (Some v) = Ok v

-- the value of a field, or what stands for an absent one
abbrev pub gather_own : Registry → Field → Spot → List (At Told) → Result Tree Fault
gather_own g f spot [] = or_missing g f spot (fill g f)
gather_own g f spot (x ∷ []) = Ok x.item.value
gather_own g f spot (x ∷ y ∷ xs) = never spot.path spot.input

-- gathers the parts of a flattened shape
abbrev pub Gathers : Type 0
Gathers = Option Definition → Choice → Spot → List (At Told) → Result Tree Fault

abbrev pub inner_spot : Field → Spot → Spot
inner_spot f spot = record { shape = f.shape; path = spot.path ++ (field_step f.name ∷ []); input = spot.input }

abbrev pub gather_field : Gathers → Registry → Bool → Choice → Field → Spot → List (At Told) → Result Tree Fault
gather_field flat g whole c f spot xs = cond (in_parts whole f (has_whole xs)) (flat (definition_at g f.shape) c (inner_spot f spot) xs) (gather_own g f spot xs)

abbrev pub with_tree : Tree → Trees → Result Trees Fault
with_tree v vs = Ok (tree v vs)

-- the values of these fields, the first of which has place k
abbrev pub gather_fields : Gathers → Registry → Bool → Choice → Spot → ℕ → List Field → List (At Told) → Result Trees Fault
gather_fields flat g whole c spot k [] xs = Ok no_trees
gather_fields flat g whole c spot k (f ∷ fs) xs = gather_field flat g whole (below k c) f spot (below k xs) >>= λ v. gather_fields flat g whole c spot (suc k) fs xs >>= with_tree v

-- Within so many layers. No shape can be flattened yet.
abbrev pub gather_flat : Registry → Bool → ℕ → Gathers
gather_flat g whole zero d c spot xs = never spot.path spot.input
gather_flat g whole (suc n) d c spot xs = never spot.path spot.input

abbrev pub as_structure : Trees → Result Tree Fault
as_structure vs = Ok (structure vs)

-- the values of the fields that were read, where what is absent is filled
abbrev pub gathered_trees : Registry → Choice → Layout → ℕ → Finish Got Trees
gathered_trees g c l shape s path input = gather_fields (gather_flat g l.whole (length g)) g l.whole c (record { shape = shape; path = path; input = input }) 0 l.fields s.values

-- the struct of them
abbrev pub gathered : Registry → Choice → Layout → ℕ → Finish Got Tree
gathered g c l shape s path input = gathered_trees g c l shape s path input >>= as_structure

-- a struct of this shape, under a choice of variants
abbrev pub struct_at : Registry → ReadsEnd → Choice → Bool → Layout → ℕ → Reads Tree
struct_at g read c deny l shape = object_at (field_at (leaf_at g c l) (steps_at g c l) (plan_of g c deny l) read) nothing_got (gathered g c l shape)
