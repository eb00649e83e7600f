-- Tuples.
use Rattle.std.specs.Prelude.{ℕ, ◌+◌, List, [], ◌∷◌, ◌++◌, length, drop, slice_get, Option, Some, None, Result, Ok, Bool, true, false, ◌&&◌, not}
use Rattle.semantics_lines.specs.Trees.{Tree, structure, trees_of}
use Rattle.semantics_lines.specs.Shapes.{Field, Registry}
use Rattle.semantics_lines.specs.Events.{scalar, key, of_struct, of_sequence, object_kind, Event, leaf, start, stop}
use Rattle.semantics_lines.specs.Faults.{ShapeLabel, Step, index_step, missing_field, too_many_elements, reflect, Fault}
use Rattle.semantics.specs.Registry.{has_some}
use Rattle.semantics.specs.Reading.{Setting, from_events, fill, is_nothing}
use Rattle.semantics.specs.Seen.{ends_sequence}
use Rattle.laws_reading.specs.Input.{Input, ◌>>=◌, Reads, refused, unexpected, taken_at, peeked_at, turning}
use Rattle.laws_reading.specs.Structs.{ReadsPart}
use Rattle.laws_reading.specs.Sequences.{with_end, with_item}

-- a tuple: how errors name its shape, and its items
pub record Elements : Type 0 where
  pub shape : ShapeLabel
  pub fields : List Field

-- one more item, where the tuple has one there
abbrev pub element_at : Option Field → Elements → ReadsPart → List Tree → Reads (Bool × List Tree)
element_at None t read front path input = refused (reflect (too_many_elements t.shape (length t.fields)) []) path input
element_at (Some f) t read front path input = read f.shape from_events (path ++ (index_step (length front) ∷ [])) input >>= with_item front

abbrev pub element_of : Bool → Elements → ReadsPart → List Tree → Reads (Bool × List Tree)
element_of true t read front path input = taken_at path input >>= with_end front
element_of false t read front path input = element_at (slice_get t.fields (length front)) t read front path input

-- an item of a sequence, or the end
abbrev pub element_turn : Elements → ReadsPart → List Tree → Reads (Bool × List Tree)
element_turn t read front path input = peeked_at path input >>= λ x. element_of (ends_sequence x.0) t read front path x.1

abbrev pub keyed_of : Event → Elements → ReadsPart → List Tree → Reads (Bool × List Tree)
keyed_of (leaf (key q)) t read front path input = element_at (slice_get t.fields (length front)) t read front path input
keyed_of (stop of_struct n) t read front path input = Ok ((false, front), input)
keyed_of _ t read front path input = unexpected path input

-- a key that is passed over and an item, or the end
abbrev pub keyed_turn : Elements → ReadsPart → List Tree → Reads (Bool × List Tree)
keyed_turn t read front path input = taken_at path input >>= λ x. keyed_of x.0 t read front path x.1

abbrev pub or_missing : Field → ShapeLabel → Option Tree → List Step → Input → Result Tree Fault
or_missing f shape None path input = refused (missing_field f.name shape) path input
or_missing f shape (Some v) path input = Ok v

-- the items in front, and behind them the fills of these
abbrev pub filled_from : Registry → ShapeLabel → List Field → List Tree → List Step → Input → Result (List Tree) Fault
filled_from g shape [] front path input = Ok front
filled_from g shape (f ∷ fs) front path input = or_missing f shape (fill g f) path input >>= λ v. filled_from g shape fs (front ++ (v ∷ [])) path input

abbrev pub as_tuple : Input → List Tree → Result (Tree × Input) Fault
as_tuple input vs = Ok (structure (trees_of vs), input)

-- the tuple of the items that came, where those that are absent are filled
abbrev pub tuple_end : Registry → Elements → List Step → List Tree × Input → Result (Tree × Input) Fault
tuple_end g t path x = filled_from g t.shape (drop (length x.0) t.fields) x.0 path x.1 >>= as_tuple x.1

abbrev pub elements_at : Registry → Elements → ReadsPart → Reads Tree
elements_at g t read path input = turning (element_turn t read) (length input.events + 1) [] path input >>= tuple_end g t path

abbrev pub keyed_at : Registry → Elements → ReadsPart → Reads Tree
keyed_at g t read path input = turning (keyed_turn t read) (length input.events + 1) [] path input >>= tuple_end g t path

-- the tuple without items
abbrev pub empty_tuple : Bool → Reads Tree
empty_tuple true path input = Ok (structure (trees_of []), input)
empty_tuple false path input = unexpected path input

abbrev pub tuple_of : Event → Setting → Elements → ReadsPart → Reads Tree
tuple_of (start of_sequence k n) g t read path input = elements_at g.registry t read path input
tuple_of (start of_struct object_kind n) g t read path input = keyed_at g.registry t read path input
tuple_of (leaf (scalar x n)) g t read path input = empty_tuple (not (has_some t.fields) && is_nothing x) path input
tuple_of _ g t read path input = unexpected path input

-- a tuple: a sequence, or an object whose keys are passed over
abbrev pub tuple_at : Setting → Elements → ReadsPart → Reads Tree
tuple_at g t read path input = taken_at path input >>= λ x. tuple_of x.0 g t read path x.1
