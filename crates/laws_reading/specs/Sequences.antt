-- Lists and arrays.
use Rattle.std.specs.Prelude.{ℕ, ◌+◌, List, [], ◌∷◌, ◌++◌, length, Option, Some, None, Result, Ok, Bool, true, false}
use Rattle.semantics_lines.specs.Trees.{Tree, list, trees_of}
use Rattle.semantics_lines.specs.Events.{of_sequence, Event, start}
use Rattle.semantics_lines.specs.Faults.{ShapeLabel, Step, index_step, array_length, reflect, Fault}
use Rattle.semantics.specs.Typed.{has_length}
use Rattle.semantics.specs.Seen.{ends_sequence}
use Rattle.semantics.specs.Typed.{has_room}
use Rattle.laws_reading.specs.Input.{Input, ◌>>=◌, Reads, refused, never, unexpected, taken_at, peeked_at, turning}

-- a list or an array: how errors name its shape, and how many items it has, where that is said
pub record Items : Type 0 where
  pub shape : ShapeLabel
  pub len : Option ℕ

abbrev pub with_end : List Tree → Event × Input → Result ((Bool × List Tree) × Input) Fault
with_end front x = Ok ((false, front), x.1)

abbrev pub with_item : List Tree → Tree × Input → Result ((Bool × List Tree) × Input) Fault
with_item front v = Ok ((true, front ++ (v.0 ∷ [])), v.1)

abbrev pub length_fault : {A : Type 0} → Option ℕ → ShapeLabel → ℕ → List Step → Input → Result A Fault
length_fault None shape got path input = never path input
length_fault (Some wanted) shape got path input = refused (reflect (array_length shape wanted got) []) path input

-- another number of items than there has to be
abbrev pub other_length : {A : Type 0} → Items → ℕ → List Step → Input → Result A Fault
other_length t got path input = length_fault t.len t.shape got path input

-- one more item, where there is room for it
abbrev pub more_items : Bool → Items → Reads Tree → List Tree → Reads (Bool × List Tree)
more_items true t read front path input = read (path ++ (index_step (length front) ∷ [])) input >>= with_item front
more_items false t read front path input = other_length t (length front + 1) path input

abbrev pub item_of : Bool → Items → Reads Tree → List Tree → Reads (Bool × List Tree)
item_of true t read front path input = taken_at path input >>= with_end front
item_of false t read front path input = more_items (has_room t.len (length front)) t read front path input

-- an item, or the end
abbrev pub item_turn : Items → Reads Tree → List Tree → Reads (Bool × List Tree)
item_turn t read front path input = peeked_at path input >>= λ x. item_of (ends_sequence x.0) t read front path x.1

-- the items up to the end
abbrev pub items_at : Items → Reads Tree → Reads (List Tree)
items_at t read path input = turning (item_turn t read) (length input.events + 1) [] path input

-- a list of as many items as there have to be
abbrev pub items_end : Bool → Items → List Tree → Reads Tree
items_end true t front path input = Ok (list (trees_of front), input)
items_end false t front path input = other_length t (length front) path input

abbrev pub items_whole : Items → List Step → List Tree × Input → Result (Tree × Input) Fault
items_whole t path x = items_end (has_length t.len (length x.0)) t x.0 path x.1

abbrev pub sequence_of : Event → Items → Reads Tree → Reads Tree
sequence_of (start of_sequence k n) t read path input = items_at t read path input >>= items_whole t path
sequence_of _ t read path input = unexpected path input

-- a list or an array
abbrev pub sequence_at : Items → Reads Tree → Reads Tree
sequence_at t read path input = taken_at path input >>= λ x. sequence_of x.0 t read path x.1
