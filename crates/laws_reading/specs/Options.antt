-- Options and results.
use Rattle.std.specs.Prelude.{ℕ, List, [], ◌∷◌, ◌++◌, Option, Some, None, Result, Ok, Bool, true, false}
use Rattle.semantics_lines.specs.Trees.{Tree, none, some, ok, err}
use Rattle.semantics_lines.specs.Events.{key, of_struct, Event, leaf, start, stop}
use Rattle.semantics_lines.specs.Faults.{Step, variant_step, Fault}
use Rattle.semantics.specs.Reading.{from_events, by_outcome}
use Rattle.semantics.specs.Seen.{is_nothing_event}
use Rattle.semantics.specs.Reading.{Side, ok_side, err_side}
use Rattle.laws_reading.specs.Input.{Input, ◌>>=◌, Reads, unexpected, taken_at, peeked_at}
use Rattle.laws_reading.specs.Structs.{ReadsPart}

abbrev pub with_nothing : Event × Input → Result (Tree × Input) Fault
with_nothing x = Ok (none, x.1)

abbrev pub with_some : Tree × Input → Result (Tree × Input) Fault
with_some x = Ok (some x.0, x.1)

abbrev pub option_of : Bool → Reads Tree → Reads Tree
option_of true read path input = taken_at path input >>= with_nothing
option_of false read path input = read path input >>= with_some

-- null or unit, or what the option holds
abbrev pub option_at : Reads Tree → Reads Tree
option_at read path input = peeked_at path input >>= λ x. option_of (is_nothing_event x.0) read path x.1

-- the shapes of both sides of a result
pub record Sides : Type 0 where
  pub ok_shape : ℕ
  pub err_shape : ℕ

abbrev pub side_of : Sides → Bool → Side
side_of s true = ok_side s.ok_shape
side_of s false = err_side s.err_shape

-- what a result holds, as the result
abbrev pub outcome : Bool → Tree → Tree
outcome true v = ok v
outcome false v = err v

-- the side that an event names: true where it went well
abbrev pub side_in : Event → Option Bool
side_in (leaf (key q)) = by_outcome q true false
side_in _ = None

abbrev pub result_end : Event → Bool → Tree → Reads Tree
result_end (stop of_struct n) b v path input = Ok (outcome b v, input)
result_end _ b v path input = unexpected path input

-- the end behind what the result holds
abbrev pub result_closed : Bool → List Step → Tree × Input → Result (Tree × Input) Fault
result_closed b path v = taken_at path v.1 >>= λ x. result_end x.0 b v.0 path x.1

abbrev pub result_side : Option Bool → ReadsPart → Sides → Reads Tree
result_side None read s path input = unexpected path input
result_side (Some b) read s path input = read (side_of s b).shape from_events (path ++ (variant_step (side_of s b).name ∷ [])) input >>= result_closed b path

-- the key, what it holds, and the end
abbrev pub result_inside : ReadsPart → Sides → Reads Tree
result_inside read s path input = taken_at path input >>= λ x. result_side (side_in x.0) read s path x.1

abbrev pub result_of : Event → ReadsPart → Sides → Reads Tree
result_of (start of_struct k n) read s path input = result_inside read s path input
result_of _ read s path input = unexpected path input

-- a result: an object of one entry
abbrev pub result_at : ReadsPart → Sides → Reads Tree
result_at read s path input = taken_at path input >>= λ x. result_of x.0 read s path x.1
