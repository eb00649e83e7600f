-- Scalars: one event, or a node whose argument is one.
use Rattle.std.specs.Prelude.{ℕ, List, Option, Some, None, Result, Ok, Err, Bool, cond}
use Rattle.semantics_lines.specs.Trees.{Tree}
use Rattle.semantics_lines.specs.Shapes.{ScalarType}
use Rattle.semantics_lines.specs.Events.{Span, Scalar, Key, key_note, scalar, of_struct, Event, leaf, start}
use Rattle.semantics_lines.specs.Faults.{ShapeLabel, Step, duplicate_field, Fault}
use Rattle.semantics.specs.Setters.{Outcome, set_scalar}
use Rattle.semantics.specs.Reading.{key_text, is_argument, is_key}
use Rattle.laws_reading.specs.Input.{Input, ◌>>=◌, Reads, refused, unexpected, taken_at, peeked_at}
use Rattle.laws_reading.specs.Objects.{Takes, Finish, entries_at, finished}
use Rattle.laws_reading.specs.Skips.{Opened, skip_at}

-- a scalar shape that is set: whether borrowed texts stay so, how errors name it, and its type
pub record Target : Type 0 where
  pub borrow : Bool
  pub shape : ShapeLabel
  pub type : ScalarType

abbrev pub or_refused : Outcome → Reads Tree
or_refused (Ok v) path input = Ok (v, input)
or_refused (Err kind) path input = refused kind path input

-- the value that a scalar sets the target to
abbrev pub set_at : Target → Scalar → Reads Tree
set_at t x path input = or_refused (set_scalar t.borrow t.shape t.type x) path input

-- what is known of a node: where the key of its argument stands, and the value that this set
pub record Node : Type 0 where
  pub first : Option Span
  pub value : Option Tree

abbrev pub bare_node : Node
bare_node = record { first = None; value = None }

abbrev pub with_argument : Key → Tree × Input → Result (Node × Input) Fault
with_argument q x = Ok (record { first = Some (key_note q).span; value = Some x.0 }, x.1)

abbrev pub without_argument : Key → Opened × Input → Result (Node × Input) Fault
without_argument q x = Ok (record { first = Some (key_note q).span; value = None }, x.1)

-- a scalar behind the key of the argument is set, and anything else is passed over
abbrev pub argument_of : Event → Target → Key → Reads Node
argument_of (leaf (scalar x n)) t q path input = taken_at path input >>= λ y. set_at t x path y.1 >>= with_argument q
argument_of _ t q path input = skip_at path input >>= without_argument q

-- the argument, unless there was one
abbrev pub argument_at : Option Span → Target → Key → Reads Node
argument_at (Some first) t q path input = refused (duplicate_field (key_text q) (Some first)) path input
argument_at None t q path input = peeked_at path input >>= λ x. argument_of x.0 t q path x.1

abbrev pub unchanged : Node → Opened × Input → Result (Node × Input) Fault
unchanged s x = Ok (s, x.1)

-- a key and its value
abbrev pub node_entry : Target → Takes Node
node_entry t q s path input = cond (is_argument q) (argument_at s.first t q path input) (cond (is_key q) (skip_at path input >>= unchanged s) (unexpected path input))

abbrev pub or_unexpected : Option Tree → List Step → Input → Result Tree Fault
or_unexpected None path input = unexpected path input
or_unexpected (Some v) path input = Ok v

-- the node's value at its end
abbrev pub node_value : Finish Node Tree
node_value s path input = or_unexpected s.value path input

abbrev pub scalar_of : Event → Target → Reads Tree
scalar_of (leaf (scalar x n)) t path input = set_at t x path input
scalar_of (start of_struct k n) t path input = entries_at (node_entry t) bare_node path input >>= finished node_value path
scalar_of _ t path input = unexpected path input

-- a scalar, or a node
abbrev pub scalar_at : Target → Reads Tree
scalar_at t path input = taken_at path input >>= λ x. scalar_of x.0 t path x.1
