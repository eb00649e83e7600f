-- The steps of the machine by what an event is, as the code takes them.
use Rattle.std.specs.Prelude.{◌≡◌, ℕ, ◌+◌, nat_lt, List, [], ◌∷◌, length, slice_get, Option, Some, None, Result, Ok, Err, Bool, true, false, cond, codes, bytes_eq}
use Rattle.semantics_lines.specs.Texts.{Phrase}
use Rattle.semantics_lines.specs.Trees.{Tree, structure, trees_of}
use Rattle.semantics_lines.specs.Shapes.{Field, effective_name}
use Rattle.semantics_lines.specs.Events.{Span}
use Rattle.semantics_lines.specs.Faults.{Step, unknown_field, duplicate_field, Fault}
use Rattle.semantics.specs.Typed.{has_length}
use Rattle.semantics.specs.Reading.{from_events}
use Rattle.laws_reading.specs.Input.{◌>>=◌, refused, unexpected, never}
use Rattle.laws_reading.specs.Structs.{taken_span}
use Rattle.laws_reading.specs.Nodes.{Target, set_at, bare_node}
use Rattle.laws_reading.specs.Sequences.{items_end}
use Rattle.laws_reading.specs.Values.{Terms}
use Rattle.laws_machine.specs.Frames.{ItemsPart, TuplePart, StructPart, Entered, NodePart, elements, keyed, keyed_item, object, field, node, argument, passing, Frames, path}
use Rattle.laws_machine.specs.Delivery.{going, Steps, here, no_step, with_got, with_argument, deliver, handed}
use Rattle.laws_machine.specs.Begins.{await}
use Rattle.laws_machine.specs.Steps.{keyed_in, tuple_step, struct_end, set_in}
use Rattle.read_steps.specs.Fits.{TupleForm, as_sequence, as_object, as_nothing, Begun, as_scalar, as_node, as_other, Mark, at_end, at_name, at_nameless, at_order, elsewhere}
use Rattle.read_steps.specs.Keys.{place_in}
use Rattle.read_steps.specs.Stops.{Fails}

-- what is to be read is what was, or it is this fault
abbrev pub Goes : {X A E : Type 0} → (E → Option Fault) → Result X E → Result A Fault → Result A Fault → Type 0
Goes stop (Ok x) new old = new ≡ old
Goes stop (Err e) new old = Fails (stop e) old

-- the event is the one that is looked for
abbrev pub when : Bool → Steps → List Step → Span → Steps
when true s p span = s
when false s p span = unexpected p (here span)

-- a list or an array of all its items
abbrev pub items_done : Terms → ItemsPart → Frames → Span → Steps
items_done t l fs span = items_end (has_length l.items.len (length l.front)) l.items l.front (path t fs) (here span) >>= handed fs

-- a scalar, or the node that stands for it
abbrev pub scalar_begun : Begun → Terms → Target → Frames → Span → Steps
scalar_begun (as_scalar x) t target fs span = set_at target x (path t fs) (here span) >>= handed fs
scalar_begun as_node t target fs span = Ok (going (node (record { target = target; node = bare_node }) ∷ fs))
scalar_begun as_other t target fs span = unexpected (path t fs) (here span)

-- a tuple
abbrev pub tuple_begun : Option TupleForm → Terms → TuplePart → Frames → Span → Steps
tuple_begun None t l fs span = unexpected (path t fs) (here span)
tuple_begun (Some as_sequence) t l fs span = Ok (going (elements l ∷ fs))
tuple_begun (Some as_object) t l fs span = Ok (going (keyed l ∷ fs))
tuple_begun (Some as_nothing) t l fs span = deliver fs (structure (trees_of []))

-- a key of the tuple that is innermost, or its end
abbrev pub keyed_by : Option Bool → Terms → Frames → Span → Steps
keyed_by None t fs span = unexpected (path t fs) (here span)
keyed_by (Some true) t (keyed l ∷ fs) span = keyed_in (slice_get l.elements.fields (length l.front)) t l fs span
keyed_by (Some false) t (keyed l ∷ fs) span = tuple_step t l fs span
keyed_by _ t fs span = no_step

-- that tuple after the key
abbrev pub key_taken : Frames → Frames
key_taken (keyed l ∷ fs) = keyed_item l ∷ fs
key_taken fs = fs

-- a key that leads to the field of this place
abbrev pub key_at : ℕ → Span → Entered
key_at k span = record { path = k ∷ []; span = span }

-- the value of this field comes, behind its key
abbrev pub enter_step : Option Field → Terms → StructPart → Entered → Frames → Steps
enter_step None t s e fs = never (path t fs) (here e.span)
enter_step (Some f) t s e fs = await t s.depth f.shape from_events (field s e ∷ fs) e.span

-- a key of this name that leads to the field of this place, unless the field was read already
abbrev pub known_step : Option Span → List ℕ → ℕ → Terms → StructPart → Span → Frames → Steps
known_step (Some first) name k t s span fs = refused (duplicate_field name (Some first)) (path t fs) (here span)
known_step None name k t s span fs = enter_step (slice_get s.layout.fields k) t s (key_at k span) fs

-- a key of this name that leads nowhere
abbrev pub unknown_step : List ℕ → Terms → StructPart → Frames → Span → Steps
unknown_step name t s fs span = cond s.deny (refused (unknown_field name) (path t fs) (here span)) (Ok (going (passing [] ∷ object s ∷ fs)))

-- a key of a struct that leads to the field of this place, or nowhere
abbrev pub found_step : Option ℕ → Terms → StructPart → Phrase → Frames → Span → Steps
found_step None t s name fs span = unknown_step name.bytes t s fs span
found_step (Some k) t s name fs span = known_step (taken_span (k ∷ []) s.got.values) name.bytes k t s span fs

-- the name of this field
abbrev pub name_in : Option Field → List ℕ
name_in None = []
name_in (Some f) = effective_name f

-- a struct of which so many keys named their field by its order
abbrev pub with_count : ℕ → StructPart → StructPart
with_count n s = with_got s (record { count = n; values = s.got.values })

-- the key by order that leads to the field of this place, and with which there are so many
abbrev pub next_step : ℕ → ℕ → Terms → StructPart → Frames → Span → Steps
next_step k n t s fs span = known_step (taken_span (k ∷ []) s.got.values) (name_in (slice_get s.layout.fields k)) k t (with_count n s) span fs

-- a key by order, where there is one more field
abbrev pub order_step : Terms → StructPart → Frames → Span → Steps
order_step t s fs span = cond (nat_lt s.got.count (length s.layout.fields)) (next_step s.got.count (s.got.count + 1) t s fs span) (unexpected (path t fs) (here span))

-- the key of a field of the struct that is innermost
abbrev pub entered_by : ℕ → Terms → Entered → Frames → Steps
entered_by k t e (object s ∷ fs) = enter_step (slice_get s.layout.fields k) t s e fs
entered_by k t e fs = no_step

-- that struct after the key
abbrev pub field_entered : Entered → Frames → Frames
field_entered e (object s ∷ fs) = field s e ∷ fs
field_entered e fs = fs

-- a key of this name of the struct that is innermost, which leads to the field of this place
abbrev pub known_by : List ℕ → ℕ → Terms → Span → Frames → Steps
known_by name k t span (object s ∷ fs) = known_step (taken_span (k ∷ []) s.got.values) name k t s span fs
known_by name k t span fs = no_step

-- a key of it that leads nowhere
abbrev pub unknown_by : List ℕ → Terms → Span → Frames → Steps
unknown_by name t span (object s ∷ fs) = unknown_step name t s fs span
unknown_by name t span fs = no_step

-- the key by order of it
abbrev pub next_by : ℕ → ℕ → Terms → Span → Frames → Steps
next_by k n t span (object s ∷ fs) = next_step k n t s fs span
next_by k n t span fs = no_step

-- that struct with so many keys by order
abbrev pub counted : ℕ → Frames → Frames
counted n (object s ∷ fs) = object (with_count n s) ∷ fs
counted n fs = fs

-- an entry of the struct that is innermost, or its end
abbrev pub marked_step : Mark → Terms → Frames → Span → Steps
marked_step at_nameless t fs span = Ok (going (passing [] ∷ fs))
marked_step elsewhere t fs span = unexpected (path t fs) (here span)
marked_step at_end t (object s ∷ fs) span = struct_end t s fs span >>= deliver fs
marked_step at_order t (object s ∷ fs) span = order_step t s fs span
marked_step (at_name name) t (object s ∷ fs) span = found_step (place_in s.layout.fields name.bytes) t s name fs span
marked_step _ t fs span = no_step

-- the key of the argument of a node, which comes once
abbrev pub argument_by : Option Span → Terms → NodePart → Frames → Span → Steps
argument_by (Some first) t p fs span = refused (duplicate_field (codes "_arg") (Some first)) (path t fs) (here span)
argument_by None t p fs span = Ok (going (argument p span ∷ fs))

-- the value of a node at its end
abbrev pub node_ended : Option Tree → Terms → Frames → Span → Steps
node_ended None t fs span = unexpected (path t fs) (here span)
node_ended (Some v) t fs span = deliver fs v

-- a key of a node with a name: that of the argument, or another one
abbrev pub named_entry : List ℕ → Terms → NodePart → Frames → Span → Steps
named_entry name t p fs span = cond (bytes_eq name (codes "_arg")) (argument_by p.node.first t p fs span) (Ok (going (passing [] ∷ node p ∷ fs)))

-- the key of the argument of the node that is innermost
abbrev pub argument_in : Terms → Frames → Span → Steps
argument_in t (node p ∷ fs) span = argument_by p.node.first t p fs span
argument_in t fs span = no_step

-- an entry of the node that is innermost, or its end
abbrev pub node_marked : Mark → Terms → Frames → Span → Steps
node_marked at_nameless t fs span = Ok (going (passing [] ∷ fs))
node_marked at_order t fs span = unexpected (path t fs) (here span)
node_marked elsewhere t fs span = unexpected (path t fs) (here span)
node_marked at_end t (node p ∷ fs) span = node_ended p.node.value t fs span
node_marked (at_name name) t (node p ∷ fs) span = named_entry name.bytes t p fs span
node_marked _ t fs span = no_step

-- the argument of the node that is innermost, which is a scalar
abbrev pub set_begun : Begun → Terms → Frames → Span → Steps
set_begun (as_scalar x) t (argument p first ∷ fs) span = set_at p.target x (path t fs) (here span) >>= set_in p first fs
set_begun _ t fs span = unexpected (path t fs) (here span)

-- that node with this argument
abbrev pub argument_set : Option Tree → Frames → Frames
argument_set v (argument p first ∷ fs) = node (with_argument p first v) ∷ fs
argument_set v fs = fs
