-- What stands behind an event: what is open, or the whole value.
use Rattle.std.specs.Prelude.{[], ◌∷◌, ◌++◌, Option, Some, Result, Ok}
use Rattle.semantics_lines.specs.Trees.{Tree, some}
use Rattle.semantics_lines.specs.Events.{Span, no_span, Key}
use Rattle.semantics_lines.specs.Faults.{Fault, ends}
use Rattle.semantics.specs.Places.{At}
use Rattle.semantics.specs.Keys.{after_key}
use Rattle.laws_reading.specs.Input.{Input, feed, never}
use Rattle.laws_reading.specs.Structs.{Told, Got}
use Rattle.laws_machine.specs.Frames.{ItemsPart, TuplePart, StructPart, Entered, NodePart, option, items, elements, keyed, keyed_item, object, field, outcome_side, outcome_end, Frames}

-- after an event: what is open, or the whole value
pub data Status : Type 0 where
  going : Frames → Status
  complete : Tree → Status

-- what an event comes to, or a fault
abbrev pub Steps : Type 0
Steps = Result Status Fault

-- Where an event stands, as an input of nothing more. What is used of it is the span alone.
abbrev pub here : Span → Input
here span = feed [] ends span

-- this is never reached
abbrev pub no_step : Steps
no_step = never [] (here no_span)

-- one more item of a list
abbrev pub with_item : ItemsPart → Tree → ItemsPart
with_item l v = record { items = l.items; item = l.item; depth = l.depth; front = l.front ++ (v ∷ []) }

-- one more item of a tuple
abbrev pub with_element : TuplePart → Tree → TuplePart
with_element l v = record { elements = l.elements; depth = l.depth; front = l.front ++ (v ∷ []) }

-- a struct with other values
abbrev pub with_got : StructPart → Got → StructPart
with_got s got = record { shape = s.shape; deny = s.deny; layout = s.layout; choice = s.choice; depth = s.depth; got = got }

-- what is told behind a key
abbrev pub told_behind : Entered → Tree → At Told
told_behind e v = record { path = e.path; item = record { span = e.span; value = v } }

-- one more value of a struct, under its key
abbrev pub with_field : StructPart → Entered → Tree → StructPart
with_field s e v = with_got s (record { count = s.got.count; values = s.got.values ++ (told_behind e v ∷ []) })

-- a struct behind one more key
abbrev pub past_key : StructPart → Key → StructPart
past_key s q = with_got s (record { count = after_key s.got.count q; values = s.got.values })

-- the argument of a node, under its key
abbrev pub with_argument : NodePart → Span → Option Tree → NodePart
with_argument p first v = record { target = p.target; node = record { first = Some first; value = v } }

-- a whole value goes into what is open
abbrev pub deliver : Frames → Tree → Steps
deliver [] v = Ok (complete v)
deliver (option ∷ fs) v = deliver fs (some v)
deliver (items l ∷ fs) v = Ok (going (items (with_item l v) ∷ fs))
deliver (elements l ∷ fs) v = Ok (going (elements (with_element l v) ∷ fs))
deliver (keyed_item l ∷ fs) v = Ok (going (keyed (with_element l v) ∷ fs))
deliver (field s e ∷ fs) v = Ok (going (object (with_field s e v) ∷ fs))
deliver (outcome_side r b ∷ fs) v = Ok (going (outcome_end b v ∷ fs))
deliver (_ ∷ fs) v = no_step

-- the same for a value that is read, whatever input is left
abbrev pub handed : Frames → Tree × Input → Steps
handed fs x = deliver fs x.0
