-- What one event does to what is open.
use Rattle.std.specs.Prelude.{ℕ, suc, ◌+◌, List, [], ◌∷◌, length, drop, slice_get, Option, Some, None, Result, Ok, Bool, true, false, cond, not, ◌&&◌}
use Rattle.semantics_lines.specs.Trees.{Tree, structure, trees_of}
use Rattle.semantics_lines.specs.Shapes.{Field}
use Rattle.semantics_lines.specs.Events.{Span, Key, key_note, scalar, key, of_struct, Event, leaf, stop, span_of}
use Rattle.semantics_lines.specs.Faults.{too_many_elements, duplicate_field, reflect, Fault}
use Rattle.semantics.specs.Places.{Path}
use Rattle.semantics.specs.Keys.{Plan, plan_of, leads, key_label, is_allowed}
use Rattle.semantics.specs.Reading.{from_events, key_text, is_argument, is_key}
use Rattle.semantics.specs.Seen.{ends_sequence}
use Rattle.semantics.specs.Typed.{has_room}
use Rattle.semantics.specs.Typed.{has_length}
use Rattle.laws_reading.specs.Input.{Input, ◌>>=◌, refused, unexpected, never}
use Rattle.laws_reading.specs.Skips.{Opened, skip_of}
use Rattle.semantics.specs.Ends.{End, leaf_at}
use Rattle.semantics.specs.Places.{is_taken}
use Rattle.laws_reading.specs.Structs.{taken_span, key_fault, gathered}
use Rattle.laws_reading.specs.Nodes.{set_at, node_value}
use Rattle.laws_reading.specs.Options.{side_of, side_in, outcome}
use Rattle.laws_reading.specs.Sequences.{other_length, items_end}
use Rattle.laws_reading.specs.Tuples.{filled_from}
use Rattle.laws_reading.specs.Values.{Terms}
use Rattle.laws_machine.specs.Frames.{ItemsPart, TuplePart, StructPart, Entered, ResultPart, NodePart, awaits, items, elements, keyed, keyed_item, object, field, outcome_key, outcome_side, outcome_end, node, argument, passing, Frames, path}
use Rattle.laws_machine.specs.Delivery.{going, Steps, here, no_step, past_key, with_argument, deliver, handed}
use Rattle.laws_machine.specs.Begins.{Begins, begin, Awaits, await, await_end}

-- one more item, or too many of them: the event is left then, so the fault stands at the one before
abbrev pub more_step : Bool → Terms → ItemsPart → Begins
more_step true t l fs before e = begin t l.depth l.item from_events (items l ∷ fs) before e
more_step false t l fs before e = other_length l.items (length l.front + 1) (path t fs) (here before)

-- one more item, or the end of the list
abbrev pub item_step : Bool → Terms → ItemsPart → Begins
item_step true t l fs before e = items_end (has_length l.items.len (length l.front)) l.items l.front (path t fs) (here (span_of e)) >>= handed fs
item_step false t l fs before e = more_step (has_room l.items.len (length l.front)) t l fs before e

-- a tuple has no more items
abbrev pub too_many : Terms → TuplePart → Frames → Span → Steps
too_many t l fs last = refused (reflect (too_many_elements l.elements.shape (length l.elements.fields)) []) (path t fs) (here last)

-- the items of a tuple as its value
abbrev pub as_tuple : Frames → List Tree → Steps
as_tuple fs vs = deliver fs (structure (trees_of vs))

-- the end of a tuple: what is absent is filled in
abbrev pub tuple_step : Terms → TuplePart → Frames → Span → Steps
tuple_step t l fs last = filled_from t.setting.registry l.elements.shape (drop (length l.front) l.elements.fields) l.front (path t fs) (here last) >>= as_tuple fs

-- the item of a tuple at its place in a sequence
abbrev pub element_in : Option Field → Terms → TuplePart → Begins
element_in None t l fs before e = too_many t l fs before
element_in (Some f) t l fs before e = begin t l.depth f.shape from_events (elements l ∷ fs) before e

-- one more item of a tuple in a sequence, or its end
abbrev pub element_step : Bool → Terms → TuplePart → Begins
element_step true t l fs before e = tuple_step t l fs (span_of e)
element_step false t l fs before e = element_in (slice_get l.elements.fields (length l.front)) t l fs before e

-- the item of a tuple at its place in an object
abbrev pub keyed_in : Option Field → Terms → TuplePart → Awaits
keyed_in None t l fs last = too_many t l fs last
keyed_in (Some f) t l fs last = await t l.depth f.shape from_events (keyed_item l ∷ fs) last

-- one more key of a tuple in an object, or its end
abbrev pub keyed_step : Event → Terms → TuplePart → Frames → Steps
keyed_step (leaf (key q)) t l fs = keyed_in (slice_get l.elements.fields (length l.front)) t l fs (key_note q).span
keyed_step (stop of_struct n) t l fs = tuple_step t l fs n.span
keyed_step e t l fs = unexpected (path t fs) (here (span_of e))

-- an entry of an object, or its end
abbrev pub entry_step : Event → (Key → Steps) → (Span → Result Tree Fault) → Terms → Frames → Steps
entry_step (leaf (key q)) enters whole t fs = enters q
entry_step (stop of_struct n) enters whole t fs = whole n.span >>= deliver fs
entry_step e enters whole t fs = unexpected (path t fs) (here (span_of e))

-- where the keys of a struct lead
abbrev pub plan_in : Terms → StructPart → Plan
plan_in t s = plan_of t.setting.registry s.choice s.deny s.layout

-- a key that leads to a path
abbrev pub entered : Path → Key → Entered
entered p q = record { path = p; span = (key_note q).span }

-- the value of a key of this name that leads to this end
abbrev pub end_step : List ℕ → Option End → Terms → StructPart → Path → Key → Frames → Steps
end_step name None t s p q fs = never (path t fs) (here (key_note q).span)
end_step name (Some o) t s p q fs =
    cond (not o.many && is_taken p s.got.values)
    (refused (duplicate_field name (taken_span p s.got.values)) (path t fs) (here (key_note q).span))
    (await_end t s.depth o.part q (field s (entered p q) ∷ fs) (key_note q).span)

-- the value of a key of this name that leads there, or that is passed over
abbrev pub lead_step : List ℕ → Option Path → Terms → StructPart → Key → Frames → Steps
lead_step name None t s q fs = Ok (going (passing [] ∷ object (past_key s q) ∷ fs))
lead_step name (Some p) t s q fs = end_step name (leaf_at t.setting.registry s.choice s.layout p) t (past_key s q) p q fs

-- a key of a struct
abbrev pub field_step : Terms → StructPart → Frames → Key → Steps
field_step t s fs q = cond (is_allowed (plan_in t s) s.got.count q) (lead_step (key_label (plan_in t s) s.got.count q) (leads (plan_in t s) s.got.count q) t s q fs) (key_fault q (path t fs) (here (key_note q).span))

-- the end of a struct
abbrev pub struct_end : Terms → StructPart → Frames → Span → Result Tree Fault
struct_end t s fs last = gathered t.setting.registry s.choice s.layout s.shape s.got (path t fs) (here last)

-- the key of a result
abbrev pub side_step : Option Bool → Terms → ResultPart → Awaits
side_step None t r fs last = unexpected (path t fs) (here last)
side_step (Some b) t r fs last = await t r.depth (side_of r.sides b).shape from_events (outcome_side r b ∷ fs) last

-- the end of a result
abbrev pub close_step : Event → Terms → Bool → Tree → Frames → Steps
close_step (stop of_struct n) t b v fs = deliver fs (outcome b v)
close_step e t b v fs = unexpected (path t fs) (here (span_of e))

-- whether the value that is passed over goes on
abbrev pub pass_on : Bool → Opened → Frames → Steps
pass_on true os fs = Ok (going (passing os ∷ fs))
pass_on false os fs = Ok (going fs)

-- the same for what passing over told
abbrev pub pass_behind : Frames → (Bool × Opened) × Input → Steps
pass_behind fs x = pass_on x.0.0 x.0.1 fs

-- one event that is passed over
abbrev pub pass_step : Terms → Opened → Frames → Event → Steps
pass_step t os fs e = skip_of e os (path t fs) (here (span_of e)) >>= pass_behind fs

-- the key of the argument of a node, which comes once
abbrev pub argument_step : Option Span → Terms → NodePart → Frames → Key → Steps
argument_step (Some first) t p fs q = refused (duplicate_field (key_text q) (Some first)) (path t fs) (here (key_note q).span)
argument_step None t p fs q = Ok (going (argument p (key_note q).span ∷ fs))

-- a key of a node
abbrev pub node_step : Terms → NodePart → Frames → Key → Steps
node_step t p fs q = cond (is_argument q) (argument_step p.node.first t p fs q) (cond (is_key q) (Ok (going (passing [] ∷ node p ∷ fs))) (unexpected (path t fs) (here (key_note q).span)))

-- the argument of a node is set
abbrev pub set_in : NodePart → Span → Frames → Tree × Input → Steps
set_in p first fs x = Ok (going (node (with_argument p first (Some x.0)) ∷ fs))

-- the event behind the key of an argument
abbrev pub set_step : Event → Terms → NodePart → Span → Frames → Steps
set_step (leaf (scalar x n)) t p first fs = set_at p.target x (path t fs) (here n.span) >>= set_in p first fs
set_step e t p first fs = pass_step t [] (node (with_argument p first None) ∷ fs) e

-- one event, behind what stood before it
abbrev pub step_at : Terms → Begins
step_at t [] before e = no_step
step_at t (awaits a ∷ fs) before e = begin t (suc a.depth) a.shape from_events fs before e
step_at t (items l ∷ fs) before e = item_step (ends_sequence e) t l fs before e
step_at t (elements l ∷ fs) before e = element_step (ends_sequence e) t l fs before e
step_at t (keyed l ∷ fs) before e = keyed_step e t l fs
step_at t (object s ∷ fs) before e = entry_step e (field_step t s fs) (struct_end t s fs) t fs
step_at t (outcome_key r ∷ fs) before e = side_step (side_in e) t r fs (span_of e)
step_at t (outcome_end b v ∷ fs) before e = close_step e t b v fs
step_at t (node p ∷ fs) before e = entry_step e (node_step t p fs) (λ last. node_value p.node (path t fs) (here last)) t fs
step_at t (argument p first ∷ fs) before e = set_step e t p first fs
step_at t (passing os ∷ fs) before e = pass_step t os fs e
step_at t (_ ∷ fs) before e = no_step
