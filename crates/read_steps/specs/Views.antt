-- What is open, as the definitions see it. Of a struct the frames keep the number of its shape: its fields are those of the registry.
use Rattle.std.specs.Prelude.{ℕ, Bool, true, false, cond, List, [], ◌∷◌, map, reverse, Option, Some, None, option_map}
use Rattle.semantics_lines.specs.Events.{Span}
use Rattle.semantics.specs.Labels.{label_at}
use Rattle.semantics.specs.Places.{At}
use Rattle.shape_types.specs.Scalars.{scalar_type_of}
use Rattle.shape_types.specs.Trees.{tree_of}
use Rattle.event_core.specs.Metadata.{span_view}
use Rattle.laws_reading.specs.Structs.{Told, Got, nothing_got}
use Rattle.laws_reading.specs.Values.{Terms, target_of}
use Rattle.laws_machine.specs.Frames as machine
use Rattle.laws_machine.specs.Frames.{awaits, option, items, elements, keyed, keyed_item, object, field, outcome_key, outcome_side, outcome_end, node, argument, passing}
use Rattle.laws_machine.specs.Delivery as delivery
use Rattle.shape_types.specs.declared.shape.ShapeId.{ShapeId}
use Rattle.read_steps.specs.declared.task.ItemsOf.{ItemsOf}
use Rattle.read_steps.specs.declared.key.KeyAt.{KeyAt}
use Rattle.read_steps.specs.declared.filled.Filled.{Filled}
use Rattle.read_steps.specs.declared.frames.ItemsPart.{ItemsPart}
use Rattle.read_steps.specs.declared.frames.TuplePart.{TuplePart}
use Rattle.read_steps.specs.declared.frames.StructPart.{StructPart}
use Rattle.read_steps.specs.declared.frames.ResultPart.{ResultPart}
use Rattle.read_steps.specs.declared.frames.ArgumentKey.{ArgumentKey}
use Rattle.read_steps.specs.declared.frames.ArgumentKey.TheVariants as argument_key
use Rattle.read_steps.specs.declared.frames.NodePart.{NodePart}
use Rattle.read_steps.specs.declared.frames.Frame.{Frame}
use Rattle.read_steps.specs.declared.frames.Frame.TheVariants as frame
use Rattle.read_steps.specs.declared.frames.Next.{Next}
use Rattle.read_steps.specs.declared.frames.Next.TheVariants as next
use Rattle.read_steps.specs.declared.frames.Moved.{Moved}
use Rattle.read_steps.specs.declared.frames.Moved.TheVariants as moved
use Rattle.read_steps.specs.declared.frames.Frames.{Frames}
use Rattle.read_steps.specs.declared.stack.Stack.{Stack}
use Rattle.read_steps.specs.declared.stack.Place.{Place}
use Rattle.read_steps.specs.Passing.{opened_of}
use Rattle.read_steps.specs.Tasks.{sides_view, fields_at, denies_at}

-- the items of a list or an array so far
abbrev pub items_of : Terms → ItemsPart → machine.ItemsPart
items_of t p = record { items = record { shape = label_at t.setting.registry p.shape.0; len = p.of.len }; item = p.of.item.0; depth = p.depth; front = map tree_of p.front.items }

-- the items of a tuple so far
abbrev pub tuple_of : Terms → TuplePart → machine.TuplePart
tuple_of t p = record { elements = record { shape = label_at t.setting.registry p.shape.0; fields = fields_at t.setting.registry p.shape.0 }; depth = p.depth; front = map tree_of p.front.items }

-- a key whose value comes
abbrev pub entered_of : KeyAt → machine.Entered
entered_of k = record { path = k.place ∷ []; span = span_view k.span }

-- a field that was read
abbrev pub told_of : Filled → At Told
told_of f = delivery.told_behind (entered_of f.key) (tree_of f.value)

-- the fields that were read, and how many keys named theirs by its order
abbrev pub got_of : ℕ → List Filled → Got
got_of n fs = record { count = n; values = map told_of fs }

-- the fields of a struct so far
abbrev pub struct_of : Terms → StructPart → machine.StructPart
struct_of t p = record {
  shape = p.shape.0;
  deny = denies_at t.setting.registry p.shape.0;
  layout = record { fields = fields_at t.setting.registry p.shape.0; whole = false };
  choice = [];
  depth = p.depth;
  got = got_of p.ordered p.filled.items;
}

-- a result, before it is known what it holds
abbrev pub result_of : ResultPart → machine.ResultPart
result_of p = record { sides = sides_view p.sides; depth = p.depth }

-- where the key of its argument stands, after that argument
abbrev pub first_of : ArgumentKey → Option Span
first_of (argument_key.Past first) = Some (span_view first)
first_of _ = None

-- what came of the node of a scalar so far
abbrev pub node_of : Terms → NodePart → machine.NodePart
node_of t p = record {
  target = target_of t p.shape.0 (scalar_type_of p.scalar);
  node = record { first = first_of p.key; value = option_map tree_of p.value };
}

-- a tuple that stands as an object, before a key or after it
abbrev pub keyed_frame : machine.TuplePart → Bool → machine.Frame
keyed_frame l false = keyed l
keyed_frame l true = keyed_item l

-- a struct before a key, or after this one
abbrev pub object_frame : machine.StructPart → Option KeyAt → machine.Frame
object_frame s None = object s
object_frame s (Some k) = field s (entered_of k)

-- the node of a scalar before a key, or after that of its argument
abbrev pub node_frame : machine.NodePart → ArgumentKey → machine.Frame
node_frame p (argument_key.Open first) = argument p (span_view first)
node_frame p _ = node p

-- A frame, inside those around it. At the bottom nothing is open.
abbrev pub with_frame : Terms → Frame → machine.Frames → machine.Frames
with_frame t frame.Bottom fs = []
with_frame t frame.Option fs = option ∷ fs
with_frame t (frame.Items p) fs = items (items_of t p) ∷ fs
with_frame t (frame.Elements p) fs = elements (tuple_of t p) ∷ fs
with_frame t (frame.Keyed p) fs = keyed_frame (tuple_of t p) p.after_key ∷ fs
with_frame t (frame.Object p) fs = object_frame (struct_of t p) p.key ∷ fs
with_frame t (frame.ResultKey p) fs = outcome_key (result_of p) ∷ fs
with_frame t (frame.ResultSide p ok) fs = outcome_side (result_of p) ok ∷ fs
with_frame t (frame.ResultEnd ok v) fs = outcome_end ok (tree_of v) ∷ fs
with_frame t (frame.Node p) fs = node_frame (node_of t p) p.key ∷ fs

-- these frames, the innermost in front
abbrev pub below_of : Terms → List Frame → machine.Frames
below_of t [] = []
below_of t (f ∷ fs) = with_frame t f (below_of t fs)

-- a list or an array with no items yet
abbrev pub items_begun : Terms → ShapeId → ItemsOf → ℕ → machine.ItemsPart
items_begun t s of n = record { items = record { shape = label_at t.setting.registry s.0; len = of.len }; item = of.item.0; depth = n; front = [] }

-- a tuple with no items yet
abbrev pub tuple_begun_at : Terms → ShapeId → ℕ → machine.TuplePart
tuple_begun_at t s n = record { elements = record { shape = label_at t.setting.registry s.0; fields = fields_at t.setting.registry s.0 }; depth = n; front = [] }

-- a struct with no fields yet
abbrev pub struct_begun_at : Terms → ShapeId → ℕ → machine.StructPart
struct_begun_at t s n = record {
  shape = s.0;
  deny = denies_at t.setting.registry s.0;
  layout = record { fields = fields_at t.setting.registry s.0; whole = false };
  choice = [];
  depth = n;
  got = nothing_got;
}

-- what is open around the innermost frame
abbrev pub outer_of : Terms → Stack → machine.Frames
outer_of t s = below_of t (reverse s.below.items)

-- all that is open, the innermost in front
abbrev pub open_of : Terms → Stack → machine.Frames
open_of t s = with_frame t s.top (outer_of t s)

-- all of it, or what is around the innermost frame
abbrev pub place_of : Terms → Place → machine.Frames
place_of t p = cond p.inside (open_of t p.stack.now) (outer_of t p.stack.now)

-- what comes next, in front of all that is open
abbrev pub next_in : Next → machine.Frames → machine.Frames
next_in next.Inside fs = fs
next_in (next.Value shape depth) fs = awaits (record { shape = shape.0; depth = depth }) ∷ fs
next_in (next.Passed os) fs = passing (opened_of os) ∷ fs

-- what there is behind an event
abbrev pub moved_of : Moved → machine.Frames → delivery.Status
moved_of (moved.To n) fs = delivery.going (next_in n fs)
moved_of (moved.Whole v) fs = delivery.complete (tree_of v)

-- all of it
abbrev pub frames_of : Terms → Frames → machine.Frames
frames_of t f = next_in f.next (open_of t f.stack)
