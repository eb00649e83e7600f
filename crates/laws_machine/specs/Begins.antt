-- Values whose first event is at hand, and values that have to come.
use Rattle.std.specs.Prelude.{ℕ, zero, suc, [], ◌∷◌, Option, Some, None, Ok, Bool, true, false, not, ◌&&◌}
use Rattle.semantics_lines.specs.Trees.{none}
use Rattle.semantics_lines.specs.Shapes.{StructShape, is_tuple, Definition, scalar_shape, option_shape, result_shape, list_shape, array_shape, struct_shape, transparent_shape, definition_at}
use Rattle.semantics_lines.specs.Events.{Span, Key, scalar, of_struct, of_sequence, object_kind, Event, leaf, start, span_of}
use Rattle.semantics_lines.specs.Faults.{ShapeLabel, too_deep}
use Rattle.semantics.specs.Registry.{has_some}
use Rattle.semantics.specs.Labels.{label_at}
use Rattle.semantics.specs.Reading.{Source, from_events, Part, of_shape, of_variant, of_tag, of_entry, source_of, is_nothing, plain_layout}
use Rattle.semantics.specs.Seen.{is_nothing_event}
use Rattle.laws_reading.specs.Input.{◌>>=◌, refused, unexpected, never}
use Rattle.laws_reading.specs.Structs.{nothing_got}
use Rattle.laws_reading.specs.Nodes.{Target, set_at, bare_node}
use Rattle.laws_reading.specs.Sequences.{Items}
use Rattle.laws_reading.specs.Tuples.{empty_tuple}
use Rattle.laws_reading.specs.Values.{Terms, target_of}
use Rattle.laws_machine.specs.Frames.{ItemsPart, TuplePart, StructPart, ResultPart, awaits, option, items, elements, keyed, object, outcome_key, node, Frames, path}
use Rattle.laws_machine.specs.Delivery.{going, Steps, here, deliver, handed}

-- begins a value with an event, behind what stood before it
abbrev pub Begins : Type 0
Begins = Frames → Span → Event → Steps

-- the same for a part: the shape, and where it comes from
abbrev pub BeginsPart : Type 0
BeginsPart = ℕ → Source → Begins

-- a scalar, or the node that stands for it
abbrev pub begin_scalar : Terms → Target → Frames → Event → Steps
begin_scalar t target fs (leaf (scalar x n)) = set_at target x (path t fs) (here n.span) >>= handed fs
begin_scalar t target fs (start of_struct k n) = Ok (going (node (record { target = target; node = bare_node }) ∷ fs))
begin_scalar t target fs e = unexpected (path t fs) (here (span_of e))

-- an option: nothing, or what is inside
abbrev pub begin_option : Bool → Begins → Begins
begin_option true again fs before e = deliver fs none
begin_option false again fs before e = again (option ∷ fs) before e

-- a result, which is an object
abbrev pub begin_result : Terms → ResultPart → Frames → Event → Steps
begin_result t r fs (start of_struct k n) = Ok (going (outcome_key r ∷ fs))
begin_result t r fs e = unexpected (path t fs) (here (span_of e))

-- a list or an array, which is a sequence
abbrev pub begin_items : Terms → ItemsPart → Frames → Event → Steps
begin_items t l fs (start of_sequence k n) = Ok (going (items l ∷ fs))
begin_items t l fs e = unexpected (path t fs) (here (span_of e))

-- a tuple: a sequence, an object, or nothing at all
abbrev pub begin_tuple : Terms → TuplePart → Frames → Event → Steps
begin_tuple t l fs (start of_sequence k n) = Ok (going (elements l ∷ fs))
begin_tuple t l fs (start of_struct object_kind n) = Ok (going (keyed l ∷ fs))
begin_tuple t l fs (leaf (scalar x n)) = empty_tuple (not (has_some l.elements.fields) && is_nothing x) (path t fs) (here n.span) >>= handed fs
begin_tuple t l fs e = unexpected (path t fs) (here (span_of e))

-- a struct, which is an object
abbrev pub begin_object : Terms → StructPart → Frames → Event → Steps
begin_object t s fs (start of_struct k n) = Ok (going (object s ∷ fs))
begin_object t s fs e = unexpected (path t fs) (here (span_of e))

-- a list or an array with no items yet
abbrev pub new_items : Items → ℕ → ℕ → ItemsPart
new_items t i n = record { items = t; item = i; depth = n; front = [] }

-- a tuple with no items yet
abbrev pub new_tuple : ShapeLabel → StructShape → ℕ → TuplePart
new_tuple s d n = record { elements = record { shape = s; fields = d.fields }; depth = n; front = [] }

-- a struct with no values yet
abbrev pub new_object : ℕ → StructShape → ℕ → StructPart
new_object s d n = record { shape = s; deny = d.deny; layout = plain_layout d; choice = []; depth = n; got = nothing_got }

-- a result before its key
abbrev pub new_result : ℕ → ℕ → ℕ → ResultPart
new_result i j n = record { sides = record { ok_shape = i; err_shape = j }; depth = n }

-- a struct: a tuple, or an object
abbrev pub begin_struct : Terms → ℕ → StructShape → ℕ → Bool → Frames → Event → Steps
begin_struct t s d n true fs e = begin_tuple t (new_tuple (label_at t.setting.registry s) d n) fs e
begin_struct t s d n false fs e = begin_object t (new_object s d n) fs e

-- a value of this definition, whose parts have this depth
abbrev pub begin_as : Terms → BeginsPart → ℕ → ℕ → Source → Option Definition → Begins
begin_as t again n s source (Some (scalar_shape x)) fs before e = begin_scalar t (target_of t s x) fs e
begin_as t again n s source (Some (option_shape i)) fs before e = begin_option (is_nothing_event e) (again i from_events) fs before e
begin_as t again n s source (Some (result_shape i j)) fs before e = begin_result t (new_result i j n) fs e
begin_as t again n s source (Some (list_shape i)) fs before e = begin_items t (new_items (record { shape = label_at t.setting.registry s; len = None }) i n) fs e
begin_as t again n s source (Some (array_shape i len)) fs before e = begin_items t (new_items (record { shape = label_at t.setting.registry s; len = Some len }) i n) fs e
begin_as t again n s source (Some (struct_shape d)) fs before e = begin_struct t s d n (is_tuple d.kind) fs e
begin_as t again n s source (Some (transparent_shape i)) fs before e = again i source fs before e
begin_as t again n s source _ fs before e = unexpected (path t fs) (here (span_of e))

-- a value whose first event is at hand
abbrev pub begin : Terms → ℕ → BeginsPart
begin t zero s source fs before e = refused (too_deep t.limit) (path t fs) (here before)
begin t (suc n) s source fs before e = begin_as t (begin t n) n s source (definition_at t.setting.registry s) fs before e

-- a value has to come, and no event is at hand
abbrev pub Awaits : Type 0
Awaits = Frames → Span → Steps

-- a value of this definition has to come: a transparent one is its inner one
abbrev pub await_as : (ℕ → Source → Awaits) → ℕ → ℕ → Source → Option Definition → Awaits
await_as again n s source (Some (transparent_shape i)) fs last = again i source fs last
await_as again n s source _ fs last = Ok (going (awaits (record { shape = s; depth = n }) ∷ fs))

-- a value of this shape has to come, within a depth
abbrev pub await : Terms → ℕ → ℕ → Source → Awaits
await t zero s source fs last = refused (too_deep t.limit) (path t fs) (here last)
await t (suc n) s source fs last = await_as (await t n) n s source (definition_at t.setting.registry s) fs last

-- What stands at the end of a path has to come, behind its key. Only values of shapes stand there yet.
abbrev pub await_end : Terms → ℕ → Part → Key → Awaits
await_end t n (of_shape s) q fs last = await t n s (source_of q) fs last
await_end t n (of_variant j v) q fs last = never (path t fs) (here last)
await_end t n (of_tag x) q fs last = never (path t fs) (here last)
await_end t n (of_entry i j) q fs last = never (path t fs) (here last)
