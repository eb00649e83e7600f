-- Which events a step only looks at, as the code looks.
use Rattle.std.specs.Prelude.{ℕ, length, slice_get, Option, Some, None, Bool, false, cond}
use Rattle.semantics_lines.specs.Shapes.{Definition, option_shape, transparent_shape}
use Rattle.semantics_lines.specs.Events.{Event}
use Rattle.semantics.specs.Seen.{is_nothing_event, ends_sequence}
use Rattle.semantics.specs.Typed.{has_room}
use Rattle.laws_reading.specs.Values.{Terms}
use Rattle.laws_machine.specs.Frames.{ItemsPart, TuplePart}
use Rattle.laws_machine.specs.Leaves.{unless, begin_leaves, or_past, element_leaves}

-- the part that is read from the same event
abbrev pub inner_in : Option Definition → Event → Option ℕ
inner_in (Some (option_shape i)) e = cond (is_nothing_event e) None (Some i)
inner_in (Some (transparent_shape i)) e = Some i
inner_in _ e = None

-- that part leaves the event
abbrev pub leaves_inner : Terms → Event → ℕ → Option ℕ → Bool
leaves_inner t e n None = false
leaves_inner t e n (Some i) = begin_leaves t e n i

-- a list or an array leaves the event
abbrev pub items_leave : Terms → Event → ItemsPart → Bool
items_leave t e l = unless (ends_sequence e) (or_past (has_room l.items.len (length l.front)) (begin_leaves t e l.depth l.item))

-- a tuple that stands as a sequence leaves the event
abbrev pub tuple_leaves : Terms → Event → TuplePart → Bool
tuple_leaves t e l = unless (ends_sequence e) (element_leaves (slice_get l.elements.fields (length l.front)) (begin_leaves t e l.depth))

-- the shape inside a transparent one
abbrev pub same_in : Option Definition → Option ℕ
same_in (Some (transparent_shape i)) = Some i
same_in _ = None
