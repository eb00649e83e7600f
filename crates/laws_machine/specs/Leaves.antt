-- Which events a step only looks at, where it stops at a fault.
use Rattle.std.specs.Prelude.{◌≡◌, ◌⊎◌, ℕ, zero, suc, ◌∷◌, length, slice_get, Option, Some, None, Result, Err, Bool, true, false, cond}
use Rattle.semantics_lines.specs.Shapes.{Field, Definition, option_shape, transparent_shape, definition_at}
use Rattle.semantics_lines.specs.Events.{Span, Event, span_of}
use Rattle.semantics_lines.specs.Faults.{bug, Fault}
use Rattle.semantics.specs.Seen.{is_nothing_event, ends_sequence}
use Rattle.semantics.specs.Typed.{has_room}
use Rattle.laws_reading.specs.Values.{Terms}
use Rattle.laws_machine.specs.Frames.{awaits, items, elements, Frames}
use Rattle.laws_machine.specs.Steps.{step_at}

-- where the first doesn't hold, whether the second does
abbrev pub unless : Bool → Bool → Bool
unless true b = false
unless false b = b

-- a value of this definition leaves its first event where a part of it does that has no event of its own
abbrev pub leaves_as : (ℕ → Bool) → Option Definition → Event → Bool
leaves_as again (Some (option_shape i)) e = unless (is_nothing_event e) (again i)
leaves_as again (Some (transparent_shape i)) e = again i
leaves_as again _ e = false

-- a value of this shape leaves its first event where it is too deep
abbrev pub begin_leaves : Terms → Event → ℕ → ℕ → Bool
begin_leaves t e zero s = true
begin_leaves t e (suc n) s = leaves_as (begin_leaves t e n) (definition_at t.setting.registry s) e

-- no room for one more item
abbrev pub or_past : Bool → Bool → Bool
or_past true b = b
or_past false b = true

-- no room for one more item of a tuple, or the item leaves the event
abbrev pub element_leaves : Option Field → (ℕ → Bool) → Bool
element_leaves None again = true
element_leaves (Some f) again = again f.shape

-- the event is looked at, and left where a step stops there at a fault
abbrev pub leaves : Terms → Frames → Event → Bool
leaves t (awaits a ∷ fs) e = begin_leaves t e (suc a.depth) a.shape
leaves t (items l ∷ fs) e = unless (ends_sequence e) (or_past (has_room l.items.len (length l.front)) (begin_leaves t e l.depth l.item))
leaves t (elements l ∷ fs) e = unless (ends_sequence e) (element_leaves (slice_get l.elements.fields (length l.front)) (begin_leaves t e l.depth))
leaves t _ e = false

-- a fault stands there, or is one that is never reached
abbrev pub At : {A : Type 0} → Span → Result A Fault → Type 0
At span r = (f : Fault) → r ≡ Err f → (f.kind ≡ bug) ⊎ (f.span ≡ Some span)

-- Each fault of a step stands at the event, where it was taken, and else at the one before.
abbrev pub FaultsStand : Type 0
FaultsStand = (t : Terms) (fs : Frames) (before : Span) (e : Event) → At (cond (leaves t fs e) before (span_of e)) (step_at t fs before e)
