-- What the machine leaves of the events is their end, behind those that were taken.
use Rattle.std.proofs.Common.{◌≡◌, ℕ, List, [], ◌∷◌, Bool, true, false, cond, Ok, Err, refl, ap, subst}
use Rattle.semantics_lines.specs.Events.{Span, Event, span_of}
use Rattle.semantics_lines.specs.Faults.{Ending}
use Rattle.semantics.specs.Reading.{Source}
use Rattle.laws_reading.specs.Input.{Input, feed}
use Rattle.laws_reading.specs.Values.{Terms}
use Rattle.laws_machine.specs.Frames.{Frames}
use Rattle.laws_machine.specs.Delivery.{Steps, going, complete}
use Rattle.laws_machine.specs.Begins.{await}
use Rattle.laws_machine.specs.Leaves.{leaves}
use Rattle.laws_machine.specs.Steps.{step_at}
use Rattle.laws_causes.specs.Stopping.{Stopping, behind_step, left_at, stoppings, stopping}
use Rattle.laws_causes.specs.Laws.{Leaves}

-- what is left, with a value or at a fault
abbrev pub LeavesAt : Input → Stopping → Type 0
LeavesAt input (Ok x) = Leaves input x.1
LeavesAt input (Err s) = Leaves input s.input

-- nothing was taken
pub leaves_all : (input : Input) → Leaves input input
leaves_all input = record { taken = []; cut = refl; ending = refl; last = refl }

-- one more event was taken before
leaves_behind : (e : Event) (es : List Event) (ending : Ending) (last : Span) (new : Input) → Leaves (feed es ending (span_of e)) new → Leaves (feed (e ∷ es) ending last) new
leaves_behind e es ending last new h = record { taken = e ∷ h.taken; cut = ap (λ (xs : List Event). e ∷ xs) h.cut; ending = h.ending; last = h.last }

behind : (e : Event) (es : List Event) (ending : Ending) (last : Span) (told : Stopping) → LeavesAt (feed es ending (span_of e)) told → LeavesAt (feed (e ∷ es) ending last) told
behind e es ending last (Ok x) h = leaves_behind e es ending last x.1 h
behind e es ending last (Err s) h = leaves_behind e es ending last s.input h

-- the event was left, or taken
at_fault : (b : Bool) (e : Event) (es : List Event) (ending : Ending) (last : Span) → Leaves (feed (e ∷ es) ending last) (cond b (feed (e ∷ es) ending last) (feed es ending (span_of e)))
at_fault true e es ending last = leaves_all (feed (e ∷ es) ending last)
at_fault false e es ending last = leaves_behind e es ending last (feed es ending (span_of e)) (leaves_all (feed es ending (span_of e)))

behind_steps : (go : Frames → Stopping) (input rest left : Input) → ((fs : Frames) → LeavesAt input (go fs)) → Leaves input rest → Leaves input left → (r : Steps) → LeavesAt input (behind_step go rest left r)
behind_steps go input rest left goes whole fault (Ok (going fs)) = goes fs
behind_steps go input rest left goes whole fault (Ok (complete v)) = whole
behind_steps go input rest left goes whole fault (Err f) = fault

stoppings_leave : (t : Terms) (fs : Frames) (es : List Event) (ending : Ending) (last : Span) → LeavesAt (feed es ending last) (stoppings t fs es ending last)
stoppings_leave t fs [] ending last = leaves_all (feed [] ending last)
stoppings_leave t fs (e ∷ es) ending last =
    behind_steps (λ gs. stoppings t gs es ending (span_of e)) (feed (e ∷ es) ending last) (feed es ending (span_of e)) (left_at t fs e es ending last)
    (λ gs. behind e es ending last (stoppings t gs es ending (span_of e)) (stoppings_leave t gs es ending (span_of e)))
    (leaves_behind e es ending last (feed es ending (span_of e)) (leaves_all (feed es ending (span_of e)))) (at_fault (leaves t fs e) e es ending last) (step_at t fs last e)

pub stopping_leaves : (t : Terms) (n s : ℕ) (source : Source) (input : Input) (told : Stopping) → stopping t n s source input ≡ told → LeavesAt input told
stopping_leaves t n s source input told is =
    subst (LeavesAt input) is
    (behind_steps (λ fs. stoppings t fs input.events input.ending input.last) input input input (λ fs. stoppings_leave t fs input.events input.ending input.last) (leaves_all input) (leaves_all input) (await t n s source [] input.last))
