-- What calls in turn leave of the events, and where their faults come from.
use Rattle.std.proofs.Common.{◌≡◌, inl, inr, List, ◌++◌, [], Option, Some, None, refl, sym, ap, ◌∙◌, append_assoc, arith}
use Rattle.semantics_lines.specs.Events.{Event}
use Rattle.semantics_lines.specs.Faults.{Fault}
use Rattle.read_steps.specs.Stops.{IsOwn}
use Rattle.format_read.specs.Seats.{Seat, IsLeft, HasSource}

pub left_same : (a : Seat) → IsLeft a a
left_same a = record { taken = []; cut = refl; ending = refl; left = omega arith; within = λ h. h; faults = omega arith; place = refl }

pub left_later : (a b c : Seat) → IsLeft a b → IsLeft b c → IsLeft a c
left_later a b c x y = record {
  taken = x.taken ++ y.taken;
  cut = x.cut ∙ ap (λ (es : List Event). x.taken ++ es) y.cut ∙ sym (append_assoc x.taken y.taken c.input.events);
  ending = y.ending ∙ x.ending;
  left = omega (arith, x.left, y.left);
  within = λ h. y.within (x.within h);
  faults = omega (arith, x.faults, y.faults);
  place = y.place ∙ x.place;
}

-- a fault of a later call
pub source_later : (o : Option Fault) (a b c : Seat) → IsLeft a b → HasSource o b c → HasSource o a c
source_later None a b c x h = tt
source_later (Some f) a b c x (inl own) = inl own
source_later (Some f) a b c x (inr (inl (kind, at_end))) = inr (inl (kind, sym x.ending ∙ at_end))
source_later (Some f) a b c x (inr (inr rose)) = inr (inr (omega (arith, x.faults, rose)))

pub source_own : (o : Option Fault) (a b : Seat) → IsOwn o → HasSource o a b
source_own None a b own = tt
source_own (Some f) a b own = inl own

pub source_memory : (o : Option Fault) (a b : Seat) → o ≡ None → HasSource o a b
source_memory None a b is = tt
source_memory (Some f) a b is = absurd cc
