-- What passing over an event is, in the words of the machine.
use Rattle.std.proofs.Common.{◌≡◌, List, [], ◌∷◌, Option, Some, None, Bool, true, false, Ok, Err, refl, sym, ◌∙◌, ap}
use Rattle.semantics_lines.specs.Events.{scalar, key, tag, Event, leaf, start, stop, span_of}
use Rattle.semantics_lines.specs.Faults.{Step, unexpected_token}
use Rattle.laws_reading.specs.Input.{Input, ◌>>=◌}
use Rattle.laws_reading.specs.Skips.{Opened, same_bracket, stopped, skip_of}
use Rattle.laws_reading.specs.Values.{Terms}
use Rattle.laws_machine.specs.Frames.{passing, Frames, path}
use Rattle.laws_machine.specs.Delivery.{going, here}
use Rattle.laws_machine.specs.Steps.{pass_behind, pass_step}
use Rattle.read_steps.specs.Passing.{if_same, or_passed, pass_of}
use Rattle.read_steps.specs.Refusals.{fault_in}

same_end : (b : Bool) (bs : Opened) (p : List Step) (input : Input) → or_passed (if_same b bs) p input ≡ stopped b bs p input
same_end true bs p input = refl
same_end false bs p input = refl

same_event : (e : Event) (bs : Opened) (p : List Step) (input : Input) → or_passed (pass_of e bs) p input ≡ skip_of e bs p input
same_event (leaf (scalar x n)) bs p input = refl
same_event (leaf (tag t n)) bs p input = refl
same_event (leaf (key q)) [] p input = refl
same_event (leaf (key q)) (b ∷ bs) p input = refl
same_event (start b k n) bs p input = refl
same_event (stop b n) [] p input = refl
same_event (stop b n) (c ∷ bs) p input = same_end (same_bracket b c) bs p input

module _ (t : Terms) (os : Opened) (fs : Frames) (e : Event) where
  pass_is : (o : Option (Bool × Opened)) → pass_of e os ≡ o → pass_step t os fs e ≡ (or_passed o (path t fs) (here (span_of e)) >>= pass_behind fs)
  pass_is o is = ap (λ r. r >>= pass_behind fs) (sym (same_event e os (path t fs) (here (span_of e))) ∙ ap (λ (x : Option (Bool × Opened)). or_passed x (path t fs) (here (span_of e))) is)

  -- the value goes on
  pub passes_on : (now : Opened) → pass_of e os ≡ Some (true, now) → pass_step t os fs e ≡ Ok (going (passing now ∷ fs))
  passes_on now is = pass_is (Some (true, now)) is

  -- that was its last event
  pub passed_last : (now : Opened) → pass_of e os ≡ Some (false, now) → pass_step t os fs e ≡ Ok (going fs)
  passed_last now is = pass_is (Some (false, now)) is

  -- it can't stand there
  pub not_passed : pass_of e os ≡ None → pass_step t os fs e ≡ Err (fault_in t fs unexpected_token (span_of e))
  not_passed is = pass_is None is
