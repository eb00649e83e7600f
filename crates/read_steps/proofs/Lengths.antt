-- Arrays of another length.
use Rattle.std.proofs.Common.{◌≡◌, ℕ, Option, Some, None, Err, refl}
use Rattle.semantics_lines.specs.Events.{Span}
use Rattle.laws_reading.specs.Sequences.{Items, other_length}
use Rattle.laws_reading.specs.Values.{Terms}
use Rattle.laws_machine.specs.Frames.{Frames, path}
use Rattle.laws_machine.specs.Delivery.{here}
use Rattle.read_steps.specs.Refusals.{length_fault_in}

-- the fault of another length
pub length_is : {A : Type 0} (t : Terms) (fs : Frames) (l : Items) (got : ℕ) (span : Span) → other_length {A = A} l got (path t fs) (here span) ≡ Err (length_fault_in t fs l.len l.shape got span)
length_is {A = A} t fs l got span = by_length l.len
  where
    by_length : (o : Option ℕ) → other_length {A = A} (record { shape = l.shape; len = o }) got (path t fs) (here span) ≡ Err (length_fault_in t fs o l.shape got span)
    by_length None = refl
    by_length (Some wanted) = refl
