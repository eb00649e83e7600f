-- Answers that are what should be read.
use Rattle.std.proofs.Common.{◌≡◌, Option, Some, None, Result, Ok, Err, sym, ap, ◌∙◌}
use Rattle.semantics_lines.specs.Faults.{Fault}
use Rattle.read_steps.specs.Stops.{IsFault, Fails, Gives}

-- the same fault, where what should be read is the same
pub fails_same : {Y : Type 0} (o : Option Fault) (a b : Result Y Fault) → a ≡ b → Fails o b → Fails o a
fails_same None a b same is = tt
fails_same (Some f) a b same is = same ∙ is

-- the same answer, where what should be read is the same
pub gives_same : {X Y E : Type 0} (stop : E → Option Fault) (view : X → Y) (r : Result X E) (a b : Result Y Fault) → a ≡ b → Gives stop view r b → Gives stop view r a
gives_same stop view (Ok x) a b same is = same ∙ is
gives_same stop view (Err e) a b same is = fails_same (stop e) a b same is

-- a fault that is the one which should be read
pub fault_told : {Y : Type 0} (o : Option Fault) (read : Result Y Fault) (f g : Fault) → IsFault o f → f ≡ g → read ≡ Err g → Fails o read
fault_told None read f g is same fails = tt
fault_told (Some e) read f g is same fails = fails ∙ ap Err (sym (is ∙ same))
