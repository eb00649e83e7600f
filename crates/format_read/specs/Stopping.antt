-- What should be read, and what is left then: also where reading stops at a fault.
use Rattle.std.specs.Prelude.{◌≡◌, Option, Some, None, Result, Ok, Err}
use Rattle.semantics_lines.specs.Faults.{Fault}
use Rattle.laws_reading.specs.Input.{Input}
use Rattle.laws_causes.specs.Stopping.{Stop}

-- what should be read is this fault, and this is left; want of memory may come at any time
abbrev pub StopsAt : {Y : Type 0} → Option Fault → Input → Result Y Stop → Type 0
StopsAt None left read = Unit {0}
StopsAt (Some f) left read = read ≡ Err (record { fault = f; input = left })

-- the answer is what should be read, and this is left
abbrev pub GivesAt : {X Y E : Type 0} → (E → Option Fault) → (X → Y) → Input → Result X E → Result (Y × Input) Stop → Type 0
GivesAt stop view left (Ok x) read = read ≡ Ok (view x, left)
GivesAt stop view left (Err e) read = StopsAt (stop e) left read
