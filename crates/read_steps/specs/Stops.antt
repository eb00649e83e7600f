-- Why reading stops, and the fault that the definitions tell.
use Rattle.std.specs.Prelude.{◌≡◌, ◌≢◌, Option, Some, None, Result, Ok, Err}
use Rattle.semantics_lines.specs.Faults.{Fault}
use Rattle.event_core.specs.Faults.{fault_of}
use Rattle.read_steps.specs.declared.stop.ReadStop.{ReadStop}
use Rattle.read_steps.specs.declared.stop.ReadStop.TheVariants as stop

-- the fault, where it is none of memory
abbrev pub told_stop : ReadStop → Option Fault
told_stop stop.Alloc = None
told_stop (stop.Fault e) = Some (fault_of e)

-- it is this fault, or want of memory
abbrev pub IsFault : Option Fault → Fault → Type 0
IsFault None f = Unit {0}
IsFault (Some e) f = e ≡ f

-- what should be read is a fault, and it is this one; want of memory may come at any time
abbrev pub Fails : {Y : Type 0} → Option Fault → Result Y Fault → Type 0
Fails None read = Unit {0}
Fails (Some f) read = read ≡ Err f

-- the answer is what should be read
abbrev pub Gives : {X Y E : Type 0} → (E → Option Fault) → (X → Y) → Result X E → Result Y Fault → Type 0
Gives stop view (Ok x) read = read ≡ Ok (view x)
Gives stop view (Err e) read = Fails (stop e) read

-- a fault of the value, which has a path, or want of memory
abbrev pub IsOwn : Option Fault → Type 0
IsOwn None = Unit {0}
IsOwn (Some f) = f.path ≢ None
