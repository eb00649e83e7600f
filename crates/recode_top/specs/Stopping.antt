-- What the program says where it stops, and the status that it ends with.
use Rattle.std.specs.Prelude.{ℕ, List, [], ◌∷◌, ◌++◌, codes}
use Rattle.recode_top.specs.declared.stop.Stop.{Stop}
use Rattle.recode_top.specs.declared.stop.Stop.TheVariants as stop

-- the status of each stop
abbrev pub status_of : Stop → ℕ
status_of (stop.Refused text) = 1
status_of stop.Usage = 2
status_of stop.NoDivider = 3
status_of (stop.Shapes text) = 3
status_of (stop.UnknownRoot root) = 3
status_of stop.ReadFault = 4
status_of stop.WriteFault = 5
status_of stop.Memory = 6
status_of stop.TooLong = 7

-- the line that is written to the notes
abbrev pub note_of : Stop → List ℕ
note_of stop.Usage = codes "usage: recode ROOT [CAPACITY DEPTH]\n"
note_of stop.ReadFault = codes "error: read fault\n"
note_of stop.TooLong = codes "error: input too long\n"
note_of stop.NoDivider = codes "error: no --- line\n"
note_of (stop.Shapes text) = codes "error: shapes line " ++ (text ++ 10 ∷ [])
note_of (stop.UnknownRoot root) = codes "error: unknown root " ++ (root.now ++ 10 ∷ [])
note_of (stop.Refused text) = codes "error: " ++ (text ++ 10 ∷ [])
note_of stop.WriteFault = codes "error: write fault\n"
note_of stop.Memory = codes "error: out of memory\n"

-- a stop of reading the input
abbrev pub IsReadStop : Stop → Type 0
IsReadStop stop.ReadFault = Unit {0}
IsReadStop stop.TooLong = Unit {0}
IsReadStop stop.Memory = Unit {0}
IsReadStop _ = ⊥
