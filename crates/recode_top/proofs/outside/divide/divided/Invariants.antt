use Rattle.std.proofs.Common.{ℕ, ◌≡◌, ◌≤◌, ◌-◌, List, length, take}
use Rattle.std.specs.List.{AllByRecursion}
use Rattle.semantics_lines.specs.Divided.{IsUndivided, joined}
use Rattle.recode_top.proofs.outside.divide.divided.Given as goal

abbrev pub invariant-lines : goal.invariant-lines
invariant-lines l = (l.at ≤ length l.input) × ((lines : List (List ℕ)) × AllByRecursion IsUndivided lines × (take l.at l.input ≡ joined lines))

abbrev pub decreases-lines : goal.decreases-lines
decreases-lines l = length l.input - l.at
