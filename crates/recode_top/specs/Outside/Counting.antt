-- When a read or a write may fail.
use Rattle.std.specs.Prelude.{ℕ, ◌+◌, ◌-◌, ◌^◌, ◌≤◌, min, nat_eq, ◌&&◌, not, cond, Result, OnErr}

-- one more, up to the last value
abbrev pub one_more : ℕ → ℕ
one_more n = min (n + 1) (2 ^ 64 - 1)

-- the count rose, or stands at its last value
abbrev pub Rose : ℕ → ℕ → Type 0
Rose old new = one_more old ≤ new

-- The count of faults never falls, and a call fails only where it rose.
pub record IsCounted {T E : Type 0} (old new : ℕ) (result : Result T E) : Type 0 where
  pub later : old ≤ new
  pub failed : OnErr result (Rose old new)

-- the faults after a write that took so many of so many bytes: none of some is a fault
abbrev pub unless_stuck : ℕ → ℕ → ℕ → ℕ
unless_stuck count n faults = cond (nat_eq count 0 && not (nat_eq n 0)) (one_more faults) faults
