-- A source and a sink in memory, and what a call makes of them.
use Rattle.std.specs.Prelude.{ℕ, ◌-◌, min, nat_eq, List, ◌++◌, length, take, drop, Bool, cond}
use Rattle.std.specs.List.{list_any}
use Rattle.recode_top.specs.Outside.Counting.{one_more, unless_stuck}

-- the calls made, the numbers of those that fail, and the faults so far
pub record Counts : Type 0 where
  pub made : ℕ
  pub failing : List ℕ
  pub faults : ℕ

-- the next call is one of those that fail
abbrev pub is_due : Counts → Bool
is_due c = list_any (λ n. nat_eq n c.made) c.failing

-- a call is made
abbrev pub begun : Counts → Counts
begun c = record { made = one_more c.made; failing = c.failing; faults = c.faults }

-- a fault is met
abbrev pub failed : Counts → Counts
failed c = record { made = c.made; failing = c.failing; faults = one_more c.faults }

-- the bytes left and the calls
pub record Input : Type 0 where
  pub left : List ℕ
  pub calls : Counts

-- the source after a read of at most so many bytes
abbrev pub after_read : Input → ℕ → Input
after_read s most = cond (is_due s.calls)
    (record { left = s.left; calls = failed (begun s.calls) })
    (record { left = drop most s.left; calls = begun s.calls })

-- the bytes written, how many there may be, and the calls
pub record Output : Type 0 where
  pub written : List ℕ
  pub room : ℕ
  pub calls : Counts

-- how many of so many bytes are taken: as many as the room left holds
abbrev pub taken : Output → ℕ → ℕ
taken s n = min n (s.room - length s.written)

-- the sink with these bytes as far as they are taken
abbrev pub kept : Output → List ℕ → Output
kept s bytes = record { written = s.written ++ take (taken s (length bytes)) bytes; room = s.room; calls = s.calls }

-- the calls after one that took so many of so many bytes
abbrev pub ended : ℕ → ℕ → Counts → Counts
ended count n c = record { made = c.made; failing = c.failing; faults = unless_stuck count n c.faults }

-- the sink after a write of these bytes
abbrev pub after_write : Output → List ℕ → Output
after_write s bytes = cond (is_due s.calls)
    (record { written = s.written; room = s.room; calls = failed (begun s.calls) })
    (record {
      written = s.written ++ take (taken s (length bytes)) bytes;
      room = s.room;
      calls = ended (taken s (length bytes)) (length bytes) (begun s.calls);
    })
