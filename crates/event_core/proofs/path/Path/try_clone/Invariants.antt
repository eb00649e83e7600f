use Rattle.std.proofs.Common.{◌≡◌, take}
use Rattle.event_core.proofs.path.Path.try_clone.Given as goal

-- the copy has the steps so far
abbrev pub invariant-steps : goal.invariant-steps
invariant-steps l = l.copy ≡ take l.step-index l.self
