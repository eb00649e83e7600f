use Rattle.std.proofs.Common.{◌≡◌, take}
use Rattle.shape_core.specs.Walks.{joined_all}
use Rattle.shape_core.proofs.steps.joined_all.Given as goal

abbrev pub invariant-walks : goal.invariant-walks
invariant-walks l = l.all ≡ joined_all l.behind (take l.walk-index l.walks)
