use Rattle.laws_causes.proofs.Theorem.{stopping_fails}
use Rattle.laws_causes.proofs.stopping_fails.Goals as goal

pub returns : goal.returns
returns c = stopping_fails
