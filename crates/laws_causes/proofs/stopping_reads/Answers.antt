use Rattle.laws_causes.proofs.Stops.{stopping_reads}
use Rattle.laws_causes.proofs.stopping_reads.Goals as goal

pub returns : goal.returns
returns c = stopping_reads
