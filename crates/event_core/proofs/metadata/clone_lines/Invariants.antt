use Rattle.std.proofs.Common.{◌≡◌, take}
use Rattle.event_core.proofs.metadata.clone_lines.Given as goal

-- the copy has the lines so far
abbrev pub invariant-lines : goal.invariant-lines
invariant-lines l = l.copy ≡ take l.line-index l.doc
