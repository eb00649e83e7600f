use Rattle.std.proofs.Common.{take}
use Rattle.std.specs.List.{flat_map}
use Rattle.std.specs.Fmt.{HasWritten, IsPlainFormatter}
use Rattle.event_core.specs.ErrorTexts.{step_text}
use Rattle.event_core.proofs.path.write_steps.Given as goal

-- the steps so far are written
abbrev pub invariant-steps : goal.invariant-steps
invariant-steps g l =
    IsPlainFormatter l.initial.f → HasWritten g.W.Write.write_str_gives l.initial.f (flat_map step_text (take l.step-index l.steps)) l.f
