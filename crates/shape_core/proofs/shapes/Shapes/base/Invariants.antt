use Rattle.std.proofs.Common.{◌≡◌, ◌-◌, length}
use Rattle.semantics.specs.Typed.{base, base_within}
use Rattle.shape_types.specs.Shapes.{registry}
use Rattle.shape_core.proofs.shapes.Shapes.base.Given as goal

abbrev pub invariant-loop-step : goal.invariant-loop-step
invariant-loop-step l = base_within (registry l.self) (length (registry l.self) - l._step) l.at.0 ≡ base (registry l.self) l.fn.id.0
