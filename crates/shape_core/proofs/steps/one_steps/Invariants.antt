use Rattle.std.proofs.Common.{◌≡◌, ℕ, Some, length}
use Rattle.std.specs.Prelude.{slice_get}
use Rattle.shape_types.specs.Shapes.{drafts_of}
use Rattle.shape_core.specs.declared.steps.Walk.{Walk}
use Rattle.shape_core.specs.Walks.{IsWalk}
use Rattle.shape_core.proofs.steps.one_steps.Given as goal

abbrev pub invariant-shapes : goal.invariant-shapes
invariant-shapes l = record {
  all : length l.walks ≡ l.from;
  each : (s : ℕ) (w : Walk) → slice_get l.walks s ≡ Some w → IsWalk (drafts_of l.drafts) 1 s w;
}
