use Rattle.std.proofs.Common.{◌≡◌}
use Rattle.std.specs.List.{filter_map}
use Rattle.shape_core.specs.Builder.{finished}
use Rattle.shape_types.specs.Shapes.{drafts_of, registry}
use Rattle.shape_core.proofs.builder.finished.Given as goal

abbrev pub invariant-loop-draft : goal.invariant-loop-draft
invariant-loop-draft l = registry l.shapes ≡ filter_map finished (drafts_of l.yielded)
