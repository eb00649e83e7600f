use Rattle.std.proofs.Common.{◌≡◌, drop, map}
use Rattle.std.specs.List.{list_all}
use Rattle.shape_core.specs.Builder.{draft_is_utf8}
use Rattle.shape_types.specs.Shapes.{draft_of}
use Rattle.shape_core.proofs.utf8.drafts_utf8.Given as goal

abbrev pub invariant-loop-draft : goal.invariant-loop-draft
invariant-loop-draft l = list_all draft_is_utf8 (map draft_of (drop l.draft-index l.drafts)) ≡ list_all draft_is_utf8 (map draft_of l.drafts)
