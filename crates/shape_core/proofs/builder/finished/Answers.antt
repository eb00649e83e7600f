use Rattle.std.proofs.Common.{arith}
use Rattle.std.proofs.lemmas.Grind.{common_steps}
use Rattle.std.proofs.lemmas.List.{map-append}
use Rattle.std.proofs.lemmas.List.Elements.{filter_map-append}
use Rattle.shape_core.specs.Builder.{finished}
use Rattle.shape_types.specs.Shapes.{drafts_of, draft_of}
use Rattle.shape_core.proofs.builder.finished.Goals as goal

pub loop-draft-preserved-in-Continue-1 : goal.loop-draft-preserved-in-Continue-1
loop-draft-preserved-in-Continue-1 c =
    rw (map-append draft_of c.loop-draft.yielded, filter_map-append finished (drafts_of c.loop-draft.yielded), c.in-Some-def.is) (grind (arith, common_steps))

pub loop-draft-preserved : goal.loop-draft-preserved
loop-draft-preserved c =
    rw (map-append draft_of c.loop-draft.yielded, filter_map-append finished (drafts_of c.loop-draft.yielded), c.in_default.is) (grind (arith, common_steps))
