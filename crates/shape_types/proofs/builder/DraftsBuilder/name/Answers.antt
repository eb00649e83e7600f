use Rattle.std.proofs.Common.{◌<◌, length, arith}
use Rattle.shape_types.proofs.Drafts.{pushed}
use Rattle.shape_types.proofs.builder.DraftsBuilder.name.Goals as goal

pub invariant_of-self-2 : goal.invariant_of-self-2
invariant_of-self-2 c =
    let room : length c.self.inside.drafts.items < 65535 = omega (arith, c.self.inside.drafts.ok.0, c.len-count.ensures) in
    rw c.in_ok-push_draft.ensures.ok (pushed _ _ c.self.invariant room)
