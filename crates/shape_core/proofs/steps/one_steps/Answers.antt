use Rattle.shape_types.specs.Shapes.{drafts_of}
use Rattle.shape_core.specs.Walks.{IsWalk}
use Rattle.shape_core.proofs.Lists.{each_more, one_longer}
use Rattle.shape_core.proofs.steps.one_steps.Goals as goal

pub shapes-preserved : goal.shapes-preserved
shapes-preserved c = record {
  all = one_longer c.shapes.walks c.push.new.self _ _ c.shapes.invariant.all c.in_ok-push.ensures.ok;
  each = each_more (IsWalk (drafts_of c.args.drafts.now) _) c.shapes.walks c.push.new.self _ _ c.shapes.invariant.all c.in_ok-push.ensures.ok c.shapes.invariant.each c.one_step.ensures;
}
