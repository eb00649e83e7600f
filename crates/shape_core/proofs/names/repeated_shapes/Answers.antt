use Rattle.std.proofs.Common.{not, ap, ◌∙◌}
use Rattle.shape_types.specs.declared.draft.Draft.{Draft}
use Rattle.shape_core.proofs.Lists.{each_more, one_longer}
use Rattle.shape_core.proofs.Tables.{Tells, next_known, next_draft_held}
use Rattle.shape_core.proofs.names.repeated_shapes.Goals as goal

pub drafts-preserved : goal.drafts-preserved
drafts-preserved c =
    let ds = c.args.drafts.now in
    let i = c.drafts.draft-index in
    let pushed = c.in_ok-push.ensures.ok in
    let called = c.as_str.ensures ∙ ap (λ (d : Draft). d.name) c.draft-item.is in
    let at = c.drafts.invariant.all in
    record {
      seen = next_draft_held ds i _ c.drafts.seen c.insert.new.self c.as_str.result c.drafts-test.true c.drafts.invariant.seen called c.in_ok-is_new.ensures.updates;
      all = one_longer c.drafts.repeats c.push.new.self i _ at pushed;
      each = each_more (Tells ds) c.drafts.repeats c.push.new.self i (not c.in_ok-is_new.is_new) at pushed c.drafts.invariant.each
          (next_known ds i _ c.drafts.seen c.as_str.result c.in_ok-is_new.is_new c.drafts-test.true c.drafts.invariant.seen called c.in_ok-is_new.ensures.added);
    }
