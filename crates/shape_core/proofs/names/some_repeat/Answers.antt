use Rattle.std.proofs.Common.{◌∙◌, ◌+◌, sym}
use Rattle.shape_core.proofs.Tables.{next_held, next_repeats, front_repeats, was_there, was_not_there}
use Rattle.shape_core.proofs.names.some_repeat.Goals as goal

pub returns-then-not-branch : goal.returns-then-not-branch
returns-then-not-branch c =
    let names = c.args.names.now in
    let here = next_repeats names c.names.name-index _ c.names.seen c.names-test.true c.names.invariant.seen c.names.invariant.none in
    sym (front_repeats names (c.names.name-index + 1) (here ∙ was_there _ _ c.in_ok-insert.ensures.added c.if-not-branch.true))

pub names-preserved : goal.names-preserved
names-preserved c =
    let names = c.args.names.now in
    record {
      seen = next_held names c.names.name-index _ c.names.seen c.insert.new.self c.names-test.true c.names.invariant.seen c.in_ok-insert.ensures.updates;
      none = next_repeats names c.names.name-index _ c.names.seen c.names-test.true c.names.invariant.seen c.names.invariant.none ∙ was_not_there _ _ c.in_ok-insert.ensures.added c.if-not-branch.false;
    }
