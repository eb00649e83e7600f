-- How a run ends.
use Rattle.std.proofs.Common.{sym, ◌∙◌}
use Rattle.recode_top.specs.Running.{world, stopped}
use Rattle.recode_top.proofs.Running.{usage_of, completes_with}
use Rattle.recode_top.proofs.program.run.Goals as goal

pub returns-in-Err-clause-ends : goal.returns-in-Err-clause-ends
returns-in-Err-clause-ends g c = stopped c.in-Err.stop c.status.ensures c.in-Err.ensures.stop c.note.ensures.said

pub returns-in-Err-clause-usage : goal.returns-in-Err-clause-usage
returns-in-Err-clause-usage g c =
    let usage = usage_of c.args.words.now
    (world (g.S.Source.left c.args.source.now) (g.S.Source.faults c.args.source.now) (g.K.Sink.written c.args.sink.now) (g.K.Sink.faults c.args.sink.now))
    (world (g.S.Source.left c.recode_input.new.source) (g.S.Source.faults c.recode_input.new.source) (g.K.Sink.written c.recode_input.new.sink) (g.K.Sink.faults c.recode_input.new.sink))
    c.in-Err.stop c.in-Err.ensures.stop in
    (λ e. usage.0 (sym c.status.ensures ∙ e), λ other. c.status.ensures ∙ usage.1 other)

pub returns-in-Err-clause-complete : goal.returns-in-Err-clause-complete
returns-in-Err-clause-complete g c document asked = completes_with c.in-Err.stop c.status.result c.status.ensures (c.in-Err.ensures.complete document asked)
