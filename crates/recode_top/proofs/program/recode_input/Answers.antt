-- What can be recoded is.
use Rattle.std.proofs.Common.{List, ℕ, subst, ◌∙◌}
use Rattle.std.specs.Io.KnownBytes.{Appends}
use Rattle.semantics_lines.specs.Tapes.{document_tape}
use Rattle.recode_top.specs.Requests.{request_of}
use Rattle.recode_top.specs.Running.{world}
use Rattle.recode_top.proofs.Running.{is_answerable, input_completes}
use Rattle.recode_top.proofs.program.recode_input.Goals as goal

pub returns-in_default-clause-complete : goal.returns-in_default-clause-complete
returns-in_default-clause-complete g c document wanted = c.in_default.ensures wanted.request wanted.asked

pub returns-in-Err-answer-clause-complete : goal.returns-in-Err-answer-clause-complete
returns-in-Err-answer-clause-complete g c document asked =
    input_completes
    (world (g.S.Source.left c.args.source.now) (g.S.Source.faults c.args.source.now) (g.K.Sink.written c.args.sink.now) (g.K.Sink.faults c.args.sink.now))
    (world (g.S.Source.left c.read_input.new.source) (g.S.Source.faults c.read_input.new.source) (g.K.Sink.written c.args.sink.now) (g.K.Sink.faults c.args.sink.now))
    (document_tape document) c.in-Err-answer.stop
    (c.in-Err-answer.ensures.complete document
    (is_answerable c.args.words.now (request_of c.in-Some.request) c.in-Ok.input.items c.as_slice.result.now (g.S.Source.left c.read_input.new.source) document
    c.in-Some.ensures c.in-Ok.ensures.all.0 c.in-Ok.ensures.all.1 c.as_slice.ensures.value asked))

pub returns-in-Ok-write_all-clause-complete : goal.returns-in-Ok-write_all-clause-complete
returns-in-Ok-write_all-clause-complete g c document asked =
    subst (λ (x : List ℕ). Appends (g.K.Sink.written c.args.sink.now) (g.K.Sink.written c.write_all.new.sink) x)
    (c.as_slice-2.ensures ∙ c.in-Ok-answer.ensures.complete document
    (is_answerable c.args.words.now (request_of c.in-Some.request) c.in-Ok.input.items c.as_slice.result.now (g.S.Source.left c.read_input.new.source) document
    c.in-Some.ensures c.in-Ok.ensures.all.0 c.in-Ok.ensures.all.1 c.as_slice.ensures.value asked))
    c.in-Ok-write_all.ensures.all
