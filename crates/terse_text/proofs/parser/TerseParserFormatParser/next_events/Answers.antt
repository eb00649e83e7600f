use Rattle.std.proofs.lemmas.Result.{err_from_is_err_and}
use Rattle.terse_text.specs.Parser.{parsing_of}
use Rattle.terse_text.proofs.Taking.{put_refuses}
use Rattle.terse_text.proofs.parser.TerseParserFormatParser.next_events.Goals as goal

pub returns-in_err-put_next-clause-refused : goal.returns-in_err-put_next-clause-refused
returns-in_err-put_next-clause-refused c =
    let p = err_from_is_err_and c.from_residual.result c.from_residual.ensures.1 in
    rw (p.1, p.2) (put_refuses c.events.count c.args.limit c.in_err-put_next.field-0.0 (parsing_of c.args.self.now) (parsing_of c.events.self) (parsing_of c.put_next.new.self) c.args.buf.now.items c.events.buf.items c.put_next.new.buf.items
    c.events.invariant.put c.events-test.true c.in_err-put_next.ensures.stays c.in_err-put_next.ensures.failed c.in_err-put_next.ensures.fault)
