use Rattle.std.proofs.Common.{rules}
use Rattle.format_read.proofs.Ahead.{refused_fault}
use Rattle.format_read.specs.Deserializers.{owner_of}
use Rattle.format_read.proofs.deserializer.FormatDeserializer.refill.Goals as goal

pub returns-in-Err-clause-fault : goal.returns-in-Err-clause-fault
returns-in-Err-clause-fault g c =
    let parser = g.P.FormatParser in
    let claim : g.claim c.lifetimes = search rules in
    refused_fault parser.tells c.in-Err.error (parser.parsing c.args.self.now.parser.now) (parser.parsing c.read_batch.new.parser) (owner_of c.args.self.now) c.args.self.now.queue c.args.self.now.last
    ((g.met.P.FormatParser c.lifetimes claim).told c.args.self.now.parser.now) c.requires.capacity c.requires.empty c.in-Err.ensures.failed c.in-Err.ensures.fault
