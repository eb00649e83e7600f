-- What is left is the first event that comes.
use Rattle.std.proofs.Common.{rules}
use Rattle.read_steps.specs.Stops.{told_stop}
use Rattle.read_steps.specs.Tasks.{terms_of}
use Rattle.read_steps.specs.Views.{frames_of}
use Rattle.format_read.specs.Deserializers.{owner_of}
use Rattle.format_read.proofs.Turns.{left_fails}
use Rattle.format_read.proofs.deserializer.FormatDeserializer.look.Goals as goal

pub returns-then-leaves-clause-fault : goal.returns-then-leaves-clause-fault
returns-then-leaves-clause-fault g c tells =
    let parser = g.P.FormatParser in
    let claim : g.claim c.lifetimes = search rules in
    let now = c.args.self.now in
    let terms = terms_of c.args.task.now in
    left_fails parser.tells (told_stop c.refuse_left.result) terms (frames_of terms c.args.frames.now) c.in-Some.event.now (parser.parsing now.parser.now) (owner_of now) now.queue now.last
    ((g.met.P.FormatParser c.lifetimes claim).told now.parser.now) c.requires.capacity c.in-Some.ensures c.leaves.result c.leaves.ensures c.if-leaves.true c.refuse_left.ensures.exact tells
