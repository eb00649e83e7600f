use Rattle.std.proofs.Common.{refl, rules}
use Rattle.format_read.proofs.Taken.{taken_exact, taken_left, taken_fewer}
use Rattle.format_read.specs.Deserializers.{owner_of}
use Rattle.format_read.proofs.deserializer.FormatDeserializer.pull.Goals as goal

pub returns-in-Ok-Some : goal.returns-in-Ok-Some
returns-in-Ok-Some g c =
    let parser = g.P.FormatParser in
    let claim : g.claim c.lifetimes = search rules in
    let now = c.args.self.now in
    let took = rw c.in-Ok-Some.field-0-is at c.in-Ok-Some.ensures.took in
    let p = parser.parsing now.parser.now in
    record {
      exact = taken_exact parser.tells c.in-Ok-Some.event p (owner_of now) now.queue c.take_ahead.new.queue now.last ((g.met.P.FormatParser c.lifetimes claim).told now.parser.now) c.requires.capacity took;
      first = took.ahead;
      last = refl;
      left = taken_left c.in-Ok-Some.event p (owner_of now) now.queue c.take_ahead.new.queue now.last took;
      fewer = taken_fewer c.in-Ok-Some.event p (owner_of now) now.queue c.take_ahead.new.queue now.last took;
    }
