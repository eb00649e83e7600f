-- What is refused of an event that was taken stands there.
use Rattle.event_core.specs.Metadata.{span_view}
use Rattle.read_steps.specs.Stops.{told_stop}
use Rattle.read_steps.specs.Tasks.{terms_of}
use Rattle.read_steps.specs.Views.{frames_of}
use Rattle.format_read.proofs.Turns.{taken_stands}
use Rattle.format_read.proofs.deserializer.FormatDeserializer.take_step.Goals as goal

pub returns-in-Err-step-clause-stands : goal.returns-in-Err-step-clause-stands
returns-in-Err-step-clause-stands g c =
    let terms = terms_of c.args.task.now in
    taken_stands c.faults_of_steps.ensures (told_stop c.in-Err-step.stop) terms (frames_of terms c.args.reading.now.frames) (span_view c.args.self.now.last) c.in-Ok.event
    c.args.self.now.queue.ahead c.pull.new.self.queue.ahead c.pull.new.self.last c.in-Ok.ensures.first c.requires.admitted c.in-Ok.ensures.last c.in-Err-step.ensures.exact
