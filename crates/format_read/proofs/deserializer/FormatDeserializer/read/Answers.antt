-- Nothing is open before the value.
use Rattle.read_steps.specs.Tasks.{terms_of}
use Rattle.format_read.proofs.deserializer.FormatDeserializer.read.Goals as goal

pub await_value-requires : goal.await_value-requires
await_value-requires g c = c.new-reading.ensures.frames (terms_of c.args.task.now)
