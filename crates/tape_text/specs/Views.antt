-- What is read of a line, as the definitions see it.
use Rattle.std.specs.Option.{option_map}
use Rattle.semantics_lines.specs.Events.{of_struct, of_sequence}
use Rattle.shape_types.specs.Texts.{phrase_of}
use Rattle.event_core.specs.Events.{scalar_of, bytes_at}
use Rattle.tape_text.specs.Bodies.{Body, opens, closes, next_field, names, tags, holds}
use Rattle.tape_text.specs.declared.body.LineBody.{LineBody}
use Rattle.tape_text.specs.declared.body.LineBody.TheVariants as bodies

-- a body, with nothing of where its texts lie
abbrev pub body_of : LineBody → Body
body_of bodies.StructStart = opens of_struct
body_of bodies.StructEnd = closes of_struct
body_of bodies.SequenceStart = opens of_sequence
body_of bodies.SequenceEnd = closes of_sequence
body_of bodies.OrderedField = next_field
body_of (bodies.Key t) = names (option_map phrase_of t)
body_of (bodies.Tag t) = tags (option_map bytes_at t)
body_of (bodies.Scalar s) = holds (scalar_of s)
