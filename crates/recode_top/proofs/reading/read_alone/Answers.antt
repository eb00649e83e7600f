-- What reading and then looking for the end says of a value that stands alone.
use Rattle.std.proofs.Common.{refl}
use Rattle.semantics.specs.Recoding.{tape_setting}
use Rattle.shape_types.specs.Shapes.{registry}
use Rattle.tape_text.specs.Parser.{parsing_of}
use Rattle.format_read.specs.Deserializers.{seat_in}
use Rattle.recode_top.proofs.Alone.{event_taken, refused_value, refused_found, refused_trailing, refused_behind, finds_another}
use Rattle.recode_top.proofs.reading.read_alone.Goals as goal

pub returns-in-Err-clause-found : goal.returns-in-Err-clause-found
returns-in-Err-clause-found c =
    refused_found (tape_setting (registry c.args.reader.now.plans.now.shapes.now)) c.args.root.0 c.args.reader.now.depth (seat_in parsing_of c.args.reader.now).input
    (seat_in parsing_of c.deserialize_value.new.self).input c.in-Err.error c.refused.result c.refused.ensures (c.in-Err.ensures.answers refl)

pub returns-in-Err-clause-refused : goal.returns-in-Err-clause-refused
returns-in-Err-clause-refused c =
    refused_value (tape_setting (registry c.args.reader.now.plans.now.shapes.now)) c.args.root.0 c.args.reader.now.depth (seat_in parsing_of c.args.reader.now).input
    c.in-Err.error c.refused.result c.refused.ensures (seat_in parsing_of c.deserialize_value.new.self).input (c.in-Err.ensures.caused refl)

pub returns-in-Ok-Some-clause-found : goal.returns-in-Ok-Some-clause-found
returns-in-Ok-Some-clause-found c =
    finds_another (tape_setting (registry c.args.reader.now.plans.now.shapes.now)) c.args.root.0 c.args.reader.now.depth (seat_in parsing_of c.args.reader.now).input
    (seat_in parsing_of c.deserialize_value.new.self).input c.in-Ok.value (c.in-Ok.ensures.read refl) (c.in-Ok.ensures.answers refl)
    c.in-Ok-Some.event (seat_in parsing_of c.finish_input.new.self).input.events c.trailing.result
    (event_taken (seat_in parsing_of c.deserialize_value.new.self).input (seat_in parsing_of c.finish_input.new.self).input c.in-Ok-Some.event c.in-Ok-Some.field-0 c.in-Ok-Some.field-0-is (c.in-Ok-Some.ensures.exact refl))

pub returns-in-Ok-Some-clause-refused : goal.returns-in-Ok-Some-clause-refused
returns-in-Ok-Some-clause-refused c =
    refused_trailing (tape_setting (registry c.args.reader.now.plans.now.shapes.now)) c.args.root.0 c.args.reader.now.depth (seat_in parsing_of c.args.reader.now).input
    (seat_in parsing_of c.deserialize_value.new.self).input c.in-Ok.value (c.in-Ok.ensures.read refl)
    c.in-Ok-Some.event (seat_in parsing_of c.finish_input.new.self).input.events c.trailing.result
    (event_taken (seat_in parsing_of c.deserialize_value.new.self).input (seat_in parsing_of c.finish_input.new.self).input c.in-Ok-Some.event c.in-Ok-Some.field-0 c.in-Ok-Some.field-0-is (c.in-Ok-Some.ensures.exact refl)) c.trailing.ensures

pub returns-clause-refused : goal.returns-clause-refused
returns-clause-refused c =
    refused_behind (tape_setting (registry c.args.reader.now.plans.now.shapes.now)) c.args.root.0 c.args.reader.now.depth (seat_in parsing_of c.args.reader.now).input
    (seat_in parsing_of c.deserialize_value.new.self).input c.in-Ok.value (c.in-Ok.ensures.read refl)
    (seat_in parsing_of c.finish_input.new.self).input c.in-Err-finish_input.error c.refused-in-Err-finish_input.result c.refused-in-Err-finish_input.ensures (c.in-Err-finish_input.ensures.exact refl)
