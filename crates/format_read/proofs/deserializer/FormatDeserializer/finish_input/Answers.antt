-- What is answered for an event, the end of the events, or a fault.
use Rattle.format_read.specs.Deserializers.{seat_in}
use Rattle.format_read.specs.Taking.{told_parse}
use Rattle.format_read.proofs.Finish.{finishes_fault, takes_keep, fault_keeps, finish_source}
use Rattle.format_read.proofs.deserializer.FormatDeserializer.finish_input.Goals as goal

pub returns-in-Ok-clause-kept : goal.returns-in-Ok-clause-kept
returns-in-Ok-clause-kept g c tells =
    let parsing = g.P.FormatParser.parsing in
    let old = seat_in parsing c.args.self.now in
    let new = seat_in parsing c.next_event.new.self in
    takes_keep c.in-Ok.event old.input new.input (c.in-Ok.ensures.exact tells)

pub returns-in-Err-clause-exact : goal.returns-in-Err-clause-exact
returns-in-Err-clause-exact g c tells =
    let parsing = g.P.FormatParser.parsing in
    let old = seat_in parsing c.args.self.now in
    let new = seat_in parsing c.next_event.new.self in
    finishes_fault (told_parse c.in-Err.error) c.finish_error.result old.input new.input (c.in-Err.ensures.exact tells) c.finish_error.ensures.error

pub returns-in-Err-clause-kept : goal.returns-in-Err-clause-kept
returns-in-Err-clause-kept g c tells =
    let parsing = g.P.FormatParser.parsing in
    let old = seat_in parsing c.args.self.now in
    let new = seat_in parsing c.next_event.new.self in
    fault_keeps (told_parse c.in-Err.error) c.finish_error.result old.input new.input (c.in-Err.ensures.exact tells) c.finish_error.ensures.error

pub returns-in-Err-clause-cause : goal.returns-in-Err-clause-cause
returns-in-Err-clause-cause g c =
    let parsing = g.P.FormatParser.parsing in
    let old = seat_in parsing c.args.self.now in
    let new = seat_in parsing c.next_event.new.self in
    finish_source (told_parse c.in-Err.error) c.finish_error.result old new c.in-Err.ensures.cause c.finish_error.ensures.error
