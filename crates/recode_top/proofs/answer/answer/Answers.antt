-- What is answered, whichever part stops.
use Rattle.shape_types.specs.Shapes.{registry}
use Rattle.semantics_lines.specs.Tapes.{document_tape}
use Rattle.recode_top.specs.Requests.{request_of}
use Rattle.recode_top.proofs.Answering.{is_loaded, stop_made, shapes_refused, fault_excluded, root_found, readable_here}
use Rattle.recode_top.proofs.answer.answer.Goals as goal

pub returns-in-Err-clause-stop : goal.returns-in-Err-clause-stop
returns-in-Err-clause-stop c =
    shapes_refused (request_of c.args.request) c.args.input.now c.in-Some.text.now c.in-Some.tape.now c.in-Err.error c.shapes_stop.result c.in-Some.ensures c.in-Err.ensures.fault c.shapes_stop.ensures

pub returns-in-Err-clause-complete : goal.returns-in-Err-clause-complete
returns-in-Err-clause-complete c document answerable =
    fault_excluded c.one_division.ensures c.one_shape_text.ensures (request_of c.args.request) c.args.input.now c.in-Some.text.now c.in-Some.tape.now c.in-Some.ensures c.in-Err.error c.shapes_stop.result (document_tape document) document c.in-Err.ensures.fault c.shapes_stop.ensures answerable

pub returns-in-Some-find-clause-stop : goal.returns-in-Some-find-clause-stop
returns-in-Some-find-clause-stop c =
    stop_made (request_of c.args.request) c.args.input.now (registry c.in-Ok.shapes) c.in-Some-find.root.0 c.in-Some.tape.now c.recoded.result
    (is_loaded c.args.request.root.now c.args.input.now c.in-Some.text.now c.in-Some.tape.now (registry c.in-Ok.shapes) c.in-Some-find.root.0 c.in-Some.ensures c.in-Ok.ensures.shapes c.in-Some-find.ensures)
    c.recoded.ensures.stop

pub returns-in-Some-find-clause-complete : goal.returns-in-Some-find-clause-complete
returns-in-Some-find-clause-complete c document answerable =
    c.recoded.ensures.complete document answerable.room
    (readable_here c.one_division.ensures c.one_shape_text.ensures (request_of c.args.request) c.args.input.now c.in-Some.text.now c.in-Some.tape.now c.in-Some.ensures
    (registry c.in-Ok.shapes) c.in-Some-find.root.0 document c.in-Ok.ensures.shapes c.in-Some-find.ensures answerable)

pub returns-clause-complete : goal.returns-clause-complete
returns-clause-complete c document answerable =
    root_found c.one_division.ensures c.one_shape_text.ensures (request_of c.args.request) c.args.input.now c.in-Some.text.now c.in-Some.tape.now c.in-Some.ensures
    (registry c.in-Ok.shapes) document c.in-Ok.ensures.shapes c.in-None.ensures answerable
