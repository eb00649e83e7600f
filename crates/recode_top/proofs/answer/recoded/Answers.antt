-- A refusal of recoding as a stop of the program.
use Rattle.shape_types.specs.Shapes.{registry}
use Rattle.recode_top.proofs.Answering.{tape_refused, tape_complete}
use Rattle.recode_top.proofs.answer.recoded.Goals as goal

pub returns-in-Err-clause-stop : goal.returns-in-Err-clause-stop
returns-in-Err-clause-stop c =
    tape_refused (registry c.args.shapes.now) c.args.root.0 c.args.capacity c.args.depth c.args.tape.now c.in-Err.error c.tape_stop-stop.result c.in-Err.ensures.cause c.in-Err.ensures.complete c.tape_stop-stop.ensures

pub returns-in-Err-clause-complete : goal.returns-in-Err-clause-complete
returns-in-Err-clause-complete c document some readable =
    tape_complete (registry c.args.shapes.now) c.args.root.0 c.args.capacity c.args.depth c.args.tape.now c.in-Err.error c.tape_stop-stop.result c.in-Err.ensures.cause c.in-Err.ensures.complete c.tape_stop-stop.ensures document some readable
