-- The reader's and the writer's clauses, and the laws that join them.
use Rattle.shape_types.specs.Shapes.{registry}
use Rattle.shape_types.specs.Trees.{tree_of}
use Rattle.recode_top.proofs.RecodeLaws.{answer_sound, answer_room, answer_complete, answer_cause, refused_complete, refused_cause}
use Rattle.recode_top.proofs.recoding.recode.Goals as goal

pub returns-in-Err-clause-complete : goal.returns-in-Err-clause-complete
returns-in-Err-clause-complete c d some is =
    refused_complete (registry c.args.shapes.now) c.args.root.0 c.args.depth c.args.input.now (c.tape_is_read.ensures c.args.input.now) c.args.capacity
    c.in-Err.error c.in-Err.ensures.found some d is

pub returns-in-Err-clause-canonical : goal.returns-in-Err-clause-canonical
returns-in-Err-clause-canonical c value d some valid =
    refused_complete (registry c.args.shapes.now) c.args.root.0 c.args.depth c.args.input.now (c.tape_is_read.ensures c.args.input.now) c.args.capacity
    c.in-Err.error c.in-Err.ensures.found some d
    (c.valid_is_readable.ensures (registry c.args.shapes.now) c.rules.ensures c.args.root.0 c.args.depth c.args.input.now value d valid)

pub returns-in-Err-clause-cause : goal.returns-in-Err-clause-cause
returns-in-Err-clause-cause c =
    refused_cause (registry c.args.shapes.now) c.args.root.0 c.args.depth c.args.input.now (c.tape_is_read.ensures c.args.input.now) c.args.capacity
    c.in-Err.error c.in-Err.ensures.refused

pub returns-in-Ok-clause-sound : goal.returns-in-Ok-clause-sound
returns-in-Ok-clause-sound c =
    answer_sound (registry c.args.shapes.now) c.args.root.0 c.args.depth c.args.input.now (c.tape_is_read.ensures c.args.input.now) c.args.capacity
    (tree_of c.in-Ok.value) c.in-Ok.ensures.read c.rewritten.result c.rewritten.ensures.written

pub returns-in-Ok-clause-room : goal.returns-in-Ok-clause-room
returns-in-Ok-clause-room c =
    answer_room (registry c.args.shapes.now) c.args.root.0 c.args.depth c.args.input.now (c.tape_is_read.ensures c.args.input.now) c.args.capacity
    (tree_of c.in-Ok.value) c.in-Ok.ensures.read c.rewritten.result

pub returns-in-Ok-clause-complete : goal.returns-in-Ok-clause-complete
returns-in-Ok-clause-complete c d some is =
    answer_complete (registry c.args.shapes.now) c.args.root.0 c.args.depth c.args.input.now (c.tape_is_read.ensures c.args.input.now) c.args.capacity
    c.in-Ok.value c.in-Ok.ensures.found some c.rewritten.result c.rewritten.ensures.written c.rewritten.ensures.refused d is

pub returns-in-Ok-clause-canonical : goal.returns-in-Ok-clause-canonical
returns-in-Ok-clause-canonical c value d some valid =
    answer_complete (registry c.args.shapes.now) c.args.root.0 c.args.depth c.args.input.now (c.tape_is_read.ensures c.args.input.now) c.args.capacity
    c.in-Ok.value c.in-Ok.ensures.found some c.rewritten.result c.rewritten.ensures.written c.rewritten.ensures.refused d
    (c.valid_is_readable.ensures (registry c.args.shapes.now) c.rules.ensures c.args.root.0 c.args.depth c.args.input.now value d valid)

pub returns-in-Ok-clause-cause : goal.returns-in-Ok-clause-cause
returns-in-Ok-clause-cause c =
    answer_cause (registry c.args.shapes.now) c.args.root.0 c.args.depth c.args.input.now (c.tape_is_read.ensures c.args.input.now) c.args.capacity
    (tree_of c.in-Ok.value) c.in-Ok.ensures.read c.rewritten.result c.rewritten.ensures.refused
