use Rattle.std.proofs.Common.{◌≡◌, ◌++◌, ◌∙◌}
use Rattle.semantics_lines.specs.Calls.{default_settings}
use Rattle.semantics_lines.specs.Tapes.{calls_tape}
use Rattle.tape_text.specs.Writer.{plain_writing}
use Rattle.shape_types.specs.Trees.{tree_of}
use Rattle.format_write.specs.Wrote.{writer}
use Rattle.recode_top.proofs.Tapes.{tape_written, tape_unwritten}
use Rattle.recode_top.proofs.writing.write_tape.Goals as goal

pub returns-in-Ok-clause-written : goal.returns-in-Ok-clause-written
returns-in-Ok-clause-written c =
    tape_written c.calls_write.ensures (writer default_settings c.args.shapes.now) c.args.root.0 (tree_of c.args.value.now) c.into_bytes.result c.in-Ok.ensures.0
    (c.into_bytes.ensures ∙ (rw c.new-writer.ensures at c.in-Ok.ensures.1))

pub returns-in-Err-clause-refused : goal.returns-in-Err-clause-refused
returns-in-Err-clause-refused c =
    tape_unwritten c.calls_write.ensures (writer default_settings c.args.shapes.now) c.args.root.0 (tree_of c.args.value.now)
    (λ calls. c.serialize_root.new.serializer ≡ c.new-writer.result ++ calls_tape calls) plain_writing plain_writing c.in-Err.error c.in-Err.ensures.0
