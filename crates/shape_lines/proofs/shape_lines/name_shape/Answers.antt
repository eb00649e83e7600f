use Rattle.std.proofs.Common.{refl, sym, ap, ◌∙◌, map, length, subst}
use Rattle.shape_types.specs.Shapes.{drafts_of}
use Rattle.shape_lines.specs.declared.shape_fault.ReadShapesError.{ReadShapesError}
use Rattle.shape_lines.specs.ShapeLines.{shape_line}
use Rattle.shape_lines.specs.ShapeReading.{IsFull}
use Rattle.shape_lines.proofs.LineSteps.{head_named, named_count}
use Rattle.shape_lines.proofs.shape_lines.name_shape.Goals as goal

pub returns-in-Ok-clause-named : goal.returns-in-Ok-clause-named
returns-in-Ok-clause-named c = head_named (map shape_line c.args.lines.now) c.args.name.now (drafts_of c.args.builder.now) (drafts_of c.name.new.self) c.requires c.in-Ok.ensures.room c.in-Ok.ensures.added

pub returns-in-Err-TooMany-clause-refused : goal.returns-in-Err-TooMany-clause-refused
returns-in-Err-TooMany-clause-refused c =
    let ls = map shape_line c.args.lines.now in
    subst (λ (e : ReadShapesError). IsFull ls e) (sym c.fault.ensures) (record {
      full = sym (named_count ls) ∙ sym (ap length c.requires) ∙ (rw c.in-Err-TooMany.field-0-is at c.in-Err-TooMany.ensures).cause;
      kind = refl;
      at = c.next_number.ensures;
    })
