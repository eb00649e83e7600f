use Rattle.std.proofs.Common.{refl, sym, ◌∙◌, map, subst}
use Rattle.shape_lines.specs.declared.shape_fault.ReadShapesError.{ReadShapesError}
use Rattle.shape_lines.specs.ShapeLines.{shape_line}
use Rattle.shape_lines.specs.ShapeScopes.{IsReferenceFault}
use Rattle.shape_lines.proofs.Defining.{unknown_at}
use Rattle.shape_lines.proofs.shape_names.check_references.Goals as goal

pub returns-then-not-is_known-clause-refused : goal.returns-then-not-is_known-clause-refused
returns-then-not-is_known-clause-refused c =
    subst (λ (e : ReadShapesError). IsReferenceFault c.args.names.now (map shape_line c.args.lines.now) e) (sym c.fault.ensures)
    (unknown_at c.args.names.now c.args.lines.now c.lines.at _ _ _ c.lines-test.true refl c.lines.invariant (sym c.is_known.ensures ∙ c.if-not-is_known.true) refl refl)
