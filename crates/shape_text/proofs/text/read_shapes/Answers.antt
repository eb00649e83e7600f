use Rattle.std.proofs.Common.{List, ◌≡◌, ◌<◌, true, sym, ap, ◌∙◌, map, subst}
use Rattle.std.specs.List.{list_all}
use Rattle.std.proofs.lemmas.Result.{err_from_is_err_and}
use Rattle.semantics_lines.specs.Shapes.{Draft}
use Rattle.semantics.specs.Registry.{IsFirstFault}
use Rattle.semantics_lines.specs.ShapeText.{all_names, is_known, shape_count, shapes_of}
use Rattle.shape_types.specs.Faults.{shape_fault_of}
use Rattle.shape_lines.specs.declared.shape_line.ShapeLine as declared
use Rattle.shape_lines.specs.declared.shape_fault.ReadShapesError.{ReadShapesError}
use Rattle.shape_text.specs.ShapeErrors.{IsReadShapesError}
use Rattle.shape_lines.specs.ShapeLines.{shape_line}
use Rattle.shape_lines.specs.ShapeReading.{IsHeadAt}
use Rattle.shape_lines.specs.ShapeScopes.{IsReferenceFault}
use Rattle.shape_text.proofs.ShapeTexts.{line_error, reference_error, fault_is_shape, rule_error}
use Rattle.shape_text.proofs.text.read_shapes.Goals as goal

pub returns-in_err-lines-clause-fault : goal.returns-in_err-lines-clause-fault
returns-in_err-lines-clause-fault c =
    let p = err_from_is_err_and c.from_residual-in_err-lines.result c.from_residual-in_err-lines.ensures.1 in
    let fault = line_error c.args.text.now c.in_err-lines.field-0.0 c.in_err-lines.ensures.refused in
    rw (p.1, p.2) fault

pub returns-in_err-describe-clause-fault : goal.returns-in_err-describe-clause-fault
returns-in_err-describe-clause-fault c =
    let ls = map shape_line c.in_ok-lines.lines in
    let e = c.in_err-describe.field-0.0 in
    let p = err_from_is_err_and c.from_residual-in_err-describe.result c.from_residual-in_err-describe.ensures.1 in
    let found = subst (λ (x : List declared.ShapeLine). IsReferenceFault (all_names (map shape_line x)) (map shape_line x) e) c.as_slice.ensures c.in_err-describe.ensures.refused in
    let fault = reference_error c.args.text.now ls e c.in_ok-lines.ensures.lines found in
    rw (p.1, p.2) fault

pub line_of_shape-line-requires-clause-after_scalars : goal.line_of_shape-line-requires-clause-after_scalars
line_of_shape-line-requires-clause-after_scalars c =
    let ls = map shape_line c.as_slice.result.now in
    let f = shape_fault_of c.in-Err-Fault.found in
    let first = (rw c.in-Err-Fault.field-0-is at c.in-Err-Fault.ensures).cause in
    (fault_is_shape ls f (subst (λ (x : List Draft). IsFirstFault x f) c.in_ok-describe.ensures.shapes first)).0

pub line_of_shape-line-requires-clause-there : goal.line_of_shape-line-requires-clause-there
line_of_shape-line-requires-clause-there c =
    let ls = map shape_line c.as_slice.result.now in
    let f = shape_fault_of c.in-Err-Fault.found in
    let same : c.as_slice.result.now ≡ c.as_slice-in-Err-Fault.result.now = c.as_slice.ensures ∙ sym c.as_slice-in-Err-Fault.ensures in
    let first = (rw c.in-Err-Fault.field-0-is at c.in-Err-Fault.ensures).cause in
    let there = (fault_is_shape ls f (subst (λ (x : List Draft). IsFirstFault x f) c.in_ok-describe.ensures.shapes first)).1 in
    subst (λ (x : List declared.ShapeLine). c.in-Err-Fault.found.shape.0 < shape_count (map shape_line x)) same there

pub returns-in-Err-Fault-clause-fault : goal.returns-in-Err-Fault-clause-fault
returns-in-Err-Fault-clause-fault c =
    let ls = map shape_line c.in_ok-lines.lines in
    let f = shape_fault_of c.in-Err-Fault.found in
    let first = (rw c.in-Err-Fault.field-0-is at c.in-Err-Fault.ensures).cause in
    let drafts = subst (λ (x : List Draft). IsFirstFault x f) (c.in_ok-describe.ensures.shapes ∙ ap (λ x. shapes_of (map shape_line x)) c.as_slice.ensures) first in
    let known : list_all (is_known (all_names ls)) ls ≡ true = subst (λ (x : List declared.ShapeLine). list_all (is_known (all_names (map shape_line x))) (map shape_line x) ≡ true) c.as_slice.ensures c.in_ok-describe.ensures.known in
    let at = subst (λ (x : List declared.ShapeLine). IsHeadAt (map shape_line x) f.shape c.line_of_shape-line.result) c.as_slice-in-Err-Fault.ensures c.line_of_shape-line.ensures in
    subst (λ (e : ReadShapesError). IsReadShapesError c.args.text.now e) (sym c.fault.ensures) (rule_error c.args.text.now ls f c.line_of_shape-line.result c.in_ok-lines.ensures.lines known drafts at)
