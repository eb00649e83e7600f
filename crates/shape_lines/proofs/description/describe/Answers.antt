use Rattle.std.proofs.Common.{List, ℕ, ◌≡◌, true, map, subst}
use Rattle.std.specs.List.{list_all}
use Rattle.std.proofs.lemmas.Result.{err_from_is_err_and}
use Rattle.semantics_lines.specs.ShapeText.{is_known}
use Rattle.shape_lines.specs.ShapeLines.{shape_line}
use Rattle.shape_lines.specs.ShapeScopes.{IsReferenceFault}
use Rattle.shape_lines.proofs.description.describe.Goals as goal

pub returns-in_err-check_references-clause-refused : goal.returns-in_err-check_references-clause-refused
returns-in_err-check_references-clause-refused c =
    let ls = map shape_line c.args.lines.now in
    let e = c.in_err-check_references.field-0.0 in
    let p = err_from_is_err_and c.from_residual-in_err-check_references.result c.from_residual-in_err-check_references.ensures.1 in
    let found = subst (λ (x : List (List ℕ)). IsReferenceFault x ls e) c.in_ok-names.ensures c.in_err-check_references.ensures.refused in
    rw (p.1, p.2) found

pub returns-clause-known : goal.returns-clause-known
returns-clause-known c =
    let ls = map shape_line c.args.lines.now in
    subst (λ (x : List (List ℕ)). list_all (is_known x) ls ≡ true) c.in_ok-names.ensures c.in_ok-check_references.ensures.known
