use Rattle.std.proofs.Common.{List, [], ◌∷◌, ◌++◌, ◌≡◌, ◌+◌, sym, ap, ◌∙◌, map, length, subst}
use Rattle.std.proofs.lemmas.List.{map_push}
use Rattle.std.proofs.lemmas.Result.{err_from_is_err_and}
use Rattle.shape_types.specs.Shapes.{drafts_of}
use Rattle.semantics_lines.specs.ShapeLines.{ShapeLine}
use Rattle.semantics_lines.specs.ShapeText.{AreLines, lines_before, first_place, place_after}
use Rattle.shape_lines.specs.declared.shape_fault.ReadShapesError.{ReadShapesError}
use Rattle.shape_lines.specs.declared.shape_line.ShapeLine as declared
use Rattle.shape_lines.specs.ShapeLines.{shape_line}
use Rattle.shape_lines.specs.ShapePlaces.{place_view}
use Rattle.shape_lines.specs.ShapeReading.{IsLineFault, IsPlaceFault, named_drafts}
use Rattle.shape_lines.proofs.LineSteps.{LinesRead, lines_begin, lines_more, shorter, empty_left, refused_here}
use Rattle.shape_lines.proofs.shape_lines.read_lines.Goals as goal

pub lines-init : goal.lines-init
lines-init c =
    subst (λ (x : List declared.ShapeLine). LinesRead c.args.text.now c.args.text.now (map shape_line x) (place_view c.first_place-place.result) (drafts_of c.args.builder.now)) (sym c.new-lines.ensures)
    (lines_begin c.args.text.now (place_view c.first_place-place.result) (drafts_of c.args.builder.now) c.first_place-place.ensures c.requires)

pub returns-in-Err-clause-refused : goal.returns-in-Err-clause-refused
returns-in-Err-clause-refused c =
    let ls = map shape_line c.lines.lines in
    subst (λ (e : ReadShapesError). IsLineFault c.args.text.now e) (sym c.fault.ensures) (record {
      before = ls;
      left = c.lines.left.now;
      whole = c.lines.invariant.whole;
      good = c.lines.invariant.good;
      here = record { refused = c.in-Err.ensures.refused ls; at = c.next_number.ensures ∙ ap (λ x. length (map shape_line x) + 1) c.as_slice.ensures };
    })

pub returns-in_err-place_line-clause-refused : goal.returns-in_err-place_line-clause-refused
returns-in_err-place_line-clause-refused c =
    let p = err_from_is_err_and c.from_residual.result c.from_residual.ensures.1 in
    let fault = refused_here c.args.text.now c.lines.left.now c.in-Ok.found.1.now (map shape_line c.lines.lines) (shape_line c.in-Ok.found.0) (place_view c.lines.place) (drafts_of c.lines.builder) c.in_err-place_line.field-0.0 c.lines.invariant c.in-Ok.ensures.line
    (subst (λ (x : List declared.ShapeLine). IsPlaceFault (map shape_line x) (shape_line c.in-Ok.found.0) c.in_err-place_line.field-0.0) c.as_slice-in-lines.ensures c.in_err-place_line.ensures.refused) in
    rw (p.1, p.2) fault

pub lines-smaller : goal.lines-smaller
lines-smaller c = shorter (shape_line c.in-Ok.found.0) c.lines.left.now c.in-Ok.found.1.now c.in-Ok.ensures.line.1

pub place_line-requires-clause-place : goal.place_line-requires-clause-place
place_line-requires-clause-place c = c.lines.invariant.at ∙ ap (λ x. place_after first_place (map shape_line x)) (sym c.as_slice-in-lines.ensures)

pub lines-preserved : goal.lines-preserved
lines-preserved c =
    let ls = map shape_line c.lines.lines in
    let l = shape_line c.in-Ok.found.0 in
    let same : map shape_line c.push.new.self ≡ ls ++ l ∷ [] = ap (map shape_line) c.in_ok-push.ensures.ok ∙ map_push shape_line c.lines.lines c.in-Ok.found.0 in
    let slice : map shape_line c.as_slice-in-lines.result.now ++ l ∷ [] ≡ ls ++ l ∷ [] = ap (λ x. map shape_line x ++ l ∷ []) c.as_slice-in-lines.ensures in
    subst (λ (x : List ShapeLine). LinesRead c.args.text.now c.in-Ok.found.1.now x (place_view c.place_behind-place.result) (drafts_of c.place_line.new.builder)) (sym same)
    (lines_more c.args.text.now c.lines.left.now c.in-Ok.found.1.now ls l (place_view c.lines.place) (place_view c.place_behind-place.result) (drafts_of c.lines.builder) (drafts_of c.place_line.new.builder) c.lines.invariant c.in-Ok.ensures.line
    c.place_behind-place.ensures (subst (λ (x : List ShapeLine). AreLines x) slice c.in_ok-place_line.ensures.good) (c.in_ok-place_line.ensures.named ∙ ap named_drafts slice))

pub returns-clause-lines : goal.returns-clause-lines
returns-clause-lines c =
    let ls = map shape_line c.lines.lines in
    record {
      whole = c.lines.invariant.whole ∙ ap (lines_before ls) (empty_left c.lines.left.now c.lines-test.ensures);
      good = c.lines.invariant.good;
    }
