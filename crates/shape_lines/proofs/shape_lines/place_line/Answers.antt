use Rattle.std.proofs.Common.{[], ◌∷◌, ◌++◌, ◌≡◌, true, sym, ap, ◌∙◌, map, subst}
use Rattle.shape_types.specs.Shapes.{drafts_of}
use Rattle.semantics_lines.specs.ShapeLines.{ShapeLine, head_line, is_line}
use Rattle.semantics_lines.specs.ShapeText.{AreLines, may_stand, first_place, place_after}
use Rattle.shape_lines.specs.ShapeLines.{shape_line, head_view}
use Rattle.shape_lines.specs.ShapeReading.{IsNamed, named_drafts}
use Rattle.shape_lines.proofs.LineSteps.{on_ok, no_head, head_placed, head_drafts, other_placed, other_drafts}
use Rattle.shape_lines.proofs.shape_lines.place_line.Goals as goal

pub returns-in-Head-clause-good : goal.returns-in-Head-clause-good
returns-in-Head-clause-good c =
    let ls = map shape_line c.args.lines.now in
    let l = shape_line c.args.line.now in
    let name = c.in-Head.name.now in
    let head = head_view c.in-Head.head in
    let drafts = drafts_of c.name_shape.new.builder in
    let is : l ≡ head_line name head = ap shape_line c.in-Head.is in
    on_ok c.name_shape.result (IsNamed ls name drafts) (AreLines (ls ++ l ∷ [])) c.name_shape.ensures.named
    (λ n. subst (λ (x : ShapeLine). AreLines (ls ++ x ∷ [])) (sym is) (head_placed ls name head drafts c.requires.good (ap is_line (sym is) ∙ c.requires.line) n))

pub returns-in-Head-clause-named : goal.returns-in-Head-clause-named
returns-in-Head-clause-named c =
    let ls = map shape_line c.args.lines.now in
    let l = shape_line c.args.line.now in
    let name = c.in-Head.name.now in
    let head = head_view c.in-Head.head in
    let drafts = drafts_of c.name_shape.new.builder in
    let is : l ≡ head_line name head = ap shape_line c.in-Head.is in
    on_ok c.name_shape.result (IsNamed ls name drafts) (drafts ≡ named_drafts (ls ++ l ∷ [])) c.name_shape.ensures.named
    (λ n. head_drafts ls name head drafts n ∙ ap (λ x. named_drafts (ls ++ x ∷ [])) (sym is))

pub returns-in_default : goal.returns-in_default
returns-in_default c =
    let ls = map shape_line c.args.lines.now in
    let l = shape_line c.args.line.now in
    let other = no_head c.args.line.now c.in_default.not-Head in
    let may : may_stand (place_after first_place ls) l ≡ true = ap (λ p. may_stand p l) (sym c.requires.place) ∙ sym c.may_stand.ensures ∙ c.if-not-may_stand.false in
    record {
      good = other_placed ls l c.requires.good c.requires.line other may;
      named = other_drafts ls l (drafts_of c.args.builder.now) other c.requires.named;
      refused = tt;
    }
