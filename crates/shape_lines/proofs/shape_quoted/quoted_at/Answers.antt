use Rattle.std.proofs.Common.{sym, ap, ◌∙◌}
use Rattle.std.specs.Prelude.{option_map}
use Rattle.shape_lines.specs.ShapeLines.{told_piece}
use Rattle.shape_lines.proofs.Quotes.{piece_found, piece_none, quoted_cut, quoted_none}
use Rattle.shape_lines.proofs.shape_quoted.quoted_at.Goals as goal

pub returns-in_err-from : goal.returns-in_err-from
returns-in_err-from c = ap (option_map told_piece) c.from_residual.ensures ∙ sym (quoted_none c.args.text.now (sym c.in_err-from.ensures))

pub returns-in_err-rest : goal.returns-in_err-rest
returns-in_err-rest c =
    let from = c.in_ok-from.from.now in
    ap (option_map told_piece) c.from_residual-in_err-rest.ensures ∙ piece_none from c.in_err-rest.ensures ∙ sym (quoted_cut c.args.text.now from (sym c.in_ok-from.ensures))

pub returns : goal.returns
returns c =
    let from = c.in_ok-from.from.now in
    piece_found from c.in_ok-rest.rest.now c.in_ok-rest.ensures ∙ sym (quoted_cut c.args.text.now from (sym c.in_ok-from.ensures))
