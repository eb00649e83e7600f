use Rattle.std.proofs.Common.{Some, sym, ap, ◌∙◌, rules}
use Rattle.std.proofs.lemmas.Int.{to_z-of_z}
use mir.Syntax.{w128}
use mir.Val.{SFits}
use Rattle.read_parts.proofs.Numerals.{read_of, signed_read}
use Rattle.read_parts.proofs.text.signed_whole_number.Goals as goal

pub returns-in-Ok : goal.returns-in-Ok
returns-in-Ok c =
    let fits : SFits w128 c.in-Ok.number = search rules in
    ap Some (to_z-of_z w128 c.in-Ok.number fits) ∙ (ap read_of (sym c.in-Ok.is) ∙ signed_read c.args.text.now _ c.parse.ensures.value.0)

pub returns-in-Err : goal.returns-in-Err
returns-in-Err c = ap read_of (sym c.in-Err.is) ∙ signed_read c.args.text.now _ c.parse.ensures.value.0
