use Rattle.std.proofs.Common.{lit≤, ap, ◌∙◌, sym, ◌≡◌, true, false}
use Rattle.line_text.specs.Padded.{is_padded}
use Rattle.line_text.proofs.Decimals.{number-parsed, number-padded, not_padded}
use Rattle.line_text.proofs.numbers.wide_number.Goals as goal

pub returns-then-is_padded : goal.returns-then-is_padded
returns-then-is_padded c =
    let padded : is_padded c.args.text.now ≡ true = ap is_padded (sym c.as_bytes.ensures.value) ∙ sym c.is_padded.ensures ∙ c.if-is_padded.true in
    sym (number-padded 128 c.args.text.now (lit≤ tt) padded)

pub returns : goal.returns
returns c =
    let plain : is_padded c.args.text.now ≡ false = ap is_padded (sym c.as_bytes.ensures.value) ∙ sym c.is_padded.ensures ∙ c.if-is_padded.false in
    let p = not_padded c.args.text.now plain in
    c.ok.ensures.value ∙ number-parsed 128 c.args.text.now c.parse.result (lit≤ tt) c.parse.ensures.value.0 p.0 p.1
