use Rattle.std.proofs.Common.{sym}
use Rattle.line_text.proofs.Texts.{text_borrowed, text_owned, text_none, text_unquoted}
use Rattle.line_text.proofs.quoted.text_at.Goals as goal

pub returns-in-Some-unquoted : goal.returns-in-Some-unquoted
returns-in-Some-unquoted c =
    sym (text_borrowed c.args.text.now c.in-Some.rest.now c.in-Some-unquoted.inner.now c.in-Some-unquoted.rest.now (sym c.in-Some.ensures) (sym c.in-Some-unquoted.ensures))

pub returns-in-Ok-Some : goal.returns-in-Ok-Some
returns-in-Ok-Some c =
    sym (text_owned c.args.text.now c.in-Some.rest.now c.in-Ok-Some.name c.in-Ok-Some.rest.now (sym c.in-Some.ensures) (sym c.in_default-unquoted.ensures) (sym (rw c.in-Ok-Some.field-0-is at c.in-Ok-Some.ensures)))

pub returns-in_default : goal.returns-in_default
returns-in_default c = sym (text_unquoted c.args.text.now (sym c.in_default.ensures))

pub returns-in-Ok-None : goal.returns-in-Ok-None
returns-in-Ok-None c =
    sym (text_none c.args.text.now c.in-Some.rest.now (sym c.in-Some.ensures) (sym (rw c.in-Ok-None.field-0-is at c.in-Ok-None.ensures)))
