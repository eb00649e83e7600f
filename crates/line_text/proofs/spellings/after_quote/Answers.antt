use Rattle.std.proofs.Common.{◌≢◌, arith, ap, ◌∙◌, Some}
use Rattle.std.specs.Str.Iter.{chars_rest}
use Rattle.line_text.proofs.QuoteRests.{leaves_other, leaves_slash, leaves_quote, leaves_end, leaves_bad, leaves_over}
use Rattle.line_text.proofs.spellings.after_quote.Goals as goal

pub returns-in-34 : goal.returns-in-34
returns-in-34 c = ap Some c.as_str.ensures ∙ leaves_quote c.args.text.now (chars_rest c.chars.chars) (chars_rest c.next.new.self) c.in-Some.c c.chars.invariant c.in-Some.ensures.steps.0 c.in-34.is

pub returns-in-10 : goal.returns-in-10
returns-in-10 c = leaves_end c.args.text.now (chars_rest c.chars.chars) (chars_rest c.next.new.self) c.in-Some.c c.chars.invariant c.in-Some.ensures.steps.0 c.in-10.is

pub returns-in-None : goal.returns-in-None
returns-in-None c = leaves_bad c.args.text.now (chars_rest c.chars.chars) (chars_rest c.next.new.self) c.in-Some.c c.chars.invariant c.in-Some.ensures.steps.0 c.in-92.is c.in-None.ensures.read

pub returns : goal.returns
returns c = leaves_over c.args.text.now (chars_rest c.chars.chars) c.chars.invariant c.in_default.ensures.steps.0.0

pub chars-preserved : goal.chars-preserved
chars-preserved c =
    let q : c.in-Some.c ≢ 34 = λ x. omega arith in
    let e : c.in-Some.c ≢ 10 = λ x. omega arith in
    let s : c.in-Some.c ≢ 92 = λ x. omega arith in
    leaves_other c.args.text.now (chars_rest c.chars.chars) (chars_rest c.next.new.self) c.in-Some.c c.chars.invariant c.in-Some.ensures.steps.0 q e s

pub chars-preserved-in-Some-next_spelled : goal.chars-preserved-in-Some-next_spelled
chars-preserved-in-Some-next_spelled c =
    leaves_slash c.args.text.now (chars_rest c.chars.chars) (chars_rest c.next.new.self) (chars_rest c.next_spelled.new.chars) c.in-Some.c _ c.chars.invariant c.in-Some.ensures.steps.0 c.in-92.is c.in-Some-next_spelled.ensures.read
