use Rattle.std.proofs.Common.{◌≢◌, arith}
use Rattle.std.specs.Str.Iter.{chars_rest}
use Rattle.line_text.proofs.FirstChars.{first_quote, first_end, first_over, first_other, first_slash}
use Rattle.line_text.proofs.characters.first_char.Goals as goal

pub returns-in-34 : goal.returns-in-34
returns-in-34 c = first_quote (chars_rest c.args.chars.now) (chars_rest c.next.new.self) c.in-Some.c c.in-Some.ensures.steps.0 c.in-34.is

pub returns-in-10 : goal.returns-in-10
returns-in-10 c = first_end (chars_rest c.args.chars.now) (chars_rest c.next.new.self) c.in-Some.c c.in-Some.ensures.steps.0 c.in-10.is

pub returns-in-92 : goal.returns-in-92
returns-in-92 c = first_slash (chars_rest c.args.chars.now) (chars_rest c.next.new.self) (chars_rest c.next_spelled.new.chars) c.in-Some.c c.next_spelled.result c.in-Some.ensures.steps.0 c.in-92.is c.next_spelled.ensures.read c.next_spelled.ensures.scalar

pub returns-in_default : goal.returns-in_default
returns-in_default c =
    let q : c.in-Some.c ≢ 34 = λ x. omega arith in
    let e : c.in-Some.c ≢ 10 = λ x. omega arith in
    let s : c.in-Some.c ≢ 92 = λ x. omega arith in
    first_other (chars_rest c.args.chars.now) (chars_rest c.next.new.self) c.in-Some.c c.in-Some.ensures.steps.0 q e s

pub returns-in-None : goal.returns-in-None
returns-in-None c = first_over (chars_rest c.args.chars.now) c.in-None.ensures.steps.0.0
