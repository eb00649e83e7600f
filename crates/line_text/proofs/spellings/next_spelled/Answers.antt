use Rattle.std.proofs.Common.{ap, length, arith, length-append}
use lib.Utf8.{encode}
use Rattle.std.specs.Str.Iter.{chars_rest}
use Rattle.line_text.proofs.TextSteps.{slash_step, slash_over}
use Rattle.line_text.proofs.FirstChars.{some_meant}
use Rattle.line_text.proofs.spellings.next_spelled.Goals as goal

pub returns-in-Some : goal.returns-in-Some
returns-in-Some c = record {
  read = slash_step (chars_rest c.args.chars.now) (chars_rest c.next.new.self) c.in-Some.c c.spelled.result c.in-Some.ensures.steps.0 c.spelled.ensures;
  less = omega (arith, ap length c.in-Some.ensures.steps.0, length-append (encode c.in-Some.c) (chars_rest c.next.new.self));
  scalar = some_meant c.in-Some.c c.spelled.result c.spelled.ensures;
}

pub returns-in-None : goal.returns-in-None
returns-in-None c = record { read = slash_over (chars_rest c.args.chars.now) c.in-None.ensures.steps.0.0; less = omega (arith, ap (λ x. length (chars_rest x)) c.in-None.ensures.steps.0.1); scalar = tt }
