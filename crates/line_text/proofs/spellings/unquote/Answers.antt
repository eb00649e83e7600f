use Rattle.std.proofs.Common.{◌≡◌, ◌≢◌, ◌++◌, false, arith, ap, ◌∙◌, Some, refl}
use Rattle.line_text.proofs.TextSteps.{step_other, step_quote, step_end, step_over, step_slash, step_bad}
use Rattle.std.specs.Str.Iter.{chars_rest}
use lib.Utf8.{encode}
use Rattle.std.proofs.lemmas.Slice.{pushed}
use Rattle.laws_lines.specs.Quoted.{unquote, with_front}
use Rattle.std.specs.String.{string_bytes}
use Rattle.line_text.proofs.spellings.unquote.Goals as goal

pub returns-in-34 : goal.returns-in-34
returns-in-34 c =
    ap (λ x. Some (x, c.as_str.result.now)) c.from_string.ensures ∙ ap (λ x. Some (string_bytes c.chars.out, x)) c.as_str.ensures ∙ step_quote c.args.text.now (string_bytes c.chars.out) (chars_rest c.chars.chars) (chars_rest c.next.new.self) c.in-Some.c c.chars.invariant c.in-Some.ensures.steps.0 c.in-34.is

pub returns-in-10 : goal.returns-in-10
returns-in-10 c = step_end c.args.text.now (string_bytes c.chars.out) (chars_rest c.chars.chars) (chars_rest c.next.new.self) c.in-Some.c c.chars.invariant c.in-Some.ensures.steps.0 c.in-10.is

pub returns : goal.returns
returns c = step_over c.args.text.now (string_bytes c.chars.out) (chars_rest c.chars.chars) c.chars.invariant c.in_default.ensures.steps.0.0

pub returns-in-None : goal.returns-in-None
returns-in-None c = step_bad c.args.text.now (string_bytes c.chars.out) (chars_rest c.chars.chars) (chars_rest c.next.new.self) c.in-Some.c c.chars.invariant c.in-Some.ensures.steps.0 c.in-92.is c.in-None.ensures.read

pub chars-preserved : goal.chars-preserved
chars-preserved c =
    let bytes : string_bytes c.push-in_default-c.new.self ≡ string_bytes c.chars.out ++ encode c.in-Some.c = pushed (encode c.in-Some.c) refl c.in_ok-push-in_default-c.was c.push-in_default-c.ensures.bytes in
    let q : c.in-Some.c ≢ 34 = λ x. omega arith in
    let e : c.in-Some.c ≢ 10 = λ x. omega arith in
    let s : c.in-Some.c ≢ 92 = λ x. omega arith in
    ap (λ x. with_front x (unquote false (chars_rest c.next.new.self))) bytes ∙ step_other c.args.text.now (string_bytes c.chars.out) (chars_rest c.chars.chars) (chars_rest c.next.new.self) c.in-Some.c c.chars.invariant c.in-Some.ensures.steps.0 q e s

pub chars-preserved-in-Continue-1 : goal.chars-preserved-in-Continue-1
chars-preserved-in-Continue-1 c =
    let m = c.in-Some-next_spelled.meant in
    let bytes : string_bytes c.push.new.self ≡ string_bytes c.chars.out ++ encode m = pushed (encode m) refl c.in_ok-push-in-Some-next_spelled.was c.push.ensures.bytes in
    ap (λ x. with_front x (unquote false (chars_rest c.next_spelled.new.chars))) bytes ∙ step_slash c.args.text.now (string_bytes c.chars.out) (chars_rest c.chars.chars) (chars_rest c.next.new.self) (chars_rest c.next_spelled.new.chars) c.in-Some.c m c.chars.invariant c.in-Some.ensures.steps.0 c.in-92.is c.in-Some-next_spelled.ensures.read
