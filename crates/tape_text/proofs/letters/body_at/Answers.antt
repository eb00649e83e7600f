use Rattle.std.proofs.Common.{◌≡◌, ◌++◌, length, sym, ap, ◌∙◌, subst}
use Rattle.std.specs.Prelude.{IfOk}
use Rattle.std.specs.Option.{option_map}
use Rattle.std.specs.Str.Iter.{chars_rest}
use lib.Utf8.{encode}
use Rattle.tape_text.specs.Bodies.{Found, body_at}
use Rattle.tape_text.specs.Letters.{body_after}
use Rattle.tape_text.specs.Views.{body_of}
use Rattle.tape_text.proofs.FirstLetters.{body_first, body_none}
use Rattle.tape_text.proofs.letters.body_at.Goals as goal

pub returns-in-Some : goal.returns-in-Some
returns-in-Some c =
    let rest = chars_rest c.next.new.self in
    let is : c.args.text.now ≡ encode c.in-Some.letter ++ rest = sym c.chars-chars.ensures.rest ∙ c.in-Some.ensures.steps.0 in
    let read : body_after c.in-Some.letter c.as_str.result.now ≡ body_at c.args.text.now = ap (body_after c.in-Some.letter) c.as_str.ensures ∙ sym (body_first c.args.text.now rest c.in-Some.letter is) in
    subst (λ (x : Found). IfOk c.body_after.result (λ found. option_map (λ p. (body_of p.0, p.1.now)) found ≡ x)) read c.body_after.ensures

pub returns-in-None : goal.returns-in-None
returns-in-None c = sym (body_none c.args.text.now (ap length (sym c.chars-chars.ensures.rest) ∙ c.in-None.ensures.steps.0.0))
