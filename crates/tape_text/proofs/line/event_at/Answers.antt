use Rattle.std.proofs.Common.{◌+◌, ◌-◌, ◌<◌, ◌≡◌, length, take, drop, sym, ap, ◌∙◌, arith, length-drop}
use Rattle.std.proofs.lemmas.List.{take_rest}
use Rattle.std.proofs.lemmas.Bool.Decides.{nat_tests}
use Rattle.semantics_lines.specs.Faults.{stops}
use Rattle.tape_text.specs.Coming.{only, on_line}
use Rattle.tape_text.specs.Parser.{coming_at}
use Rattle.tape_text.proofs.Stands.{line_stands, stop_stands, rest_stands, rest_some, rest_none}
use Rattle.tape_text.proofs.line.event_at.Goals as goal

pub returns-then-is_empty : goal.returns-then-is_empty
returns-then-is_empty c =
    let input = c.args.input.now in
    let rest = take (length input - c.args.at) (drop c.args.at input) in
    let empty : length rest ≡ 0 = grind (arith, nat_tests) in
    rest_stands input c.args.at rest (take_rest input c.args.at) (λ k less. absurd (omega arith)) ∙ rest_none c.args.at rest empty

pub returns-in_default : goal.returns-in_default
returns-in_default c =
    let input = c.args.input.now in
    let rest = take (length input - c.args.at) (drop c.args.at input) in
    let some : 0 < length rest = grind (arith, nat_tests) in
    rest_stands input c.args.at rest (take_rest input c.args.at) c.in_default.ensures ∙ rest_some c.args.at rest some
    ∙ ap (λ f. only (stops f)) (sym c.unfinished.ensures)

pub returns-in-Ok : goal.returns-in-Ok
returns-in-Ok c =
    let input = c.args.input.now in
    let rest = take (length input - c.args.at) (drop c.args.at input) in
    let is : rest ≡ drop c.args.at input = take_rest input c.args.at in
    let line = c.in-Some.ensures in
    let len : length rest ≡ length input - c.args.at = ap length is ∙ length-drop c.args.at input in (
      omega arith,
      omega (arith, line.0, c.requires),
      line_stands input c.args.at c.in-Some.len rest is line.0 line.1 line.2 ∙ ap (λ j. on_line j (coming_at input (c.args.at + c.in-Some.len + 1))) c.in-Ok.ensures,
    )

pub returns-in-Err : goal.returns-in-Err
returns-in-Err c =
    let input = c.args.input.now in
    let rest = take (length input - c.args.at) (drop c.args.at input) in
    let line = c.in-Some.ensures in
    stop_stands input c.args.at (take c.in-Some.len rest) (c.args.at + c.in-Some.len + 1) c.in-Err.stop
    (line_stands input c.args.at c.in-Some.len rest (take_rest input c.args.at) line.0 line.1 line.2) c.in-Err.ensures
