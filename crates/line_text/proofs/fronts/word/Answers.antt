use Rattle.std.proofs.Common.{lit<, sym, ap, ◌∙◌, Some, None}
use Rattle.std.proofs.lemmas.Str.Pattern.{find_char}
use Rattle.line_text.proofs.Prefixes.{until-at, until-end}
use Rattle.line_text.proofs.fronts.word.Goals as goal

pub returns-in-Some-clause-word : goal.returns-in-Some-clause-word
returns-in-Some-clause-word c =
    let f = find_char 32 c.args.text.now (Some c.in-Some.at) c.in-Some.ensures.cases (lit< tt) in
    c.split_at.ensures.front ∙ sym (ap (λ q. q.0) (until-at c.args.text.now c.in-Some.at f.0 f.1 f.2))

pub returns-in-Some-clause-rest : goal.returns-in-Some-clause-rest
returns-in-Some-clause-rest c =
    let f = find_char 32 c.args.text.now (Some c.in-Some.at) c.in-Some.ensures.cases (lit< tt) in
    c.split_at.ensures.back ∙ sym (ap (λ q. q.1) (until-at c.args.text.now c.in-Some.at f.0 f.1 f.2))

pub returns-in-None-clause-word : goal.returns-in-None-clause-word
returns-in-None-clause-word c =
    sym (ap (λ q. q.0) (until-end c.args.text.now (find_char 32 c.args.text.now None c.in-None.ensures.cases (lit< tt))))

pub returns-in-None-clause-rest : goal.returns-in-None-clause-rest
returns-in-None-clause-rest c =
    sym (ap (λ q. q.1) (until-end c.args.text.now (find_char 32 c.args.text.now None c.in-None.ensures.cases (lit< tt))))
