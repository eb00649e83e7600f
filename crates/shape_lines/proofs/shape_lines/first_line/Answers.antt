use Rattle.std.proofs.Common.{◌≡◌, List, ℕ, length, take, sym, ap, ◌∙◌, subst, true}
use Rattle.std.specs.Prelude.{unwrap_or}
use Rattle.std.specs.Str.{is_utf8, IsUtf8}
use Rattle.std.proofs.lemmas.Str.{is_utf8-from_IsUtf8, IsUtf8-from_is_utf8}
use Rattle.semantics_lines.specs.ShapeText.{first_line}
use Rattle.shape_lines.specs.ShapeLines.{shape_line}
use Rattle.laws_lines.specs.ShapeLineReading.{line_of}
use Rattle.shape_lines.proofs.FirstLines.{taken, not_true, none_unended, none_unread, stands}
use Rattle.shape_lines.proofs.shape_lines.first_line.Goals as goal

pub returns-in_default-clause-refused : goal.returns-in_default-clause-refused
returns-in_default-clause-refused c =
    let bs = c.args.left.now in
    let all : take c.unwrap_or.result bs ≡ first_line bs = ap (λ n. take n bs) c.unwrap_or.ensures ∙ taken bs c.line_end-end.result c.line_end-end.ensures in
    λ before. not_true (is_utf8 (first_line bs)) (λ e. c.in_default.ensures.cases.0 (subst (λ (x : List ℕ). IsUtf8 x) (sym all) (IsUtf8-from_is_utf8 (first_line bs) e)))

pub returns-in_default-end-clause-refused : goal.returns-in_default-end-clause-refused
returns-in_default-end-clause-refused c =
    let bs = c.args.left.now in
    let all : take c.unwrap_or.result bs ≡ first_line bs = ap (λ n. take n bs) c.unwrap_or.ensures ∙ taken bs c.line_end-end.result c.line_end-end.ensures in
    let utf8 : is_utf8 (first_line bs) ≡ true = is_utf8-from_IsUtf8 (first_line bs) (subst (λ (x : List ℕ). IsUtf8 x) all c.in-Ok.ensures.cases.1) in
    λ before. (c.requires, utf8, none_unended bs c.in_default-end.ensures)

pub returns-in-Some-line_of-clause-line : goal.returns-in-Some-line_of-clause-line
returns-in-Some-line_of-clause-line c =
    let bs = c.args.left.now in
    let k = c.in-Some.end in
    let end = c.in-Some.ensures in
    let cut : take c.unwrap_or.result bs ≡ take k bs = ap (λ n. take n bs) (c.unwrap_or.ensures ∙ ap (λ o. unwrap_or o (length bs)) c.in-Some.is) in
    let all : take k bs ≡ c.in-Ok.line.now = sym cut ∙ sym c.in-Ok.ensures.cases.0 in
    let utf8 : is_utf8 (take k bs) ≡ true = is_utf8-from_IsUtf8 (take k bs) (subst (λ (x : List ℕ). IsUtf8 x) cut c.in-Ok.ensures.cases.1) in
    stands bs k (shape_line c.in-Some-line_of.line) end.0 end.1 end.2 utf8 (ap line_of all ∙ sym c.in-Some-line_of.ensures)

pub returns-in-None-clause-refused : goal.returns-in-None-clause-refused
returns-in-None-clause-refused c =
    let bs = c.args.left.now in
    let all : take c.unwrap_or.result bs ≡ first_line bs = ap (λ n. take n bs) c.unwrap_or.ensures ∙ taken bs c.line_end-end.result c.line_end-end.ensures in
    let utf8 : is_utf8 (first_line bs) ≡ true = is_utf8-from_IsUtf8 (first_line bs) (subst (λ (x : List ℕ). IsUtf8 x) all c.in-Ok.ensures.cases.1) in
    λ before. (c.requires, utf8, none_unread bs (ap line_of (sym all ∙ sym c.in-Ok.ensures.cases.0) ∙ sym c.in-None.ensures))
