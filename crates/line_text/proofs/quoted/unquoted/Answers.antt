use Rattle.std.proofs.Common.{ℕ, List, Bor, ◌+◌, ◌-◌, ◌≡◌, Some, None, get_or, take, drop, suc, sym, ap, ap₂, ◌∙◌, subst, arith}
use Rattle.std.specs.Option.{option_map}
use Rattle.std.proofs.lemmas.Bool.Decides.{nat_tests}
use Rattle.std.proofs.lemmas.Str.{IsCharBoundary-after_ascii}
use Rattle.line_text.specs.Special.{FindsSpecial}
use Rattle.line_text.proofs.Texts.{quote_there, other_there, none_there}
use Rattle.line_text.proofs.quoted.unquoted.Goals as goal

pub returns-in_err-at : goal.returns-in_err-at
returns-in_err-at c =
    ap (option_map (λ (p : Bor (List ℕ) × Bor (List ℕ)). (p.0.now, p.1.now))) c.from_residual.ensures
    ∙ sym (none_there c.args.text.now (subst (λ (l : List ℕ). FindsSpecial l None) c.as_bytes-bytes.ensures.value c.in_err-at.ensures))

pub range_from-requires : goal.range_from-requires
range_from-requires c =
    let at = c.in_ok-at.at in
    let found : FindsSpecial c.args.text.now (Some at) = subst (λ (l : List ℕ). FindsSpecial l (Some at)) c.as_bytes-bytes.ensures.value c.in_ok-at.ensures in
    let same : c.as_bytes-bytes.result.now ≡ c.args.text.now = c.as_bytes-bytes.ensures.value in
    let quote : get_or c.as_bytes-bytes.result.now at 0 ≡ 34 = grind (arith, nat_tests) in
    λ some. IsCharBoundary-after_ascii c.args.text.now at c.utf8.text found.0 (omega (arith, ap (λ (l : List ℕ). get_or l at 0) (sym same) ∙ quote))

pub returns-then-bytes-at-eq34 : goal.returns-then-bytes-at-eq34
returns-then-bytes-at-eq34 c =
    let at = c.in_ok-at.at in
    let found : FindsSpecial c.args.text.now (Some at) = subst (λ (l : List ℕ). FindsSpecial l (Some at)) c.as_bytes-bytes.ensures.value c.in_ok-at.ensures in
    let same : c.as_bytes-bytes.result.now ≡ c.args.text.now = c.as_bytes-bytes.ensures.value in
    let quote : get_or c.as_bytes-bytes.result.now at 0 ≡ 34 = grind (arith, nat_tests) in
    let text = c.args.text.now in
    let all : at - 0 ≡ at = omega arith in
    let one : at + 1 ≡ suc at = omega arith in
    let front : c.range.result.now ≡ take at text = c.range.ensures.value ∙ ap (λ n. take n text) all in
    let back : c.range_from.result.now ≡ drop (suc at) text = c.range_from.ensures.value ∙ ap (λ n. drop n text) one in
    ap Some (ap₂ (λ a b. (a, b)) front back)
    ∙ sym (quote_there c.args.text.now at found (ap (λ (l : List ℕ). get_or l at 0) (sym same) ∙ quote))

pub returns-else-bytes-at-eq34 : goal.returns-else-bytes-at-eq34
returns-else-bytes-at-eq34 c =
    let at = c.in_ok-at.at in
    let found : FindsSpecial c.args.text.now (Some at) = subst (λ (l : List ℕ). FindsSpecial l (Some at)) c.as_bytes-bytes.ensures.value c.in_ok-at.ensures in
    let same : c.as_bytes-bytes.result.now ≡ c.args.text.now = c.as_bytes-bytes.ensures.value in
    sym (other_there c.args.text.now at found (λ e. let there : get_or c.as_bytes-bytes.result.now at 0 ≡ 34 = ap (λ (l : List ℕ). get_or l at 0) same ∙ e in grind (arith, nat_tests)))
