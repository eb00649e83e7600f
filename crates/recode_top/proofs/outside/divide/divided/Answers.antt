use Rattle.std.proofs.Common.{ℕ, ◌+◌, ◌-◌, ◌≡◌, ◌≢◌, ◌++◌, ◌∷◌, [], List, true, length, take, drop, sym, ap, ◌∙◌, subst, arith, length-drop}
use Rattle.std.specs.Prelude.{codes}
use Rattle.std.proofs.lemmas.List.{take_rest, take_all, take-append-drop}
use Rattle.std.proofs.lemmas.Slice.Eq.{slice_eq-Decides}
use Rattle.std.proofs.lemmas.Bool.Decides.{Decides-eqb}
use Rattle.std.proofs.lemmas.Bool.{false≢true}
use Rattle.semantics_lines.specs.Divided.{IsUndivided, IsDivided}
use Rattle.recode_top.proofs.OutsideLaws.Dividing.{HasNoEnd, undivided, no_end-take, divided_here, plain-push, step_over, never_divided}
use Rattle.recode_top.proofs.outside.divide.divided.Goals as goal

pub returns-in_err-end : goal.returns-in_err-end
returns-in_err-end c = rw c.from_residual.ensures (λ others rest d.
    let input = c.args.input.now in
    let at = c.lines.at in
    let tail = drop at input in
    let slice = take (length input - at) tail in
    let is : slice ≡ tail = take_rest input at in
    let inv = c.lines.invariant.1 in
    let clear : HasNoEnd tail = subst (λ (x : List ℕ). HasNoEnd x) (take_all (length slice) slice (omega arith) ∙ is) (no_end-take slice (length slice) (omega arith) c.in_err-end.ensures) in
    never_divided inv.0 others tail rest inv.1 d.before clear (ap (λ x. x ++ tail) (sym inv.2) ∙ take-append-drop at input ∙ d.whole))

pub returns-then-eq : goal.returns-then-eq
returns-then-eq c =
    let input = c.args.input.now in
    let at = c.lines.at in
    let k = c.in_ok-end.end in
    let rest = take (length input - at) (drop at input) in
    let end = c.in_ok-end.ensures in
    let inv = c.lines.invariant.1 in
    let bar : take k rest ≡ codes "---" = (slice_eq-Decides Decides-eqb (take k rest) c.as_slice.result.now c.eq.result c.eq.ensures).0 c.if-eq.true ∙ c.as_slice.ensures in
    let d = divided_here input rest at k inv.0 (take_rest input at) end.0 end.1 inv.1 inv.2 bar in
    (inv.0, inv.2, subst (λ (x : List ℕ). IsDivided input inv.0 x) (sym (take_rest rest (k + 1))) d)

pub lines-preserved : goal.lines-preserved
lines-preserved c =
    let input = c.args.input.now in
    let at = c.lines.at in
    let k = c.in_ok-end.end in
    let rest = take (length input - at) (drop at input) in
    let end = c.in_ok-end.ensures in
    let inv = c.lines.invariant.1 in
    let long : length rest ≡ length input - at = ap length (take_rest input at) ∙ length-drop at input in
    let differs : take k rest ≢ codes "---" = λ e.
    let yes : c.eq.result ≡ true = (slice_eq-Decides Decides-eqb (take k rest) c.as_slice.result.now c.eq.result c.eq.ensures).1 (e ∙ sym c.as_slice.ensures) in
    false≢true (sym c.if-eq.false ∙ yes) in
    let plain : IsUndivided (take k rest) = undivided (take k rest) (no_end-take rest k (omega (arith, end.0)) end.2) differs in
    (omega (arith, end.0, c.lines.invariant.0), (inv.0 ++ take k rest ∷ [], plain-push inv.0 (take k rest) inv.1 plain, step_over input rest at k inv.0 (take_rest input at) end.0 end.1 inv.2))
