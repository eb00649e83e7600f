use Rattle.std.proofs.Common.{◌≡◌, ℕ, ◌+◌, ◌/◌, List, arith, sym, ap, ◌∙◌, subst}
use Rattle.std.proofs.lemmas.Result.{IfOk-weaker}
use Rattle.shape_types.specs.Shapes.{drafts_of}
use Rattle.shape_core.specs.declared.steps.Walk.{Walk}
use Rattle.shape_core.specs.Walks.{AreWalks, joined_all}
use Rattle.shape_core.proofs.Walks.{all_join, doubled}
use Rattle.shape_core.proofs.steps.+walks_of.Goals as goal

pub returns-then-steps-eq0-2 : goal.returns-then-steps-eq0-2
returns-then-steps-eq0-2 k c =
    let ds = drafts_of c.args.drafts.now in
    let half = c.args.steps / 2 in
    let sum : half + half ≡ c.args.steps = omega (arith, c.if-steps-eq0-2.true) in
    subst (λ n. AreWalks ds n c.in_ok-even.even) sum (doubled ds half c.in_ok-half.half c.as_slice.result.now c.as_slice-2.result.now c.in_ok-even.even c.in_ok-half.ensures c.as_slice.ensures c.as_slice-2.ensures c.in_ok-even.ensures)

pub returns-else-steps-eq0-2 : goal.returns-else-steps-eq0-2
returns-else-steps-eq0-2 k c =
    let ds = drafts_of c.args.drafts.now in
    let half = c.args.steps / 2 in
    let sum : (half + half) + 1 ≡ c.args.steps = omega (arith, c.if-steps-eq0-2.false) in
    let even = doubled ds half c.in_ok-half.half c.as_slice.result.now c.as_slice-2.result.now c.in_ok-even.even c.in_ok-half.ensures c.as_slice.ensures c.as_slice-2.ensures c.in_ok-even.ensures in
    let more = subst (λ (n : ℕ). AreWalks ds n (joined_all c.args.ones.now c.in_ok-even.even)) sum (all_join ds (half + half) 1 c.in_ok-even.even c.args.ones.now even c.requires) in
    IfOk-weaker c.joined_all-else-steps-eq0-2.result _ (λ (ws : List Walk). AreWalks ds c.args.steps ws)
    (λ ws is. subst (AreWalks ds c.args.steps) (sym (is ∙ ap (joined_all c.args.ones.now) c.as_slice-else-steps-eq0-2.ensures)) more) c.joined_all-else-steps-eq0-2.ensures
