use Rattle.std.proofs.Common.{ℕ, ◌≡◌, List, [], ◌∷◌, Some, codes, refl, ap, ap₂, sym, ◌∙◌}
use Rattle.recode_top.specs.Requests.{by_root, in_full}
use Rattle.recode_top.proofs.Commands.{is_two, is_four, is_same}
use Rattle.recode_top.proofs.command.asked.Goals as goal

pub returns-then-len-eq2 : goal.returns-then-len-eq2
returns-then-len-eq2 c =
    let words = c.args.words.now in
    let same : c.in_ok-command.command.now ≡ codes "recode" = is_same _ _ c.if-ne.ensures in
    by_root
    (is_two words (codes "recode") c.in_ok-root.root.now (sym c.len.ensures ∙ c.if-len-eq2.true) (sym (ap (λ (x : List ℕ). Some x) same) ∙ c.in_ok-command.ensures) c.in_ok-root.ensures)
    refl refl

pub returns : goal.returns
returns c =
    let words = c.args.words.now in
    let same : c.in_ok-command.command.now ≡ codes "recode" = is_same _ _ c.if-ne.ensures in
    let all : words ≡ codes "recode" ∷ c.in_ok-root.root.now ∷ c.in_ok-capacity.capacity.now ∷ c.in_ok-depth.depth.now ∷ [] =
    is_four words (codes "recode") c.in_ok-root.root.now c.in_ok-capacity.capacity.now c.in_ok-depth.depth.now (sym c.len-2.ensures ∙ c.if-len-ne4.false) (sym (ap (λ (x : List ℕ). Some x) same) ∙ c.in_ok-command.ensures) c.in_ok-root.ensures c.in_ok-capacity.ensures c.in_ok-depth.ensures in
    let capacity = c.in_ok-capacity_of.ensures in
    let depth = c.in_ok-depth_of.ensures in
    in_full (all ∙ ap₂ (λ (x y : List ℕ). codes "recode" ∷ c.in_ok-root.root.now ∷ x ∷ y ∷ []) capacity.0 depth.0) capacity.1 depth.1
