use Rattle.std.proofs.Common.{ℕ, ◌≡◌, ◌-◌, ◌++◌, List, length, take, drop, ap, ◌∙◌, sym, arith}
use Rattle.std.proofs.lemmas.List.{take_rest, drop-drop}
use Rattle.recode_top.proofs.OutsideLaws.Copying.{given}
use Rattle.recode_top.proofs.outside.memory_source.MemorySource.give.Goals as goal

pub returns-clause-bytes : goal.returns-clause-bytes
returns-clause-bytes c =
    let bytes = c.self.inside.bytes in
    let at = c.self.inside.at in
    let n = c.copy_front-count.result in
    let out = c.copy_front-count.new.into in
    let slice = take (length c.as_slice.result.now - at) (drop at c.as_slice.result.now) in
    let is : slice ≡ drop at bytes = take_rest c.as_slice.result.now at ∙ ap (λ (x : List ℕ). drop at x) c.as_slice.ensures in
    let long : length slice ≡ length (drop at bytes) = ap (λ (x : List ℕ). length x) is in
    let front : out ≡ take n (drop at bytes) ++ drop n c.args.into.now = c.copy_front-count.ensures.after ∙ ap (λ (x : List ℕ). take n x ++ drop n c.args.into.now) is in
    let left : c.args.self.now.left ≡ drop at bytes = sym (ap (λ s. s.left) c.self.view_is) in
    left ∙ given (drop at bytes) c.args.into.now out n (omega (arith, long, c.copy_front-count.ensures.count)) front ∙ ap (λ (x : List ℕ). take n out ++ x) (drop-drop n at bytes)
