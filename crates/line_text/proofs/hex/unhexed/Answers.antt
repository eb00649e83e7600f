use Rattle.std.proofs.Common.{get_or, drop, Some, None, sym, refl, ap, ◌∙◌, subst, arith, append-nil}
use Rattle.line_text.proofs.Pairs.{ReadPairs, pairs_none, half_is, digit_small, pairs_bad, pairs_first, pairs_second, pairs_end}
use Rattle.line_text.proofs.hex.unhexed.Goals.{in-None, in-Some-high+in_ok-push-in-Some-high}
use Rattle.line_text.proofs.hex.unhexed.Goals as goal

pub digits-init : goal.digits-init
digits-init c = (rw c.new-bytes.ensures (pairs_none c.args.digits.now), tt)

pub returns-in_default : goal.returns-in_default
returns-in_default c =
    sym (pairs_bad c.digits.bytes c.digits.high c.args.digits.now c.digits.c-index c.digits.invariant.0 (omega (arith, c.digits-test.true)) (sym c.in_default.ensures))

pub overflow_mul-first : goal.overflow_mul-first
overflow_mul-first c = let h = half_is c.digits.high c.in-Some-high.first c.digits.invariant.1 c.in-Some-high.is in omega (arith, h)

pub overflow_add-first : goal.overflow_add-first
overflow_add-first c =
    let h = half_is c.digits.high c.in-Some-high.first c.digits.invariant.1 c.in-Some-high.is in
    let v = digit_small (get_or c.args.digits.now c.digits.c-index 0) c.in-Some.value (Some c.in-Some.value) c.in-Some.ensures refl in
    omega (arith, h, v)

pub digits-preserved : goal.digits-preserved
digits-preserved c = elim c.match-high.branch [
  | in-None w ↦
      let digits = c.args.digits.now in
      let v = c.in-Some.value in
      let read : ReadPairs c.digits.bytes None (drop c.digits.c-index digits) digits = subst (λ h. ReadPairs c.digits.bytes h (drop c.digits.c-index digits) digits) w.in-None.is c.digits.invariant.0 in
      rw (w.bytes-is, w.high-is)
      (pairs_first c.digits.bytes digits c.digits.c-index v read (omega (arith, c.digits-test.true)) (sym c.in-Some.ensures), digit_small (get_or digits c.digits.c-index 0) v (Some v) c.in-Some.ensures refl)
  | in-Some-high+in_ok-push-in-Some-high w ↦
      let digits = c.args.digits.now in
      let v = c.in-Some.value in
      let first = w.in-Some-high.first in
      let read : ReadPairs c.digits.bytes (Some first) (drop c.digits.c-index digits) digits = subst (λ h. ReadPairs c.digits.bytes h (drop c.digits.c-index digits) digits) w.in-Some-high.is c.digits.invariant.0 in
      rw (w.bytes-is, w.high-is)
      (pairs_second c.digits.bytes w.push.new.self digits c.digits.c-index first v read (omega (arith, c.digits-test.true)) (sym c.in-Some.ensures) w.in_ok-push-in-Some-high.ensures.ok, tt)
]

pub returns-in-None-high : goal.returns-in-None-high
returns-in-None-high c =
    sym (pairs_end c.digits.bytes c.digits.high c.args.digits.now c.digits.c-index c.digits.invariant.0 (omega (arith, c.digits-test.false)) ∙ (rw c.in-None-high.is (ap Some (append-nil c.digits.bytes))))

pub returns-in-Some-high-2 : goal.returns-in-Some-high-2
returns-in-Some-high-2 c =
    sym (pairs_end c.digits.bytes c.digits.high c.args.digits.now c.digits.c-index c.digits.invariant.0 (omega (arith, c.digits-test.false)) ∙ (rw c.in-Some-high-2.is refl))
