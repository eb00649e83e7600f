use Rattle.std.proofs.Common.{ℕ, ◌-◌, ◌+◌, ◌≡◌, List, ◌++◌, length, take, drop, arith, ap, sym, ◌∙◌, subst}
use Rattle.std.proofs.KnownBytes.{Appends-trans}
use Rattle.std.proofs.Math.Seq.{take-add}
use Rattle.std.proofs.lemmas.List.{take_rest}
use Rattle.std.specs.Io.KnownBytes.{Appends}
use Rattle.recode_top.proofs.outside.sink.write_all.Goals as goal

pub loop-done-preserved : goal.loop-done-preserved
loop-done-preserved g c =
    let bytes = c.args.bytes.now in
    let done = c.loop-done.done in
    let count = c.in-Ok.count in
    let more : take done bytes ++ take count (take (length bytes - done) (drop done bytes)) ≡ take (done + count) bytes =
    ap (λ r. take done bytes ++ take count r) (take_rest bytes done) ∙ sym (take-add done count bytes) in
    record {
      later = omega (arith, c.loop-done.invariant.later, c.write.ensures.cause.later);
      fits = omega (arith, c.loop-done.invariant.fits, c.in-Ok.ensures.bound);
      written = subst (λ (x : List ℕ). Appends (g.K.Sink.written c.args.sink.now) (g.K.Sink.written c.write.new.self) x) more
          (Appends-trans _ _ _ _ _ c.loop-done.invariant.written c.in-Ok.ensures.bytes);
    }
