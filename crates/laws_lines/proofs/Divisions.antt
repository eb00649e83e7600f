-- An input is divided in one way only.
use Rattle.std.proofs.Common.{◌≡◌, ℕ, List, [], ◌∷◌, ◌++◌, Bool, true, false, not, ◌&&◌, ◌==◌, refl, sym, ap, ◌∙◌, append_assoc, arith}
use Rattle.std.proofs.lemmas.Bool.Decides.{nat_tests}
use Rattle.std.specs.Prelude.{codes}
use Rattle.std.specs.List.{AllByRecursion}
use Rattle.semantics_lines.specs.Divided.{IsUndivided, joined, IsDivided}
use Rattle.semantics_lines.specs.Tapes.{has_no_end}

both : (a b : Bool) → a && b ≡ true → (a ≡ true) × (b ≡ true)
both true b e = (refl, e)
both false b e = absurd cc

no_end : (b : ℕ) → not (b == 10) ≡ true → b ≡ 10 → ⊥
no_end b h e = absurd (grind (arith, nat_tests))

-- Two lines up to their line feeds are one.
lines_same : (w v x y : List ℕ) → has_no_end w ≡ true → has_no_end v ≡ true → w ++ (10 ∷ x) ≡ v ++ (10 ∷ y) → (w ≡ v) × (x ≡ y)
lines_same [] [] x y hw hv e = (refl, cc)
lines_same [] (b ∷ v) x y hw hv e =
    absurd (no_end b (both (not (b == 10)) (has_no_end v) hv).0 (let first : 10 ≡ b = cc in sym first))
lines_same (b ∷ w) [] x y hw hv e = absurd (no_end b (both (not (b == 10)) (has_no_end w) hw).0 cc)
lines_same (a ∷ w) (b ∷ v) x y hw hv e =
    let tails : w ++ (10 ∷ x) ≡ v ++ (10 ∷ y) = cc in
    let (same, rest) = lines_same w v x y (both (not (a == 10)) (has_no_end w) hw).1 (both (not (b == 10)) (has_no_end v) hv).1 tails in
    (cc, rest)

divider_no_end : has_no_end (codes "---") ≡ true
divider_no_end = refl

divided_same : (ls ms : List (List ℕ)) (r s : List ℕ) → AllByRecursion IsUndivided ls → AllByRecursion IsUndivided ms
    → joined ls ++ (codes "---\n" ++ r) ≡ joined ms ++ (codes "---\n" ++ s) → (joined ls ≡ joined ms) × (r ≡ s)
divided_same [] [] r s hl hm e = (refl, (lines_same (codes "---") (codes "---") r s divider_no_end divider_no_end e).1)
divided_same [] (m ∷ ms) r s hl hm e =
    let p = lines_same (codes "---") m r (joined ms ++ (codes "---\n" ++ s)) divider_no_end hm.0.no_end (e ∙ append_assoc m (10 ∷ joined ms) (codes "---\n" ++ s)) in
    absurd (hm.0.differs (sym p.0))
divided_same (l ∷ ls) [] r s hl hm e =
    let p = lines_same (codes "---") l s (joined ls ++ (codes "---\n" ++ r)) divider_no_end hl.0.no_end (sym e ∙ append_assoc l (10 ∷ joined ls) (codes "---\n" ++ r)) in
    absurd (hl.0.differs (sym p.0))
divided_same (l ∷ ls) (m ∷ ms) r s hl hm e =
    let p = lines_same l m (joined ls ++ (codes "---\n" ++ r)) (joined ms ++ (codes "---\n" ++ s)) hl.0.no_end hm.0.no_end
    (sym (append_assoc l (10 ∷ joined ls) (codes "---\n" ++ r)) ∙ e ∙ append_assoc m (10 ∷ joined ms) (codes "---\n" ++ s)) in
    let q = divided_same ls ms r s hl.1 hm.1 p.1 in
    (ap (λ w. w ++ (10 ∷ joined ls)) p.0 ∙ ap (λ w. m ++ (10 ∷ w)) q.0, q.1)

pub one_division : (input : List ℕ) (ls ms : List (List ℕ)) (r s : List ℕ) → IsDivided input ls r → IsDivided input ms s → (joined ls ≡ joined ms) × (r ≡ s)
one_division input ls ms r s x y = divided_same ls ms r s x.before y.before (sym x.whole ∙ y.whole)
