-- Of an input and its lines.
use Rattle.std.proofs.Common.{ℕ, zero, suc, ◌+◌, ◌<◌, ◌≤◌, ◌≡◌, ◌≢◌, Bool, true, false, ◌&&◌, not, IsTrue, List, [], ◌∷◌, ◌++◌, length, get_or, take, drop, sym, refl, ap, ◌∙◌, subst, arith, append_assoc}
use Rattle.std.specs.Prelude.{codes, ◌==◌}
use Rattle.std.specs.List.{AllByRecursion}
use Rattle.std.proofs.lemmas.Bool.{ne_eqb, false≢true}
use Rattle.std.proofs.lemmas.List.{take-append-drop, drop_more, take_more}
use Rattle.std.proofs.Math.Seq.{take-add}
use Rattle.semantics_lines.specs.Tapes.{has_no_end}
use Rattle.semantics_lines.specs.Divided.{IsUndivided, joined, IsDivided}

-- no byte is a line feed
abbrev pub HasNoEnd : List ℕ → Type 0
HasNoEnd line = AllByRecursion (λ b. b ≢ 10) line

no_end-told : (line : List ℕ) → HasNoEnd line → IsTrue (has_no_end line)
no_end-told [] h = refl
no_end-told (b ∷ bs) h = rw (ne_eqb b 10 h.0) (no_end-told bs h.1)

both : (x y : Bool) → (x && y) ≡ true → (x ≡ true) × (y ≡ true)
both true y h = (refl, h)
both false y h = absurd (false≢true h)

is_no_end : (b : ℕ) → not (b == 10) ≡ true → b ≢ 10
is_no_end b h e = false≢true (subst (λ (x : ℕ). not (x == 10) ≡ true) e h)

no_end-meant : (line : List ℕ) → IsTrue (has_no_end line) → HasNoEnd line
no_end-meant [] h = tt
no_end-meant (b ∷ bs) h = let p = both (not (b == 10)) (has_no_end bs) h in (is_no_end b p.0, no_end-meant bs p.1)

pub undivided : (line : List ℕ) → HasNoEnd line → line ≢ codes "---" → IsUndivided line
undivided line plain differs = record { no_end = no_end-told line plain; differs = differs }

pub no_end-take : (bs : List ℕ) (k : ℕ) → k ≤ length bs → ((i : ℕ) → i < k → get_or bs i 0 ≢ 10) → HasNoEnd (take k bs)
no_end-take bs zero l h = tt
no_end-take [] (suc k) l h = tt
no_end-take (b ∷ bs) (suc k) l h = (h 0 (omega arith), no_end-take bs k (omega arith) (λ i q. h (suc i) (omega arith)))

line_split : (bs : List ℕ) (k : ℕ) → k < length bs → get_or bs k 0 ≡ 10 → bs ≡ take k bs ++ (10 ∷ drop (k + 1) bs)
line_split bs k l h = sym (take-append-drop k bs) ∙ ap (λ x. take k bs ++ x) (drop_more bs k 0 l ∙ ap (λ x. x ∷ drop (k + 1) bs) h)

pub divided_here : (input rest : List ℕ) (at k : ℕ) (lines : List (List ℕ)) → rest ≡ drop at input → k < length rest → get_or rest k 0 ≡ 10 → AllByRecursion IsUndivided lines → take at input ≡ joined lines → take k rest ≡ codes "---" → IsDivided input lines (drop (k + 1) rest)
divided_here input rest at k lines is l h plain front bar = record {
  before = plain;
  whole = sym (take-append-drop at input) ∙ ap (λ x. x ++ drop at input) front ∙ ap (λ x. joined lines ++ x) (sym is ∙ line_split rest k l h ∙ ap (λ x. x ++ (10 ∷ drop (k + 1) rest)) bar);
}

joined-push : (lines : List (List ℕ)) (line : List ℕ) → joined (lines ++ line ∷ []) ≡ joined lines ++ (line ++ 10 ∷ [])
joined-push [] line = refl
joined-push (l ∷ ls) line = ap (λ x. l ++ 10 ∷ x) (joined-push ls line) ∙ sym (append_assoc l (10 ∷ joined ls) (line ++ 10 ∷ []))

pub plain-push : (lines : List (List ℕ)) (line : List ℕ) → AllByRecursion IsUndivided lines → IsUndivided line → AllByRecursion IsUndivided (lines ++ line ∷ [])
plain-push [] line a p = (p, tt)
plain-push (l ∷ ls) line a p = (a.0, plain-push ls line a.1 p)

pub step_over : (input rest : List ℕ) (at k : ℕ) (lines : List (List ℕ)) → rest ≡ drop at input → k < length rest → get_or rest k 0 ≡ 10 → take at input ≡ joined lines → take (at + (k + 1)) input ≡ joined (lines ++ take k rest ∷ [])
step_over input rest at k lines is l h front =
    take-add at (k + 1) input
    ∙ ap (λ x. take at input ++ take (k + 1) x) (sym is)
    ∙ ap (λ x. take at input ++ x) (take_more rest k 0 l ∙ ap (λ x. take k rest ++ x ∷ []) h)
    ∙ ap (λ x. x ++ (take k rest ++ 10 ∷ [])) front ∙ sym (joined-push lines (take k rest))

no_end-has : (tail a x : List ℕ) → HasNoEnd tail → tail ≡ a ++ (10 ∷ x) → ⊥
no_end-has [] [] x n e = (cc e)
no_end-has [] (b ∷ a) x n e = (cc e)
no_end-has (t ∷ tail) [] x n e = n.0 (let h : t ≡ 10 = cc in h)
no_end-has (t ∷ tail) (b ∷ a) x n e = no_end-has tail a x n.1 (let h : tail ≡ a ++ (10 ∷ x) = cc in h)

same_line : (a b x y : List ℕ) → HasNoEnd a → HasNoEnd b → a ++ (10 ∷ x) ≡ b ++ (10 ∷ y) → (a ≡ b) × (x ≡ y)
same_line [] [] x y p q e = (refl, (let h : x ≡ y = cc in h))
same_line [] (c ∷ b) x y p q e = absurd (q.0 (let h : c ≡ 10 = cc in h))
same_line (c ∷ a) [] x y p q e = absurd (p.0 (let h : c ≡ 10 = cc in h))
same_line (c ∷ a) (d ∷ b) x y p q e =
    let head : c ≡ d = cc in
    let s = same_line a b x y p.1 q.1 (let h : a ++ (10 ∷ x) ≡ b ++ (10 ∷ y) = cc in h) in
    (ap (λ l. c ∷ l) s.0 ∙ ap (λ n. n ∷ b) head, s.1)

pub never_divided : (lines others : List (List ℕ)) (tail rest : List ℕ) → AllByRecursion IsUndivided lines → AllByRecursion IsUndivided others → HasNoEnd tail → joined lines ++ tail ≡ joined others ++ (codes "---\n" ++ rest) → ⊥
never_divided [] [] tail rest p q n e = no_end-has tail (codes "---") rest n e
never_divided [] (o ∷ os) tail rest p q n e = no_end-has tail o (joined os ++ (codes "---\n" ++ rest)) n (e ∙ append_assoc o (10 ∷ joined os) (codes "---\n" ++ rest))
never_divided (l ∷ ls) [] tail rest p q n e =
    let bar : HasNoEnd (codes "---") = (λ z. omega arith, (λ z. omega arith, (λ z. omega arith, tt))) in
    p.0.differs (same_line l (codes "---") (joined ls ++ tail) rest (no_end-meant l p.0.no_end) bar (sym (append_assoc l (10 ∷ joined ls) tail) ∙ e)).0
never_divided (l ∷ ls) (o ∷ os) tail rest p q n e =
    let s = same_line l o (joined ls ++ tail) (joined os ++ (codes "---\n" ++ rest)) (no_end-meant l p.0.no_end) (no_end-meant o q.0.no_end) (sym (append_assoc l (10 ∷ joined ls) tail) ∙ e ∙ append_assoc o (10 ∷ joined os) (codes "---\n" ++ rest)) in
    never_divided ls os tail rest p.1 q.1 n s.1
