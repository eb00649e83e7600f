-- A text between quotes is read from its spelling, and only from that.
use Rattle.std.proofs.Common.{ℕ, ◌≡◌, List, [], ◌∷◌, ◌++◌, Bool, true, false, Option, None, Some, sym, refl, ap, ◌∙◌, subst, arith, append_assoc}
use Rattle.std.proofs.lemmas.Bool.Decides.{nat_tests}
use Rattle.std.specs.Prelude.{option_map, option_and_then}
use Rattle.std.specs.List.{flat_map}
use Rattle.semantics_lines.specs.Texts.{Phrase}
use Rattle.semantics_lines.specs.Lines.{escape, quoted, IsTapeText}
use Rattle.laws_lines.specs.Fronts.{strip}
use Rattle.laws_lines.specs.Quoted.{with_front, spelled, with_spelled, unquote, quoted_at, seen, text_at}
use Rattle.laws_lines.proofs.Tests.{mapped, bound}
use Rattle.laws_lines.proofs.Fronts.{strip-takes}
use Rattle.laws_lines.proofs.Plain.{IsOther, by_byte, escape-other, some_same, with_front-some}

pub unquote-other : (b : ℕ) (l : List ℕ) → IsOther b → unquote false (b ∷ l) ≡ with_front (b ∷ []) (unquote false l)
unfolding unquote
unquote-other b l h = let x = h.no_slash in let y = h.no_quote in let z = h.no_end in grind (arith, nat_tests)

pub unquote-again : (t rest : List ℕ) → unquote false (flat_map escape t ++ 34 ∷ rest) ≡ Some (t, rest)
unfolding unquote
unquote-again [] rest = refl
unquote-again (b ∷ t) rest =
    let read : unquote false (flat_map escape t ++ 34 ∷ rest) ≡ Some (t, rest) = unquote-again t rest in
    by_byte b _ (λ e. (rw (e, read) refl)) (λ e. (rw (e, read) refl)) (λ e. (rw (e, read) refl))
    (λ h. ap (λ front. unquote false (front ++ flat_map escape t ++ 34 ∷ rest)) (escape-other b h) ∙ unquote-other b (flat_map escape t ++ 34 ∷ rest) h ∙ ap (with_front (b ∷ [])) read)

with_spelled-some : (c : Option ℕ) (o : Option (List ℕ × List ℕ)) (t rest : List ℕ) → with_spelled c o ≡ Some (t, rest) → (x : ℕ) × (u : List ℕ) × (c ≡ Some x) × (o ≡ Some (u, rest)) × (t ≡ x ∷ u)
with_spelled-some None o t rest h = absurd (let f : None ≡ Some (t, rest) = h in cc)
with_spelled-some (Some x) o t rest h = let w = with_front-some (x ∷ []) o t rest h in (x, w.0, refl, w.1, w.2)

spelled-escape : (c x : ℕ) → spelled c ≡ Some x → escape x ≡ 92 ∷ c ∷ []
spelled-escape c x h = grind (arith, nat_tests)

joined : (x : ℕ) (head l t u rest : List ℕ) → escape x ≡ head → l ≡ flat_map escape u ++ 34 ∷ rest → t ≡ x ∷ u → head ++ l ≡ flat_map escape t ++ 34 ∷ rest
joined x head l t u rest e read is =
    ap (λ y. head ++ y) read ∙ ap (λ y. y ++ (flat_map escape u ++ 34 ∷ rest)) (sym e)
    ∙ sym (append_assoc (escape x) (flat_map escape u) (34 ∷ rest)) ∙ ap (λ y. flat_map escape y ++ 34 ∷ rest) (sym is)

-- what was read, with a backslash in front where one was read before
abbrev begun : Bool → List ℕ → List ℕ
begun true l = 92 ∷ l
begun false l = l

takes : (after_backslash : Bool) (l t rest : List ℕ) → unquote after_backslash l ≡ Some (t, rest) → begun after_backslash l ≡ flat_map escape t ++ 34 ∷ rest
unfolding unquote
takes true [] t rest h = absurd (let f : None ≡ Some (t, rest) = h in cc)
takes false [] t rest h = absurd (let f : None ≡ Some (t, rest) = h in cc)
takes true (c ∷ l) t rest h =
    let w = with_spelled-some (spelled c) (unquote false l) t rest h in
    joined w.0 (92 ∷ c ∷ []) l t w.1 rest (spelled-escape c w.0 w.2) (takes false l w.1 rest w.3) w.4
takes false (b ∷ l) t rest h =
    by_byte b _
    (λ e. let g : unquote true l ≡ Some (t, rest) = (rw e at h) in ap (λ x. x ∷ l) e ∙ takes true l t rest g)
    (λ e. let g : Some ([], l) ≡ Some (t, rest) = (rw e at h) in let same = some_same ([], l) (t, rest) g in ap (λ x. x ∷ l) e ∙ ap (λ y. 34 ∷ y) (ap (λ q. q.1) same) ∙ ap (λ y. flat_map escape y ++ 34 ∷ rest) (ap (λ q. q.0) same))
    (λ e. let g : None ≡ Some (t, rest) = (rw e at h) in absurd (cc g))
    (λ o. let w = with_front-some (b ∷ []) (unquote false l) t rest (sym (unquote-other b l o) ∙ h) in
    joined b (b ∷ []) l t w.0 rest (escape-other b o) (takes false l w.0 rest w.1) w.2)

pub unquote-takes : (l t rest : List ℕ) → unquote false l ≡ Some (t, rest) → l ≡ flat_map escape t ++ 34 ∷ rest
unquote-takes l t rest h = takes false l t rest h

-- the closing quote of a text, and what stands after it
quoted_cut : (t rest : List ℕ) → quoted t ++ rest ≡ 34 ∷ (flat_map escape t ++ 34 ∷ rest)
quoted_cut t rest = ap (λ x. 34 ∷ x) (append_assoc (flat_map escape t) (34 ∷ []) rest)

pub quoted-takes : (l : List ℕ) (p : List ℕ × List ℕ) → quoted_at l ≡ Some p → l ≡ quoted p.0 ++ p.1
unfolding quoted_at
quoted-takes l p h =
    let a = bound (unquote false) (strip (34 ∷ []) l) p h in
    strip-takes (34 ∷ []) l a.0 a.1 ∙ ap (λ x. 34 ∷ x) (unquote-takes a.0 p.0 p.1 a.2) ∙ sym (quoted_cut p.0 p.1)

pub quoted-again : (t rest : List ℕ) → quoted_at (quoted t ++ rest) ≡ Some (t, rest)
unfolding quoted_at
quoted-again t rest = ap (λ x. option_and_then (unquote false) (strip (34 ∷ []) x)) (quoted_cut t rest) ∙ unquote-again t rest

pub text-again : (t : Phrase) (rest : List ℕ) → IsTapeText t → text_at (quoted t.bytes ++ rest) ≡ Some (t, rest)
unfolding text_at
text-again t rest is = ap (option_map seen) (quoted-again t.bytes rest) ∙ ap (λ b. Some (record { bytes = t.bytes; borrowed = b }, rest)) (sym is)

pub text-takes : (l : List ℕ) (p : Phrase × List ℕ) → text_at l ≡ Some p → (l ≡ quoted p.0.bytes ++ p.1) × IsTapeText p.0
unfolding text_at
text-takes l p h =
    let m = mapped seen (quoted_at l) p h in
    subst (λ (q : Phrase × List ℕ). (l ≡ quoted q.0.bytes ++ q.1) × IsTapeText q.0) m.2 (quoted-takes l m.0 m.1, refl)
