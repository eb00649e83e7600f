-- Single characters between quotes.
use Rattle.std.proofs.Common.{ℕ, ◌≡◌, List, [], ◌∷◌, ◌++◌, true, ◌&&◌, Some, None, sym, refl, ap, ◌∙◌, append-nil, subst}
use Rattle.std.specs.Prelude.{encode_utf8, option_map}
use Rattle.std.specs.Str.{bytes_eq, chars, all_scalars}
use Rattle.std.proofs.lemmas.Slice.Eq.{bytes_eq-Decides}
use Rattle.std.proofs.lemmas.Str.{chars-encodes}
use Rattle.semantics_lines.specs.Lines.{quoted}
use Rattle.laws_lines.specs.Quoted.{quoted_at, sole, single, char_at}
use Rattle.laws_lines.proofs.Tests.{is_both, if_true, mapped, bound}
use Rattle.laws_lines.proofs.Quotes.{quoted-again, quoted-takes}

pub single-again : (c : ℕ) → all_scalars (c ∷ []) ≡ true → single (encode_utf8 c) ≡ Some c
unfolding single
single-again c h =
    let one : chars (encode_utf8 c) ≡ c ∷ [] = ap chars (sym (append-nil (encode_utf8 c))) ∙ chars-encodes (c ∷ []) h in
    let same : bytes_eq (encode_utf8 c) (encode_utf8 c) ≡ true = (bytes_eq-Decides (encode_utf8 c) (encode_utf8 c)).1 refl in
    ap (sole (encode_utf8 c)) one ∙ (rw (h, same) refl)

-- the bytes are those of the character
abbrev pub Encodes : ℕ → List ℕ → Type 0
Encodes c bytes = (all_scalars (c ∷ []) ≡ true) × (bytes ≡ encode_utf8 c)

sole-takes : (bytes : List ℕ) (cs : List ℕ) (c : ℕ) → sole bytes cs ≡ Some c → Encodes c bytes
sole-takes bytes [] c h = absurd (let g : None ≡ Some c = h in cc)
sole-takes bytes (d ∷ []) c h =
    let t = if_true (all_scalars (d ∷ []) && bytes_eq (encode_utf8 d) bytes) (Some d) c h in
    let b = is_both (all_scalars (d ∷ [])) (bytes_eq (encode_utf8 d) bytes) t.0 in
    let is : d ≡ c = (let g : Some d ≡ Some c = t.1 in cc) in
    (ap (λ x. all_scalars (x ∷ [])) (sym is) ∙ b.0, sym ((bytes_eq-Decides (encode_utf8 d) bytes).0 b.1) ∙ ap encode_utf8 is)
sole-takes bytes (d ∷ e ∷ cs) c h = absurd (let g : None ≡ Some c = h in cc)

pub single-takes : (bytes : List ℕ) (c : ℕ) → single bytes ≡ Some c → Encodes c bytes
unfolding single
single-takes bytes c h = sole-takes bytes (chars bytes) c h

pub char_at-again : (c : ℕ) (rest : List ℕ) → all_scalars (c ∷ []) ≡ true → char_at (quoted (encode_utf8 c) ++ rest) ≡ Some (c, rest)
unfolding char_at
char_at-again c rest h = rw (quoted-again (encode_utf8 c) rest, single-again c h) refl

pub char_at-takes : (l : List ℕ) (p : ℕ × List ℕ) → char_at l ≡ Some p → (all_scalars (p.0 ∷ []) ≡ true) × (l ≡ quoted (encode_utf8 p.0) ++ p.1)
unfolding char_at
char_at-takes l p h =
    let a = bound (λ (q : List ℕ × List ℕ). option_map (λ c. (c, q.1)) (single q.0)) (quoted_at l) p h in
    let m = mapped (λ c. (c, a.0.1)) (single a.0.0) p a.2 in
    let e = single-takes a.0.0 m.0 m.1 in
    subst (λ (x : ℕ × List ℕ). (all_scalars (x.0 ∷ []) ≡ true) × (l ≡ quoted (encode_utf8 x.0) ++ x.1)) m.2
    (e.0, quoted-takes l a.0 a.1 ∙ ap (λ x. quoted x ++ a.0.1) e.1)
