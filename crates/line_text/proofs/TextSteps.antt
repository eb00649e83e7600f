-- Reading a text with spellings, character by character.
use Rattle.std.proofs.Common.{ℕ, suc, ◌<◌, ◌≤◌, ◌≡◌, ◌≢◌, List, [], ◌∷◌, ◌++◌, true, false, Option, None, Some, length, get_or, MatchOption, sym, refl, ap, ◌∙◌, inl, inr, arith, append_assoc, append-nil, lit<}
use Rattle.std.proofs.lemmas.Bool.Decides.{nat_tests}
use Rattle.std.proofs.lemmas.Bool.{cases_lt}
use Rattle.std.proofs.lemmas.Str.{encode_ascii, inside_one, length-encode, len_utf8_bounds}
use lib.Utf8.{encode}
use Rattle.laws_lines.specs.Quoted.{unquote, with_front, with_spelled, spelled}
use Rattle.laws_lines.proofs.Plain.{IsOther}
use Rattle.laws_lines.proofs.Quotes.{unquote-other}

with_front_twice : (xs ys : List ℕ) (o : Option (List ℕ × List ℕ)) → with_front xs (with_front ys o) ≡ with_front (xs ++ ys) o
with_front_twice xs ys None = refl
with_front_twice xs ys (Some p) = ap (λ x. Some (x, p.1)) (sym (append_assoc xs ys p.0))

with_nothing : (o : Option (List ℕ × List ℕ)) → o ≡ with_front [] o
with_nothing None = refl
with_nothing (Some p) = refl

-- bytes that stand for themselves
unquote-others : (bs rest : List ℕ) → ((k : ℕ) → k < length bs → IsOther (get_or bs k 0)) → unquote false (bs ++ rest) ≡ with_front bs (unquote false rest)
unquote-others [] rest h = with_nothing (unquote false rest)
unquote-others (b ∷ bs) rest h =
    unquote-other b (bs ++ rest) (h 0 (omega arith)) ∙ ap (with_front (b ∷ [])) (unquote-others bs rest (λ k l. h (suc k) (omega arith))) ∙ with_front_twice (b ∷ []) bs (unquote false rest)

other_bytes : (c : ℕ) → c ≢ 34 → c ≢ 10 → c ≢ 92 → (k : ℕ) → k < length (encode c) → IsOther (get_or (encode c) k 0)
other_bytes c q e s k l =
    let same : get_or (encode c) k 0 < 128 → c ≡ get_or (encode c) k 0 = λ low. inside_one c [] (encode c) k (sym (append-nil (encode c))) l low in
    record { no_slash = λ x. s (same (omega arith) ∙ x); no_quote = λ x. q (same (omega arith) ∙ x); no_end = λ x. e (same (omega arith) ∙ x) }

-- nothing was read
pub reads_begin : (rest : List ℕ) → with_front [] (unquote false rest) ≡ unquote false rest
reads_begin rest = sym (with_nothing (unquote false rest))

-- the state of the loop: what was read so far, before what is left
abbrev pub Reads : List ℕ → List ℕ → List ℕ → Type 0
Reads text out rest = with_front out (unquote false rest) ≡ unquote false text

pub step_other : (text out rest next : List ℕ) (c : ℕ) → Reads text out rest → rest ≡ encode c ++ next → c ≢ 34 → c ≢ 10 → c ≢ 92 → Reads text (out ++ encode c) next
step_other text out rest next c h is q e s =
    sym (with_front_twice out (encode c) (unquote false next)) ∙ ap (with_front out) (sym (ap (unquote false) is ∙ unquote-others (encode c) next (other_bytes c q e s))) ∙ h

pub step_quote : (text out rest next : List ℕ) (c : ℕ) → Reads text out rest → rest ≡ encode c ++ next → c ≡ 34 → Some (out, next) ≡ unquote false text
unfolding unquote
step_quote text out rest next c h is e =
    let read : unquote false rest ≡ Some ([], next) = ap (unquote false) (is ∙ ap (λ x. encode x ++ next) e ∙ ap (λ x. x ++ next) (encode_ascii 34 (lit< tt))) in
    ap (λ x. Some (x, next)) (sym (append-nil out)) ∙ ap (with_front out) (sym read) ∙ h

pub step_end : (text out rest next : List ℕ) (c : ℕ) → Reads text out rest → rest ≡ encode c ++ next → c ≡ 10 → None ≡ unquote false text
unfolding unquote
step_end text out rest next c h is e =
    let read : unquote false rest ≡ None = ap (unquote false) (is ∙ ap (λ x. encode x ++ next) e ∙ ap (λ x. x ++ next) (encode_ascii 10 (lit< tt))) in
    ap (with_front out) (sym read) ∙ h

pub step_over : (text out rest : List ℕ) → Reads text out rest → length rest ≡ 0 → None ≡ unquote false text
unfolding unquote
step_over text out [] h e = h
step_over text out (b ∷ rest) h e = absurd (omega arith)

after_slash : (rest mid : List ℕ) → rest ≡ encode 92 ++ mid → unquote false rest ≡ unquote true mid
unfolding unquote
after_slash rest mid is = ap (unquote false) (is ∙ ap (λ x. x ++ mid) (encode_ascii 92 (lit< tt)))

spelled-low : (d : ℕ) → 128 ≤ d → spelled d ≡ None
spelled-low d h = grind (arith, nat_tests)

meant_low : (d m : ℕ) → spelled d ≡ Some m → m < 128
meant_low d m h = grind (arith, nat_tests)

meant : (m : ℕ) (d : ℕ) → spelled d ≡ Some m → (d < 128) × (m < 128)
meant m d h = elim (cases_lt d 128) [
  | inl low ↦ (low, meant_low d m h)
  | inr high ↦ absurd (let f : Some m ≡ None = sym h ∙ spelled-low d high in cc)
]

slash_some : (d m : ℕ) (next : List ℕ) → spelled d ≡ Some m → unquote true (encode d ++ next) ≡ with_front (encode m) (unquote false next)
unfolding unquote
slash_some d m next s =
    let low = meant m d s in
    ap (λ x. unquote true (x ++ next)) (encode_ascii d low.0) ∙ ap (λ x. with_spelled x (unquote false next)) s ∙ ap (λ x. with_front x (unquote false next)) (sym (encode_ascii m low.1))

first_high : (bs next : List ℕ) → 0 < length bs → 128 ≤ get_or bs 0 0 → unquote true (bs ++ next) ≡ None
unfolding unquote
first_high [] next l h = absurd (omega arith)
first_high (b ∷ bs) next l h = ap (λ x. with_spelled x (unquote false (bs ++ next))) (spelled-low b h)

slash_none : (d : ℕ) (next : List ℕ) → spelled d ≡ None → unquote true (encode d ++ next) ≡ None
unfolding unquote
slash_none d next s = elim (cases_lt d 128) [
  | inl low ↦ ap (λ x. unquote true (x ++ next)) (encode_ascii d low) ∙ ap (λ x. with_spelled x (unquote false next)) s
  | inr high ↦ first_high (encode d) next (omega (arith, length-encode d, len_utf8_bounds d))
      (elim (cases_lt (get_or (encode d) 0 0) 128) [
        | inl low ↦ let e = inside_one d [] (encode d) 0 (sym (append-nil (encode d))) (omega (arith, length-encode d, len_utf8_bounds d)) low in absurd (omega arith)
        | inr high ↦ high
      ])
]

-- what a backslash and the next character spell
pub slash_step : (mid next : List ℕ) (d : ℕ) (o : Option ℕ) → mid ≡ encode d ++ next → o ≡ spelled d → MatchOption o (unquote true mid ≡ None) (λ c. unquote true mid ≡ with_front (encode c) (unquote false next))
slash_step mid next d None is s = ap (unquote true) is ∙ slash_none d next (sym s)
slash_step mid next d (Some m) is s = ap (unquote true) is ∙ slash_some d m next (sym s)

pub slash_over : (mid : List ℕ) → length mid ≡ 0 → unquote true mid ≡ None
unfolding unquote
slash_over [] h = refl
slash_over (b ∷ bs) h = absurd (omega arith)

pub step_slash : (text out rest mid next : List ℕ) (c m : ℕ) → Reads text out rest → rest ≡ encode c ++ mid → c ≡ 92 → unquote true mid ≡ with_front (encode m) (unquote false next) → Reads text (out ++ encode m) next
step_slash text out rest mid next c m h is e s =
    sym (with_front_twice out (encode m) (unquote false next)) ∙ ap (with_front out) (sym (after_slash rest mid (is ∙ ap (λ x. encode x ++ mid) e) ∙ s)) ∙ h

pub step_bad : (text out rest mid : List ℕ) (c : ℕ) → Reads text out rest → rest ≡ encode c ++ mid → c ≡ 92 → unquote true mid ≡ None → None ≡ unquote false text
step_bad text out rest mid c h is e s =
    ap (with_front out) (sym (after_slash rest mid (is ∙ ap (λ x. encode x ++ mid) e) ∙ s)) ∙ h
