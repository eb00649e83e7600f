-- The body of a line is read by its first letter.
use Rattle.std.proofs.Common.{ℕ, ◌≡◌, ◌≢◌, ◌<◌, ◌≤◌, List, [], ◌∷◌, ◌++◌, cond, Option, None, Some, length, get_or, sym, refl, ap, ap₂, ◌∙◌, inl, inr, arith, append-nil, lit<}
use Rattle.std.specs.Prelude.{◌==◌, false, option_and_then, codes}
use Rattle.std.specs.Option.{option_or}
use Rattle.std.proofs.lemmas.Bool.{cases_eq, cases_lt}
use Rattle.std.proofs.lemmas.Bool.Decides.{nat_tests}
use Rattle.std.proofs.lemmas.Str.{encode_ascii, inside_one, length-encode, len_utf8_bounds}
use lib.Utf8.{encode}
use Rattle.laws_lines.specs.Fronts.{strip}
use Rattle.tape_text.specs.Bodies.{Body, Found, Reader, bare_in, bare_words, bare_at, by_word, body_in, rows, body_at}
use Rattle.tape_text.specs.Letters.{body_after}

or_none : (o : Found) → option_or o None ≡ o
or_none None = refl
or_none (Some p) = refl

by_word-none : (read : Reader) (o : Option (List ℕ)) → by_word read None o ≡ option_and_then read o
by_word-none read None = refl
by_word-none read (Some rest) = refl

-- a word that is a body by itself, and no other row
alone : (o : Found) → option_or (option_or o None) None ≡ o
alone o = ap (λ x. option_or x None) (or_none o) ∙ or_none o

-- a word that is a body by itself, and another row
both_ways : (o : Found) (read : Reader) (s : Option (List ℕ)) → option_or (option_or o None) (by_word read None s) ≡ option_or o (option_and_then read s)
both_ways o read s = ap₂ option_or (or_none o) (by_word-none read s)

-- no body begins with the byte

strip-other : (p : ℕ) (ps : List ℕ) (b : ℕ) (bs : List ℕ) → b ≢ p → strip (p ∷ ps) (b ∷ bs) ≡ None
strip-other p ps b bs h = grind (arith, nat_tests)

abbrev BeginsOther : ℕ → List ℕ → Type 0
BeginsOther b [] = ⊥
BeginsOther b (p ∷ ps) = b ≢ p

other-none : (word : List ℕ) (b : ℕ) (bs : List ℕ) → BeginsOther b word → strip word (b ∷ bs) ≡ None
other-none [] b bs h = absurd h
other-none (p ∷ ps) b bs h = strip-other p ps b bs h

abbrev BareOther : ℕ → List (List ℕ × Body) → Type 0
BareOther b [] = Unit {0}
BareOther b (w ∷ ws) = BeginsOther b w.0 × BareOther b ws

bare-none : (ws : List (List ℕ × Body)) (b : ℕ) (bs : List ℕ) → BareOther b ws → bare_in ws (b ∷ bs) ≡ None
bare-none [] b bs h = refl
bare-none (w ∷ ws) b bs h = rw (other-none w.0 b bs h.0, bare-none ws b bs h.1) refl

abbrev RowsOther : ℕ → List (List ℕ × Reader) → Type 0
RowsOther b [] = Unit {0}
RowsOther b (row ∷ more) = BeginsOther b row.0 × RowsOther b more

rows-none : (table : List (List ℕ × Reader)) (b : ℕ) (bs : List ℕ) → RowsOther b table → body_in table (b ∷ bs) ≡ None
rows-none [] b bs h = refl
rows-none (row ∷ more) b bs h = rw (other-none row.0 b bs h.0, rows-none more b bs h.1) refl

by_letter : (b letter : ℕ) (l x y : Found) → (b ≡ letter → l ≡ x) → (b ≢ letter → l ≡ y) → l ≡ cond (b == letter) x y
by_letter b letter l x y h k = elim (cases_eq b letter) [
  | inl e ↦ h e ∙ (let same : (b == letter) ≡ (letter == letter) = ap (λ z. z == letter) e in grind (arith, nat_tests))
  | inr n ↦ k n ∙ grind (arith, nat_tests)
]

pub body_letter : (b : ℕ) (bs : List ℕ) → body_at (b ∷ bs) ≡ body_after b bs
unfolding body_at bare_at
body_letter b bs =
    by_letter b 107 _ _ _ (λ e. (rw e (both_ways _ _ (strip (codes " ") bs)))) (λ k.
    by_letter b 115 _ _ _ (λ e. (rw e (by_word-none _ (strip (codes " ") bs)))) (λ s.
    by_letter b 98 _ _ _ (λ e. (rw e (by_word-none _ (strip (codes " ") bs)))) (λ h.
    by_letter b 123 _ _ _ (λ e. (rw e refl)) (λ begins.
    by_letter b 125 _ _ _ (λ e. (rw e refl)) (λ close.
    by_letter b 91 _ _ _ (λ e. (rw e refl)) (λ first.
    by_letter b 93 _ _ _ (λ e. (rw e refl)) (λ last.
    by_letter b 111 _ _ _ (λ e. (rw e refl)) (λ o.
    by_letter b 117 _ _ _ (λ e. (rw e (both_ways _ _ (strip (codes " ") bs)))) (λ u.
    by_letter b 116 _ _ _ (λ e. (rw e (alone _))) (λ t.
    by_letter b 102 _ _ _ (λ e. (rw e (alone _))) (λ f.
    by_letter b 110 _ _ _ (λ e. (rw e (alone _))) (λ n.
    by_letter b 118 _ _ _ (λ e. (rw e (both_ways _ _ (strip (codes " \"") bs)))) (λ v.
    by_letter b 99 _ _ _ (λ e. (rw e (by_word-none _ (strip (codes " ") bs)))) (λ c.
    by_letter b 105 _ _ _ (λ e. (rw e (by_word-none _ (strip (codes " ") bs)))) (λ i.
    by_letter b 85 _ _ _ (λ e. (rw e (by_word-none _ (strip (codes " ") bs)))) (λ large.
    by_letter b 73 _ _ _ (λ e. (rw e (by_word-none _ (strip (codes " ") bs)))) (λ wide.
    rw (
      bare-none bare_words b bs (begins, (close, (first, (last, (o, (u, (n, (t, (f, (k, (v, tt))))))))))),
      rows-none rows b bs (k, (s, (c, (h, (v, (u, (i, (large, (wide, tt))))))))),
    ) refl)))))))))))))))))

-- a character past ASCII begins with a byte past it
first_high : (c : ℕ) → 128 ≤ c → 128 ≤ get_or (encode c) 0 0
first_high c h = elim (cases_lt (get_or (encode c) 0 0) 128) [
  | inl low ↦ let e = inside_one c [] (encode c) 0 (sym (append-nil (encode c))) (omega (arith, length-encode c, len_utf8_bounds c)) low in absurd (omega arith)
  | inr high ↦ high
]

past_letters : (c : ℕ) (bs : List ℕ) → 128 ≤ c → body_after c bs ≡ None
past_letters c bs h =
    let no : (letter : ℕ) → letter < 128 → (c == letter) ≡ false = λ letter less. grind (arith, nat_tests) in
    rw (
      no 107 (lit< tt),
      no 115 (lit< tt),
      no 98 (lit< tt),
      no 123 (lit< tt),
      no 125 (lit< tt),
      no 91 (lit< tt),
      no 93 (lit< tt),
      no 111 (lit< tt),
      no 117 (lit< tt),
      no 116 (lit< tt),
      no 102 (lit< tt),
      no 110 (lit< tt),
      no 118 (lit< tt),
      no 99 (lit< tt),
      no 105 (lit< tt),
      no 85 (lit< tt),
      no 73 (lit< tt),
    ) refl

past_ascii : (bs rest : List ℕ) → 0 < length bs → 128 ≤ get_or bs 0 0 → body_at (bs ++ rest) ≡ None
past_ascii [] rest l h = absurd (omega (arith, l))
past_ascii (b ∷ bs) rest l h = body_letter b (bs ++ rest) ∙ past_letters b (bs ++ rest) h

-- the body of a line whose first character is this
pub body_first : (text rest : List ℕ) (c : ℕ) → text ≡ encode c ++ rest → body_at text ≡ body_after c rest
body_first text rest c is = elim (cases_lt c 128) [
  | inl low ↦ ap body_at (is ∙ ap (λ x. x ++ rest) (encode_ascii c low)) ∙ body_letter c rest
  | inr high ↦ ap body_at is ∙ past_ascii (encode c) rest (omega (arith, length-encode c, len_utf8_bounds c)) (first_high c high) ∙ sym (past_letters c rest high)
]

pub body_none : (text : List ℕ) → length text ≡ 0 → body_at text ≡ None
unfolding body_at bare_at
body_none [] h = refl
body_none (b ∷ bs) h = absurd (omega (arith, h))
