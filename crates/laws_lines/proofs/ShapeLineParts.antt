-- The parts of a line are read as what they spell, and only as that.
use Rattle.std.proofs.Common.{◌≡◌, ◌≢◌, ◌⊎◌, inl, inr, ℕ, ◌^◌, List, [], ◌∷◌, ◌++◌, length, Bool, true, false, cond, ◌&&◌, not, Option, Some, None, option_map, option_and_then, refl, sym, ap, ◌∙◌, subst, append_assoc, append-nil}
use Rattle.std.specs.Prelude.{◌==◌, nat_lt, codes, encode_utf8, bytes_eq}
use Rattle.std.specs.List.{list_all}
use Rattle.std.specs.Str.{all_scalars}
use Rattle.std.proofs.lemmas.Bool.{false≢true}
use Rattle.std.proofs.lemmas.Slice.Eq.{bytes_eq-Decides}
use Rattle.semantics_lines.specs.Lines.{quoted}
use Rattle.semantics_lines.specs.ShapeLines.{is_name_byte, is_name, flag_words, pair_words}
use Rattle.laws_lines.specs.Fronts.{strip, until_space}
use Rattle.laws_lines.specs.Quoted.{quoted_at}
use Rattle.laws_lines.specs.ShapeLineReading.{or_else, ended, word_at, behind, whole, or_nothing, attribute, or_false, flag_at, name_at, names_at, quotes_at}
use Rattle.laws_lines.proofs.Tests.{both, is_both, mapped, bound}
use Rattle.laws_lines.proofs.Fronts.{strip-again, strip-takes, EndsWord, HasNoSpace, until-again, until-takes}
use Rattle.laws_lines.proofs.Quotes.{quoted-again, quoted-takes}

pub or-some : {A : Type 0} → (a b : Option A) (y : A) → or_else a b ≡ Some y → (a ≡ Some y) ⊎ (b ≡ Some y)
or-some None b y h = inr h
or-some (Some x) b y h = inl h

pub chosen : {A : Type 0} → (b : Bool) (x y : A) → cond b (Some x) None ≡ Some y → (b ≡ true) × (x ≡ y)
chosen true x y h = (refl, (let g : Some x ≡ Some y = h in cc))
chosen false x y h = absurd (let g : None ≡ Some y = h in cc)

pub same_bytes : (a b : List ℕ) → bytes_eq a b ≡ true → a ≡ b
same_bytes a b h = (bytes_eq-Decides a b).0 h

-- A reader takes what its spelling is.
abbrev pub Takes : {A : Type 0} → (List ℕ → Option (A × List ℕ)) → (A → List ℕ) → (A → Bool) → Type 0
Takes {A = A} read spell fits = (t : List ℕ) (p : A × List ℕ) → read t ≡ Some p → (fits p.0 ≡ true) × (t ≡ spell p.0 ++ p.1)

pub behind-takes : {A : Type 0} → (w : List ℕ) (read : List ℕ → Option (A × List ℕ)) (spell : A → List ℕ) (fits : A → Bool) → Takes read spell fits → Takes (behind w read) (λ x. w ++ spell x) fits
behind-takes w read spell fits takes t p h =
    let a = bound read (strip w t) p h in
    let b = takes a.0 p a.2 in
    (b.0, strip-takes w t a.0 a.1 ∙ ap (λ x. w ++ x) b.1 ∙ sym (append_assoc w (spell p.0) p.1))

pub behind-again : {A : Type 0} → (w : List ℕ) (read : List ℕ → Option (A × List ℕ)) (s rest : List ℕ) (x : A) → read (s ++ rest) ≡ Some (x, rest) → behind w read ((w ++ s) ++ rest) ≡ Some (x, rest)
behind-again w read s rest x h = ap (behind w read) (append_assoc w s rest) ∙ ap (option_and_then read) (strip-again w (s ++ rest)) ∙ h

pub ended-some : {A : Type 0} → (p : A × List ℕ) (x : A) → ended p ≡ Some x → (p.0 ≡ x) × (p.1 ≡ [])
ended-some p x h = let c = chosen (bytes_eq p.1 []) p.0 x h in (c.1, same_bytes p.1 [] c.0)

pub whole-takes : {A : Type 0} → (w : List ℕ) (read : List ℕ → Option (A × List ℕ)) (spell : A → List ℕ) (fits : A → Bool) → Takes read spell fits
    → (t : List ℕ) (x : A) → whole w read t ≡ Some x → (fits x ≡ true) × (t ≡ w ++ spell x)
whole-takes {A = A} w read spell fits takes t x h =
    let a = bound ended (behind w read t) x h in
    let e = ended-some a.0 x a.2 in
    let b = behind-takes w read spell fits takes t a.0 a.1 in
    (ap fits (sym e.0) ∙ b.0, b.1 ∙ ap (λ r. (w ++ spell a.0.0) ++ r) e.1 ∙ append-nil (w ++ spell a.0.0) ∙ ap (λ y. w ++ spell y) e.0)

pub whole-again : {A : Type 0} → (w : List ℕ) (read : List ℕ → Option (A × List ℕ)) (s : List ℕ) (x : A) → read (s ++ []) ≡ Some (x, []) → whole w read (w ++ s) ≡ Some x
whole-again w read s x h = ap (whole w read) (sym (append-nil (w ++ s))) ∙ ap (option_and_then ended) (behind-again w read s [] x h)

pub word-takes : {A : Type 0} → (w : List ℕ) (meant : A) (t : List ℕ) (p : A × List ℕ) → word_at w meant t ≡ Some p → (p.0 ≡ meant) × (t ≡ w ++ p.1)
word-takes w meant t p h =
    let m = mapped (λ rest. (meant, rest)) (strip w t) p h in
    (sym (ap (λ q. q.0) m.2), strip-takes w t m.0 m.1 ∙ ap (λ q. w ++ q.1) m.2)

-- words and what they spell, where there is something
abbrev pub suffixed : {A : Type 0} → List ℕ → (A → List ℕ) → Option A → List ℕ
suffixed w spell None = []
suffixed w spell (Some x) = w ++ spell x

abbrev pub all_fit : {A : Type 0} → (A → Bool) → Option A → Bool
all_fit fits None = true
all_fit fits (Some x) = fits x

pub attribute-takes : {A : Type 0} → (w : List ℕ) (read : List ℕ → Option (A × List ℕ)) (spell : A → List ℕ) (fits : A → Bool) → Takes read spell fits
    → (t : List ℕ) → (all_fit fits (attribute w read t).0 ≡ true) × (t ≡ suffixed w spell (attribute w read t).0 ++ (attribute w read t).1)
unfolding attribute
attribute-takes {A = A} w read spell fits takes t = by_found (behind w read t) refl
  where
    by_found : (o : Option (A × List ℕ)) → behind w read t ≡ o → (all_fit fits (or_nothing t o).0 ≡ true) × (t ≡ suffixed w spell (or_nothing t o).0 ++ (or_nothing t o).1)
    by_found None e = (refl, refl)
    by_found (Some p) e = behind-takes w read spell fits takes t p e

pub attribute-none : {A : Type 0} → (w : List ℕ) (read : List ℕ → Option (A × List ℕ)) (t : List ℕ) → strip w t ≡ None → attribute w read t ≡ (None, t)
unfolding attribute
attribute-none w read t h = ap (λ o. or_nothing t (option_and_then read o)) h

pub attribute-some : {A : Type 0} → (w : List ℕ) (read : List ℕ → Option (A × List ℕ)) (s rest : List ℕ) (x : A) → read (s ++ rest) ≡ Some (x, rest) → attribute w read ((w ++ s) ++ rest) ≡ (Some x, rest)
unfolding attribute
attribute-some w read s rest x h = ap (or_nothing ((w ++ s) ++ rest)) (behind-again w read s rest x h)

pub attribute-again : {A : Type 0} → (w : List ℕ) (read : List ℕ → Option (A × List ℕ)) (spell : A → List ℕ) (o : Option A) (rest : List ℕ) → strip w rest ≡ None
    → ((x : A) → o ≡ Some x → read (spell x ++ rest) ≡ Some (x, rest)) → attribute w read (suffixed w spell o ++ rest) ≡ (o, rest)
attribute-again w read spell None rest n h = attribute-none w read rest n
attribute-again w read spell (Some x) rest n h = attribute-some w read (spell x) rest x (h x refl)

-- where other words stand in front, and then what doesn't begin so
pub skips : {A : Type 0} → (w v : List ℕ) (spell : A → List ℕ) (o : Option A) (rest : List ℕ) → ((more : List ℕ) → strip w (v ++ more) ≡ None) → strip w rest ≡ None → strip w (suffixed v spell o ++ rest) ≡ None
skips w v spell None rest h n = n
skips w v spell (Some x) rest h n = ap (strip w) (append_assoc v (spell x) rest) ∙ h (spell x ++ rest)

pub flag-takes : (w t : List ℕ) → t ≡ flag_words w (flag_at w t).0 ++ (flag_at w t).1
unfolding flag_at
flag-takes w t = by_found (strip w t) refl
  where
    by_found : (o : Option (List ℕ)) → strip w t ≡ o → t ≡ flag_words w (or_false t o).0 ++ (or_false t o).1
    by_found None e = refl
    by_found (Some rest) e = strip-takes w t rest e

pub flag-again : (w : List ℕ) (b : Bool) (rest : List ℕ) → strip w rest ≡ None → flag_at w (flag_words w b ++ rest) ≡ (b, rest)
unfolding flag_at
flag-again w true rest n = ap (or_false (w ++ rest)) (strip-again w rest)
flag-again w false rest n = ap (or_false rest) n

pub skips_flag : (w v : List ℕ) (b : Bool) (rest : List ℕ) → ((more : List ℕ) → strip w (v ++ more) ≡ None) → strip w rest ≡ None → strip w (flag_words v b ++ rest) ≡ None
skips_flag w v true rest h n = h rest
skips_flag w v false rest h n = n

no_space : (b : ℕ) → is_name_byte b ≡ true → b ≢ 32
no_space b h e = false≢true (sym (ap is_name_byte e) ∙ h)

name_no_space : (w : List ℕ) → list_all is_name_byte w ≡ true → HasNoSpace w
name_no_space [] h = tt
name_no_space (b ∷ w) h = let p = is_both (is_name_byte b) (list_all is_name_byte w) h in (no_space b p.0, name_no_space w p.1)

abbrev pub as_it_stands : List ℕ → List ℕ
as_it_stands text = text

pub name-takes : Takes name_at as_it_stands is_name
unfolding name_at
name-takes t p h =
    let c = chosen (is_name (until_space t).0) (until_space t) p h in
    (ap (λ (q : List ℕ × List ℕ). is_name q.0) (sym c.1) ∙ c.0, until-takes t ∙ ap (λ (q : List ℕ × List ℕ). q.0 ++ q.1) c.1)

pub name-again : (n rest : List ℕ) → is_name n ≡ true → EndsWord rest → name_at (n ++ rest) ≡ Some (n, rest)
unfolding name_at
name-again n rest h e =
    let w = until-again n rest (name_no_space n (is_both (not (length n == 0)) (list_all is_name_byte n) h).1) e in
    ap (λ (q : List ℕ × List ℕ). cond (is_name q.0) (Some q) None) w ∙ ap (λ b. cond b (Some (n, rest)) None) h

abbrev pub two_names : List ℕ × List ℕ → List ℕ
two_names p = pair_words p.0 p.1

abbrev pub are_names : List ℕ × List ℕ → Bool
are_names p = is_name p.0 && is_name p.1

pub names-takes : Takes names_at two_names are_names
unfolding names_at
names-takes t p h =
    let a = bound (λ (p : List ℕ × List ℕ). option_map (λ (q : List ℕ × List ℕ). ((p.0, q.0), q.1)) (behind (codes " ") name_at p.1)) (name_at t) p h in
    let m = mapped (λ (q : List ℕ × List ℕ). ((a.0.0, q.0), q.1)) (behind (codes " ") name_at a.0.1) p a.2 in
    let first = name-takes t a.0 a.1 in
    let second = behind-takes (codes " ") name_at as_it_stands is_name name-takes a.0.1 m.0 m.1 in
    subst (λ (x : (List ℕ × List ℕ) × List ℕ). (are_names x.0 ≡ true) × (t ≡ two_names x.0 ++ x.1)) m.2
    (both (is_name a.0.0) (is_name m.0.0) first.0 second.0, first.1 ∙ ap (λ x. a.0.0 ++ x) second.1 ∙ sym (append_assoc a.0.0 (codes " " ++ m.0.0) m.0.1))

pub names-again : (n m rest : List ℕ) → is_name n ≡ true → is_name m ≡ true → EndsWord rest → names_at (pair_words n m ++ rest) ≡ Some ((n, m), rest)
unfolding names_at
names-again n m rest h k e =
    let cut = append_assoc n (codes " " ++ m) rest in
    rw (cut, name-again n (codes " " ++ m ++ rest) h refl, name-again m rest k e) refl

-- the number has so many bits at most
abbrev pub is_wide : ℕ → Bool
is_wide n = nat_lt n (2 ^ 128)

abbrev pub any_text : List ℕ → Bool
any_text text = true

pub quote-takes : Takes quoted_at quoted any_text
quote-takes t p h = (refl, quoted-takes t p h)

abbrev pub two_quotes : List ℕ × List ℕ → List ℕ
two_quotes p = quoted p.0 ++ (codes " " ++ quoted p.1)

abbrev pub any_texts : List ℕ × List ℕ → Bool
any_texts p = true

pub quotes-takes : Takes quotes_at two_quotes any_texts
unfolding quotes_at
quotes-takes t p h =
    let a = bound (λ (p : List ℕ × List ℕ). option_map (λ (q : List ℕ × List ℕ). ((p.0, q.0), q.1)) (behind (codes " ") quoted_at p.1)) (quoted_at t) p h in
    let m = mapped (λ (q : List ℕ × List ℕ). ((a.0.0, q.0), q.1)) (behind (codes " ") quoted_at a.0.1) p a.2 in
    let first = quote-takes t a.0 a.1 in
    let second = behind-takes (codes " ") quoted_at quoted any_text quote-takes a.0.1 m.0 m.1 in
    subst (λ (x : (List ℕ × List ℕ) × List ℕ). (any_texts x.0 ≡ true) × (t ≡ two_quotes x.0 ++ x.1)) m.2
    (refl, first.1 ∙ ap (λ x. quoted a.0.0 ++ x) second.1 ∙ sym (append_assoc (quoted a.0.0) (codes " " ++ quoted m.0.0) m.0.1))

pub quotes-again : (t u rest : List ℕ) → quotes_at (two_quotes (t, u) ++ rest) ≡ Some ((t, u), rest)
unfolding quotes_at
quotes-again t u rest =
    let cut = append_assoc (quoted t) (codes " " ++ quoted u) rest in
    ap quotes_at cut ∙ (rw (quoted-again t (codes " " ++ (quoted u ++ rest)), quoted-again u rest) refl)

abbrev pub is_char : ℕ → Bool
is_char c = all_scalars (c ∷ [])

abbrev pub quoted_char : ℕ → List ℕ
quoted_char c = quoted (encode_utf8 c)
