-- One character between quotes.
use Rattle.std.proofs.Common.{ℕ, ◌≡◌, ◌≢◌, inl, inr, lit<, length-append, List, [], ◌∷◌, ◌++◌, true, false, Option, None, Some, length, MatchOption, sym, refl, ap, ◌∙◌, arith, append-nil}
use Rattle.std.specs.Prelude.{option_map, option_and_then, encode_utf8, IfSome}
use Rattle.std.specs.List.{flat_map}
use Rattle.std.specs.Str.{all_scalars, encode_utf8_all, IsUtf8}
use Rattle.std.proofs.lemmas.Str.{chars-nil, encode_ascii, encode_same, length-encode, len_utf8_bounds}
use Rattle.std.proofs.lemmas.Bool.Decides.{nat_tests}
use lib.Utf8.{encode}
use Rattle.semantics_lines.specs.Lines.{escape}
use Rattle.laws_lines.specs.Fronts.{strip}
use Rattle.laws_lines.specs.Quoted.{spelled, unquote, with_front, quoted_at, sole, single, char_at}
use Rattle.laws_lines.proofs.Fronts.{strip-again, strip-takes}
use Rattle.laws_lines.proofs.Quotes.{unquote-takes}
use Rattle.laws_lines.proofs.Characters.{single-again, single-takes}
use Rattle.line_text.specs.Characters.{char_in, ReadsFirst}
use Rattle.line_text.proofs.TextSteps.{reads_begin, step_other, step_quote, step_end, step_over, step_slash, step_bad}

-- the character behind the first quote
pub char-cut : (text from : List ℕ) → strip (34 ∷ []) text ≡ Some from → char_at text ≡ option_and_then char_in (unquote false from)
unfolding char_at quoted_at
char-cut text from h = ap (λ o. option_and_then char_in (option_and_then (unquote false) o)) h

pub char-none : (text : List ℕ) → strip (34 ∷ []) text ≡ None → char_at text ≡ None
unfolding char_at quoted_at
char-none text h = ap (λ o. option_and_then char_in (option_and_then (unquote false) o)) h

char_found : (c : ℕ) (rest : List ℕ) → all_scalars (c ∷ []) ≡ true → char_in (encode_utf8 c ++ [], rest) ≡ Some (c, rest)
char_found c rest h = ap (λ t. char_in (t, rest)) (append-nil (encode_utf8 c)) ∙ ap (option_map (λ x. (x, rest))) (single-again c h)

-- The first of some characters is one, where the bytes are UTF-8.
scalar_first : (cs : List ℕ) (c : ℕ) (rest : List ℕ) → all_scalars cs ≡ true → encode_utf8_all cs ≡ encode_utf8 c ++ rest → all_scalars (c ∷ []) ≡ true
scalar_first [] c rest h e = absurd (omega (arith, ap length e, length-encode c, len_utf8_bounds c, length-append (encode_utf8 c) rest))
scalar_first (d ∷ ds) c rest h e =
    let same : d ≡ c = (encode_same d c (encode_utf8_all ds) rest e).0 in
    ap (λ x. all_scalars (x ∷ [])) (sym same) ∙ first_scalar d ds h
  where
    first_scalar : (x : ℕ) (xs : List ℕ) → all_scalars (x ∷ xs) ≡ true → all_scalars (x ∷ []) ≡ true
    first_scalar x xs t = grind (arith, nat_tests)

quoted_scalar : (cs : List ℕ) (c : ℕ) (text from rest : List ℕ) → all_scalars cs ≡ true → encode_utf8_all cs ≡ text → text ≡ 34 ∷ from → from ≡ encode_utf8 c ++ rest → all_scalars (c ∷ []) ≡ true
quoted_scalar [] c text from rest h e q f = absurd (omega (arith, ap length e, ap length q))
quoted_scalar (d ∷ ds) c text from rest h e q f =
    let same = encode_same d 34 (encode_utf8_all ds) from (e ∙ q ∙ ap (λ x. x ++ from) (sym (encode_ascii 34 (lit< tt)))) in
    scalar_first ds c rest (later_scalars d ds h) (same.1 ∙ f)
  where
    later_scalars : (x : ℕ) (xs : List ℕ) → all_scalars (x ∷ xs) ≡ true → all_scalars xs ≡ true
    later_scalars x xs t = grind (arith, nat_tests)

pub char_is_scalar : (text from : List ℕ) (c : ℕ) (new : List ℕ) → IsUtf8 text → strip (34 ∷ []) text ≡ Some from → ReadsFirst from (Some c) new → all_scalars (c ∷ []) ≡ true
char_is_scalar text from c new u s r = elim r.1 [
  | inl h ↦ h
  | inr e ↦ quoted_scalar u.0 c text from new u.1.0 u.1.1 (strip-takes (34 ∷ []) text from s) e
]

-- a quote stands behind the character
pub char_whole : (from new rest : List ℕ) (c : ℕ) → ReadsFirst from (Some c) new → all_scalars (c ∷ []) ≡ true → strip (34 ∷ []) new ≡ Some rest → option_and_then char_in (unquote false from) ≡ Some (c, rest)
unfolding unquote
char_whole from new rest c r h s =
    let end : unquote false new ≡ Some ([], rest) = ap (unquote false) (strip-takes (34 ∷ []) new rest s) in
    ap (option_and_then char_in) (r.0 ∙ ap (with_front (encode_utf8 c)) end) ∙ char_found c rest h

abbrev told_by : List ℕ → Option ℕ → Option (ℕ × List ℕ)
told_by rest o = option_map (λ (x : ℕ). (x, rest)) o

none_some : (x : List ℕ) → ◌≡◌ {A = Option (List ℕ)} None (Some x) → ⊥
none_some x h = cc

-- more than one character stands before the quote
char_longer : (c : ℕ) (t new rest : List ℕ) → strip (34 ∷ []) new ≡ None → unquote false new ≡ Some (t, rest) → (d : ℕ) → single (encode_utf8 c ++ t) ≡ Some d → ⊥
char_longer c t new rest s u d h =
    let one = (single-takes (encode_utf8 c ++ t) d h).1 in
    let same = encode_same c d t [] (one ∙ sym (append-nil (encode_utf8 d))) in
    let at : new ≡ flat_map escape t ++ (34 ∷ rest) = unquote-takes new t rest u in
    let quote : new ≡ 34 ∷ rest = at ∙ ap (λ x. flat_map escape x ++ (34 ∷ rest)) same.1 in
    none_some rest (sym s ∙ ap (strip (34 ∷ [])) quote ∙ strip-again (34 ∷ []) rest)

pub char_more : (from new : List ℕ) (c : ℕ) → ReadsFirst from (Some c) new → strip (34 ∷ []) new ≡ None → option_and_then char_in (unquote false from) ≡ None
char_more from new c r s = ap (option_and_then char_in) r.0 ∙ by_rest (unquote false new) refl
  where
    by_only : (t rest : List ℕ) (o : Option ℕ) → unquote false new ≡ Some (t, rest) → single (encode_utf8 c ++ t) ≡ o → told_by rest o ≡ None
    by_only t rest None u e = refl
    by_only t rest (Some d) u e = absurd (char_longer c t new rest s u d e)

    by_rest : (o : Option (List ℕ × List ℕ)) → unquote false new ≡ o → option_and_then char_in (with_front (encode_utf8 c) o) ≡ None
    by_rest None e = refl
    by_rest (Some p) e = by_only p.0 p.1 (single (encode_utf8 c ++ p.0)) e refl

-- what the first character says

pub first_quote : (old next : List ℕ) (c : ℕ) → old ≡ encode c ++ next → c ≡ 34 → option_and_then char_in (unquote false old) ≡ None
unfolding single
first_quote old next c is e = ap (option_and_then char_in) (sym (step_quote old [] old next c (reads_begin old) is e)) ∙ ap (λ cs. option_map (λ (x : ℕ). (x, next)) (sole [] cs)) chars-nil

pub first_end : (old next : List ℕ) (c : ℕ) → old ≡ encode c ++ next → c ≡ 10 → option_and_then char_in (unquote false old) ≡ None
first_end old next c is e = ap (option_and_then char_in) (sym (step_end old [] old next c (reads_begin old) is e))

pub first_over : (old : List ℕ) → length old ≡ 0 → option_and_then char_in (unquote false old) ≡ None
first_over old e = ap (option_and_then char_in) (sym (step_over old [] old (reads_begin old) e))

pub first_other : (old next : List ℕ) (c : ℕ) → old ≡ encode c ++ next → c ≢ 34 → c ≢ 10 → c ≢ 92 → ReadsFirst old (Some c) next
first_other old next c is q e s = (sym (step_other old [] old next c (reads_begin old) is q e s), inr is)

-- a character that a backslash can spell is one
meant_is_scalar : (m : ℕ) (d : ℕ) → spelled d ≡ Some m → all_scalars (m ∷ []) ≡ true
meant_is_scalar m d h = grind (arith, nat_tests)

pub first_spelled_none : (old mid : List ℕ) (c : ℕ) → old ≡ encode c ++ mid → c ≡ 92 → unquote true mid ≡ None → option_and_then char_in (unquote false old) ≡ None
first_spelled_none old mid c is e s = ap (option_and_then char_in) (sym (step_bad old [] old mid c (reads_begin old) is e s))

pub first_spelled_some : (old mid next : List ℕ) (c m : ℕ) → old ≡ encode c ++ mid → c ≡ 92 → unquote true mid ≡ with_front (encode m) (unquote false next) → all_scalars (m ∷ []) ≡ true → ReadsFirst old (Some m) next
first_spelled_some old mid next c m is e s h = (sym (step_slash old [] old mid next c m (reads_begin old) is e s), inl h)

pub some_meant : (d : ℕ) (o : Option ℕ) → o ≡ spelled d → IfSome o (λ (m : ℕ). all_scalars (m ∷ []) ≡ true)
some_meant d None h = tt
some_meant d (Some m) h = meant_is_scalar m d (sym h)

pub first_slash : (old mid next : List ℕ) (c : ℕ) (o : Option ℕ) → old ≡ encode c ++ mid → c ≡ 92 → MatchOption o (unquote true mid ≡ None) (λ m. unquote true mid ≡ with_front (encode_utf8 m) (unquote false next))
    → IfSome o (λ (m : ℕ). all_scalars (m ∷ []) ≡ true) → ReadsFirst old o next
first_slash old mid next c None is e r s = first_spelled_none old mid c is e r
first_slash old mid next c (Some m) is e r s = first_spelled_some old mid next c m is e r s
