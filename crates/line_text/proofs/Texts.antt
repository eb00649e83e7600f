-- A text between quotes, lent from the line where it needs no spelling.
use Rattle.std.proofs.Common.{ℕ, zero, suc, ◌≡◌, ◌≢◌, List, [], ◌∷◌, ◌++◌, Bool, true, false, Option, Some, None, get_or, take, drop, ap, ◌∙◌, sym, refl, arith}
use Rattle.std.specs.Prelude.{option_map, option_and_then}
use Rattle.std.specs.List.{flat_map}
use Rattle.std.proofs.lemmas.Bool.Decides.{nat_tests}
use Rattle.semantics_lines.specs.Texts.{is_special, is_plain}
use Rattle.semantics_lines.specs.Lines.{escape}
use Rattle.laws_lines.specs.Fronts.{strip}
use Rattle.laws_lines.specs.Quoted.{with_front, unquoted, unquote, quoted_at, seen, text_at}
use Rattle.laws_lines.proofs.Plain.{IsOther, escape-plain, unquoted-other, unquoted-again, unquoted-takes}
use Rattle.laws_lines.proofs.Quotes.{unquote-again, unquote-takes}
use Rattle.line_text.specs.Special.{FindsSpecial}

other_is : (b : ℕ) → is_special b ≡ false → IsOther b
other_is b h = record { no_slash = λ e. grind (arith, nat_tests); no_quote = λ e. grind (arith, nat_tests); no_end = λ e. grind (arith, nat_tests) }

other_first : (b : ℕ) (l : List ℕ) → is_special b ≡ false → unquoted (b ∷ l) ≡ with_front (b ∷ []) (unquoted l)
other_first b l h = unquoted-other b l (other_is b h)

-- a quote comes first of what needs a spelling
pub quote_there : (l : List ℕ) (at : ℕ) → FindsSpecial l (Some at) → get_or l at 0 ≡ 34 → unquoted l ≡ Some (take at l, drop (suc at) l)
unfolding unquoted
quote_there [] at f q = absurd (omega (arith, f.0))
quote_there (b ∷ l) zero f q = (rw q refl)
quote_there (b ∷ l) (suc at) f q =
    other_first b l (f.2 0 (omega arith)) ∙ ap (with_front (b ∷ [])) (quote_there l at (omega (arith, f.0), f.1, λ k less. f.2 (suc k) (omega (arith, less))) q)

special_first : (b : ℕ) (l : List ℕ) → is_special b ≡ true → b ≢ 34 → unquoted (b ∷ l) ≡ None
unfolding unquoted
special_first b l s q = grind (arith, nat_tests)

-- something else comes first of what needs a spelling
pub other_there : (l : List ℕ) (at : ℕ) → FindsSpecial l (Some at) → get_or l at 0 ≢ 34 → unquoted l ≡ None
unfolding unquoted
other_there [] at f q = absurd (omega (arith, f.0))
other_there (b ∷ l) zero f q = special_first b l f.1 q
other_there (b ∷ l) (suc at) f q =
    other_first b l (f.2 0 (omega arith)) ∙ ap (with_front (b ∷ [])) (other_there l at (omega (arith, f.0), f.1, λ k less. f.2 (suc k) (omega (arith, less))) q)

-- nothing needs a spelling
pub none_there : (l : List ℕ) → FindsSpecial l None → unquoted l ≡ None
unfolding unquoted
none_there [] f = refl
none_there (b ∷ l) f = other_first b l (f 0 (omega arith)) ∙ ap (with_front (b ∷ [])) (none_there l (λ k less. f (suc k) (omega (arith, less))))

-- a text that needs no spelling

pub unquoted-whole : (l t rest : List ℕ) → unquoted l ≡ Some (t, rest) → (unquote false l ≡ Some (t, rest)) × (is_plain t ≡ true)
unquoted-whole l t rest h =
    let (is, plain) = unquoted-takes l t rest h in
    (ap (unquote false) (is ∙ ap (λ x. x ++ 34 ∷ rest) (sym (escape-plain t plain))) ∙ unquote-again t rest, plain)

spelled_by : (l t rest : List ℕ) (b : Bool) → is_plain t ≡ b → unquoted l ≡ None → l ≡ flat_map escape t ++ 34 ∷ rest → b ≡ false
spelled_by l t rest true plain none is =
    let read : unquoted l ≡ Some (t, rest) = ap unquoted (is ∙ ap (λ x. x ++ 34 ∷ rest) (escape-plain t plain)) ∙ unquoted-again t rest plain in
    absurd (let f : None ≡ Some (t, rest) = sym none ∙ read in cc)
spelled_by l t rest false plain none is = refl

pub unquoted-none : (l t rest : List ℕ) → unquoted l ≡ None → unquote false l ≡ Some (t, rest) → is_plain t ≡ false
unquoted-none l t rest none h = spelled_by l t rest (is_plain t) refl none (unquote-takes l t rest h)

-- a text after its first quote

seen_text : (t rest : List ℕ) (b : Bool) (o : Option (List ℕ × List ℕ)) → o ≡ Some (t, rest) → is_plain t ≡ b → option_map seen o ≡ Some (record { bytes = t; borrowed = b }, rest)
seen_text t rest b o h p = ap (option_map seen) h ∙ ap (λ x. Some (record { bytes = t; borrowed = x }, rest)) p

behind_quote : (text rest : List ℕ) → strip (34 ∷ []) text ≡ Some rest → text_at text ≡ option_map seen (unquote false rest)
unfolding text_at quoted_at
behind_quote text rest h = ap (λ o. option_map seen (option_and_then (unquote false) o)) h

pub text_borrowed : (text rest inner more : List ℕ) → strip (34 ∷ []) text ≡ Some rest → unquoted rest ≡ Some (inner, more) → text_at text ≡ Some (record { bytes = inner; borrowed = true }, more)
text_borrowed text rest inner more h read =
    let (is, plain) = unquoted-whole rest inner more read in
    behind_quote text rest h ∙ seen_text inner more true (unquote false rest) is plain

pub text_owned : (text rest inner more : List ℕ) → strip (34 ∷ []) text ≡ Some rest → unquoted rest ≡ None → unquote false rest ≡ Some (inner, more) → text_at text ≡ Some (record { bytes = inner; borrowed = false }, more)
text_owned text rest inner more h none read =
    behind_quote text rest h ∙ seen_text inner more false (unquote false rest) read (unquoted-none rest inner more none read)

pub text_none : (text rest : List ℕ) → strip (34 ∷ []) text ≡ Some rest → unquote false rest ≡ None → text_at text ≡ None
text_none text rest h none = behind_quote text rest h ∙ ap (option_map seen) none

pub text_unquoted : (text : List ℕ) → strip (34 ∷ []) text ≡ None → text_at text ≡ None
unfolding text_at quoted_at
text_unquoted text h = ap (λ o. option_map seen (option_and_then (unquote false) o)) h
