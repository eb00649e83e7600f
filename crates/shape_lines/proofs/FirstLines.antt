-- The first line of a text, found by its line feed.
use Rattle.std.proofs.Common.{ℕ, zero, suc, ◌+◌, ◌-◌, ◌<◌, ◌≤◌, ◌≡◌, ◌≢◌, List, [], ◌∷◌, ◌++◌, Bool, true, false, Option, None, Some, length, get_or, take, drop, sym, refl, ap, ◌∙◌, arith, length-append}
use Rattle.std.specs.Prelude.{unwrap_or}
use Rattle.std.specs.List.{list_all}
use Rattle.std.specs.Str.{is_utf8}
use Rattle.std.proofs.lemmas.Bool.Decides.{nat_tests}
use Rattle.std.proofs.lemmas.List.{take-append-drop, drop_more, take_rest, take_all}
use Rattle.semantics_lines.specs.ShapeLines.{ShapeLine, spelling, has_parts, is_one_line}
use Rattle.laws_lines.specs.ShapeLineReading.{line_of}
use Rattle.semantics_lines.specs.ShapeText.{spelled_before, first_line, BeginsWithNone}
use Rattle.laws_lines.proofs.Tests.{both}
use Rattle.laws_lines.proofs.ShapeLineLaws.{line-takes, line-again}
use Rattle.laws_lines.proofs.ShapeTextLines.{is_no_end, line_parts, first_spelled}
use Rattle.line_text.specs.Ends.{FindsEnd}
use Rattle.shape_lines.specs.ShapeLines.{StandsAt}

first-here : (b : ℕ) (bs : List ℕ) → b ≡ 10 → first_line (b ∷ bs) ≡ []
first-here b bs h = grind (arith, nat_tests)

first-other : (b : ℕ) (bs : List ℕ) → b ≢ 10 → first_line (b ∷ bs) ≡ b ∷ first_line bs
first-other b bs h = grind (arith, nat_tests)

first-at : (bs : List ℕ) (k : ℕ) → k < length bs → get_or bs k 0 ≡ 10 → ((i : ℕ) → i < k → get_or bs i 0 ≢ 10) → take k bs ≡ first_line bs
first-at [] k l h p = absurd (omega arith)
first-at (b ∷ bs) zero l h p = sym (first-here b bs h)
first-at (b ∷ bs) (suc k) l h p = ap (λ x. b ∷ x) (first-at bs k (omega arith) h (λ i q. p (suc i) (omega arith))) ∙ sym (first-other b bs (p 0 (omega arith)))

first-end : (bs : List ℕ) → ((i : ℕ) → i < length bs → get_or bs i 0 ≢ 10) → bs ≡ first_line bs
first-end [] p = refl
first-end (b ∷ bs) p = ap (λ x. b ∷ x) (first-end bs (λ i q. p (suc i) (omega arith))) ∙ sym (first-other b bs (p 0 (omega arith)))

pub taken : (bs : List ℕ) (o : Option ℕ) → FindsEnd bs o → take (unwrap_or o (length bs)) bs ≡ first_line bs
taken bs None h = take_all (length bs) bs (omega arith) ∙ first-end bs h
taken bs (Some k) h = first-at bs k h.0 h.1 h.2

pub not_true : (b : Bool) → (b ≡ true → ⊥) → b ≡ false
not_true true h = absurd (h refl)
not_true false h = refl

pub line_split : (bs : List ℕ) (k : ℕ) → k < length bs → get_or bs k 0 ≡ 10 → bs ≡ take k bs ++ (10 ∷ drop (k + 1) bs)
line_split bs k l h = sym (take-append-drop k bs) ∙ ap (λ x. take k bs ++ x) (drop_more bs k 0 l ∙ ap (λ x. x ∷ drop (k + 1) bs) h)

at_seam : (a rest : List ℕ) (b : ℕ) → get_or (a ++ (b ∷ rest)) (length a) 0 ≡ b
at_seam [] rest b = refl
at_seam (x ∷ a) rest b = at_seam a rest b

-- without a line feed no line stands there
pub none_unended : (bs : List ℕ) → ((k : ℕ) → k < length bs → get_or bs k 0 ≢ 10) → BeginsWithNone bs
none_unended bs h l rest n e =
    let long = length-append (spelling l) (10 ∷ rest) in
    h (length (spelling l)) (omega (arith, ap length e, long)) (ap (λ x. get_or x (length (spelling l)) 0) e ∙ at_seam (spelling l) rest 10)

some_is_none : (l : ShapeLine) → ◌≡◌ {A = Option ShapeLine} None (Some l) → ⊥
some_is_none l h = cc

-- a first line that says nothing
pub none_unread : (bs : List ℕ) → line_of (first_line bs) ≡ None → BeginsWithNone bs
none_unread bs h l rest n e = some_is_none l (sym h ∙ ap (λ x. line_of (first_line x)) e ∙ ap line_of (first_spelled l rest n) ∙ line-again l (line_parts l n).0)

no_end : (b : ℕ) → b ≢ 10 → is_no_end b ≡ true
no_end b h = grind (arith, nat_tests)

-- no line feed stands before the first one
no_end_before : (bs : List ℕ) (k : ℕ) → k ≤ length bs → ((i : ℕ) → i < k → get_or bs i 0 ≢ 10) → list_all is_no_end (take k bs) ≡ true
no_end_before [] zero l p = refl
no_end_before [] (suc k) l p = absurd (omega arith)
no_end_before (b ∷ bs) zero l p = refl
no_end_before (b ∷ bs) (suc k) l p = both (is_no_end b) (list_all is_no_end (take k bs)) (no_end b (p 0 (omega arith))) (no_end_before bs k (omega arith) (λ i q. p (suc i) (omega arith)))

pub stands : (bs : List ℕ) (k : ℕ) (l : ShapeLine) → k < length bs → get_or bs k 0 ≡ 10 → ((i : ℕ) → i < k → get_or bs i 0 ≢ 10) → is_utf8 (take k bs) ≡ true → line_of (take k bs) ≡ Some l
    → StandsAt bs l (take (length bs - (k + 1)) (drop (k + 1) bs))
stands bs k l b h p utf8 r =
    let s = line-takes (take k bs) l r in
    let one : is_one_line (take k bs) ≡ true = both (is_utf8 (take k bs)) (list_all is_no_end (take k bs)) utf8 (no_end_before bs k (omega (arith, b)) p) in (
      both (has_parts l) (is_one_line (spelling l)) s.0 (ap is_one_line (sym s.1) ∙ one),
      line_split bs k b h ∙ ap (λ x. x ++ (10 ∷ drop (k + 1) bs)) s.1 ∙ ap (λ x. spelled_before l x) (sym (take_rest bs (k + 1))),
    )
