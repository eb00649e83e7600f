-- What stands after the closing quote of a text.
use Rattle.std.proofs.Common.{ℕ, ◌≡◌, ◌≢◌, List, [], ◌++◌, true, false, Option, None, Some, length, sym, refl, ap, ◌∙◌}
use Rattle.std.specs.Prelude.{option_map}
use lib.Utf8.{encode}
use Rattle.laws_lines.specs.Quoted.{unquote, with_front, after_quote}
use Rattle.line_text.proofs.TextSteps.{Reads, reads_begin, step_other, step_quote, step_end, step_over, step_slash, step_bad}

abbrev pub rest_of : Option (List ℕ × List ℕ) → Option (List ℕ)
rest_of o = option_map (λ (p : List ℕ × List ℕ). p.1) o

rest_front : (xs : List ℕ) (o : Option (List ℕ × List ℕ)) → rest_of (with_front xs o) ≡ rest_of o
rest_front xs None = refl
rest_front xs (Some p) = refl

-- what stands behind the quote is the same behind what was read
leaves : (text out rest : List ℕ) → Reads text out rest → rest_of (unquote false rest) ≡ rest_of (unquote false text)
leaves text out rest h = sym (rest_front out (unquote false rest)) ∙ ap rest_of h

pub leaves_other : (text rest next : List ℕ) (c : ℕ) → after_quote rest ≡ after_quote text → rest ≡ encode c ++ next → c ≢ 34 → c ≢ 10 → c ≢ 92 → after_quote next ≡ after_quote text
unfolding after_quote
leaves_other text rest next c h is q e s = leaves rest ([] ++ encode c) next (step_other rest [] rest next c (reads_begin rest) is q e s) ∙ h

pub leaves_slash : (text rest mid next : List ℕ) (c m : ℕ) → after_quote rest ≡ after_quote text → rest ≡ encode c ++ mid → c ≡ 92 → unquote true mid ≡ with_front (encode m) (unquote false next) → after_quote next ≡ after_quote text
unfolding after_quote
leaves_slash text rest mid next c m h is e s = leaves rest ([] ++ encode m) next (step_slash rest [] rest mid next c m (reads_begin rest) is e s) ∙ h

pub leaves_quote : (text rest next : List ℕ) (c : ℕ) → after_quote rest ≡ after_quote text → rest ≡ encode c ++ next → c ≡ 34 → Some next ≡ after_quote text
unfolding after_quote
leaves_quote text rest next c h is e = ap rest_of (step_quote rest [] rest next c (reads_begin rest) is e) ∙ h

pub leaves_end : (text rest next : List ℕ) (c : ℕ) → after_quote rest ≡ after_quote text → rest ≡ encode c ++ next → c ≡ 10 → None ≡ after_quote text
unfolding after_quote
leaves_end text rest next c h is e = ap rest_of (step_end rest [] rest next c (reads_begin rest) is e) ∙ h

pub leaves_bad : (text rest mid : List ℕ) (c : ℕ) → after_quote rest ≡ after_quote text → rest ≡ encode c ++ mid → c ≡ 92 → unquote true mid ≡ None → None ≡ after_quote text
unfolding after_quote
leaves_bad text rest mid c h is e s = ap rest_of (step_bad rest [] rest mid c (reads_begin rest) is e s) ∙ h

pub leaves_over : (text rest : List ℕ) → after_quote rest ≡ after_quote text → length rest ≡ 0 → None ≡ after_quote text
unfolding after_quote
leaves_over text rest h e = ap rest_of (step_over rest [] rest (reads_begin rest) e) ∙ h
