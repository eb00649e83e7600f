-- What `parse` tells of a decimal, and what stands in front of one.
use Rattle.std.proofs.Common.{ℕ, ◌+◌, ◌*◌, ◌/◌, ◌%◌, ◌^◌, ◌<◌, ◌≤◌, ◌≡◌, ◌≢◌, List, [], ◌∷◌, ◌++◌, true, false, eqb, ltb, ◌&&◌, None, Some, Result, Ok, Err, length, get_or, sym, ap, ◌∙◌, subst, arith, ◌||◌, suc, length-append, append_assoc, append-nil}
use Rattle.std.proofs.lemmas.Bool.Decides.{nat_tests}
use Rattle.std.proofs.lemmas.Str.{digit_value_digit}
use Rattle.std.proofs.lemmas.Str.Parse.{digit_from_value, numerals_by_value, tells_digits, parse_plain}
use Rattle.std.proofs.lemmas.Fmt.{decimal_step_wide, decimal_digit, decimal_by_steps_wide, parse-decimal_wide}
use Rattle.std.proofs.lemmas.List.{get_or_append_left}
use Rattle.std.specs.Char.{digit_value}
use Rattle.std.specs.Result.{result_ok}
use Rattle.std.specs.Fmt.{decimal}
use Rattle.std.specs.Str.Parse.{digits_value, digits_value_after, AllDigits, ParsesUnsigned}
use Rattle.laws_lines.specs.Fronts.{number_of}
use Rattle.laws_lines.proofs.Numbers.{number-again, number-none}
use Rattle.line_text.specs.Padded.{is_padded}

-- digits behind a number make it no smaller
value_grows : (n : ℕ) (ds : List ℕ) → n ≤ digits_value_after 10 n ds
value_grows n [] = omega arith
value_grows n (c ∷ cs) = omega (arith, value_grows (n * 10 + digit_value c) cs)

-- Digits behind a number that isn't 0 stand behind its decimal.
decimal_behind : (n : ℕ) (ds : List ℕ) → 0 < n → AllDigits 10 ds → digits_value_after 10 n ds < 10 ^ 64 → decimal (digits_value_after 10 n ds) ≡ decimal n ++ ds
decimal_behind n [] some d small = sym (append-nil (decimal n))
decimal_behind n (c ∷ cs) some d small =
    let m : ℕ = n * 10 + digit_value c in
    let k = digit_value_digit c (digit_from_value c d.0) in
    let tens : m / 10 ≡ n = omega (arith, d.0) in
    let last : 48 + m % 10 ≡ c = omega (arith, d.0) in
    let step : decimal m ≡ decimal n ++ (c ∷ []) =
    decimal_step_wide m (omega arith) (omega (arith, value_grows m cs)) ∙ ap (λ x. decimal x ++ ((48 + m % 10) ∷ [])) tens ∙ ap (λ x. decimal n ++ (x ∷ [])) last in
    decimal_behind m cs (omega arith) d.1 small ∙ ap (λ x. x ++ cs) step ∙ append_assoc (decimal n) (c ∷ []) cs

-- digits without a leading zero are the decimal of their value
decimal_of_value : (ds : List ℕ) → AllDigits 10 ds → 0 < length ds → (get_or ds 0 0 ≡ 48 → length ds ≡ 1) → digits_value 10 ds < 10 ^ 64 → decimal (digits_value 10 ds) ≡ ds
decimal_of_value [] d some lead small = absurd (omega arith)
decimal_of_value (c ∷ []) d some lead small =
    let k = digit_value_digit c (digit_from_value c d.0) in
    decimal_digit (0 * 10 + digit_value c) (omega (arith, d.0)) ∙ ap (λ x. x ∷ []) (omega arith)
decimal_of_value (c ∷ e ∷ cs) d some lead small =
    let k = digit_value_digit c (digit_from_value c d.0) in
    let no : c ≡ 48 → ⊥ = λ z. omega (arith, lead z) in
    let is : 48 + (0 * 10 + digit_value c) ≡ c = omega arith in
    decimal_behind (0 * 10 + digit_value c) (e ∷ cs) (omega arith) d.1 small
    ∙ ap (λ x. x ++ (e ∷ cs)) (decimal_digit (0 * 10 + digit_value c) (omega (arith, d.0)) ∙ ap (λ x. x ∷ []) is)

-- what `parse` answers, where no sign and no leading zero stands
pub number-parsed : {E : Type 0} → (bits : ℕ) (text : List ℕ) (r : Result ℕ E) → 2 ^ bits ≤ 10 ^ 64 → ParsesUnsigned bits 10 text r → get_or text 0 0 ≢ 43 → (get_or text 0 0 ≡ 48 → length text ≡ 1) → result_ok r ≡ number_of bits text
number-parsed {E = E} bits text (Ok x) wide h sign lead =
    let read = parse_plain (numerals_by_value _ tells_digits) {E = E} bits text (Ok x) h sign in
    let d : decimal (digits_value 10 text) ≡ text = decimal_of_value text read.0.0 read.0.1 lead (omega (arith, read.0.2)) in
    let e : decimal x ≡ text = ap decimal read.1 ∙ d in
    sym (subst (λ (t : List ℕ). number_of bits t ≡ Some x) e (number-again bits x (omega (arith, read.0.2, read.1)) (omega (arith, read.0.2, read.1))))
number-parsed {E = E} bits text (Err e) wide h sign lead =
    sym (number-none bits text (λ n small is. let o : Err e ≡ Ok n = parse-decimal_wide {E = E} bits n text (Err e) small (omega arith) is h in cc))

-- A decimal begins with a digit, which is 0 only where it stands alone.
pub record HasLead (n : ℕ) (ds : List ℕ) : Type 0 where
  pub some : 0 < length ds
  pub low : 48 ≤ get_or ds 0 0
  pub lead : get_or ds 0 0 ≡ 48 → n ≡ 0
  pub zero : n ≡ 0 → length ds ≡ 1

lead_one : (n : ℕ) → n < 10 → HasLead n ((48 + n) ∷ [])
lead_one n h = record { some = omega arith; low = omega arith; lead = λ e. omega arith; zero = λ e. omega arith }

lead_more : (n : ℕ) (ds : List ℕ) → 10 ≤ n → HasLead (n / 10) ds → HasLead n (ds ++ ((48 + n % 10) ∷ []))
lead_more n ds h p =
    let first : get_or (ds ++ ((48 + n % 10) ∷ [])) 0 0 ≡ get_or ds 0 0 = get_or_append_left ds ((48 + n % 10) ∷ []) 0 0 p.some in
    record { some = omega (arith, length-append ds ((48 + n % 10) ∷ [])); low = omega (arith, p.low); lead = λ e. let z = p.lead (sym first ∙ e) in omega arith; zero = λ e. omega arith }

pub decimal_leads : (n : ℕ) → n < 10 ^ 64 → HasLead n (decimal n)
decimal_leads n h = decimal_by_steps_wide HasLead lead_one lead_more n h

clash : (x l : ℕ) → 48 ≤ x → (x ≡ 48 → l ≡ 1) → (eqb x 43 || (eqb x 48 && ltb 1 l)) ≡ true → ⊥
clash x l b f h = grind (arith, nat_tests)

padded_clash : (n : ℕ) (text : List ℕ) → HasLead n text → is_padded text ≡ true → ⊥
padded_clash n text p h =
    let a : 0 < length text = p.some in
    let b : 48 ≤ get_or text 0 0 = p.low in
    let d : get_or text 0 0 ≡ 48 → n ≡ 0 = p.lead in
    let e : n ≡ 0 → length text ≡ 1 = p.zero in
    let f : get_or text 0 0 ≡ 48 → length text ≡ 1 = λ x. e (d x) in
    clash (get_or text 0 0) (length text) b f h

plain_clash : (b : ℕ) (bs : List ℕ) → is_padded (b ∷ bs) ≡ false → b ≡ 43 → ⊥
plain_clash b bs h e = grind (arith, nat_tests)

zero_alone : (b : ℕ) (bs : List ℕ) → is_padded (b ∷ bs) ≡ false → b ≡ 48 → suc (length bs) ≡ 1
zero_alone b bs h e = grind (arith, nat_tests)

-- No sign and no leading zero stands in a decimal.
pub number-padded : (bits : ℕ) (text : List ℕ) → 2 ^ bits ≤ 10 ^ 64 → is_padded text ≡ true → number_of bits text ≡ None
number-padded bits text wide h = number-none bits text (λ n small is.
    let p = decimal_leads n (omega arith) in
    let q = subst (λ (t : List ℕ). HasLead n t) (sym is) p in
    padded_clash n text q h)

pub not_padded : (text : List ℕ) → is_padded text ≡ false → (get_or text 0 0 ≢ 43) × (get_or text 0 0 ≡ 48 → length text ≡ 1)
not_padded [] h = (λ e. omega (arith, e), λ e. absurd (omega (arith, e)))
not_padded (b ∷ bs) h = (λ e. plain_clash b bs h e, λ e. zero_alone b bs h e)
