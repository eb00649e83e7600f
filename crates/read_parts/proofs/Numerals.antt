-- What std's `parse` reads as numbers, in the words of the definitions.
use Rattle.std.proofs.Common.{◌≡◌, ℕ, ℤ, zero, suc, pos, negsuc, ◌^◌, ◌<◌, ◌≤◌, Bool, true, false, cond, ◌&&◌, List, [], ◌∷◌, length, Option, Some, None, Result, Ok, Err, option_map, refl, sym, ap, ◌∙◌, arith, rules}
use Rattle.std.specs.Prelude.{◌==◌, nat_lt, neg_ℤ}
use Rattle.std.specs.Str.{all_ascii_digits}
use Rattle.std.specs.Str.Parse.{ParsesUnsigned, ParsesSigned}
use Rattle.std.specs.Result.{OkIff}
use Rattle.std.proofs.lemmas.Bool.{ltb-true, lt-ltb, eqb-true, eqb-false}
use Rattle.std.proofs.lemmas.Str.Parse.{IsNumeralModel, numerals_by_fold, tells_all_ascii_digits, parse_plain, parse_plus, parse_signed_plain, parse_signed_plus, parse_signed_minus}
use mir.Syntax.{w128}
use Rattle.semantics_lines.specs.Shapes.{bits128}
use Rattle.semantics_lines.specs.Scalars.{fits_unsigned, fits_signed}
use Rattle.semantics.specs.Numerals.{written_behind, digits, whole_number, signed_whole_number, negated, passing, unsigned_text, signed_text}

-- the words of the definitions are those of digits
own : IsNumeralModel (λ ds. all_ascii_digits ds ≡ true) (written_behind 0)
own = numerals_by_fold _ tells_all_ascii_digits written_behind (search rules)

-- what was read, where it went well
abbrev pub read_of : {T E : Type 0} → Result T E → Option T
read_of (Ok x) = Some x
read_of (Err e) = None

-- a reader that gives x just where Q holds, which q decides
decided : {T E : Type 0} (r : Result T E) (Q : Type 0) (x : T) (q : Bool) → OkIff r Q x → (q ≡ true → Q) → (Q → q ≡ true) → read_of r ≡ cond q (Some x) None
decided (Ok y) Q x true h f g = ap Some h.1
decided (Ok y) Q x false h f g = let k = g h.0 in absurd cc
decided (Err e) Q x true h f g = absurd (h (f refl))
decided (Err e) Q x false h f g = refl

passed : {A : Type 0} (p : A → Bool) (q : Bool) (x : A) → passing p (cond q (Some x) None) ≡ cond (q && p x) (Some x) None
passed p true x = refl
passed p false x = refl

mapped : {A B : Type 0} (f : A → B) (q : Bool) (x : A) → option_map f (cond q (Some x) None) ≡ cond q (Some (f x)) None
mapped f true x = refl
mapped f false x = refl

both : (p q : Bool) → (p && q) ≡ true → (p ≡ true) × (q ≡ true)
both true q h = (refl, h)
both false q h = absurd cc

joined : (p q : Bool) → p ≡ true → q ≡ true → (p && q) ≡ true
joined p q h k = rw (h, k) refl

-- digits that are read as a number without a sign
by_digits : {E : Type 0} (ds : List ℕ) (r : Result ℕ E) → OkIff r ((all_ascii_digits ds ≡ true) × (0 < length ds) × (written_behind 0 ds < 2 ^ 128)) (written_behind 0 ds)
    → read_of r ≡ passing (fits_unsigned bits128) (digits ds)
by_digits [] r h = decided r _ (written_behind 0 []) false h (λ e. absurd cc) (λ q. absurd (omega (arith, q.1)))
by_digits (d ∷ ds) r h =
    decided r _ _ (all_ascii_digits (d ∷ ds) && nat_lt (written_behind 0 (d ∷ ds)) (2 ^ 128)) h
    (λ e. let b = both _ _ e in (b.0, omega arith, ltb-true _ _ b.1))
    (λ q. joined _ _ q.0 (lt-ltb _ _ q.2))
    ∙ sym (passed (fits_unsigned bits128) (all_ascii_digits (d ∷ ds)) (written_behind 0 (d ∷ ds)))

-- digits that are read as a number with a sign
by_positive : {E : Type 0} (ds : List ℕ) (r : Result ℤ E) → OkIff r ((all_ascii_digits ds ≡ true) × (0 < length ds) × (written_behind 0 ds < 2 ^ 127)) (pos (written_behind 0 ds))
    → read_of r ≡ passing (fits_signed bits128) (option_map pos (digits ds))
by_positive [] r h = decided r _ (pos (written_behind 0 [])) false h (λ e. absurd cc) (λ q. absurd (omega (arith, q.1)))
by_positive (d ∷ ds) r h =
    let n = written_behind 0 (d ∷ ds) in
    let are = all_ascii_digits (d ∷ ds) in
    decided r _ (pos n) (are && nat_lt n (2 ^ 127)) h
    (λ e. let b = both _ _ e in (b.0, omega arith, ltb-true _ _ b.1))
    (λ q. joined _ _ q.0 (lt-ltb _ _ q.2))
    ∙ sym (ap (passing (fits_signed bits128)) (mapped pos are n) ∙ passed (fits_signed bits128) are (pos n))

-- the least number has no positive counterpart
least : (n : ℕ) → fits_signed bits128 (negated n) ≡ true → n ≤ 2 ^ 127
least zero h = omega arith
least (suc n) h = let k = ltb-true n (2 ^ 127) h in omega arith

not_below_least : (n : ℕ) → n ≤ 2 ^ 127 → fits_signed bits128 (negated n) ≡ true
not_below_least zero h = refl
not_below_least (suc n) h = lt-ltb n (2 ^ 127) (omega arith)

-- digits behind a minus
by_negative : {E : Type 0} (ds : List ℕ) (r : Result ℤ E) → OkIff r ((all_ascii_digits ds ≡ true) × (0 < length ds) × (written_behind 0 ds ≤ 2 ^ 127)) (neg_ℤ (pos (written_behind 0 ds)))
    → read_of r ≡ passing (fits_signed bits128) (option_map negated (digits ds))
by_negative [] r h = decided r _ (negated (written_behind 0 [])) false h (λ e. absurd cc) (λ q. absurd (omega (arith, q.1)))
by_negative (d ∷ ds) r h =
    let n = written_behind 0 (d ∷ ds) in
    let are = all_ascii_digits (d ∷ ds) in
    decided r _ (negated n) (are && fits_signed bits128 (negated n)) h
    (λ e. let b = both _ _ e in (b.0, omega arith, least n b.1))
    (λ q. joined _ _ q.0 (not_below_least n q.2))
    ∙ sym (ap (passing (fits_signed bits128)) (mapped negated are n) ∙ passed (fits_signed bits128) are (negated n))

at_plus : {E : Type 0} (b : ℕ) (bs : List ℕ) (r : Result ℕ E) → ParsesUnsigned 128 10 (b ∷ bs) r → (q : Bool) → (b == 43) ≡ q
    → read_of r ≡ passing (fits_unsigned bits128) (cond q (digits bs) (digits (b ∷ bs)))
at_plus b bs r h true e = by_digits bs r (parse_plus own 128 (b ∷ bs) r h (eqb-true b 43 e))
at_plus b bs r h false e = by_digits (b ∷ bs) r (parse_plain own 128 (b ∷ bs) r h (eqb-false b 43 e))

-- `parse` at `u128` is the text rule
pub unsigned_read : {E : Type 0} (bs : List ℕ) (r : Result ℕ E) → ParsesUnsigned 128 10 bs r → read_of r ≡ unsigned_text bits128 bs
unsigned_read [] r h = by_digits [] r (parse_plain own 128 [] r h (λ e. absurd (omega (arith, e))))
unsigned_read (b ∷ bs) r h = at_plus b bs r h (b == 43) refl

at_signed_plus : {E : Type 0} (b : ℕ) (bs : List ℕ) (r : Result ℤ E) → ParsesSigned w128 10 (b ∷ bs) r → (b ≡ 45 → ⊥) → (q : Bool) → (b == 43) ≡ q
    → read_of r ≡ passing (fits_signed bits128) (option_map pos (cond q (digits bs) (digits (b ∷ bs))))
at_signed_plus b bs r h n true e = by_positive bs r (parse_signed_plus own w128 (b ∷ bs) r h (eqb-true b 43 e))
at_signed_plus b bs r h n false e = by_positive (b ∷ bs) r (parse_signed_plain own w128 (b ∷ bs) r h (eqb-false b 43 e) n)

at_minus : {E : Type 0} (b : ℕ) (bs : List ℕ) (r : Result ℤ E) → ParsesSigned w128 10 (b ∷ bs) r → (q : Bool) → (b == 45) ≡ q
    → read_of r ≡ passing (fits_signed bits128) (cond q (option_map negated (digits bs)) (option_map pos (whole_number (b ∷ bs))))
at_minus b bs r h true e = by_negative bs r (parse_signed_minus own w128 (b ∷ bs) r h (eqb-true b 45 e))
at_minus b bs r h false e = at_signed_plus b bs r h (eqb-false b 45 e) (b == 43) refl

-- and at `i128`
pub signed_read : {E : Type 0} (bs : List ℕ) (r : Result ℤ E) → ParsesSigned w128 10 bs r → read_of r ≡ signed_text bits128 bs
signed_read [] r h = by_positive [] r (parse_signed_plain own w128 [] r h (λ e. absurd (omega (arith, e))) (λ e. absurd (omega (arith, e))))
signed_read (b ∷ bs) r h = at_minus b bs r h (b == 45) refl
