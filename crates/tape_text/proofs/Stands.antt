-- What stands at a place of an input.
use Rattle.std.proofs.Common.{ℕ, suc, ◌+◌, ◌<◌, ◌≡◌, ◌≢◌, List, [], ◌∷◌, ◌++◌, true, not, eqb, length, get_or, take, drop, sym, refl, ap, ◌∙◌, arith, zero, Err}
use Rattle.std.proofs.lemmas.Bool.Decides.{nat_tests}
use Rattle.std.proofs.lemmas.List.{length-take-le, drop-drop}
use Rattle.semantics_lines.specs.Faults.{FaultKind, unexpected_eof, ends, stops}
use Rattle.semantics_lines.specs.Tapes.{at_line, has_no_end}
use Rattle.event_core.specs.Faults.{fault_kind_of, parse_fault}
use Rattle.event_core.specs.declared.error.DeserializeErrorKind.{DeserializeErrorKind}
use Rattle.event_core.specs.declared.error.ParseError.{ParseError}
use Rattle.tape_text.specs.declared.line.Stop.{Stop}
use Rattle.tape_text.specs.declared.line.Stop.TheVariants.{NoMemory, Bad}
use Rattle.tape_text.specs.Coming.{judged, only, on_line, on_rest, coming_from}
use Rattle.tape_text.specs.Parser.{coming_at, JudgesLine, StandsAt}
use Rattle.tape_text.proofs.TapeLaws.{coming-line, coming-rest}

-- an error at a line
pub fault_there : (at : ℕ) (line : List ℕ) (e : ParseError) (k : DeserializeErrorKind) (kind : FaultKind)
    → e ≡ record { span = record { offset = at; len = length line }; kind = k } → fault_kind_of k ≡ kind → parse_fault e ≡ at_line kind at line
fault_there at line e k kind is same = ap parse_fault is ∙ ap (λ x. at_line x at line) same

no_end-below : (l : List ℕ) → ((k : ℕ) → k < length l → get_or l k 0 ≢ 10) → has_no_end l ≡ true
no_end-below [] h = refl
no_end-below (b ∷ l) h =
    let first : b ≢ 10 = h 0 (omega arith) in
    let test : not (eqb b 10) ≡ true = grind (arith, nat_tests) in
    (rw (test, no_end-below l (λ k less. h (suc k) (omega arith))) refl)

no_end-front : (l : List ℕ) (n : ℕ) → n < length l → ((k : ℕ) → k < n → get_or l k 0 ≢ 10) → has_no_end (take n l) ≡ true
no_end-front l zero less h = refl
no_end-front [] (suc n) less h = refl
no_end-front (b ∷ l) (suc n) less h =
    let first : b ≢ 10 = h 0 (omega arith) in
    let test : not (eqb b 10) ≡ true = grind (arith, nat_tests) in
    (rw (test, no_end-front l n (omega arith) (λ k below. h (suc k) (omega arith))) refl)

-- a line, its line feed, and what stands behind
split_line : (l : List ℕ) (n : ℕ) → n < length l → get_or l n 0 ≡ 10 → l ≡ take n l ++ (10 ∷ drop (suc n) l)
split_line [] n less h = absurd (omega arith)
split_line (b ∷ l) zero less h = ap (λ x. x ∷ l) h
split_line (b ∷ l) (suc n) less h = ap (λ x. b ∷ x) (split_line l n (omega arith) h)

-- a line stands there
pub line_stands : (input : List ℕ) (at n : ℕ) (rest : List ℕ) → rest ≡ drop at input → n < length rest → get_or rest n 0 ≡ 10 → ((k : ℕ) → k < n → get_or rest k 0 ≢ 10)
    → coming_at input at ≡ on_line (judged at (take n rest)) (coming_at input (at + n + 1))
line_stands input at n rest is less feed front =
    let behind : drop (suc n) rest ≡ drop (at + n + 1) input = ap (drop (suc n)) is ∙ drop-drop (suc n) at input ∙ ap (λ m. drop m input) (omega arith) in
    let place : at + length (take n rest) + 1 ≡ at + n + 1 = omega (arith, length-take-le n rest (omega arith)) in
    ap (coming_from at) (sym is ∙ split_line rest n less feed)
    ∙ coming-line at (take n rest) (drop (suc n) rest) (no_end-front rest n less front)
    ∙ ap (λ m. on_line (judged at (take n rest)) (coming_from m (drop (suc n) rest))) place
    ∙ ap (λ x. on_line (judged at (take n rest)) (coming_from (at + n + 1) x)) behind

-- a line without an event stands there
pub stop_stands : (input : List ℕ) (at : ℕ) (line : List ℕ) (next : ℕ) (stop : Stop) → coming_at input at ≡ on_line (judged at line) (coming_at input next) → JudgesLine at line (Err stop) → StandsAt input at (Err stop)
stop_stands input at line next NoMemory h k = tt
stop_stands input at line next (Bad e) h k = h ∙ ap (λ j. on_line j (coming_at input next)) k

-- no line feed is left
pub rest_stands : (input : List ℕ) (at : ℕ) (rest : List ℕ) → rest ≡ drop at input → ((k : ℕ) → k < length rest → get_or rest k 0 ≢ 10) → coming_at input at ≡ on_rest at rest
rest_stands input at rest is front = ap (coming_from at) (sym is) ∙ coming-rest at rest (no_end-below rest front)

pub rest_some : (at : ℕ) (rest : List ℕ) → 0 < length rest → on_rest at rest ≡ only (stops (at_line unexpected_eof at rest))
rest_some at [] h = absurd (omega arith)
rest_some at (b ∷ bs) h = refl

pub rest_none : (at : ℕ) (rest : List ℕ) → length rest ≡ 0 → on_rest at rest ≡ only ends
rest_none at [] h = refl
rest_none at (b ∷ bs) h = absurd (omega arith)
