-- What comes of bytes against what tapes are.
use Rattle.std.proofs.Common.{ℕ, ◌+◌, ◌≡◌, List, [], ◌∷◌, ◌++◌, Bool, true, false, cond, eqb, Option, Some, None, length, take, sym, refl, ap, ◌∙◌, subst, arith, append_assoc, append-nil, length-append}
use Rattle.std.specs.Prelude.{IsTrue}
use Rattle.std.specs.Str.{is_utf8}
use Rattle.std.proofs.lemmas.Bool.Decides.{nat_tests}
use Rattle.semantics_lines.specs.Events.{Event, span_of}
use Rattle.semantics_lines.specs.Faults.{unexpected_eof, invalid_utf8, Fault, Ending, ends, stops, Coming}
use Rattle.semantics_lines.specs.Lines.{IsLineOf}
use Rattle.semantics_lines.specs.Tapes.{line_span, IsTapeFrom, IsTape, has_no_end, at_line, IsLineFault, no_end, no_text, no_event}
use Rattle.semantics_lines.specs.Tapes.{Comes, to_the_end, to_a_fault}
use Rattle.tape_text.specs.Reading.{event_of}
use Rattle.tape_text.specs.Coming.{Lines, longer, lines_of, Judged, good, bad, judged_text, judged, before, only, on_line, on_rest, coming_lines, coming_from}
use Rattle.tape_text.specs.Laws.{TapeIsRead}
use Rattle.tape_text.proofs.LineLaws.{event-again, event-sound, event-none, event-never, line-no_end}

-- lines and line feeds

-- lines with their line feeds, and what stands behind them
abbrev pub joined : List (List ℕ) → List ℕ → List ℕ
joined [] rest = rest
joined (l ∷ ls) rest = l ++ (10 ∷ joined ls rest)

abbrev pub HaveNoEnds : List (List ℕ) → Type 0
HaveNoEnds [] = Unit {0}
HaveNoEnds (l ∷ ls) = (has_no_end l ≡ true) × HaveNoEnds ls

-- the bytes cut into lines
record AreCut (ls : Lines) (bytes : List ℕ) : Type 0 where
  same : joined ls.whole ls.rest ≡ bytes
  lines : HaveNoEnds ls.whole
  rest : has_no_end ls.rest ≡ true

first_no_end : (b : ℕ) (l : List ℕ) → eqb b 10 ≡ false → has_no_end l ≡ true → has_no_end (b ∷ l) ≡ true
first_no_end b l h p = (rw (h, p) refl)

cut_longer : (b : ℕ) (whole : List (List ℕ)) (rest bytes : List ℕ) → eqb b 10 ≡ false → AreCut (record { whole = whole; rest = rest }) bytes
    → AreCut (longer b (record { whole = whole; rest = rest })) (b ∷ bytes)
cut_longer b [] rest bytes n h = record { same = ap (λ x. b ∷ x) h.same; lines = tt; rest = first_no_end b rest n h.rest }
cut_longer b (l ∷ ls) rest bytes n h = record { same = ap (λ x. b ∷ x) h.same; lines = (first_no_end b l n h.lines.0, h.lines.1); rest = h.rest }

feed_is : (b : ℕ) → eqb b 10 ≡ true → b ≡ 10
feed_is b h = grind (arith, nat_tests)

cut_by : (b : ℕ) (bytes : List ℕ) (ls : Lines) (test : Bool) → eqb b 10 ≡ test → AreCut ls bytes
    → AreCut (cond test (record { whole = [] ∷ ls.whole; rest = ls.rest }) (longer b ls)) (b ∷ bytes)
cut_by b bytes ls true e h = record { same = ap (λ x. 10 ∷ x) h.same ∙ ap (λ x. x ∷ bytes) (sym (feed_is b e)); lines = (refl, h.lines); rest = h.rest }
cut_by b bytes ls false e h = cut_longer b ls.whole ls.rest bytes e h

lines-cut : (bytes : List ℕ) → AreCut (lines_of bytes) bytes
unfolding lines_of
lines-cut [] = record { same = refl; lines = tt; rest = refl }
lines-cut (b ∷ bytes) = cut_by b bytes (lines_of bytes) (eqb b 10) refl (lines-cut bytes)

no_end-first : (b : ℕ) (l : List ℕ) → has_no_end (b ∷ l) ≡ true → eqb b 10 ≡ false
no_end-first b l h = grind (arith, nat_tests)

no_end-rest : (b : ℕ) (l : List ℕ) → has_no_end (b ∷ l) ≡ true → has_no_end l ≡ true
no_end-rest b l h = grind (arith, nat_tests)

lines-line : (line rest : List ℕ) → has_no_end line ≡ true → lines_of (line ++ (10 ∷ rest)) ≡ record { whole = line ∷ (lines_of rest).whole; rest = (lines_of rest).rest }
unfolding lines_of
lines-line [] rest h = refl
lines-line (b ∷ line) rest h =
    ap (λ t. cond t (record { whole = [] ∷ (lines_of (line ++ (10 ∷ rest))).whole; rest = (lines_of (line ++ (10 ∷ rest))).rest }) (longer b (lines_of (line ++ (10 ∷ rest))))) (no_end-first b line h)
    ∙ ap (longer b) (lines-line line rest (no_end-rest b line h))

lines-rest : (bytes : List ℕ) → has_no_end bytes ≡ true → lines_of bytes ≡ record { whole = []; rest = bytes }
unfolding lines_of
lines-rest [] h = refl
lines-rest (b ∷ bytes) h =
    ap (λ t. cond t (record { whole = [] ∷ (lines_of bytes).whole; rest = (lines_of bytes).rest }) (longer b (lines_of bytes))) (no_end-first b bytes h)
    ∙ ap (longer b) (lines-rest bytes (no_end-rest b bytes h))

-- what comes first is a line
pub coming-line : (at : ℕ) (line rest : List ℕ) → has_no_end line ≡ true → coming_from at (line ++ (10 ∷ rest)) ≡ on_line (judged at line) (coming_from (at + length line + 1) rest)
unfolding coming_from
coming-line at line rest h = ap (λ (ls : Lines). coming_lines at ls.whole ls.rest) (lines-line line rest h)

-- what comes where no line feed is left
pub coming-rest : (at : ℕ) (bytes : List ℕ) → has_no_end bytes ≡ true → coming_from at bytes ≡ on_rest at bytes
unfolding coming_from
coming-rest at bytes h = ap (λ (ls : Lines). coming_lines at ls.whole ls.rest) (lines-rest bytes h)

-- a line by itself

pub text_judged : (at : ℕ) (line : List ℕ) (o : Option Event) → is_utf8 line ≡ true → event_of (line_span at line) line ≡ o → judged at line ≡ judged_text at line o
unfolding judged
text_judged at line o u e = ap (λ t. cond t (judged_text at line (event_of (line_span at line) line)) (bad (at_line (invalid_utf8 (take 16 line)) at line))) u ∙ ap (judged_text at line) e

pub bytes_judged : (at : ℕ) (line : List ℕ) → is_utf8 line ≡ false → judged at line ≡ bad (at_line (invalid_utf8 (take 16 line)) at line)
unfolding judged
bytes_judged at line u = ap (λ t. cond t (judged_text at line (event_of (line_span at line) line)) (bad (at_line (invalid_utf8 (take 16 line)) at line))) u

pub not_true : (b : Bool) → (b ≡ true → ⊥) → b ≡ false
not_true true h = absurd (h refl)
not_true false h = refl

-- what the judgement of a line means
abbrev Means : ℕ → List ℕ → List ℕ → Judged → Type 0
Means at line rest (good e) = IsLineOf e line × (span_of e ≡ line_span at line)
Means at line rest (bad f) = IsLineFault at (line ++ (10 ∷ rest)) f

text_means : (at : ℕ) (line rest : List ℕ) (o : Option Event) → has_no_end line ≡ true → is_utf8 line ≡ true → event_of (line_span at line) line ≡ o → Means at line rest (judged_text at line o)
text_means at line rest None n u e = no_event line rest n refl u (event-none (line_span at line) line e) refl
text_means at line rest (Some x) n u e = event-sound (line_span at line) line u x e

means_by : (at : ℕ) (line rest : List ℕ) (b : Bool) → has_no_end line ≡ true → is_utf8 line ≡ b → Means at line rest (judged at line)
means_by at line rest true n u =
    subst (λ (j : Judged). Means at line rest j) (sym (text_judged at line (event_of (line_span at line) line) u refl))
    (text_means at line rest (event_of (line_span at line) line) n u refl)
means_by at line rest false n u =
    subst (λ (j : Judged). Means at line rest j) (sym (bytes_judged at line u))
    (no_text line rest n refl (λ (t : IsTrue (is_utf8 line)). let f : true ≡ false = sym t ∙ u in absurd (cc f)) refl)

-- the bytes cut into a tape and what stands behind it
abbrev EndsAt : ℕ → List ℕ → Ending → Type 0
EndsAt at rest ends = rest ≡ []
EndsAt at rest (stops f) = IsLineFault at rest f

record CutsAt (at : ℕ) (bytes : List ℕ) (c : Coming) : Type 0 where
  front : List ℕ
  back : List ℕ
  place : ℕ
  is : bytes ≡ front ++ back
  at_place : place ≡ at + length front
  tape : IsTapeFrom at c.events front
  ends : EndsAt place back c.ending

cut_rest : (at : ℕ) (rest : List ℕ) → has_no_end rest ≡ true → CutsAt at rest (on_rest at rest)
cut_rest at [] h = record { front = []; back = []; place = at; is = refl; at_place = omega arith; tape = refl; ends = refl }
cut_rest at (b ∷ bs) h = record { front = []; back = b ∷ bs; place = at; is = refl; at_place = omega arith; tape = refl; ends = no_end b bs refl h refl }

cut_line : (at : ℕ) (line more : List ℕ) (j : Judged) (c : Coming) → Means at line more j → CutsAt (at + length line + 1) more c → CutsAt at (line ++ (10 ∷ more)) (on_line j c)
cut_line at line more (good e) c m h = record {
  front = line ++ (10 ∷ h.front);
  back = h.back;
  place = h.place;
  is = ap (λ x. line ++ (10 ∷ x)) h.is ∙ sym (append_assoc line (10 ∷ h.front) h.back);
  at_place = omega (arith, h.at_place, length-append line (10 ∷ h.front));
  tape = (line, h.front, refl, m.0, m.1, h.tape);
  ends = h.ends;
}
cut_line at line more (bad f) c m h = record { front = []; back = line ++ (10 ∷ more); place = at; is = refl; at_place = omega arith; tape = refl; ends = m }

cut_lines : (at : ℕ) (ls : List (List ℕ)) (rest : List ℕ) → HaveNoEnds ls → has_no_end rest ≡ true → CutsAt at (joined ls rest) (coming_lines at ls rest)
cut_lines at [] rest n h = cut_rest at rest h
cut_lines at (l ∷ ls) rest n h =
    cut_line at l (joined ls rest) (judged at l) (coming_lines (at + length l + 1) ls rest) (means_by at l (joined ls rest) (is_utf8 l) n.0 refl)
    (cut_lines (at + length l + 1) ls rest n.1 h)

cut : (at : ℕ) (bytes : List ℕ) → CutsAt at bytes (coming_from at bytes)
unfolding coming_from
cut at bytes =
    let c = lines-cut bytes in
    subst (λ (x : List ℕ). CutsAt at x (coming_lines at (lines_of bytes).whole (lines_of bytes).rest)) c.same
    (cut_lines at (lines_of bytes).whole (lines_of bytes).rest c.lines c.rest)

comes_by : (input front back : List ℕ) (place : ℕ) (es : List Event) (ending : Ending) → input ≡ front ++ back → place ≡ length front → IsTape es front → EndsAt place back ending → Comes input es ending
comes_by input front back place es ends is at t e =
    to_the_end refl (subst (λ (x : List ℕ). IsTape es x) (sym (is ∙ ap (λ x. front ++ x) e ∙ append-nil front)) t)
comes_by input front back place es (stops f) is at t e =
    to_a_fault front back f refl is t (subst (λ (n : ℕ). IsLineFault n back f) at e)

comes : (input : List ℕ) → Comes input (coming_from 0 input).events (coming_from 0 input).ending
comes input =
    let c = cut 0 input in
    comes_by input c.front c.back c.place (coming_from 0 input).events (coming_from 0 input).ending c.is (omega (arith, c.at_place)) c.tape c.ends

-- the other way

preceded : List Event → Coming → Coming
preceded es c = record { events = es ++ c.events; ending = c.ending }

line_good : (at : ℕ) (e : Event) (line : List ℕ) → IsLineOf e line → span_of e ≡ line_span at line → judged at line ≡ good e
line_good at e line h s =
    text_judged at line (Some e) h.utf8 (ap (λ x. event_of x line) (sym s) ∙ event-again e line h.spelled h.texts)

tape-before : (at : ℕ) (es : List Event) (front back : List ℕ) → IsTapeFrom at es front → coming_from at (front ++ back) ≡ preceded es (coming_from (at + length front) back)
unfolding preceded
tape-before at [] front back h =
    ap (λ x. coming_from at (x ++ back)) h
    ∙ ap (λ n. coming_from n back) (let e : length front ≡ 0 = ap length h in let p : at ≡ at + length front = omega arith in p)
tape-before at (e ∷ es) front back h =
    let line = h.0 in
    let more = h.1 in
    let place : at + length line + 1 + length more ≡ at + length front = omega (arith, ap length h.2, length-append line (10 ∷ more)) in
    ap (λ x. coming_from at (x ++ back)) h.2
    ∙ ap (coming_from at) (append_assoc line (10 ∷ more) back)
    ∙ coming-line at line (more ++ back) (line-no_end e line h.3)
    ∙ ap (λ j. on_line j (coming_from (at + length line + 1) (more ++ back))) (line_good at e line h.3 h.4)
    ∙ ap (before e) (tape-before (at + length line + 1) es more back h.5)
    ∙ ap (λ n. preceded (e ∷ es) (coming_from n back)) place

fault-comes : (at : ℕ) (bytes : List ℕ) (f : Fault) → IsLineFault at bytes f → coming_from at bytes ≡ only (stops f)
fault-comes at bytes f (no_end b more is n e) =
    coming-rest at bytes n ∙ ap (on_rest at) is ∙ ap (λ x. only (stops (at_line unexpected_eof at x))) (sym is) ∙ ap (λ x. only (stops x)) (sym e)
fault-comes at bytes f (no_text line rest n is u e) =
    ap (coming_from at) is ∙ coming-line at line rest n
    ∙ ap (λ j. on_line j (coming_from (at + length line + 1) rest)) (bytes_judged at line (not_true (is_utf8 line) u))
    ∙ ap (λ x. only (stops x)) (sym e)
fault-comes at bytes f (no_event line rest n is u none e) =
    ap (coming_from at) is ∙ coming-line at line rest n
    ∙ ap (λ j. on_line j (coming_from (at + length line + 1) rest)) (text_judged at line None u (event-never (line_span at line) line u none))
    ∙ ap (λ x. only (stops x)) (sym e)

none_comes : (at : ℕ) → coming_from at [] ≡ only ends
none_comes at = coming-rest at [] refl

only_events : (es : List Event) (ending : Ending) → preceded es (only ending) ≡ record { events = es; ending = ending }
unfolding preceded
only_events es ending = ap (λ x. record { events = x; ending = ending }) (append-nil es)

only_comes : (input : List ℕ) (es : List Event) (ending : Ending) → Comes input es ending → coming_from 0 input ≡ record { events = es; ending = ending }
only_comes input es ending (to_the_end e t) =
    ap (coming_from 0) (sym (append-nil input)) ∙ tape-before 0 es input [] t ∙ ap (preceded es) (none_comes (0 + length input))
    ∙ only_events es ends ∙ ap (λ x. record { events = es; ending = x }) (sym e)
only_comes input es ending (to_a_fault front back f e is t l) =
    let zero_more : 0 + length front ≡ length front = omega arith in
    ap (coming_from 0) is ∙ tape-before 0 es front back t ∙ ap (λ n. preceded es (coming_from n back)) zero_more
    ∙ ap (preceded es) (fault-comes (length front) back f l) ∙ only_events es (stops f) ∙ ap (λ x. record { events = es; ending = x }) (sym e)

tape_comes : (input : List ℕ) (es fs : List Event) (ending : Ending) → fs ≡ es → ending ≡ ends → Comes input fs ending → IsTape es input
tape_comes input es fs ending same e (to_the_end d t) = subst (λ (x : List Event). IsTape x input) same t
tape_comes input es fs ending same e (to_a_fault front back f d is t l) = absurd (let g : ends ≡ stops f = sym e ∙ d in cc)

pub tape_is_read : (input : List ℕ) → TapeIsRead input
tape_is_read input = record {
  comes = comes input;
  only = only_comes input;
  tape = λ es h. tape_comes input es (coming_from 0 input).events (coming_from 0 input).ending (ap (λ (c : Coming). c.events) h) (ap (λ (c : Coming). c.ending) h) (comes input);
  one = λ es fs t u. ap (λ (c : Coming). c.events) (sym (only_comes input es ends (to_the_end refl t)) ∙ only_comes input fs ends (to_the_end refl u));
}
