-- The shapes of a text, defined one by one.
use Rattle.std.proofs.Common.{ℕ, ◌+◌, ◌<◌, ◌≤◌, ◌≡◌, List, [], ◌∷◌, ◌++◌, true, false, ◌&&◌, Option, Some, length, map, refl, sym, ap, ◌∙◌, subst, arith, append_assoc, append-nil, length-append, take, drop, get_or}
use Rattle.std.specs.Prelude.{IfSome, slice_get, slice_set}
use Rattle.std.specs.List.{list_all}
use Rattle.std.proofs.Math.Seq.{set-append_seam}
use Rattle.std.proofs.lemmas.List.{length-map, take_all, drop_all, drop_more, take_more, map_push, map-append, take-append-drop, length-take}
use Rattle.std.proofs.lemmas.List.Folds.{list_all-append}
use Rattle.semantics_lines.specs.Shapes.{Draft}
use Rattle.semantics_lines.specs.Scalars.{scalar_drafts}
use Rattle.semantics_lines.specs.ShapeFaults.{shape_limit}
use Rattle.semantics_lines.specs.ShapeLines.{Head, ShapeLine, head_line, item_line, field_line, variant_line}
use Rattle.semantics_lines.specs.ShapeText.{head_names, is_head, shape_names, shape_count, AreLines, name_of, is_known, Scope, definition_said, draft_said, drafts_said, all_names, unknown_ref}
use Rattle.shape_types.specs.Builder.{named, redefined}
use Rattle.laws_lines.proofs.Tests.{both}
use Rattle.shape_lines.specs.declared.shape_fault.ShapeTextFault.{ShapeTextFault}
use Rattle.shape_lines.specs.declared.shape_line.ShapeLine as declared
use Rattle.shape_lines.specs.ShapeErrors.{text_kind}
use Rattle.shape_lines.specs.ShapeLines.{shape_line}
use Rattle.shape_lines.specs.ShapeReading.{named_drafts, Defining}
use Rattle.shape_lines.specs.ShapeScopes.{IsFirstUnknown}
use Rattle.shape_lines.proofs.LineSteps.{scalar_count, names_push, other_names}

-- the line at a place, and those behind it
pub next_at : (lines : List declared.ShapeLine) (at : ℕ) (x d : declared.ShapeLine) → at < length lines → get_or lines at d ≡ x → map shape_line (drop at lines) ≡ shape_line x ∷ map shape_line (drop (at + 1) lines)
next_at lines at x d lt is = ap (map shape_line) (drop_more lines at d lt ∙ ap (λ y. y ∷ drop (at + 1) lines) is)

pub before_at : (lines : List declared.ShapeLine) (at : ℕ) (x d : declared.ShapeLine) → at < length lines → get_or lines at d ≡ x → map shape_line (take (at + 1) lines) ≡ map shape_line (take at lines) ++ shape_line x ∷ []
before_at lines at x d lt is = ap (map shape_line) (take_more lines at d lt ∙ ap (λ y. take at lines ++ y ∷ []) is) ∙ map_push shape_line (take at lines) x

pub all_at : (lines : List declared.ShapeLine) (at : ℕ) (x d : declared.ShapeLine) → at < length lines → get_or lines at d ≡ x → map shape_line lines ≡ map shape_line (take at lines) ++ (shape_line x ∷ map shape_line (drop (at + 1) lines))
all_at lines at x d lt is =
    ap (map shape_line) (sym (take-append-drop at lines)) ∙ map-append shape_line (take at lines) (drop at lines)
    ∙ ap (λ y. map shape_line (take at lines) ++ y) (next_at lines at x d lt is)

pub length_at : (lines : List declared.ShapeLine) (at : ℕ) → at ≤ length lines → length (map shape_line (take at lines)) ≡ at
length_at lines at le = omega (arith, length-map (take at lines) shape_line, length-take at lines)

pub known_push : (names : List (List ℕ)) (ls : List ShapeLine) (l : ShapeLine) → list_all (is_known names) ls ≡ true → is_known names l ≡ true → list_all (is_known names) (ls ++ l ∷ []) ≡ true
known_push names ls l h k = list_all-append (is_known names) ls (l ∷ []) ∙ both (list_all (is_known names) ls) (is_known names l && true) h (both (is_known names l) true k refl)

-- each line so far refers to shapes that are there
pub known_more : (names : List (List ℕ)) (lines : List declared.ShapeLine) (at : ℕ) (x d : declared.ShapeLine) → at < length lines → get_or lines at d ≡ x
    → list_all (is_known names) (map shape_line (take at lines)) ≡ true → is_known names (shape_line x) ≡ true → list_all (is_known names) (map shape_line (take (at + 1) lines)) ≡ true
known_more names lines at x d lt is h k = ap (list_all (is_known names)) (before_at lines at x d lt is) ∙ known_push names (map shape_line (take at lines)) (shape_line x) h k

pub known_all : (names : List (List ℕ)) (lines : List declared.ShapeLine) (at : ℕ) → length lines ≤ at → list_all (is_known names) (map shape_line (take at lines)) ≡ true → list_all (is_known names) (map shape_line lines) ≡ true
known_all names lines at le h = ap (λ x. list_all (is_known names) (map shape_line x)) (sym (take_all at lines le)) ∙ h

pub unknown_at : (names : List (List ℕ)) (lines : List declared.ShapeLine) (at : ℕ) (x d : declared.ShapeLine) (fault : ShapeTextFault) → at < length lines → get_or lines at d ≡ x
    → list_all (is_known names) (map shape_line (take at lines)) ≡ true → is_known names (shape_line x) ≡ false → fault.line ≡ at + 1 → text_kind fault.kind ≡ unknown_ref → IsFirstUnknown names (map shape_line lines) fault
unknown_at names lines at x d fault lt is h k line kind = record {
  before = map shape_line (take at lines);
  here = shape_line x;
  after = map shape_line (drop (at + 1) lines);
  are = all_at lines at x d lt is;
  known = h;
  unknown = k;
  at = line ∙ ap (λ n. n + 1) (sym (length_at lines at (omega (arith, lt))));
  kind = kind;
}

-- no line was passed
pub none_defined : (scope : Scope) (ls : List ShapeLine) (drafts : List Draft) → AreLines ls → drafts ≡ named_drafts ls → Defining scope [] ls drafts 17
none_defined scope ls drafts good is = record { done = []; are = is; count = refl; few = good.few; whole = refl }

other_said : (scope : Scope) (l : ShapeLine) (after : List ShapeLine) → is_head l ≡ false → drafts_said scope (l ∷ after) ≡ drafts_said scope after
other_said scope (head_line name head) after h = absurd (let f : true ≡ false = h in cc)
other_said scope (item_line shape) after h = refl
other_said scope (field_line f) after h = refl
other_said scope (variant_line v) after h = refl

no_more_names : (l : ShapeLine) (after : List ShapeLine) → is_head l ≡ false → shape_names (l ∷ after) ≡ shape_names after
no_more_names l after h = ap (λ x. x ++ shape_names after) (other_names l h)

-- a line was passed with which no shape begins
pub other_passed : (scope : Scope) (before after : List ShapeLine) (l : ShapeLine) (drafts : List Draft) (number : ℕ) → is_head l ≡ false
    → Defining scope before (l ∷ after) drafts number → Defining scope (before ++ l ∷ []) after drafts number
other_passed scope before after l drafts number h d = record {
  done = d.done;
  are = d.are ∙ ap (λ x. scalar_drafts ++ (d.done ++ map named x)) (no_more_names l after h);
  count = d.count;
  few = omega (arith, d.few, ap length (no_more_names l after h));
  whole = ap (λ x. d.done ++ x) (sym (other_said scope l after h)) ∙ d.whole ∙ ap (drafts_said scope) (sym (append_assoc before (l ∷ []) after));
}

pub scalars_and : (done : List Draft) → length (scalar_drafts ++ done) ≡ 17 + length done
scalars_and done = omega (arith, length-append scalar_drafts done, scalar_count)

get_seam : (xs ys : List Draft) (y : Draft) → slice_get (xs ++ (y ∷ ys)) (length xs) ≡ Some y
get_seam [] ys y = refl
get_seam (x ∷ xs) ys y = get_seam xs ys y

-- how the next shape is defined
head_set : (scope : Scope) (before after : List ShapeLine) (name : List ℕ) (head : Head) (drafts new : List Draft) (number : ℕ)
    → (d : Defining scope before (head_line name head ∷ after) drafts number)
    → IfSome (slice_get drafts number) (λ draft. new ≡ slice_set drafts number (redefined draft (definition_said scope head after)))
    → new ≡ scalar_drafts ++ ((d.done ++ draft_said scope name head after ∷ []) ++ map named (shape_names after))
head_set scope before after name head drafts new number d h =
    let front = scalar_drafts ++ d.done in
    let later = map named (shape_names after) in
    let made = draft_said scope name head after in
    let is : drafts ≡ front ++ (named name ∷ later) = d.are ∙ sym (append_assoc scalar_drafts d.done (named name ∷ later)) in
    let at : number ≡ length front = d.count ∙ sym (scalars_and d.done) in
    let found : slice_get drafts number ≡ Some (named name) = ap (λ x. slice_get x number) is ∙ ap (slice_get (front ++ (named name ∷ later))) at ∙ get_seam front later (named name) in
    let set : new ≡ slice_set drafts number (redefined (named name) (definition_said scope head after)) = subst (λ (o : Option Draft). IfSome o (λ draft. new ≡ slice_set drafts number (redefined draft (definition_said scope head after)))) found h in
    set
    ∙ ap (λ x. slice_set x number made) is
    ∙ ap (λ n. slice_set (front ++ (named name ∷ later)) n made) at
    ∙ set-append_seam front (named name) later made
    ∙ append_assoc scalar_drafts d.done (made ∷ later)
    ∙ ap (λ x. scalar_drafts ++ x) (sym (append_assoc d.done (made ∷ []) later))

-- a shape was defined
pub head_passed : (scope : Scope) (before after : List ShapeLine) (name : List ℕ) (head : Head) (drafts new : List Draft) (number : ℕ)
    → Defining scope before (head_line name head ∷ after) drafts number
    → IfSome (slice_get drafts number) (λ draft. new ≡ slice_set drafts number (redefined draft (definition_said scope head after)))
    → Defining scope (before ++ head_line name head ∷ []) after new (number + 1)
head_passed scope before after name head drafts new number d h = record {
  done = d.done ++ draft_said scope name head after ∷ [];
  are = head_set scope before after name head drafts new number d h;
  count = omega (arith, d.count, length-append d.done (draft_said scope name head after ∷ []));
  few = omega (arith, d.few);
  whole = append_assoc d.done (draft_said scope name head after ∷ []) (drafts_said scope after) ∙ d.whole ∙ ap (drafts_said scope) (sym (append_assoc before (head_line name head ∷ []) after));
}

-- the next shape has a number of its own
next_numbered : (scope : Scope) (before after : List ShapeLine) (name : List ℕ) (head : Head) (drafts : List Draft) (number : ℕ)
    → Defining scope before (head_line name head ∷ after) drafts number → (17 ≤ number) × (number < length drafts) × (number < shape_limit)
next_numbered scope before after name head drafts number d =
    let long = ap length d.are in
    let all = scalars_and (d.done ++ map named (name ∷ shape_names after)) in
    let rest = length-append d.done (map named (name ∷ shape_names after)) in
    (omega (arith, d.count), omega (arith, d.count, long, all, rest), omega (arith, d.few))

-- all shapes are defined
all_defined : (scope : Scope) (ls before after : List ShapeLine) (drafts : List Draft) (number : ℕ) → ls ≡ before → after ≡ []
    → Defining scope before after drafts number → drafts ≡ scalar_drafts ++ drafts_said scope ls
all_defined scope ls before after drafts number same none d =
    let gone : before ++ after ≡ ls = ap (λ x. before ++ x) none ∙ append-nil before ∙ sym same in
    d.are ∙ ap (λ x. scalar_drafts ++ (d.done ++ map named (shape_names x))) none
    ∙ ap (λ x. scalar_drafts ++ x) (ap (λ x. d.done ++ drafts_said scope x) (sym none) ∙ d.whole ∙ ap (drafts_said scope) gone)

-- the same of lines of the code, up to a place
abbrev pub DefiningAt : Scope → List declared.ShapeLine → ℕ → List Draft → ℕ → Type 0
DefiningAt scope lines at drafts number = Defining scope (map shape_line (take at lines)) (map shape_line (drop at lines)) drafts number

split_at : (scope : Scope) (lines : List declared.ShapeLine) (at : ℕ) (x d : declared.ShapeLine) (l : ShapeLine) (drafts : List Draft) (number : ℕ) → at < length lines → get_or lines at d ≡ x → shape_line x ≡ l
    → DefiningAt scope lines at drafts number → Defining scope (map shape_line (take at lines)) (l ∷ map shape_line (drop (at + 1) lines)) drafts number
split_at scope lines at x d l drafts number lt is line h =
    subst (λ (y : List ShapeLine). Defining scope (map shape_line (take at lines)) y drafts number) (next_at lines at x d lt is ∙ ap (λ y. y ∷ map shape_line (drop (at + 1) lines)) line) h

join_at : (scope : Scope) (lines : List declared.ShapeLine) (at : ℕ) (x d : declared.ShapeLine) (l : ShapeLine) (drafts : List Draft) (number : ℕ) → at < length lines → get_or lines at d ≡ x → shape_line x ≡ l
    → Defining scope (map shape_line (take at lines) ++ l ∷ []) (map shape_line (drop (at + 1) lines)) drafts number → DefiningAt scope lines (at + 1) drafts number
join_at scope lines at x d l drafts number lt is line h =
    subst (λ (y : List ShapeLine). Defining scope y (map shape_line (drop (at + 1) lines)) drafts number) (ap (λ y. map shape_line (take at lines) ++ y ∷ []) (sym line) ∙ sym (before_at lines at x d lt is)) h

pub other_at : (scope : Scope) (lines : List declared.ShapeLine) (at : ℕ) (x d : declared.ShapeLine) (drafts : List Draft) (number : ℕ) → at < length lines → get_or lines at d ≡ x → is_head (shape_line x) ≡ false
    → DefiningAt scope lines at drafts number → DefiningAt scope lines (at + 1) drafts number
other_at scope lines at x d drafts number lt is head h =
    join_at scope lines at x d (shape_line x) drafts number lt is refl
    (other_passed scope (map shape_line (take at lines)) (map shape_line (drop (at + 1) lines)) (shape_line x) drafts number head (split_at scope lines at x d (shape_line x) drafts number lt is refl h))

pub head_at : (scope : Scope) (lines : List declared.ShapeLine) (at : ℕ) (x d : declared.ShapeLine) (name : List ℕ) (head : Head) (drafts new : List Draft) (number : ℕ) → at < length lines → get_or lines at d ≡ x → shape_line x ≡ head_line name head
    → IfSome (slice_get drafts number) (λ draft. new ≡ slice_set drafts number (redefined draft (definition_said scope head (map shape_line (drop (at + 1) lines)))))
    → DefiningAt scope lines at drafts number → DefiningAt scope lines (at + 1) new (number + 1)
head_at scope lines at x d name head drafts new number lt is line set h =
    join_at scope lines at x d (head_line name head) new (number + 1) lt is line
    (head_passed scope (map shape_line (take at lines)) (map shape_line (drop (at + 1) lines)) name head drafts new number (split_at scope lines at x d (head_line name head) drafts number lt is line h) set)

pub numbered_at : (scope : Scope) (lines : List declared.ShapeLine) (at : ℕ) (x d : declared.ShapeLine) (name : List ℕ) (head : Head) (drafts : List Draft) (number : ℕ) → at < length lines → get_or lines at d ≡ x → shape_line x ≡ head_line name head
    → DefiningAt scope lines at drafts number → (17 ≤ number) × (number < length drafts) × (number < shape_limit)
numbered_at scope lines at x d name head drafts number lt is line h =
    next_numbered scope (map shape_line (take at lines)) (map shape_line (drop (at + 1) lines)) name head drafts number (split_at scope lines at x d (head_line name head) drafts number lt is line h)

pub defined_at_end : (scope : Scope) (lines : List declared.ShapeLine) (at : ℕ) (drafts : List Draft) (number : ℕ) → length lines ≤ at → DefiningAt scope lines at drafts number
    → drafts ≡ scalar_drafts ++ drafts_said scope (map shape_line lines)
defined_at_end scope lines at drafts number le h =
    all_defined scope (map shape_line lines) (map shape_line (take at lines)) (map shape_line (drop at lines)) drafts number (ap (map shape_line) (sym (take_all at lines le))) (ap (map shape_line) (drop_all at lines le)) h

-- how many shapes begin up to a place
pub count_head : (lines : List declared.ShapeLine) (at : ℕ) (x d : declared.ShapeLine) (name : List ℕ) (head : Head) → at < length lines → get_or lines at d ≡ x → shape_line x ≡ head_line name head
    → shape_count (map shape_line (take (at + 1) lines)) ≡ shape_count (map shape_line (take at lines)) + 1
count_head lines at x d name head lt is line =
    omega (arith, ap shape_count (before_at lines at x d lt is), ap length (names_push (map shape_line (take at lines)) (shape_line x)), length-append (shape_names (map shape_line (take at lines))) (head_names (shape_line x)), ap (λ l. length (head_names l)) line)

pub count_other : (lines : List declared.ShapeLine) (at : ℕ) (x d : declared.ShapeLine) → at < length lines → get_or lines at d ≡ x → is_head (shape_line x) ≡ false
    → shape_count (map shape_line (take (at + 1) lines)) ≡ shape_count (map shape_line (take at lines))
count_other lines at x d lt is head =
    omega (arith, ap shape_count (before_at lines at x d lt is), ap length (names_push (map shape_line (take at lines)) (shape_line x)), length-append (shape_names (map shape_line (take at lines))) (head_names (shape_line x)), ap length (other_names (shape_line x) head))

pub names_few : (names : List (List ℕ)) (ls : List ShapeLine) → names ≡ all_names ls → AreLines ls → length names ≤ 65535
names_few names ls is good =
    omega (arith, good.few, ap length is, length-append (map name_of scalar_drafts) (shape_names ls), length-map scalar_drafts name_of, scalar_count)
