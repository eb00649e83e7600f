-- The lines of a shape text are determined, and none of them is refused.
use Rattle.std.proofs.Common.{◌≡◌, ℕ, ◌+◌, ◌≤◌, List, [], ◌∷◌, ◌++◌, length, Bool, true, false, cond, ◌&&◌, not, ◌==◌, Some, refl, sym, ap, ◌∙◌, arith, length-append}
use Rattle.std.proofs.lemmas.Bool.Decides.{nat_tests}
use Rattle.std.proofs.lemmas.List.{append-nil, append_cancel_left}
use Rattle.std.proofs.lemmas.Str.{is_utf8-from_IsUtf8, IsUtf8-from_ascii}
use Rattle.std.specs.List.{list_all}
use Rattle.std.specs.Str.{is_utf8}
use Rattle.semantics_lines.specs.ShapeFaults.{shape_limit}
use Rattle.semantics_lines.specs.ShapeLines.{ShapeLine, head_line, item_line, field_line, variant_line, spelling, has_parts, is_one_line, is_line}
use Rattle.laws_lines.specs.ShapeLineReading.{line_of}
use Rattle.semantics_lines.specs.ShapeText.{spelled_before, lines_before, shape_text, head_names, is_head, shape_names, shape_count, Place, place_behind, may_stand, first_place, place_after, are_in_place, ShapeTextKind, not_utf8, bad_line, out_of_place, unknown_ref, too_many, check, first_line, IsRefusedBehind}
use Rattle.laws_lines.proofs.ShapeLineLaws.{line-again}

pub both : (a b : Bool) → a && b ≡ true → (a ≡ true) × (b ≡ true)
both true b e = (refl, e)
both false b e = absurd cc

pub both_ways : (b : Bool) → b ≡ false → b ≡ true → ⊥
both_ways b h k = absurd (let f : false ≡ true = sym h ∙ k in cc)

-- no line feed
abbrev pub is_no_end : ℕ → Bool
is_no_end b = not (b == 10)

differs : (b : ℕ) → is_no_end b ≡ true → (b == 10) ≡ false
differs b h = grind (arith, nat_tests)

pub first_of : (w rest : List ℕ) → list_all is_no_end w ≡ true → first_line (w ++ (10 ∷ rest)) ≡ w
first_of [] rest h = refl
first_of (b ∷ w) rest h =
    let p = both (is_no_end b) (list_all is_no_end w) h in
    ap (λ t. cond t [] (b ∷ first_line (w ++ (10 ∷ rest)))) (differs b p.0) ∙ ap (λ x. b ∷ x) (first_of w rest p.1)

-- the parts of a line that can stand in a text
pub line_parts : (l : ShapeLine) → is_line l ≡ true → (has_parts l ≡ true) × (is_utf8 (spelling l) ≡ true) × (list_all is_no_end (spelling l) ≡ true)
line_parts l h =
    let p = both (has_parts l) (is_one_line (spelling l)) h in
    let q = both (is_utf8 (spelling l)) (list_all is_no_end (spelling l)) p.1 in
    (p.0, q.0, q.1)

pub first_spelled : (l : ShapeLine) (rest : List ℕ) → is_line l ≡ true → first_line (spelled_before l rest) ≡ spelling l
first_spelled l rest h = first_of (spelling l) rest (line_parts l h).2

-- Lines that are spelled alike say the same.
pub one_spelling : (l m : ShapeLine) → has_parts l ≡ true → has_parts m ≡ true → spelling l ≡ spelling m → l ≡ m
one_spelling l m h k e = let same : Some l ≡ Some m = sym (line-again l h) ∙ ap line_of e ∙ line-again m k in cc

pub one_line : (l m : ShapeLine) (x y : List ℕ) → is_line l ≡ true → is_line m ≡ true → spelled_before l x ≡ spelled_before m y → (l ≡ m) × (x ≡ y)
one_line l m x y h k e =
    let words : spelling l ≡ spelling m = sym (first_spelled l x h) ∙ ap first_line e ∙ first_spelled m y k in
    let rest : 10 ∷ x ≡ 10 ∷ y = append_cancel_left (spelling l) (10 ∷ x) (10 ∷ y) (e ∙ ap (λ w. w ++ (10 ∷ y)) (sym words)) in
    (one_spelling l m (line_parts l h).0 (line_parts m k).0 words, cc)

-- a line is no empty text
pub never_empty : (l : ShapeLine) (x : List ℕ) → spelled_before l x ≡ [] → ⊥
never_empty l x e = omega (arith, ap length e, length-append (spelling l) (10 ∷ x))

-- where a text is these lines, and lines with something behind, the second ones are its first
pub data Leading (ls before : List ShapeLine) (left : List ℕ) : Type 0 where
  leads : (more : List ShapeLine) → ls ≡ before ++ more → left ≡ lines_before more [] → Leading ls before left

pub leading : (before ls : List ShapeLine) (left : List ℕ) → list_all is_line before ≡ true → list_all is_line ls ≡ true → lines_before ls [] ≡ lines_before before left → Leading ls before left
leading [] ls left hb hl e = leads ls refl (sym e)
leading (b ∷ before) [] left hb hl e = absurd (never_empty b (lines_before before left) (sym e))
leading (b ∷ before) (l ∷ ls) left hb hl e =
    let pb = both (is_line b) (list_all is_line before) hb in
    let pl = both (is_line l) (list_all is_line ls) hl in
    let (same, rest) = one_line l b (lines_before ls []) (lines_before before left) pl.0 pb.0 e in
    add b l before ls left same (leading before ls left pb.1 pl.1 rest)
  where
    add : (b l : ShapeLine) (before ls : List ShapeLine) (left : List ℕ) → l ≡ b → Leading ls before left → Leading (l ∷ ls) (b ∷ before) left
    add b l before ls left same (leads more is at) = leads more (ap (λ x. x ∷ ls) same ∙ ap (λ x. b ∷ x) is) at

pub lines_same : (ls ms : List ShapeLine) → list_all is_line ls ≡ true → list_all is_line ms ≡ true → shape_text ls ≡ shape_text ms → ls ≡ ms
lines_same ls ms hl hm e = ended (leading ms ls [] hm hl e)
  where
    no_more : (more : List ShapeLine) → [] ≡ lines_before more [] → more ≡ []
    no_more [] e = refl
    no_more (m ∷ more) e = absurd (never_empty m (lines_before more []) (sym e))

    ended : Leading ls ms [] → ls ≡ ms
    ended (leads more is at) = is ∙ ap (λ x. ms ++ x) (no_more more at) ∙ append-nil ms

pub spelled_is_utf8 : (l : ShapeLine) (rest : List ℕ) → is_line l ≡ true → is_utf8 (first_line (spelled_before l rest)) ≡ true
spelled_is_utf8 l rest h = ap is_utf8 (first_spelled l rest h) ∙ (line_parts l h).1

pub nothing_is_utf8 : is_utf8 [] ≡ true
nothing_is_utf8 = is_utf8-from_IsUtf8 [] (IsUtf8-from_ascii [] (λ i. omega arith))

-- the first line of a text of lines is UTF-8
first_is_utf8 : (ls : List ShapeLine) → list_all is_line ls ≡ true → is_utf8 (first_line (lines_before ls [])) ≡ true
first_is_utf8 [] h = nothing_is_utf8
first_is_utf8 (l ∷ ls) h = spelled_is_utf8 l (lines_before ls []) (both (is_line l) (list_all is_line ls) h).0

pub all_behind : {A : Type 0} (p : A → Bool) (xs ys : List A) → list_all p (xs ++ ys) ≡ true → list_all p ys ≡ true
all_behind p [] ys h = h
all_behind p (x ∷ xs) ys h = all_behind p xs ys (both (p x) (list_all p (xs ++ ys)) h).1

pub names_append : (a b : List ShapeLine) → length (shape_names (a ++ b)) ≡ length (shape_names a) + length (shape_names b)
names_append [] b = omega arith
names_append (l ∷ a) b = omega (arith, names_append a b, length-append (head_names l) (shape_names (a ++ b)), length-append (head_names l) (shape_names a))

pub one_head : (l : ShapeLine) → is_head l ≡ true → length (head_names l) ≡ 1
one_head (head_line name head) h = refl
one_head (item_line shape) h = absurd (let f : false ≡ true = h in cc)
one_head (field_line f) h = absurd (let f : false ≡ true = h in cc)
one_head (variant_line v) h = absurd (let f : false ≡ true = h in cc)

-- the line at a seam may stand there
pub stands_there : (p : Place) (before more : List ShapeLine) (l : ShapeLine) → are_in_place p (before ++ (l ∷ more)) ≡ true → may_stand (place_after p before) l ≡ true
stands_there p [] more l h = (both (may_stand p l) (are_in_place (place_behind p l) more) h).0
stands_there p (b ∷ before) more l h = stands_there (place_behind p b) before more l (both (may_stand p b) (are_in_place (place_behind p b) (before ++ (l ∷ more))) h).1

-- a head at a seam finds room
pub room_there : (before more : List ShapeLine) (l : ShapeLine) → is_head l ≡ true → shape_count (before ++ (l ∷ more)) ≤ shape_limit → shape_count before ≡ shape_limit → ⊥
room_there before more l h few full = omega (arith, names_append before (l ∷ more), length-append (head_names l) (shape_names more), one_head l h, few, full)

-- no line refuses what is left
pub none_refused : (before more : List ShapeLine) (kind : ShapeTextKind) → list_all is_line more ≡ true → are_in_place first_place (before ++ more) ≡ true → shape_count (before ++ more) ≤ shape_limit
    → IsRefusedBehind before (lines_before more []) kind → ⊥
none_refused before more not_utf8 h placed few r = both_ways (is_utf8 (first_line (lines_before more []))) r (first_is_utf8 more h)
none_refused before [] bad_line h placed few r = r.0 refl
none_refused before (l ∷ more) bad_line h placed few r = r.2 l (lines_before more []) (both (is_line l) (list_all is_line more) h).0 refl
none_refused before [] out_of_place h placed few r = never_empty r.0 r.1.rest (sym r.1.is)
none_refused before (l ∷ more) out_of_place h placed few r =
    let same = one_line l r.0 (lines_before more []) r.1.rest (both (is_line l) (list_all is_line more) h).0 r.1.good r.1.is in
    both_ways (may_stand (place_after first_place before) r.0) r.2 (ap (may_stand (place_after first_place before)) (sym same.0) ∙ stands_there first_place before more l placed)
none_refused before [] too_many h placed few r = never_empty r.0 r.1.rest (sym r.1.is)
none_refused before (l ∷ more) too_many h placed few r =
    let same = one_line l r.0 (lines_before more []) r.1.rest (both (is_line l) (list_all is_line more) h).0 r.1.good r.1.is in
    room_there before more l (ap is_head same.0 ∙ r.2) few r.3
none_refused before more unknown_ref h placed few r = r
none_refused before more (check fault) h placed few r = r
