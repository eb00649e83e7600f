-- The lines of a text, one by one.
use Rattle.std.proofs.Common.{ℕ, ◌+◌, ◌<◌, ◌≤◌, ◌≡◌, List, [], ◌∷◌, ◌++◌, true, false, ◌&&◌, length, map, refl, sym, ap, ◌∙◌, subst, arith, append_assoc, append-nil, length-append, Result, Ok, Err, ◌==◌, eqb-true}
use Rattle.std.specs.Prelude.{OnOk}
use Rattle.std.specs.List.{list_all}
use Rattle.std.proofs.lemmas.List.{length-map}
use Rattle.std.proofs.lemmas.List.Folds.{list_all-append}
use Rattle.semantics_lines.specs.Shapes.{Draft}
use Rattle.semantics_lines.specs.Scalars.{scalar_drafts}
use Rattle.semantics_lines.specs.ShapeFaults.{shape_limit}
use Rattle.semantics_lines.specs.ShapeLines.{Head, ShapeLine, head_line, item_line, field_line, variant_line, spelling, is_line}
use Rattle.semantics_lines.specs.ShapeText.{spelled_before, lines_before, head_names, is_head, shape_names, shape_count, Place, place_behind, may_stand, first_place, place_after, are_in_place, AreLines, out_of_place, IsRefusedBehind}
use Rattle.shape_types.specs.Builder.{named}
use Rattle.laws_lines.proofs.Tests.{both, is_both}
use Rattle.shape_lines.specs.declared.shape_fault.ShapeTextFault.{ShapeTextFault}
use Rattle.shape_lines.specs.declared.shape_fault.ReadShapesError.{ReadShapesError}
use Rattle.shape_lines.specs.declared.shape_fault.ReadShapesError.TheVariants as error
use Rattle.shape_lines.specs.ShapeErrors.{text_kind}
use Rattle.std.specs.Borrow.{Bor}
use Rattle.shape_lines.specs.declared.shape_line.ShapeLine as declared
use Rattle.shape_lines.specs.declared.shape_line.ShapeLine.TheVariants as line
use Rattle.shape_lines.specs.declared.shape_line.Head as declared_head
use Rattle.shape_lines.specs.ShapeLines.{shape_line, StandsAt}
use Rattle.shape_lines.specs.ShapeReading.{named_drafts, IsNamed, IsFull, IsPlaceFault, IsLineFault}

pub scalar_count : length scalar_drafts ≡ 17
unfolding scalar_drafts
scalar_count = refl

pub named_count : (ls : List ShapeLine) → length (named_drafts ls) ≡ shape_count ls
named_count ls = omega (arith, length-append scalar_drafts (map named (shape_names ls)), length-map (shape_names ls) named, scalar_count)

pub names-append : (ls more : List ShapeLine) → shape_names (ls ++ more) ≡ shape_names ls ++ shape_names more
names-append [] more = refl
names-append (l ∷ ls) more = ap (λ x. head_names l ++ x) (names-append ls more) ∙ sym (append_assoc (head_names l) (shape_names ls) (shape_names more))

pub names_push : (ls : List ShapeLine) (l : ShapeLine) → shape_names (ls ++ l ∷ []) ≡ shape_names ls ++ head_names l
names_push ls l = names-append ls (l ∷ []) ∙ ap (λ x. shape_names ls ++ x) (append-nil (head_names l))

map_append : {A B : Type 0} → (f : A → B) (xs ys : List A) → map f (xs ++ ys) ≡ map f xs ++ map f ys
map_append f [] ys = refl
map_append f (x ∷ xs) ys = ap (λ z. f x ∷ z) (map_append f xs ys)

drafts_push : (ls : List ShapeLine) (l : ShapeLine) → named_drafts ls ++ map named (head_names l) ≡ named_drafts (ls ++ l ∷ [])
drafts_push ls l =
    append_assoc scalar_drafts (map named (shape_names ls)) (map named (head_names l))
    ∙ ap (λ x. scalar_drafts ++ x) (sym (map_append named (shape_names ls) (head_names l)) ∙ ap (map named) (sym (names_push ls l)))

pub head_named : (ls : List ShapeLine) (name : List ℕ) (old new : List Draft) → old ≡ named_drafts ls → length old < shape_limit → new ≡ old ++ named name ∷ [] → IsNamed ls name new
head_named ls name old new is lt added = record {
  room = omega (arith, lt, ap length is, named_count ls);
  are = added ∙ ap (λ x. x ++ named name ∷ []) is;
}

good_push : (ls : List ShapeLine) (l : ShapeLine) → AreLines ls → is_line l ≡ true → list_all is_line (ls ++ l ∷ []) ≡ true
good_push ls l good h = list_all-append is_line ls (l ∷ []) ∙ both (list_all is_line ls) (is_line l && true) good.good (both (is_line l) true h refl)

pub place_push : (p : Place) (ls : List ShapeLine) (l : ShapeLine) → place_after p (ls ++ l ∷ []) ≡ place_behind (place_after p ls) l
place_push p [] l = refl
place_push p (x ∷ ls) l = place_push (place_behind p x) ls l

placed_push : (p : Place) (ls : List ShapeLine) (l : ShapeLine) → are_in_place p ls ≡ true → may_stand (place_after p ls) l ≡ true → are_in_place p (ls ++ l ∷ []) ≡ true
placed_push p [] l h k = both (may_stand p l) true k refl
placed_push p (x ∷ ls) l h k =
    let q = is_both (may_stand p x) (are_in_place (place_behind p x) ls) h in
    both (may_stand p x) (are_in_place (place_behind p x) (ls ++ l ∷ [])) q.0 (placed_push (place_behind p x) ls l q.1 k)

lines_push : (ls : List ShapeLine) (l : ShapeLine) → AreLines ls → is_line l ≡ true → may_stand (place_after first_place ls) l ≡ true → shape_count ls + length (head_names l) ≤ shape_limit → AreLines (ls ++ l ∷ [])
lines_push ls l good h k few = record {
  good = good_push ls l good h;
  placed = placed_push first_place ls l good.placed k;
  few = omega (arith, few, ap length (names_push ls l), length-append (shape_names ls) (head_names l));
}

-- a shape was named
pub head_placed : (ls : List ShapeLine) (name : List ℕ) (head : Head) (drafts : List Draft) → AreLines ls → is_line (head_line name head) ≡ true → IsNamed ls name drafts → AreLines (ls ++ head_line name head ∷ [])
head_placed ls name head drafts good h n = lines_push ls (head_line name head) good h refl (omega (arith, n.room))

pub head_drafts : (ls : List ShapeLine) (name : List ℕ) (head : Head) (drafts : List Draft) → IsNamed ls name drafts → drafts ≡ named_drafts (ls ++ head_line name head ∷ [])
head_drafts ls name head drafts n = n.are ∙ drafts_push ls (head_line name head)

-- a line with which no shape begins
pub no_head : (l : declared.ShapeLine) → ((name : Bor (List ℕ)) (head : declared_head.Head) → l ≡ line.Head name head → ⊥) → is_head (shape_line l) ≡ false
no_head (line.Head name head) h = absurd (h name head refl)
no_head (line.Item shape) h = refl
no_head (line.Field f) h = refl
no_head (line.Variant v) h = refl

pub other_names : (l : ShapeLine) → is_head l ≡ false → head_names l ≡ []
other_names (head_line name head) h = absurd (let f : true ≡ false = h in cc)
other_names (item_line shape) h = refl
other_names (field_line f) h = refl
other_names (variant_line v) h = refl

pub other_placed : (ls : List ShapeLine) (l : ShapeLine) → AreLines ls → is_line l ≡ true → is_head l ≡ false → may_stand (place_after first_place ls) l ≡ true → AreLines (ls ++ l ∷ [])
other_placed ls l good h o k = lines_push ls l good h k (omega (arith, good.few, ap length (other_names l o)))

pub other_drafts : (ls : List ShapeLine) (l : ShapeLine) (drafts : List Draft) → is_head l ≡ false → drafts ≡ named_drafts ls → drafts ≡ named_drafts (ls ++ l ∷ [])
other_drafts ls l drafts o is = is ∙ sym (append-nil (named_drafts ls)) ∙ ap (λ x. named_drafts ls ++ map named x) (sym (other_names l o)) ∙ drafts_push ls l

pub no_lines : AreLines []
no_lines = record { good = refl; placed = refl; few = omega arith }

pub before-append : (ls more : List ShapeLine) (rest : List ℕ) → lines_before (ls ++ more) rest ≡ lines_before ls (lines_before more rest)
before-append [] more rest = refl
before-append (l ∷ ls) more rest = ap (spelled_before l) (before-append ls more rest)

line-push : (ls : List ShapeLine) (l : ShapeLine) (text left rest : List ℕ) → text ≡ lines_before ls left → left ≡ spelled_before l rest → text ≡ lines_before (ls ++ l ∷ []) rest
line-push ls l text left rest h e = h ∙ ap (lines_before ls) e ∙ sym (before-append ls (l ∷ []) rest)

pub shorter : (l : ShapeLine) (left rest : List ℕ) → left ≡ spelled_before l rest → length rest < length left
shorter l left rest e = omega (arith, ap length e, length-append (spelling l) (10 ∷ rest))

pub on_ok : {T E : Type 0} (r : Result T E) (P Q : Type 0) → OnOk r P → (P → Q) → OnOk r Q
on_ok (Ok x) P Q h f = f h
on_ok (Err e) P Q h f = tt

-- the first lines of a text, and what is left of it
pub record LinesRead (text left : List ℕ) (ls : List ShapeLine) (place : Place) (drafts : List Draft) : Type 0 where
  pub whole : text ≡ lines_before ls left
  pub good : AreLines ls
  pub at : place ≡ place_after first_place ls
  pub named : drafts ≡ named_drafts ls

pub lines_begin : (text : List ℕ) (place : Place) (drafts : List Draft) → place ≡ first_place → drafts ≡ scalar_drafts → LinesRead text text [] place drafts
lines_begin text place drafts p h = record { whole = refl; good = no_lines; at = p; named = h ∙ sym (append-nil scalar_drafts) }

pub lines_more : (text left rest : List ℕ) (ls : List ShapeLine) (l : ShapeLine) (place next : Place) (old new : List Draft) → LinesRead text left ls place old → StandsAt left l rest
    → next ≡ place_behind place l → AreLines (ls ++ l ∷ []) → new ≡ named_drafts (ls ++ l ∷ []) → LinesRead text rest (ls ++ l ∷ []) next new
lines_more text left rest ls l place next old new r s n good is = record {
  whole = line-push ls l text left rest r.whole s.1;
  good = good;
  at = n ∙ ap (λ p. place_behind p l) r.at ∙ sym (place_push first_place ls l);
  named = is;
}

pub empty_left : (left : List ℕ) → true ≡ (length left == 0) → left ≡ []
empty_left [] h = refl
empty_left (b ∷ left) h = absurd (omega (arith, eqb-true (length (b ∷ left)) 0 (sym h)))

-- the next line can't stand there
pub refused_here : (text left rest : List ℕ) (ls : List ShapeLine) (l : ShapeLine) (place : Place) (drafts : List Draft) (e : ReadShapesError) → LinesRead text left ls place drafts → StandsAt left l rest
    → IsPlaceFault ls l e → IsLineFault text e
refused_here text left rest ls l place drafts (error.Fault fault) r s f = record {
  before = ls;
  left = spelled_before l rest;
  whole = r.whole ∙ ap (lines_before ls) s.1;
  good = r.good;
  here = f rest;
}
refused_here text left rest ls l place drafts error.Alloc r s f = tt

-- there is no room for the shape
pub full_here : (ls : List ShapeLine) (l : ShapeLine) (e : ReadShapesError) → is_line l ≡ true → is_head l ≡ true → IsFull ls e → IsPlaceFault ls l e
full_here ls l (error.Fault fault) h k f = λ rest. record {
  refused = subst (IsRefusedBehind ls (spelled_before l rest)) (sym f.kind) (l, record { rest = rest; good = h; is = refl }, k, f.full);
  at = f.at;
}
full_here ls l error.Alloc h k f = tt

-- the line has no place there
pub misplaced : (ls : List ShapeLine) (l : ShapeLine) (fault : ShapeTextFault) → is_line l ≡ true → may_stand (place_after first_place ls) l ≡ false → text_kind fault.kind ≡ out_of_place → fault.line ≡ length ls + 1
    → IsPlaceFault ls l (error.Fault fault)
misplaced ls l fault h k kind at = λ rest. record {
  refused = subst (IsRefusedBehind ls (spelled_before l rest)) (sym kind) (l, record { rest = rest; good = h; is = refl }, k);
  at = at;
}
