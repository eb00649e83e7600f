-- A shape text has at most one first fault.
use Rattle.std.proofs.Common.{◌≡◌, ℕ, suc, ◌+◌, ◌<◌, List, [], ◌∷◌, ◌++◌, length, true, false, Option, Some, None, refl, sym, ap, ◌∙◌, subst, arith, length-append}
use Rattle.std.specs.List.{list_all}
use Rattle.std.specs.Str.{is_utf8}
use Rattle.semantics_lines.specs.Shapes.{Draft}
use Rattle.semantics_lines.specs.ShapeFaults.{ShapeFault, ShapeFaultKind}
use Rattle.semantics.specs.Registry.{fault_at, IsFirstFault}
use Rattle.semantics_lines.specs.ShapeLines.{ShapeLine, head_line, item_line, field_line, variant_line, is_line}
use Rattle.semantics_lines.specs.ShapeText.{spelled_before, lines_before, shape_text, head_names, is_head, shape_names, Place, may_stand, first_place, place_after, AreLines, all_names, is_known, shapes_of, ShapeTextKind, not_utf8, bad_line, out_of_place, unknown_ref, too_many, check, first_line, BeginsWith, IsRefusedBehind}
use Rattle.semantics.specs.CheckedText.{IsShapeTextFault, at_line, at_reference, at_head}
use Rattle.laws_lines.proofs.ShapeTextLines.{both, both_ways, one_line, never_empty, spelled_is_utf8, nothing_is_utf8, all_behind, one_head, stands_there, room_there, lines_same}

-- of two fronts of one text one begins with the other
data Fronts (before after : List ShapeLine) (left right : List ℕ) : Type 0 where
  equal : before ≡ after → left ≡ right → Fronts before after left right
  shorter : (m : ShapeLine) (more : List ShapeLine) → after ≡ before ++ (m ∷ more) → left ≡ spelled_before m (lines_before more right) → Fronts before after left right
  longer : (m : ShapeLine) (more : List ShapeLine) → before ≡ after ++ (m ∷ more) → right ≡ spelled_before m (lines_before more left) → Fronts before after left right

add : (a b : ShapeLine) (before after : List ShapeLine) (left right : List ℕ) → a ≡ b → Fronts before after left right → Fronts (a ∷ before) (b ∷ after) left right
add a b before after left right same (equal is at) = equal (ap (λ x. x ∷ before) same ∙ ap (λ x. b ∷ x) is) at
add a b before after left right same (shorter m more is at) = shorter m more (ap (λ x. x ∷ after) (sym same) ∙ ap (λ x. a ∷ x) is) at
add a b before after left right same (longer m more is at) = longer m more (ap (λ x. x ∷ before) same ∙ ap (λ x. b ∷ x) is) at

fronts : (before after : List ShapeLine) (left right : List ℕ) → list_all is_line before ≡ true → list_all is_line after ≡ true → lines_before before left ≡ lines_before after right → Fronts before after left right
fronts [] [] left right h k e = equal refl e
fronts [] (b ∷ after) left right h k e = shorter b after refl e
fronts (a ∷ before) [] left right h k e = longer a before refl (sym e)
fronts (a ∷ before) (b ∷ after) left right h k e =
    let ph = both (is_line a) (list_all is_line before) h in
    let pk = both (is_line b) (list_all is_line after) k in
    let (same, rest) = one_line a b (lines_before before left) (lines_before after right) ph.0 pk.0 e in
    add a b before after left right same (fronts before after left right ph.1 pk.1 rest)

-- a line that stands there isn't refused
line_stands : (before more : List ShapeLine) (m : ShapeLine) (rest : List ℕ) (kind : ShapeTextKind) → AreLines (before ++ (m ∷ more)) → IsRefusedBehind before (spelled_before m rest) kind → ⊥
line_stands before more m rest kind good r =
    by_kind kind (both (is_line m) (list_all is_line more) (all_behind is_line before (m ∷ more) good.good)).0 r
  where
    by_kind : (kind : ShapeTextKind) → is_line m ≡ true → IsRefusedBehind before (spelled_before m rest) kind → ⊥
    by_kind not_utf8 h r = both_ways (is_utf8 (first_line (spelled_before m rest))) r (spelled_is_utf8 m rest h)
    by_kind bad_line h r = r.2 m rest h refl
    by_kind out_of_place h r =
        let same = one_line m r.0 rest r.1.rest h r.1.good r.1.is in
        both_ways (may_stand (place_after first_place before) r.0) r.2 (ap (may_stand (place_after first_place before)) (sym same.0) ∙ stands_there first_place before more m good.placed)
    by_kind too_many h r =
        let same = one_line m r.0 rest r.1.rest h r.1.good r.1.is in
        room_there before more m (ap is_head same.0 ∙ r.2) good.few r.3
    by_kind unknown_ref h r = r
    by_kind (check fault) h r = r

placed_utf8 : (left : List ℕ) (l : ShapeLine) → BeginsWith left l → is_utf8 (first_line left) ≡ true
placed_utf8 left l b = ap (λ x. is_utf8 (first_line x)) b.is ∙ spelled_is_utf8 l b.rest b.good

-- a line with which a shape begins may stand anywhere
head_stands : (p : Place) (l : ShapeLine) → is_head l ≡ true → may_stand p l ≡ true
head_stands p (head_line name head) h = refl
head_stands p (item_line shape) h = absurd (let f : false ≡ true = h in cc)
head_stands p (field_line f) h = absurd (let f : false ≡ true = h in cc)
head_stands p (variant_line v) h = absurd (let f : false ≡ true = h in cc)

no_head : (before : List ShapeLine) (l m : ShapeLine) (left : List ℕ) → BeginsWith left l → BeginsWith left m → may_stand (place_after first_place before) l ≡ false → is_head m ≡ true → ⊥
no_head before l m left b c r h =
    let same = one_line l m b.rest c.rest b.good c.good (sym b.is ∙ c.is) in
    both_ways (may_stand (place_after first_place before) l) r (head_stands (place_after first_place before) l (ap is_head same.0 ∙ h))

-- what is left is refused for one reason
kinds_same : (before : List ShapeLine) (left : List ℕ) (kind other : ShapeTextKind) → IsRefusedBehind before left kind → IsRefusedBehind before left other → kind ≡ other
kinds_same before left unknown_ref other r s = absurd r
kinds_same before left (check fault) other r s = absurd r
kinds_same before left not_utf8 not_utf8 r s = refl
kinds_same before left not_utf8 bad_line r s = absurd (both_ways (is_utf8 (first_line left)) r s.1)
kinds_same before left not_utf8 out_of_place r s = absurd (both_ways (is_utf8 (first_line left)) r (placed_utf8 left s.0 s.1))
kinds_same before left not_utf8 too_many r s = absurd (both_ways (is_utf8 (first_line left)) r (placed_utf8 left s.0 s.1))
kinds_same before left not_utf8 unknown_ref r s = absurd s
kinds_same before left not_utf8 (check fault) r s = absurd s
kinds_same before left bad_line not_utf8 r s = absurd (both_ways (is_utf8 (first_line left)) s r.1)
kinds_same before left bad_line bad_line r s = refl
kinds_same before left bad_line out_of_place r s = absurd (r.2 s.0 s.1.rest s.1.good s.1.is)
kinds_same before left bad_line too_many r s = absurd (r.2 s.0 s.1.rest s.1.good s.1.is)
kinds_same before left bad_line unknown_ref r s = absurd s
kinds_same before left bad_line (check fault) r s = absurd s
kinds_same before left out_of_place not_utf8 r s = absurd (both_ways (is_utf8 (first_line left)) s (placed_utf8 left r.0 r.1))
kinds_same before left out_of_place bad_line r s = absurd (s.2 r.0 r.1.rest r.1.good r.1.is)
kinds_same before left out_of_place out_of_place r s = refl
kinds_same before left out_of_place too_many r s = absurd (no_head before r.0 s.0 left r.1 s.1 r.2 s.2)
kinds_same before left out_of_place unknown_ref r s = absurd s
kinds_same before left out_of_place (check fault) r s = absurd s
kinds_same before left too_many not_utf8 r s = absurd (both_ways (is_utf8 (first_line left)) s (placed_utf8 left r.0 r.1))
kinds_same before left too_many bad_line r s = absurd (s.2 r.0 r.1.rest r.1.good r.1.is)
kinds_same before left too_many out_of_place r s = absurd (no_head before s.0 r.0 left s.1 r.1 s.2 r.2)
kinds_same before left too_many too_many r s = refl
kinds_same before left too_many unknown_ref r s = absurd s
kinds_same before left too_many (check fault) r s = absurd s

-- two faults of lines are one
two_lines : (before after : List ShapeLine) (left right : List ℕ) (kind other : ShapeTextKind) → lines_before before left ≡ lines_before after right → AreLines before → AreLines after
    → IsRefusedBehind before left kind → IsRefusedBehind after right other → (length before + 1 ≡ length after + 1) × (kind ≡ other)
two_lines before after left right kind other e good fine r s = by_fronts (fronts before after left right good.good fine.good e)
  where
    by_fronts : Fronts before after left right → (length before + 1 ≡ length after + 1) × (kind ≡ other)
    by_fronts (equal is at) =
        (ap (λ x. length x + 1) is, kinds_same after right kind other (subst (λ (x : List ℕ). IsRefusedBehind after x kind) at (subst (λ (x : List ShapeLine). IsRefusedBehind x left kind) is r)) s)
    by_fronts (shorter m more is at) = absurd (line_stands before more m (lines_before more right) kind (subst (λ (x : List ShapeLine). AreLines x) is fine) (subst (λ (x : List ℕ). IsRefusedBehind before x kind) at r))
    by_fronts (longer m more is at) = absurd (line_stands after more m (lines_before more left) other (subst (λ (x : List ShapeLine). AreLines x) is good) (subst (λ (x : List ℕ). IsRefusedBehind after x other) at s))

nothing_left : (before : List ShapeLine) (kind : ShapeTextKind) → IsRefusedBehind before [] kind → ⊥
nothing_left before not_utf8 r = both_ways (is_utf8 []) r nothing_is_utf8
nothing_left before bad_line r = r.0 refl
nothing_left before out_of_place r = never_empty r.0 r.1.rest (sym r.1.is)
nothing_left before too_many r = never_empty r.0 r.1.rest (sym r.1.is)
nothing_left before unknown_ref r = r
nothing_left before (check fault) r = r

-- a text of lines has no fault of a line
no_line : (before ls : List ShapeLine) (left : List ℕ) (kind : ShapeTextKind) → lines_before before left ≡ shape_text ls → AreLines before → AreLines ls → IsRefusedBehind before left kind → ⊥
no_line before ls left kind e good fine r = by_fronts (fronts before ls left [] good.good fine.good e)
  where
    by_fronts : Fronts before ls left [] → ⊥
    by_fronts (equal is at) = nothing_left before kind (subst (λ (x : List ℕ). IsRefusedBehind before x kind) at r)
    by_fronts (shorter m more is at) = line_stands before more m (lines_before more []) kind (subst (λ (x : List ShapeLine). AreLines x) is fine) (subst (λ (x : List ℕ). IsRefusedBehind before x kind) at r)
    by_fronts (longer m more is at) = never_empty m (lines_before more left) (sym at)

-- the first line without a shape is at one place
two_unknown : (names : List (List ℕ)) (a b c d : List ShapeLine) (l m : ShapeLine) → a ++ (l ∷ b) ≡ c ++ (m ∷ d) → list_all (is_known names) a ≡ true → list_all (is_known names) c ≡ true
    → is_known names l ≡ false → is_known names m ≡ false → length a ≡ length c
two_unknown names [] b [] d l m e ha hc hl hm = refl
two_unknown names [] b (x ∷ c) d l m e ha hc hl hm =
    let first : l ≡ x = cc in
    absurd (both_ways (is_known names x) (ap (is_known names) (sym first) ∙ hl) (both (is_known names x) (list_all (is_known names) c) hc).0)
two_unknown names (x ∷ a) b [] d l m e ha hc hl hm =
    let first : x ≡ m = cc in
    absurd (both_ways (is_known names x) (ap (is_known names) first ∙ hm) (both (is_known names x) (list_all (is_known names) a) ha).0)
two_unknown names (x ∷ a) b (y ∷ c) d l m e ha hc hl hm =
    let rest : a ++ (l ∷ b) ≡ c ++ (m ∷ d) = cc in
    ap (λ n. suc n) (two_unknown names a b c d l m rest (both (is_known names x) (list_all (is_known names) a) ha).1 (both (is_known names y) (list_all (is_known names) c) hc).1 hl hm)

-- the head of one number is at one place
two_heads : (a b c d : List ShapeLine) (l m : ShapeLine) → a ++ (l ∷ b) ≡ c ++ (m ∷ d) → is_head l ≡ true → is_head m ≡ true → length (shape_names a) ≡ length (shape_names c) → length a ≡ length c
two_heads [] b [] d l m e hl hm h = refl
two_heads [] b (x ∷ c) d l m e hl hm h =
    let first : l ≡ x = cc in
    absurd (omega (arith, h, one_head x (ap is_head (sym first) ∙ hl), length-append (head_names x) (shape_names c)))
two_heads (x ∷ a) b [] d l m e hl hm h =
    let first : x ≡ m = cc in
    absurd (omega (arith, h, one_head x (ap is_head first ∙ hm), length-append (head_names x) (shape_names a)))
two_heads (x ∷ a) b (y ∷ c) d l m e hl hm h =
    let first : x ≡ y = cc in
    let rest : a ++ (l ∷ b) ≡ c ++ (m ∷ d) = cc in
    let names : length (shape_names a) ≡ length (shape_names c) = omega (arith, h, length-append (head_names x) (shape_names a), length-append (head_names y) (shape_names c), ap (λ z. length (head_names z)) first) in
    ap (λ k. suc k) (two_heads a b c d l m rest hl hm names)

none_some : (k : ShapeFaultKind) → ◌≡◌ {A = Option ShapeFaultKind} None (Some k) → ⊥
none_some k h = cc

-- the first broken rule is one
two_rules : (ds : List Draft) (f g : ShapeFault) → IsFirstFault ds f → IsFirstFault ds g → f ≡ g
two_rules ds f g first other =
    let not_below : f.shape < g.shape → ⊥ = λ lt. none_some f.kind (sym (other.before f.shape lt) ∙ first.here) in
    let not_above : g.shape < f.shape → ⊥ = λ lt. none_some g.kind (sym (first.before g.shape lt) ∙ other.here) in
    let shapes : f.shape ≡ g.shape = equal_numbers f.shape g.shape not_below not_above in
    let kinds : f.kind ≡ g.kind = (let e : Some f.kind ≡ Some g.kind = sym first.here ∙ ap (fault_at ds) shapes ∙ other.here in cc) in
    ap (λ (s : ℕ). record { shape = s; kind = f.kind }) shapes ∙ ap (λ (k : ShapeFaultKind). record { shape = g.shape; kind = k }) kinds
  where
    equal_numbers : (a b : ℕ) → (a < b → ⊥) → (b < a → ⊥) → a ≡ b
    equal_numbers a b h k = omega (arith, h, k)

all_at : (names : List (List ℕ)) (before after : List ShapeLine) (l : ShapeLine) → list_all (is_known names) (before ++ (l ∷ after)) ≡ true → is_known names l ≡ true
all_at names before after l h = (both (is_known names l) (list_all (is_known names) after) (all_behind (is_known names) before (l ∷ after) h)).0

-- a reference without a shape stands in no text whose references have one
no_reference : (ls ms : List ShapeLine) (before after : List ShapeLine) (l : ShapeLine) (names : List (List ℕ)) → ls ≡ ms → ls ≡ before ++ (l ∷ after) → names ≡ all_names ls → is_known names l ≡ false
    → list_all (is_known (all_names ms)) ms ≡ true → ⊥
no_reference ls ms before after l names same is named unknown known =
    both_ways (is_known names l) unknown (all_at names before after l (ap (λ n. list_all (is_known n) (before ++ (l ∷ after))) named ∙ ap (λ x. list_all (is_known (all_names ls)) x) (sym is) ∙ ap (λ x. list_all (is_known (all_names x)) x) same ∙ known))

-- A text has at most one first fault.
pub one_fault : (text : List ℕ) (line other : ℕ) (kind also : ShapeTextKind) → IsShapeTextFault text line kind → IsShapeTextFault text other also → (line ≡ other) × (kind ≡ also)
one_fault text line other kind also (at_line a x wa ga ra na) (at_line b y wb gb rb nb) =
    let s = two_lines a b x y kind also (sym wa ∙ wb) ga gb ra rb in (na ∙ s.0 ∙ sym nb, s.1)
one_fault text line other kind also (at_line a x wa ga ra na) (at_reference b c l names wb gb named known unknown nb is) = absurd (no_line a (b ++ (l ∷ c)) x kind (sym wa ∙ wb) ga gb ra)
one_fault text line other kind also (at_line a x wa ga ra na) (at_head b c l fault wb gb known first head at nb is) = absurd (no_line a (b ++ (l ∷ c)) x kind (sym wa ∙ wb) ga gb ra)
one_fault text line other kind also (at_reference b c l names wb gb named known unknown nb is) (at_line a x wa ga ra na) = absurd (no_line a (b ++ (l ∷ c)) x also (sym wa ∙ wb) ga gb ra)
one_fault text line other kind also (at_head b c l fault wb gb known first head at nb is) (at_line a x wa ga ra na) = absurd (no_line a (b ++ (l ∷ c)) x also (sym wa ∙ wb) ga gb ra)
one_fault text line other kind also (at_reference a b l names wa ga named known unknown na is) (at_reference c d m others wb gb called met unmet nb also_is) =
    let same = lines_same (a ++ (l ∷ b)) (c ++ (m ∷ d)) ga.good gb.good (sym wa ∙ wb) in
    let one : others ≡ names = called ∙ ap all_names (sym same) ∙ sym named in
    let place = two_unknown names a b c d l m same known (ap (λ x. list_all (is_known x) c) (sym one) ∙ met) unknown (ap (λ x. is_known x m) (sym one) ∙ unmet) in
    (na ∙ ap (λ x. x + 1) place ∙ sym nb, is ∙ sym also_is)
one_fault text line other kind also (at_reference a b l names wa ga named known unknown na is) (at_head c d m fault wb gb all first head at nb also_is) =
    let same = lines_same (a ++ (l ∷ b)) (c ++ (m ∷ d)) ga.good gb.good (sym wa ∙ wb) in
    absurd (no_reference (a ++ (l ∷ b)) (c ++ (m ∷ d)) a b l names same refl named unknown all)
one_fault text line other kind also (at_head c d m fault wb gb all first head at nb also_is) (at_reference a b l names wa ga named known unknown na is) =
    let same = lines_same (a ++ (l ∷ b)) (c ++ (m ∷ d)) ga.good gb.good (sym wa ∙ wb) in
    absurd (no_reference (a ++ (l ∷ b)) (c ++ (m ∷ d)) a b l names same refl named unknown all)
one_fault text line other kind also (at_head a b l f wa ga ka fa ha sa na is) (at_head c d m g wb gb kb fb hb sb nb also_is) =
    let same = lines_same (a ++ (l ∷ b)) (c ++ (m ∷ d)) ga.good gb.good (sym wa ∙ wb) in
    let fault = two_rules (shapes_of (a ++ (l ∷ b))) f g fa (subst (λ (x : List ShapeLine). IsFirstFault (shapes_of x) g) (sym same) fb) in
    let count : length (shape_names a) ≡ length (shape_names c) = omega (arith, sa, sb, ap (λ (x : ShapeFault). x.shape) fault) in
    let place = two_heads a b c d l m same ha hb count in
    (na ∙ ap (λ x. x + 1) place ∙ sym nb, is ∙ ap check fault ∙ sym also_is)
