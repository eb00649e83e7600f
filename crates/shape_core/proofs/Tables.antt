-- Tables of the names that came so far.
use Rattle.std.proofs.Common.{◌≡◌, ℕ, suc, ◌+◌, ◌<◌, ◌≤◌, List, [], ◌∷◌, ◌++◌, length, map, take, drop, get_or, Bool, true, false, not, cond, ◌||◌, Option, Some, None, is_some, Bor, BTreeSet, BTreeMap, Global, refl, sym, ap, ◌∙◌, subst, true≢false, arith, take-suc, take-append-drop, length-take}
use Rattle.std.proofs.lemmas.Grind.{common_steps}
use Rattle.std.proofs.lemmas.Option.{get_or_from_slice_get}
use Rattle.std.proofs.lemmas.List.{map-append}
use Rattle.std.proofs.lemmas.List.Folds.{list_any-append, position_or_len_push}
use Rattle.std.proofs.lemmas.Map.Text.{is_eq-slice_cmp}
use Rattle.std.proofs.lemmas.Slice.Eq.{bytes_eq-Decides}
use Rattle.std.specs.Prelude.{bytes_eq, slice_get}
use Rattle.std.specs.declared.string.String.{String}
use Rattle.std.specs.BTreeMap.{get_by_text}
use Rattle.std.specs.BTreeSet.{contains_by, Updates}
use Rattle.std.specs.Cmp.Lexicographic.{slice_cmp}
use Rattle.std.specs.Ordering.{nat_cmp}
use Rattle.std.specs.List.{list_any, position, prefix_len}
use Rattle.std.specs.Option.{option_or}
use Rattle.semantics.specs.Registry.{has_pair}
use Rattle.shape_core.specs.Names.{texts, IsNumbered, FindsShapes}
use Rattle.shape_types.specs.declared.draft.Draft.{Draft}
use Rattle.shape_types.specs.declared.shape.Shape.{Shape}
use Rattle.shape_types.specs.Shapes.{shape_of, registry}
use Rattle.shape_core.proofs.Lists.{list_any_map, position_map}

-- whether a name is among those that came
abbrev pub has : BTreeSet (Bor (List ℕ)) → List ℕ → Bool
has seen q = contains_by (λ k. slice_cmp nat_cmp q k.now) seen

-- the set holds these names
abbrev pub Holds : BTreeSet (Bor (List ℕ)) → List (List ℕ) → Type 0
Holds seen names = (q : List ℕ) → has seen q ≡ list_any (λ n. bytes_eq n q) names

moved_last : (b c : Bool) → cond b true c ≡ c || (b || false)
moved_last true true = refl
moved_last true false = refl
moved_last false true = refl
moved_last false false = refl

-- one name more
pub holds_more : (old new : BTreeSet (Bor (List ℕ))) (name : Bor (List ℕ)) (names : List (List ℕ)) → Holds old names
    → Updates (λ x y. slice_cmp nat_cmp x.now y.now) old new name true → Holds new (names ++ name.now ∷ [])
holds_more old new name names held step q =
    let there = step.0 (record { ref_ptr = (0, 0); now = q }) in
    there ∙ ap (λ b. cond b true (has old q)) (is_eq-slice_cmp name.now q) ∙ ap (λ b. cond (bytes_eq name.now q) true b) (held q)
    ∙ moved_last (bytes_eq name.now q) (list_any (λ n. bytes_eq n q) names) ∙ sym (list_any-append (λ n. bytes_eq n q) names (name.now ∷ []))

swapped : (a b c d : Bool) → ((a || (b || false)) || (c || d)) ≡ ((b || c) || (a || d))
swapped true true c d = refl
swapped true false true d = refl
swapped true false false d = refl
swapped false true c d = refl
swapped false false c d = refl

-- a pair of a list with one thing more at its end is one of the list, or ends there
pub pair_push : {A : Type 0} (p : A → A → Bool) (xs : List A) (y : A) → has_pair p (xs ++ y ∷ []) ≡ (list_any (λ x. p x y) xs || has_pair p xs)
pair_push p [] y = refl
pair_push p (x ∷ xs) y =
    ap (λ b. b || has_pair p (xs ++ y ∷ [])) (list_any-append (p x) xs (y ∷ []))
    ∙ ap (λ b. (list_any (p x) xs || (p x y || false)) || b) (pair_push p xs y)
    ∙ swapped (list_any (p x) xs) (p x y) (list_any (λ z. p z y) xs) (has_pair p xs)

-- a pair of a front is one of the whole
pub pair_kept : {A : Type 0} (p : A → A → Bool) (xs ys : List A) → has_pair p xs ≡ true → has_pair p (xs ++ ys) ≡ true
pair_kept p [] ys h = absurd cc
pair_kept p (x ∷ xs) ys h =
    ap (λ b. b || has_pair p (xs ++ ys)) (list_any-append (p x) xs ys)
    ∙ widened (list_any (p x) xs) (has_pair p xs) (list_any (p x) ys) (has_pair p (xs ++ ys)) (pair_kept p xs ys) h
  where
    widened : (a b c d : Bool) → (b ≡ true → d ≡ true) → a || b ≡ true → ((a || c) || d) ≡ true
    widened true b c d f h = refl
    widened false b true d f h = refl
    widened false b false d f h = f h

one_more : (b : Bool) (m n : ℕ) → m ≤ n → cond b (1 + m) 0 ≤ suc n
one_more true m n le = omega arith
one_more false m n le = omega arith

front_within : {A : Type 0} (p : A → Bool) (xs : List A) → prefix_len p xs ≤ length xs
front_within p [] = omega arith
front_within p (x ∷ xs) = one_more (p x) (prefix_len p xs) (length xs) (front_within p xs)

-- the first place in a list with one thing more at its end
pub position_push : {A : Type 0} (p : A → Bool) (xs : List A) (y : A) → position p (xs ++ y ∷ []) ≡ option_or (position p xs) (cond (p y) (Some (length xs)) None)
position_push p xs y =
    let within = front_within (λ x. not (p x)) xs in
    grind (arith, common_steps, position_or_len_push p xs y, within)

texts_more : (names : List (Bor (List ℕ))) (i : ℕ) (d : Bor (List ℕ)) → i < length names → texts (take (i + 1) names) ≡ texts (take i names) ++ (get_or names i d).now ∷ []
texts_more names i d lt =
    let next : i + 1 ≡ suc i = omega arith in
    ap (λ n. texts (take n names)) next ∙ ap texts (take-suc names i d lt) ∙ map-append (λ r. r.now) (take i names) (get_or names i d ∷ [])

-- the next name is put into the set
pub next_held : (names : List (Bor (List ℕ))) (i : ℕ) (d : Bor (List ℕ)) (old new : BTreeSet (Bor (List ℕ))) → i < length names → Holds old (texts (take i names))
    → Updates (λ x y. slice_cmp nat_cmp x.now y.now) old new (get_or names i d) true → Holds new (texts (take (i + 1) names))
next_held names i d old new lt held step = subst (Holds new) (sym (texts_more names i d lt)) (holds_more old new (get_or names i d) (texts (take i names)) held step)

-- whether the next name is new
pub next_repeats : (names : List (Bor (List ℕ))) (i : ℕ) (d : Bor (List ℕ)) (old : BTreeSet (Bor (List ℕ))) → i < length names → Holds old (texts (take i names))
    → has_pair bytes_eq (texts (take i names)) ≡ false → has_pair bytes_eq (texts (take (i + 1) names)) ≡ has old (get_or names i d).now
next_repeats names i d old lt held none =
    let name = (get_or names i d).now in
    let front = texts (take i names) in
    ap (has_pair bytes_eq) (texts_more names i d lt) ∙ pair_push bytes_eq front name
    ∙ ap (λ b. list_any (λ n. bytes_eq n name) front || b) none ∙ or_none (list_any (λ n. bytes_eq n name) front) ∙ sym (held name)
  where
    or_none : (b : Bool) → b || false ≡ b
    or_none true = refl
    or_none false = refl

-- a name that the set has isn't new
pub was_there : (added there : Bool) → added ≡ not there → added ≡ false → there ≡ true
was_there added true e h = refl
was_there added false e h = absurd (true≢false (sym e ∙ h))

-- a name that is new wasn't there
pub was_not_there : (added there : Bool) → added ≡ not there → added ≡ true → there ≡ false
was_not_there added true e h = absurd (true≢false (sym h ∙ e))
was_not_there added false e h = refl

-- two names of a front are two of all
pub front_repeats : (names : List (Bor (List ℕ))) (n : ℕ) → has_pair bytes_eq (texts (take n names)) ≡ true → has_pair bytes_eq (texts names) ≡ true
front_repeats names n found =
    ap (λ ns. has_pair bytes_eq (texts ns)) (sym (take-append-drop n names)) ∙ ap (has_pair bytes_eq) (map-append (λ r. r.now) (take n names) (drop n names))
    ∙ pair_kept bytes_eq (texts (take n names)) (texts (drop n names)) found

-- a test of all pairs of the views is one of all pairs of what is viewed
pub pair_map : {X Y : Type 0} (p : Y → Y → Bool) (view : X → Y) (xs : List X) → has_pair p (map view xs) ≡ has_pair (λ x y. p (view x) (view y)) xs
pair_map p view [] = refl
pair_map p view (x ∷ xs) =
    ap (λ b. b || has_pair p (map view xs)) (list_any_map (p (view x)) view xs) ∙ ap (λ b. list_any (λ y. p (view x) (view y)) xs || b) (pair_map p view xs)

twice : (b : Bool) → not (not b) ≡ b
twice true = refl
twice false = refl

-- whether an earlier shape has the next one's name
pub next_known : (ds : List Draft) (i : ℕ) (e : Draft) (old : BTreeSet (Bor (List ℕ))) (name : Bor (List ℕ)) (added : Bool) → i < length ds → Holds old (map (λ d. d.name) (take i ds))
    → name.now ≡ (get_or ds i e).name → added ≡ not (has old name.now) → (d : Draft) → slice_get ds i ≡ Some d → not added ≡ list_any (λ c. bytes_eq c.name d.name) (take i ds)
next_known ds i e old name added lt held called is_new d here =
    let same : get_or ds i e ≡ d = get_or_from_slice_get ds i d e here in
    ap not is_new ∙ twice (has old name.now) ∙ ap (has old) (called ∙ ap (λ c. c.name) same)
    ∙ held d.name ∙ list_any_map (λ n. bytes_eq n d.name) (λ c. c.name) (take i ds)

-- the next shape's name is put into the set
pub next_draft_held : (ds : List Draft) (i : ℕ) (e : Draft) (old new : BTreeSet (Bor (List ℕ))) (name : Bor (List ℕ)) → i < length ds → Holds old (map (λ d. d.name) (take i ds))
    → name.now ≡ (get_or ds i e).name → Updates (λ x y. slice_cmp nat_cmp x.now y.now) old new name true → Holds new (map (λ d. d.name) (take (i + 1) ds))
next_draft_held ds i e old new name lt held called step =
    let next : i + 1 ≡ suc i = omega arith in
    let front = map (λ d. d.name) (take i ds) in
    let more : map (λ d. d.name) (take (i + 1) ds) ≡ front ++ (get_or ds i e).name ∷ [] =
    ap (λ n. map (λ d. d.name) (take n ds)) next ∙ ap (map (λ d. d.name)) (take-suc ds i e lt) ∙ map-append (λ d. d.name) (take i ds) (get_or ds i e ∷ []) in
    subst (Holds new) (ap (λ n. front ++ n ∷ []) called ∙ sym more) (holds_more old new name front held step)

-- whether an earlier shape has the name of the one of this number
abbrev pub Tells : List Draft → ℕ → Bool → Type 0
Tells ds i b = (d : Draft) → slice_get ds i ≡ Some d → b ≡ list_any (λ e. bytes_eq e.name d.name) (take i ds)

none_there : (o : Option ℕ) → is_some o ≡ false → o ≡ None
none_there None h = refl
none_there (Some n) h = absurd cc

numbered_by : (b : Bool) (old : Option ℕ) (number : ℕ) → (b ≡ true → old ≡ None) → cond b (Some number) old ≡ option_or old (cond b (Some number) None)
numbered_by true old number h = sym (ap (λ o. option_or o (Some number)) (h refl))
numbered_by false None number h = refl
numbered_by false (Some n) number h = refl

-- a name that has no number gets one
pub numbered : (old new : BTreeMap (String Global) ℕ) (name : List ℕ) (number : ℕ) → is_some (get_by_text old name) ≡ false
    → ((q : List ℕ) → get_by_text new q ≡ cond (bytes_eq name q) (Some number) (get_by_text old q)) → IsNumbered old name number new
numbered old new name number free step q =
    step q ∙ numbered_by (bytes_eq name q) (get_by_text old q) number (λ same. none_there (get_by_text old q) (ap (λ n. is_some (get_by_text old n)) (sym (equal same)) ∙ free))
  where
    equal : bytes_eq name q ≡ true → name ≡ q
    equal same = (bytes_eq-Decides name q).0 same

-- the next shape is found too
pub next_found : (shapes : List Shape) (i number : ℕ) (d : Shape) (name : List ℕ) (old new : BTreeMap (String Global) ℕ) → i < length shapes → number ≡ i → name ≡ (get_or shapes i d).name
    → FindsShapes old (take i shapes) → IsNumbered old name number new → FindsShapes new (take (i + 1) shapes)
next_found shapes i number d name old new lt here called found step q =
    let next : i + 1 ≡ suc i = omega arith in
    let s = get_or shapes i d in
    let front = take i shapes in
    let many : length front ≡ i = omega (arith, length-take i shapes) in
    step q ∙ ap (λ o. option_or o (cond (bytes_eq name q) (Some number) None)) (found q)
    ∙ ap (λ n. option_or (position (λ t. bytes_eq t.name q) front) (cond (bytes_eq n q) (Some number) None)) called
    ∙ ap (λ n. option_or (position (λ t. bytes_eq t.name q) front) (cond (bytes_eq s.name q) (Some n) None)) (here ∙ sym many)
    ∙ sym (position_push (λ t. bytes_eq t.name q) front s)
    ∙ sym (ap (position (λ t. bytes_eq t.name q)) (ap (λ n. take n shapes) next ∙ take-suc shapes i d lt))

-- the table finds the shape by its number in the registry
pub shape_found : (shapes : List Shape) (numbers : BTreeMap (String Global) ℕ) → FindsShapes numbers shapes → (q : List ℕ) → get_by_text numbers q ≡ position (λ s. bytes_eq s.name q) (registry shapes)
shape_found shapes numbers finds q = finds q ∙ sym (position_map (λ s. bytes_eq s.name q) shape_of shapes)
