-- A table with one name more.
use Rattle.std.proofs.Common.{◌≡◌, ℕ, suc, ◌+◌, ◌<◌, ◌≤◌, List, [], ◌∷◌, ◌++◌, length, take, get_or, Bool, true, false, not, cond, Option, Some, None, is_some, Bor, BTreeMap, refl, sym, ap, ◌∙◌, arith, take-suc, length-take}
use Rattle.std.proofs.lemmas.Grind.{common_steps}
use Rattle.std.proofs.lemmas.List.{map-append, length-map}
use Rattle.std.proofs.lemmas.List.Folds.{position_or_len_push}
use Rattle.std.proofs.lemmas.Slice.Eq.{bytes_eq-Decides}
use Rattle.std.specs.Prelude.{bytes_eq}
use Rattle.std.specs.BTreeMap.{get_by}
use Rattle.std.specs.Cmp.Lexicographic.{slice_cmp}
use Rattle.std.specs.List.{position, prefix_len}
use Rattle.std.specs.Option.{option_or}
use Rattle.std.specs.Ordering.{nat_cmp}
use Rattle.semantics_lines.specs.ShapeText.{number_of}
use Rattle.shape_lines.specs.ShapeLines.{texts}
use Rattle.shape_lines.specs.ShapeNumbers.{AreNumbers, IsNumbered}

one_more : (b : Bool) (m n : ℕ) → m ≤ n → cond b (1 + m) 0 ≤ suc n
one_more true m n le = omega arith
one_more false m n le = omega arith

front_within : {A : Type 0} (p : A → Bool) (xs : List A) → prefix_len p xs ≤ length xs
front_within p [] = omega arith
front_within p (x ∷ xs) = one_more (p x) (prefix_len p xs) (length xs) (front_within p xs)

-- the first place in a list with one thing more at its end
position_push : {A : Type 0} (p : A → Bool) (xs : List A) (y : A) → position p (xs ++ y ∷ []) ≡ option_or (position p xs) (cond (p y) (Some (length xs)) None)
position_push p xs y =
    let within = front_within (λ x. not (p x)) xs in
    grind (arith, common_steps, position_or_len_push p xs y, within)

abbrev find : BTreeMap (Bor (List ℕ)) ℕ → List ℕ → Option ℕ
find numbers q = get_by (λ k. slice_cmp nat_cmp q k.now) numbers

none_there : (o : Option ℕ) → is_some o ≡ false → o ≡ None
none_there None h = refl
none_there (Some n) h = absurd cc

numbered_by : (b : Bool) (old : Option ℕ) (number : ℕ) → (b ≡ true → old ≡ None) → cond b (Some number) old ≡ option_or old (cond b (Some number) None)
numbered_by true old number h = sym (ap (λ o. option_or o (Some number)) (h refl))
numbered_by false None number h = refl
numbered_by false (Some n) number h = refl

-- a name that has no number gets one
pub numbered : (old new : BTreeMap (Bor (List ℕ)) ℕ) (name : List ℕ) (number : ℕ) → is_some (find old name) ≡ false
    → ((q : List ℕ) → find new q ≡ cond (bytes_eq name q) (Some number) (find old q)) → IsNumbered old name number new
numbered old new name number free step q =
    step q ∙ numbered_by (bytes_eq name q) (find old q) number (λ same. none_there (find old q) (ap (λ n. is_some (find old n)) (sym ((bytes_eq-Decides name q).0 same)) ∙ free))

texts_more : (names : List (Bor (List ℕ))) (i : ℕ) (d : Bor (List ℕ)) → i < length names → texts (take (i + 1) names) ≡ texts (take i names) ++ (get_or names i d).now ∷ []
texts_more names i d lt =
    let next : i + 1 ≡ suc i = omega arith in
    ap (λ n. texts (take n names)) next ∙ ap texts (take-suc names i d lt) ∙ map-append (λ r. r.now) (take i names) (get_or names i d ∷ [])

-- the next name has its number too
pub next_numbered : (names : List (Bor (List ℕ))) (i : ℕ) (d : Bor (List ℕ)) (name : List ℕ) (old new : BTreeMap (Bor (List ℕ)) ℕ) → i < length names → name ≡ (get_or names i d).now
    → AreNumbers old (texts (take i names)) → IsNumbered old name i new → AreNumbers new (texts (take (i + 1) names))
next_numbered names i d name old new lt called found step q =
    let front = texts (take i names) in
    let last = (get_or names i d).now in
    let many : i ≡ length front = omega (arith, lt, length-map (take i names) (λ r. r.now), length-take i names) in
    step q ∙ ap (λ o. option_or o (cond (bytes_eq name q) (Some i) None)) (found q)
    ∙ ap (λ n. option_or (number_of front q) (cond (bytes_eq n q) (Some i) None)) called
    ∙ ap (λ n. option_or (number_of front q) (cond (bytes_eq last q) (Some n) None)) many
    ∙ sym (position_push (λ other. bytes_eq other q) front last)
    ∙ ap (λ ns. number_of ns q) (sym (texts_more names i d lt))
