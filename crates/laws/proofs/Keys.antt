-- Keys of one text each lead where they are declared to lead.
use Rattle.std.proofs.Common.{◌≡◌, ◌⊎◌, inl, inr, List, [], ◌∷◌, ◌++◌, Some, None, Bool, true, false, cond, refl, sym, ap, ◌∙◌, bytes_eq}
use Rattle.std.proofs.lemmas.Slice.Eq.{bytes_eq-Decides}
use Rattle.semantics.specs.Keys.{Declared, path_of}
use Rattle.semantics.specs.Validity.{Distinct}

abbrev pub Has : Declared → List Declared → Type 0
Has x [] = ⊥
Has x (y ∷ ys) = (x ≡ y) ⊎ Has x ys

pub has_right : (x : Declared) (xs ys : List Declared) → Has x ys → Has x (xs ++ ys)
has_right x [] ys h = h
has_right x (z ∷ xs) ys h = inr (has_right x xs ys h)

other_found : (b : Bool) (x y : Declared) (ys : List Declared) → bytes_eq y.item x.item ≡ b → path_of ys y.item ≡ None
    → path_of ys x.item ≡ Some x.path → cond b (Some y.path) (path_of ys x.item) ≡ Some x.path
other_found false x y ys e none found = found
other_found true x y ys e none found =
    let same : y.item ≡ x.item = (bytes_eq-Decides y.item x.item).0 e in
    let both : path_of ys y.item ≡ path_of ys x.item = ap (path_of ys) same in
    cc

-- looking a key up among keys that are distinct
pub first_found : (xs : List Declared) (x : Declared) → Distinct xs → Has x xs → path_of xs x.item ≡ Some x.path
first_found [] x d h = absurd h
first_found (y ∷ ys) x (none, d) (inl e) =
    let here : bytes_eq y.item x.item ≡ true = (bytes_eq-Decides y.item x.item).1 (ap (λ z. z.item) (sym e)) in
    ap (λ b. cond b (Some y.path) (path_of ys x.item)) here ∙ ap (λ z. Some z.path) (sym e)
first_found (y ∷ ys) x (none, d) (inr h) = other_found (bytes_eq y.item x.item) x y ys refl none (first_found ys x d h)

pub has_left : (x : Declared) (xs ys : List Declared) → Has x xs → Has x (xs ++ ys)
has_left x [] ys h = absurd h
has_left x (z ∷ xs) ys (inl e) = inl e
has_left x (z ∷ xs) ys (inr h) = inr (has_left x xs ys h)
