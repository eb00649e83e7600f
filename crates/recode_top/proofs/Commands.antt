-- Of the words of a command line.
use Rattle.std.proofs.Common.{ℕ, ◌<◌, ◌≡◌, ◌^◌, Bool, true, false, not, nat_eq, List, [], ◌∷◌, length, Option, None, Some, slice_get, codes, refl, sym, ap, ◌∙◌, arith}
use Rattle.std.specs.Cmp.Lexicographic.{pointwise}
use Rattle.std.specs.Fmt.{decimal}
use Rattle.std.proofs.lemmas.Bool.{false≢true}
use Rattle.std.proofs.lemmas.Bool.Decides.{Decides-eqb}
use Rattle.std.proofs.lemmas.Slice.Eq.{slice_eq-Decides}
use Rattle.laws_lines.specs.Fronts.{number_of}
use Rattle.laws_lines.proofs.Numbers.{number-again, number-takes}
use Rattle.recode_top.specs.Requests.{Request, Asks, by_root, in_full}

pub is_two : (ws : List (List ℕ)) (a b : List ℕ) → length ws ≡ 2 → Some a ≡ slice_get ws 0 → Some b ≡ slice_get ws 1 → ws ≡ a ∷ b ∷ []
is_two [] a b n p q = grind arith
is_two (x ∷ []) a b n p q = grind arith
is_two (x ∷ y ∷ []) a b n p q = cc
is_two (x ∷ y ∷ z ∷ ws) a b n p q = grind arith

pub is_four : (ws : List (List ℕ)) (a b c d : List ℕ) → length ws ≡ 4 → Some a ≡ slice_get ws 0 → Some b ≡ slice_get ws 1 → Some c ≡ slice_get ws 2 → Some d ≡ slice_get ws 3
    → ws ≡ a ∷ b ∷ c ∷ d ∷ []
is_four [] a b c d n p q r s = grind arith
is_four (v ∷ []) a b c d n p q r s = grind arith
is_four (v ∷ w ∷ []) a b c d n p q r s = grind arith
is_four (v ∷ w ∷ x ∷ []) a b c d n p q r s = grind arith
is_four (v ∷ w ∷ x ∷ y ∷ []) a b c d n p q r s = cc
is_four (v ∷ w ∷ x ∷ y ∷ z ∷ ws) a b c d n p q r s = grind arith

kept : (b : Bool) → false ≡ not b → b ≡ true
kept true h = refl
kept false h = absurd (false≢true h)

pub is_same : (a b : List ℕ) → false ≡ not (pointwise nat_eq a b) → a ≡ b
is_same a b h = (slice_eq-Decides Decides-eqb a b (pointwise nat_eq a b) refl).0 (kept (pointwise nat_eq a b) h)

-- the word of a number is its decimal
pub is_decimal : (word : List ℕ) (n : ℕ) → Some n ≡ number_of 128 word → word ≡ decimal n
is_decimal word n h = (number-takes 128 n word (sym h)).1

again : (word : List ℕ) (n : ℕ) → n < 2 ^ 64 → word ≡ decimal n → number_of 128 word ≡ Some n
again word n small is = ap (number_of 128) is ∙ number-again 128 n (omega (arith, small)) (omega (arith, small))

-- a word of no number is no decimal
pub no_decimal : (word : List ℕ) (n : ℕ) → ◌≡◌ {A = Option ℕ} None (number_of 128 word) → n < 2 ^ 64 → word ≡ decimal n → ⊥
no_decimal word n h small is = absurd (let e : ◌≡◌ {A = Option ℕ} None (Some n) = h ∙ again word n small is in cc)

-- and a word is the decimal of one number
pub other_decimal : (word : List ℕ) (m n : ℕ) → Some m ≡ number_of 128 word → n < 2 ^ 64 → word ≡ decimal n → m ≡ n
other_decimal word m n h small is = let e : ◌≡◌ {A = Option ℕ} (Some m) (Some n) = h ∙ again word n small is in cc

-- a decimal is that of one number
one_decimal : (m n : ℕ) → m < 2 ^ 64 → n < 2 ^ 64 → decimal m ≡ decimal n → m ≡ n
one_decimal m n h l e = other_decimal (decimal m) m n (sym (again (decimal m) m h refl)) l e

head_of : {A : Type 0} (x y : A) (xs ys : List A) → ◌≡◌ {A = List A} (x ∷ xs) (y ∷ ys) → x ≡ y
head_of x y xs ys e = cc

tail_of : {A : Type 0} (x y : A) (xs ys : List A) → ◌≡◌ {A = List A} (x ∷ xs) (y ∷ ys) → xs ≡ ys
tail_of x y xs ys e = cc

same_request : (a b : Request) → a.root ≡ b.root → a.capacity ≡ b.capacity → a.depth ≡ b.depth → a ≡ b
same_request a b e f g =
    ap (λ (r : List ℕ). record { root = r; capacity = a.capacity; depth = a.depth }) e
    ∙ ap (λ (c : ℕ). record { root = b.root; capacity = c; depth = a.depth }) f
    ∙ ap (λ (d : ℕ). record { root = b.root; capacity = b.capacity; depth = d }) g

-- two words aren't four
lengths_differ : (a b c : List ℕ) (xs : List (List ℕ)) → ◌≡◌ {A = List (List ℕ)} (codes "recode" ∷ a ∷ []) (codes "recode" ∷ b ∷ c ∷ xs) → ⊥
lengths_differ a b c xs e = absurd (let f : ◌≡◌ {A = List (List ℕ)} [] (c ∷ xs) = tail_of a b [] (c ∷ xs) (tail_of (codes "recode") (codes "recode") (a ∷ []) (b ∷ c ∷ xs) e) in cc)

-- words ask for one thing
pub one_request : (words : List (List ℕ)) (a b : Request) → Asks words a → Asks words b → a ≡ b
one_request words a b (by_root e p q) (by_root f r s) =
    same_request a b (head_of a.root b.root [] [] (tail_of (codes "recode") (codes "recode") (a.root ∷ []) (b.root ∷ []) (sym e ∙ f))) (p ∙ sym r) (q ∙ sym s)
one_request words a b (by_root e p q) (in_full f r s) = absurd (lengths_differ a.root b.root (decimal b.capacity) (decimal b.depth ∷ []) (sym e ∙ f))
one_request words a b (in_full e p q) (by_root f r s) = absurd (lengths_differ b.root a.root (decimal a.capacity) (decimal a.depth ∷ []) (sym f ∙ e))
one_request words a b (in_full e p q) (in_full f r s) =
    let all : a.root ∷ decimal a.capacity ∷ decimal a.depth ∷ [] ≡ b.root ∷ decimal b.capacity ∷ decimal b.depth ∷ [] = tail_of (codes "recode") (codes "recode") _ _ (sym e ∙ f) in
    let numbers : decimal a.capacity ∷ decimal a.depth ∷ [] ≡ decimal b.capacity ∷ decimal b.depth ∷ [] = tail_of a.root b.root _ _ all in
    let last : decimal a.depth ∷ [] ≡ decimal b.depth ∷ [] = tail_of (decimal a.capacity) (decimal b.capacity) _ _ numbers in
    same_request a b (head_of a.root b.root _ _ all) (one_decimal a.capacity b.capacity p r (head_of (decimal a.capacity) (decimal b.capacity) _ _ numbers))
    (one_decimal a.depth b.depth (omega (arith, q)) (omega (arith, s)) (head_of (decimal a.depth) (decimal b.depth) [] [] last))
