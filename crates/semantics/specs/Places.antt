-- Things that stand at a path of fields.
use Rattle.std.specs.Prelude.{ℕ, nat_lt, List, [], ◌∷◌, Bool, true, false, ◌&&◌, ◌||◌, Option, Some, None, cond, ◌==◌, filter_map}

-- the places of the fields that lead to a part of a struct
abbrev pub Path : Type 0
Path = List ℕ

-- something at a path
pub record At (A : Type 0) : Type 0 where
  pub path : Path
  pub item : A

-- the thing by the rest of its path, where the path begins with the place k
abbrev pub rest_of : {A : Type 0} → ℕ → Path → A → Option (At A)
rest_of k [] a = None
rest_of k (j ∷ p) a = cond (j == k) (Some (record { path = p; item = a })) None

-- the same of a thing with its path
abbrev pub rest_at : {A : Type 0} → ℕ → At A → Option (At A)
rest_at k x = rest_of k x.path x.item

-- what stands below the place k, by the rest of its path
abbrev pub below : {A : Type 0} → ℕ → List (At A) → List (At A)
below k xs = filter_map (rest_at k) xs

-- what stands at a path or below it, by the rest of its path
abbrev pub all_below : {A : Type 0} → Path → List (At A) → List (At A)
all_below [] xs = xs
all_below (k ∷ p) xs = all_below p (below k xs)

-- the thing one place further down
abbrev pub under : {A : Type 0} → ℕ → At A → At A
under k x = record { path = k ∷ x.path; item = x.item }

-- the path is at its end
abbrev pub is_end : Path → Bool
is_end [] = true
is_end (k ∷ p) = false

-- something stands for the whole
abbrev pub has_whole : {A : Type 0} → List (At A) → Bool
has_whole [] = false
has_whole (x ∷ xs) = is_end x.path || has_whole xs

-- something stands there
abbrev pub is_filled : {A : Type 0} → List (At A) → Bool
is_filled [] = false
is_filled (x ∷ xs) = true

-- something stands at this path, before it or below it
abbrev pub is_taken : {A : Type 0} → Path → List (At A) → Bool
is_taken [] xs = is_filled xs
is_taken (k ∷ p) xs = has_whole (below k xs) || is_taken p (below k xs)

-- of two paths the first stands before the other, by the order of the fields
abbrev pub comes_before : Path → Path → Bool
comes_before [] q = false
comes_before (j ∷ p) [] = false
comes_before (j ∷ p) (k ∷ q) = nat_lt j k || (j == k && comes_before p q)

-- a variant for each flattened enum, by its path
abbrev pub Choice : Type 0
Choice = List (At ℕ)
