-- What a table of names tells.
use Rattle.std.specs.Prelude.{◌≡◌, ℕ, List, Some, None, bytes_eq, if◌then◌else◌}
use Rattle.std.specs.Borrow.{Bor}
use Rattle.std.specs.BTreeMap.{BTreeMap, get_by}
use Rattle.std.specs.Cmp.Lexicographic.{slice_cmp}
use Rattle.std.specs.Option.{option_or}
use Rattle.std.specs.Ordering.{nat_cmp}
use Rattle.semantics_lines.specs.ShapeText.{number_of}

-- by a name the table finds the number of the first that is equal
abbrev pub AreNumbers : BTreeMap (Bor (List ℕ)) ℕ → List (List ℕ) → Type 0
AreNumbers numbers names = (q : List ℕ) → get_by (λ k. slice_cmp nat_cmp q k.now) numbers ≡ number_of names q

-- a table with one name more, whose number is kept where it has one
abbrev pub IsNumbered : BTreeMap (Bor (List ℕ)) ℕ → List ℕ → ℕ → BTreeMap (Bor (List ℕ)) ℕ → Type 0
IsNumbered old name number new = (q : List ℕ)
    → get_by (λ k. slice_cmp nat_cmp q k.now) new ≡ option_or (get_by (λ k. slice_cmp nat_cmp q k.now) old) (if bytes_eq name q then Some number else None)
