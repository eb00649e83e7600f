-- Where the first line that is exactly `---` divides an input into shape text and tape.
use Rattle.std.specs.Prelude.{◌≡◌, ◌≢◌, ℕ, List, [], ◌∷◌, ◌++◌, codes, IsTrue}
use Rattle.std.specs.List.{AllByRecursion}
use Rattle.semantics_lines.specs.Tapes.{has_no_end}

-- a line, without its line feed, that doesn't divide
pub record IsUndivided (line : List ℕ) : Type 0 where
  pub no_end : IsTrue (has_no_end line)
  pub differs : line ≢ codes "---"

-- lines, each with its line feed
abbrev pub joined : List (List ℕ) → List ℕ
joined [] = []
joined (l ∷ ls) = l ++ (10 ∷ joined ls)

-- the input is these lines, none of which divides, then the line `---`, then the rest
pub record IsDivided (input : List ℕ) (lines : List (List ℕ)) (rest : List ℕ) : Type 0 where
  pub before : AllByRecursion IsUndivided lines
  pub whole : input ≡ joined lines ++ (codes "---\n" ++ rest)
