-- What was read of a struct, as the definitions see it.
use Rattle.std.specs.Prelude.{ℕ, ◌==◌, List, [], ◌∷◌, Bool, Option, Some, None}
use Rattle.semantics_lines.specs.Trees.{Tree}
use Rattle.semantics.specs.Places.{At}
use Rattle.shape_types.specs.Trees.{tree_of}
use Rattle.laws_reading.specs.Structs.{Told}
use Rattle.read_steps.specs.declared.filled.Filled.{Filled}
use Rattle.read_steps.specs.declared.filled.Taken.{Taken as DeclaredTaken}
use Rattle.read_steps.specs.declared.filled.Taken.TheVariants as declared

-- it is the field at this place
abbrev pub stands_at : ℕ → Filled → Bool
stands_at k f = f.key.place == k

-- what was read of a field: nothing, a value, or more than one
pub data Taken : Type 0 where
  nothing : Taken
  once : Tree → Taken
  twice : Taken

abbrev pub taken_of : List (At Told) → Taken
taken_of [] = nothing
taken_of (x ∷ []) = once x.item.value
taken_of (x ∷ y ∷ xs) = twice

abbrev pub taken_view : DeclaredTaken → Taken
taken_view declared.Nothing = nothing
taken_view (declared.Once v) = once (tree_of v)
taken_view declared.Twice = twice

-- the value, unless there is another one
abbrev pub or_twice : Option ℕ → Tree → Taken
or_twice None v = once v
or_twice (Some i) v = twice
