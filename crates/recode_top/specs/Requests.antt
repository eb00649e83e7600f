-- What the words of the command line ask for.
use Rattle.std.specs.Prelude.{◌≡◌, ◌<◌, ◌≤◌, ◌^◌, ℕ, List, [], ◌∷◌, codes}
use Rattle.std.specs.Fmt.{decimal}
use Rattle.recode_top.specs.declared.command.Request.{Request as DeclaredRequest}

-- the root's name, how many events may be read ahead, and how deep values may nest
pub record Request : Type 0 where
  pub root : List ℕ
  pub capacity : ℕ
  pub depth : ℕ

-- what is asked where the words don't say
abbrev pub default_capacity : ℕ
default_capacity = 512

abbrev pub default_depth : ℕ
default_depth = 128

-- how deep values may nest at most
abbrev pub depth_limit : ℕ
depth_limit = 4096

-- The words ask for this: `recode ROOT`, or `recode ROOT CAPACITY DEPTH` with decimals without leading zeros.
pub data Asks (words : List (List ℕ)) (request : Request) : Type 0 where
  by_root : words ≡ codes "recode" ∷ request.root ∷ [] → request.capacity ≡ default_capacity → request.depth ≡ default_depth → Asks words request
  in_full : words ≡ codes "recode" ∷ request.root ∷ decimal request.capacity ∷ decimal request.depth ∷ []
      → request.capacity < 2 ^ 64 → request.depth ≤ depth_limit → Asks words request

-- the request of a declared one
abbrev pub request_of : DeclaredRequest → Request
request_of r = record { root = r.root.now; capacity = r.capacity; depth = r.depth }

-- the words ask for nothing
abbrev pub AsksNothing : List (List ℕ) → Type 0
AsksNothing words = (request : Request) → Asks words request → ⊥
