-- Values, as trees. What they mean depends on their shape.
use Rattle.std.specs.Prelude.{ℕ, suc, ℤ, Bool, List, [], ◌∷◌}
use Rattle.semantics_lines.specs.Texts.{Phrase}

mutual
  pub data Tree : Type 0 where
    unit_value : Tree
    bool_value : Bool → Tree
    char_value : ℕ → Tree
    unsigned : ℕ → Tree
    signed : ℤ → Tree
    text : Phrase → Tree
    none : Tree
    some : Tree → Tree
    ok : Tree → Tree
    err : Tree → Tree
    -- the items of a list, an array or a set
    list : Trees → Tree
    mapping : Pairs → Tree
    -- a value for each field
    structure : Trees → Tree
    -- a variant by its place, and a value for each of its fields
    variant : ℕ → Trees → Tree

  pub data Trees : Type 0 where
    no_trees : Trees
    tree : Tree → Trees → Trees

  -- the entries of a map: a key and a value in turn
  pub data Pairs : Type 0 where
    no_pairs : Pairs
    pair : Tree → Tree → Pairs → Pairs

-- a key and its value
pub record MapEntry : Type 0 where
  pub key : Tree
  pub value : Tree

-- the trees of a list
abbrev pub trees_of : List Tree → Trees
trees_of [] = no_trees
trees_of (t ∷ ts) = tree t (trees_of ts)

-- how many they are
abbrev pub tree_count : Trees → ℕ
tree_count no_trees = 0
tree_count (tree t ts) = suc (tree_count ts)

-- the pairs of a list
abbrev pub pairs_of : List MapEntry → Pairs
pairs_of [] = no_pairs
pairs_of (e ∷ es) = pair e.key e.value (pairs_of es)
