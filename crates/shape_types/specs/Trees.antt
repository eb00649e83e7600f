-- Values as trees.
use Rattle.semantics_lines.specs.Trees.{Tree, unit_value, bool_value, char_value, unsigned, signed, text, none, some, ok, err, list, mapping, structure, variant, trees_of, pairs_of, MapEntry}
use Rattle.shape_types.specs.Texts.{phrase_of, owned}
use Rattle.shape_types.specs.declared.value.Value.{Value, fold-Value}
use Rattle.shape_types.specs.declared.value.Pair.{Pair, fold-Pair}
use Rattle.shape_types.specs.declared.value.Value.TheOpen.{Value-F, Pair-F}

-- one level of a value, whose parts are trees already
abbrev pub tree_step : Value-F Tree MapEntry → Tree
tree_step Value-F.Unit = unit_value
tree_step (Value-F.Bool b) = bool_value b
tree_step (Value-F.Char c) = char_value c
tree_step (Value-F.Unsigned n) = unsigned n
tree_step (Value-F.Signed z) = signed z
tree_step (Value-F.Text t) = text (phrase_of t)
tree_step Value-F.None = none
tree_step (Value-F.Some v) = some v
tree_step (Value-F.Ok v) = ok v
tree_step (Value-F.Err v) = err v
tree_step (Value-F.List vs) = list (trees_of vs)
tree_step (Value-F.Map ps) = mapping (pairs_of ps)
tree_step (Value-F.Struct vs) = structure (trees_of vs)
tree_step (Value-F.Enum i vs) = variant i (trees_of vs)

-- an entry whose key and value are trees already
abbrev pub entry_step : Pair-F Tree MapEntry → MapEntry
entry_step p = record { key = p.key; value = p.value }

-- the value as a tree
abbrev pub tree_of : Value → Tree
tree_of = fold-Value Tree MapEntry tree_step entry_step

-- an entry of a map
abbrev pub entry_of : Pair → MapEntry
entry_of = fold-Pair Tree MapEntry tree_step entry_step

-- one level of a value, whose texts become owned
abbrev pub owned_step : Value-F Tree MapEntry → Tree
owned_step Value-F.Unit = unit_value
owned_step (Value-F.Bool b) = bool_value b
owned_step (Value-F.Char c) = char_value c
owned_step (Value-F.Unsigned n) = unsigned n
owned_step (Value-F.Signed z) = signed z
owned_step (Value-F.Text t) = text (owned (phrase_of t))
owned_step Value-F.None = none
owned_step (Value-F.Some v) = some v
owned_step (Value-F.Ok v) = ok v
owned_step (Value-F.Err v) = err v
owned_step (Value-F.List vs) = list (trees_of vs)
owned_step (Value-F.Map ps) = mapping (pairs_of ps)
owned_step (Value-F.Struct vs) = structure (trees_of vs)
owned_step (Value-F.Enum i vs) = variant i (trees_of vs)

-- the value as a tree whose texts are all owned
abbrev pub owned_tree_of : Value → Tree
owned_tree_of = fold-Value Tree MapEntry owned_step entry_step

-- an entry of a map, whose texts are all owned
abbrev pub owned_entry_of : Pair → MapEntry
owned_entry_of = fold-Pair Tree MapEntry owned_step entry_step
