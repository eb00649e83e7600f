use Rattle.std.proofs.Common.{◌≡◌, take, map}
use Rattle.shape_types.specs.Trees.{tree_of, entry_of, owned_tree_of, owned_entry_of}
use Rattle.shape_types.proofs.+own.Given as goal

abbrev pub invariant-copy::own_items-loop-item : goal.invariant-copy::own_items-loop-item
invariant-copy::own_items-loop-item l = map tree_of l.copies ≡ map owned_tree_of (take l.item-index l.item-items)

abbrev pub invariant-copy::own_pairs-loop-pair : goal.invariant-copy::own_pairs-loop-pair
invariant-copy::own_pairs-loop-pair l = map entry_of l.copies ≡ map owned_entry_of (take l.pair-index l.pair-items)
