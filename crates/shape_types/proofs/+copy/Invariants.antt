use Rattle.std.proofs.Common.{◌≡◌, take, map}
use Rattle.shape_types.specs.Trees.{tree_of, entry_of}
use Rattle.shape_types.proofs.+copy.Given as goal

abbrev pub invariant-copy::copy_items-loop-item : goal.invariant-copy::copy_items-loop-item
invariant-copy::copy_items-loop-item l = map tree_of l.copies ≡ map tree_of (take l.item-index l.item-items)

abbrev pub invariant-copy::copy_pairs-loop-pair : goal.invariant-copy::copy_pairs-loop-pair
invariant-copy::copy_pairs-loop-pair l = map entry_of l.copies ≡ map entry_of (take l.pair-index l.pair-items)
