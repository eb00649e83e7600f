-- Lists under a view.
use Rattle.std.proofs.Common.{◌≡◌, ℕ, List, map}
use Rattle.std.specs.Prelude.{option_map, slice_get}
use Rattle.std.proofs.lemmas.Option as option

-- the view of the i-th
pub slice_get_map : {X Y : Type 0} (view : X → Y) (xs : List X) (i : ℕ) → slice_get (map view xs) i ≡ option_map view (slice_get xs i)
slice_get_map view xs i = option.slice_get-map view xs i
