-- Keys, as they are declared and as the definitions see them.
use Rattle.std.proofs.Common.{◌≡◌, ℕ, ◌+◌, List, [], ◌∷◌, map, Some, cond, refl, ap}
use Rattle.std.specs.List.{position_from}
use Rattle.shape_types.specs.Shapes.{field_of}
use Rattle.shape_types.specs.declared.field.Field.{Field}
use Rattle.read_steps.specs.Keys.{is_called, calls}

pub position_seen : (t : List ℕ) (k : ℕ) (fs : List Field) → position_from (calls t) k fs ≡ position_from (is_called t) k (map field_of fs)
position_seen t k [] = refl
position_seen t k (f ∷ fs) = ap (λ o. cond (calls t f) (Some k) o) (position_seen t (k + 1) fs)
