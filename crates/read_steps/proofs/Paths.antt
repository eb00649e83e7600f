-- The step to a field.
use Rattle.std.proofs.Common.{◌≡◌, ℕ, zero, suc, List, [], ◌∷◌, ◌++◌, length, slice_get, Option, Some, None, false, refl, ap}
use Rattle.semantics_lines.specs.Shapes.{Field, Registry}
use Rattle.semantics_lines.specs.Faults.{Step, field_step}
use Rattle.semantics.specs.Ends.{flat_steps, steps_found, steps_at}
use Rattle.read_steps.specs.Refusals.{with_field_step}

nothing_behind : (p : List Step) → p ++ [] ≡ p
nothing_behind [] = refl
nothing_behind (s ∷ p) = ap (λ (q : List Step). s ∷ q) (nothing_behind p)

-- a field of the struct itself is one step away
pub field_step_seen : (g : Registry) (fs : List Field) (k : ℕ) (p : List Step) → p ++ steps_at g [] (record { fields = fs; whole = false }) (k ∷ []) ≡ with_field_step (slice_get fs k) p
field_step_seen g fs k p = by_field (slice_get fs k)
  where
    by_length : (n : ℕ) (f : Field) → p ++ steps_found (flat_steps g n) g [] (Some f) [] ≡ p ++ (field_step f.name ∷ [])
    by_length zero f = refl
    by_length (suc n) f = refl

    by_field : (o : Option Field) → p ++ steps_found (flat_steps g (length g)) g [] o [] ≡ with_field_step o p
    by_field None = nothing_behind p
    by_field (Some f) = by_length (length g) f
