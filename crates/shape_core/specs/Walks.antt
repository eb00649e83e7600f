-- What is told of some number of steps from a shape.
use Rattle.std.specs.Prelude.{◌≡◌, ℕ, ◌+◌, ◌<◌, ◌≤◌, min, List, length, map, true, ◌||◌, Some, slice_get}
use Rattle.std.specs.Option.{option_map_or}
use Rattle.semantics_lines.specs.Shapes as mirror
use Rattle.semantics.specs.Registry.{steps_to}
use Rattle.shape_core.specs.declared.steps.Walk.{Walk}

-- Where k steps lead from s: the further steps are those from its end, and its least shape is the least that it comes to.
pub record IsWalk (ds : List mirror.Draft) (k s : ℕ) (w : Walk) : Type 0 where
  pub further : (b t : ℕ) → steps_to ds (k + b) t s ≡ (steps_to ds k t s || steps_to ds b t w.end)
  pub below : (t : ℕ) → steps_to ds k t s ≡ true → w.least ≤ t
  pub there : w.least < length ds → steps_to ds k w.least s ≡ true

-- a walk of k steps from each shape
pub record AreWalks (ds : List mirror.Draft) (k : ℕ) (ws : List Walk) : Type 0 where
  pub all : length ws ≡ length ds
  pub each : (s : ℕ) (w : Walk) → slice_get ws s ≡ Some w → IsWalk ds k s w

-- a walk with the one that begins where it ends, where there is one
abbrev pub joined : Walk → List Walk → Walk
joined w ws = option_map_or (λ v. record { end = v.end; least = min w.least v.least }) (slice_get ws w.end) w

-- each walk with the one that begins where it ends
abbrev pub joined_all : List Walk → List Walk → List Walk
joined_all behind ws = map (λ w. joined w behind) ws
