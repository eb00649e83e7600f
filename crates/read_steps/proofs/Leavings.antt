-- Which events a step only looks at.
use Rattle.std.proofs.Common.{◌≡◌, ℕ, zero, suc, ◌<◌, ◌-◌, Option, Some, None, Bool, true, false, cond, ◌==◌, refl, sym, ap, ◌∙◌, arith}
use Rattle.semantics_lines.specs.Shapes.{Definition, scalar_shape, option_shape, result_shape, list_shape, array_shape, set_shape, map_shape, struct_shape, enum_shape, transparent_shape, definition_at}
use Rattle.semantics_lines.specs.Events.{Event}
use Rattle.semantics.specs.Seen.{is_nothing_event}
use Rattle.laws_reading.specs.Values.{Terms}
use Rattle.laws_machine.specs.Leaves.{unless, leaves_as, begin_leaves}
use Rattle.read_steps.specs.Leaving.{inner_in, leaves_inner}

-- the part of a definition
pub leaves_part : (t : Terms) (e : Event) (n s : ℕ) → begin_leaves t e (suc n) s ≡ leaves_inner t e n (inner_in (definition_at t.setting.registry s) e)
leaves_part t e n s = by_definition (definition_at t.setting.registry s)
  where
    by_nothing : (b : Bool) (i : ℕ) → unless b (begin_leaves t e n i) ≡ leaves_inner t e n (cond b None (Some i))
    by_nothing true i = refl
    by_nothing false i = refl

    by_definition : (o : Option Definition) → leaves_as (begin_leaves t e n) o e ≡ leaves_inner t e n (inner_in o e)
    by_definition None = refl
    by_definition (Some (option_shape i)) = by_nothing (is_nothing_event e) i
    by_definition (Some (transparent_shape i)) = refl
    by_definition (Some (scalar_shape x)) = refl
    by_definition (Some (result_shape i j)) = refl
    by_definition (Some (list_shape i)) = refl
    by_definition (Some (array_shape i len)) = refl
    by_definition (Some (set_shape i)) = refl
    by_definition (Some (map_shape i j)) = refl
    by_definition (Some (struct_shape d)) = refl
    by_definition (Some (enum_shape form vs)) = refl

-- the part that is read from the same event leaves it
pub leaves_on : (t : Terms) (e : Event) (n s i : ℕ) → 0 < n → inner_in (definition_at t.setting.registry s) e ≡ Some i → begin_leaves t e n s ≡ begin_leaves t e (n - 1) i
leaves_on t e zero s i some is = absurd (omega (arith, some))
leaves_on t e (suc n) s i some is =
    let same : suc n - 1 ≡ n = omega arith in
    leaves_part t e n s ∙ ap (leaves_inner t e n) is ∙ ap (λ (k : ℕ). begin_leaves t e k i) (sym same)

-- where there is none, the event is left where no depth is
pub leaves_here : (t : Terms) (e : Event) (n s : ℕ) → (0 < n → inner_in (definition_at t.setting.registry s) e ≡ None) → begin_leaves t e n s ≡ (n == 0)
leaves_here t e zero s none = refl
leaves_here t e (suc n) s none =
    let more : false ≡ (suc n == 0) = grind arith in
    leaves_part t e n s ∙ ap (leaves_inner t e n) (none (omega arith)) ∙ more
