-- Values that have to come, as the code awaits them.
use Rattle.std.proofs.Common.{◌≡◌, ℕ, zero, suc, ◌<◌, ◌-◌, [], ◌∷◌, Option, Some, None, Ok, Err, refl, sym, ap, ◌∙◌, arith}
use Rattle.semantics_lines.specs.Shapes.{Definition, scalar_shape, option_shape, result_shape, list_shape, array_shape, set_shape, map_shape, struct_shape, enum_shape, transparent_shape, definition_at}
use Rattle.semantics_lines.specs.Events.{Span}
use Rattle.semantics_lines.specs.Faults.{too_deep}
use Rattle.semantics.specs.Reading.{Source, from_events}
use Rattle.laws_reading.specs.Values.{Terms}
use Rattle.laws_machine.specs.Frames.{awaits, Frames}
use Rattle.laws_machine.specs.Delivery.{going}
use Rattle.laws_machine.specs.Begins.{await_as, await}
use Rattle.read_steps.specs.declared.frames.Next.{Next}
use Rattle.read_steps.specs.declared.frames.Next.TheVariants as next
use Rattle.read_steps.specs.Leaving.{same_in}
use Rattle.read_steps.specs.Refusals.{fault_in}
use Rattle.read_steps.specs.Views.{next_in}

-- where nothing is open, no frame is, and nothing comes next
pub nothing_open : (n : Next) (fs : Frames) → next_in n fs ≡ [] → fs ≡ []
nothing_open next.Inside fs is = is
nothing_open (next.Value shape depth) fs is = absurd cc
nothing_open (next.Passed os) fs is = absurd cc

module _ (t : Terms) (fs : Frames) (last : Span) where
  pub await_deep : (n s : ℕ) → n ≡ 0 → await t n s from_events fs last ≡ Err (fault_in t fs (too_deep t.limit) last)
  await_deep zero s none = refl
  await_deep (suc n) s none = absurd (omega (arith, none))

  on_as : (n s i : ℕ) (o : Option Definition) → same_in o ≡ Some i → await_as (await t n) n s from_events o fs last ≡ await t n i from_events fs last
  on_as n s i None is = absurd cc
  on_as n s i (Some (transparent_shape j)) is = let eq : j ≡ i = cc in ap (λ (k : ℕ). await t n k from_events fs last) eq
  on_as n s i (Some (scalar_shape x)) is = absurd cc
  on_as n s i (Some (option_shape j)) is = absurd cc
  on_as n s i (Some (result_shape j k)) is = absurd cc
  on_as n s i (Some (list_shape j)) is = absurd cc
  on_as n s i (Some (array_shape j len)) is = absurd cc
  on_as n s i (Some (set_shape j)) is = absurd cc
  on_as n s i (Some (map_shape j k)) is = absurd cc
  on_as n s i (Some (struct_shape d)) is = absurd cc
  on_as n s i (Some (enum_shape form vs)) is = absurd cc

  -- a transparent shape is the one inside it
  pub await_on : (n s i : ℕ) → 0 < n → same_in (definition_at t.setting.registry s) ≡ Some i → await t n s from_events fs last ≡ await t (n - 1) i from_events fs last
  await_on zero s i some is = absurd (omega (arith, some))
  await_on (suc n) s i some is =
      let same : suc n - 1 ≡ n = omega arith in
      on_as n s i (definition_at t.setting.registry s) is ∙ ap (λ (k : ℕ). await t k i from_events fs last) (sym same)

  here_as : (n s : ℕ) (o : Option Definition) → same_in o ≡ None → await_as (await t n) n s from_events o fs last ≡ Ok (going (awaits (record { shape = s; depth = n }) ∷ fs))
  here_as n s None is = refl
  here_as n s (Some (transparent_shape j)) is = absurd cc
  here_as n s (Some (scalar_shape x)) is = refl
  here_as n s (Some (option_shape j)) is = refl
  here_as n s (Some (result_shape j k)) is = refl
  here_as n s (Some (list_shape j)) is = refl
  here_as n s (Some (array_shape j len)) is = refl
  here_as n s (Some (set_shape j)) is = refl
  here_as n s (Some (map_shape j k)) is = refl
  here_as n s (Some (struct_shape d)) is = refl
  here_as n s (Some (enum_shape form vs)) is = refl

  -- another shape comes itself
  pub await_is : (n s : ℕ) → 0 < n → same_in (definition_at t.setting.registry s) ≡ None → await t n s from_events fs last ≡ Ok (going (awaits (record { shape = s; depth = n - 1 }) ∷ fs))
  await_is zero s some is = absurd (omega (arith, some))
  await_is (suc n) s some is =
      let same : suc n - 1 ≡ n = omega arith in
      here_as n s (definition_at t.setting.registry s) is ∙ ap (λ (k : ℕ). Ok (going (awaits (record { shape = s; depth = k }) ∷ fs))) (sym same)

  -- where the metadata of a value comes from makes no difference yet
  pub await_source : (n s : ℕ) (source : Source) → await t n s source fs last ≡ await t n s from_events fs last
  await_source zero s source = refl
  await_source (suc n) s source = by_definition (definition_at t.setting.registry s) (λ j. await_source n j source)
    where
      by_definition : (o : Option Definition) → ((j : ℕ) → await t n j source fs last ≡ await t n j from_events fs last) → await_as (await t n) n s source o fs last ≡ await_as (await t n) n s from_events o fs last
      by_definition None inner = refl
      by_definition (Some (transparent_shape j)) inner = inner j
      by_definition (Some (scalar_shape x)) inner = refl
      by_definition (Some (option_shape j)) inner = refl
      by_definition (Some (result_shape j k)) inner = refl
      by_definition (Some (list_shape j)) inner = refl
      by_definition (Some (array_shape j len)) inner = refl
      by_definition (Some (set_shape j)) inner = refl
      by_definition (Some (map_shape j k)) inner = refl
      by_definition (Some (struct_shape d)) inner = refl
      by_definition (Some (enum_shape form vs)) inner = refl
