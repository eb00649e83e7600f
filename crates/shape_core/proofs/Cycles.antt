-- That a shape lies on a cycle where it is the least that its walk comes to, if none before it lies on one.
use Rattle.std.proofs.Common.{◌≡◌, ℕ, zero, suc, ◌+◌, ◌<◌, ◌==◌, List, [], ◌∷◌, length, Bool, true, false, ◌||◌, if◌then◌else◌, Option, Some, None, option_and_then, unwrap_or, ⊎_elim, refl, sym, ap, ◌∙◌, true≢false, arith}
use Rattle.std.proofs.lemmas.Bool.{or_cases, or_left, or_right, eqb-true, eq-eqb, ne_eqb, cases_lt, cases_Bool}
use Rattle.std.specs.Prelude.{slice_get}
use Rattle.std.specs.List.{list_any, cons_option}
use Rattle.std.specs.Option.{option_map_or}
use Rattle.semantics_lines.specs.Shapes.{Definition, scalar_shape, option_shape, result_shape, list_shape, array_shape, set_shape, map_shape, struct_shape, enum_shape, transparent_shape, Draft}
use Rattle.semantics_lines.specs.ShapeFaults.{ShapeFaultKind, undefined, repeated_shape_name, repeated_name, bad_flatten, step_cycle, bad_enum, too_many, not_built}
use Rattle.semantics.specs.Registry.{step_shapes, draft_steps, steps_from, steps_to, lies_on_cycle, Rule, rule, first_broken, rules_of, on_definition, is_undefined, repeats_shape_name, repeats_name, has_bad_item, has_bad_unit, has_too_many, is_not_built, fault_of, NoFaultBelow}
use Rattle.shape_core.specs.declared.steps.Walk.{Walk}
use Rattle.shape_core.proofs.Lists.{past_end}
use Rattle.shape_core.specs.Walks.{IsWalk, AreWalks}

-- there is one step at most
abbrev step_of : Definition → Option ℕ
step_of (option_shape s) = Some s
step_of (transparent_shape s) = Some s
step_of _ = None

one_of : (d : Definition) → step_shapes d ≡ cons_option (step_of d) []
one_of (scalar_shape t) = refl
one_of (option_shape s) = refl
one_of (result_shape s t) = refl
one_of (list_shape s) = refl
one_of (array_shape s n) = refl
one_of (set_shape s) = refl
one_of (map_shape s t) = refl
one_of (struct_shape s) = refl
one_of (enum_shape f vs) = refl
one_of (transparent_shape s) = refl

abbrev step_in : Option Definition → Option ℕ
step_in o = option_and_then step_of o

one_in : (o : Option Definition) → option_map_or step_shapes o [] ≡ cons_option (step_in o) []
one_in None = refl
one_in (Some d) = one_of d

abbrev step_at : Option Draft → Option ℕ
step_at o = option_and_then (λ d. step_in d.definition) o

one_at : (o : Option Draft) → option_map_or draft_steps o [] ≡ cons_option (step_at o) []
one_at None = refl
one_at (Some d) = one_in d.definition

module _ (ds : List Draft) where
  abbrev next : ℕ → Option ℕ
  next s = step_at (slice_get ds s)

  one : (s : ℕ) → steps_from ds s ≡ cons_option (next s) []
  one s = one_at (slice_get ds s)

  -- where k steps lead
  abbrev go : ℕ → ℕ → Option ℕ
  go zero s = Some s
  go (suc k) s = option_and_then (go k) (next s)

  -- k steps and one more lead from s to t
  abbrev Leads : ℕ → ℕ → ℕ → Type 0
  Leads n s t = (k : ℕ) × (k < n) × (go (suc k) s ≡ Some t)

  leads_by : (n t s : ℕ) (o : Option ℕ) → next s ≡ o → ((u : ℕ) → steps_to ds n t u ≡ true → Leads n u t)
      → list_any (λ u. u == t || steps_to ds n t u) (cons_option o []) ≡ true → Leads (suc n) s t
  leads_by n t s None e rest h = absurd (true≢false (sym h))
  leads_by n t s (Some u) e rest h =
      ⊎_elim (λ here. (0, omega arith, ap (option_and_then (go 0)) e ∙ ap Some (eqb-true u t here)))
      (λ more. let (k, lt, is) = rest u more in (suc k, omega (arith, lt), ap (option_and_then (go (suc k))) e ∙ is))
      (or_cases (u == t) (steps_to ds n t u) (sym (or_none (u == t || steps_to ds n t u)) ∙ h))
    where
      or_none : (b : Bool) → b || false ≡ b
      or_none true = refl
      or_none false = refl

  leads : (n t s : ℕ) → steps_to ds n t s ≡ true → Leads n s t
  leads zero t s h = absurd (true≢false (sym h))
  leads (suc n) t s h = leads_by n t s (next s) refl (leads n t) (ap (list_any (λ u. u == t || steps_to ds n t u)) (sym (one s)) ∙ h)

  led_by : (n k t s : ℕ) (o : Option ℕ) → next s ≡ o → k < suc n → ((u j : ℕ) → j < n → go (suc j) u ≡ Some t → steps_to ds n t u ≡ true)
      → option_and_then (go k) o ≡ Some t → list_any (λ u. u == t || steps_to ds n t u) (cons_option o []) ≡ true
  led_by n k t s None e lt rest h = absurd cc
  led_by n zero t s (Some u) e lt rest h =
      let here : u ≡ t = ap (λ o. unwrap_or o u) h in
      or_left (u == t || steps_to ds n t u) false (or_left (u == t) (steps_to ds n t u) (eq-eqb u t here))
  led_by n (suc k) t s (Some u) e lt rest h =
      or_left (u == t || steps_to ds n t u) false (or_right (u == t) (steps_to ds n t u) (rest u k (omega (arith, lt)) h))

  led : (n t s k : ℕ) → k < n → go (suc k) s ≡ Some t → steps_to ds n t s ≡ true
  led zero t s k lt h = absurd (omega (arith, lt))
  led (suc n) t s k lt h = ap (list_any (λ u. u == t || steps_to ds n t u)) (one s) ∙ led_by n k t s (next s) refl lt (λ u j. led n t u j) h

  go_on : (a b s : ℕ) → go (a + b) s ≡ option_and_then (go b) (go a s)
  go_on zero b s = let same : 0 + b ≡ b = omega arith in ap (λ n. go n s) same
  go_on (suc a) b s =
      let same : suc a + b ≡ suc (a + b) = omega arith in
      ap (λ n. go n s) same ∙ on (next s) (go_on a b)
    where
      on : (o : Option ℕ) → ((u : ℕ) → go (a + b) u ≡ option_and_then (go b) (go a u)) → option_and_then (go (a + b)) o ≡ option_and_then (go b) (option_and_then (go a) o)
      on None rest = refl
      on (Some u) rest = rest u

  -- what a shape on a cycle comes to lies on the cycle too
  carried : (n m l : ℕ) → steps_to ds n m m ≡ true → steps_to ds n l m ≡ true → steps_to ds n l l ≡ true
  carried n m l round there =
      let (j, low, back) = leads n m m round in
      let (k, high, to) = leads n l m there in
      let sum : suc k + suc j ≡ suc j + suc k = omega arith in
      led n l l j low
      (sym (ap (option_and_then (go (suc j))) to) ∙ sym (go_on (suc k) (suc j) m) ∙ ap (λ n. go n m) sum ∙ go_on (suc j) (suc k) m ∙ ap (option_and_then (go (suc k))) back ∙ to)

fifth : (j k l m n : ShapeFaultKind) (a b c d e : Bool) (rs : List Rule) → first_broken (rule j a ∷ rule k b ∷ rule l c ∷ rule m d ∷ rule n e ∷ rs) ≡ None → e ≡ false
fifth j k l m n true b c d e rs h = absurd cc
fifth j k l m n false true c d e rs h = absurd cc
fifth j k l m n false false true d e rs h = absurd cc
fifth j k l m n false false false true e rs h = absurd cc
fifth j k l m n false false false false true rs h = absurd cc
fifth j k l m n false false false false false rs h = refl

is_built : (b : Bool) (o : Option ShapeFaultKind) → (if b then Some not_built else o) ≡ None → o ≡ None
is_built true o h = absurd cc
is_built false o h = h

-- a shape without a fault lies on no cycle
no_cycle : (ds : List Draft) (i : ℕ) (d : Draft) → fault_of ds i d ≡ None → lies_on_cycle ds i ≡ false
no_cycle ds i d h =
    fifth undefined repeated_shape_name repeated_name bad_flatten step_cycle
    (is_undefined (length ds) d.definition) (repeats_shape_name ds i d) (on_definition d.definition repeats_name) (on_definition d.definition has_bad_item) (lies_on_cycle ds i)
    (rule bad_enum (on_definition d.definition has_bad_unit) ∷ rule too_many (on_definition d.definition has_too_many) ∷ [])
    (is_built (is_not_built d) (first_broken (rules_of ds i d)) h)

there_is : (ds : List Draft) (i : ℕ) (o : Option Draft) → i < length ds → slice_get ds i ≡ o → option_and_then (fault_of ds i) o ≡ None → lies_on_cycle ds i ≡ false
there_is ds i None lt e h = let le = past_end ds i e in absurd (omega (arith, lt, le))
there_is ds i (Some d) lt e h = no_cycle ds i d h

none_before : (ds : List Draft) (n i : ℕ) → NoFaultBelow ds n → i < n → i < length ds → lies_on_cycle ds i ≡ false
none_before ds n i free lt within = there_is ds i (slice_get ds i) within refl (free i lt)

-- The shape is the least that its walk comes to exactly if it lies on a cycle, where none before it does.
pub own_least : (ds : List Draft) (ws : List Walk) (at : ℕ) (w : Walk) → AreWalks ds (length ds) ws → NoFaultBelow ds at → at < length ds → slice_get ws at ≡ Some w
    → (w.least == at) ≡ lies_on_cycle ds at
own_least ds ws at w walks free within here =
    ⊎_elim (λ on. eq-eqb w.least at (is on) ∙ sym on) (λ off. ne_eqb w.least at (λ same. true≢false (sym (ap (λ l. steps_to ds (length ds) l at) (sym same) ∙ walk.there (omega (arith, same, within))) ∙ off)) ∙ sym off) (cases_Bool (lies_on_cycle ds at))
  where
    walk : IsWalk ds (length ds) at w
    walk = walks.each at w here

    is : lies_on_cycle ds at ≡ true → w.least ≡ at
    is on =
        let le = walk.below at on in
        ⊎_elim (λ lt. absurd (true≢false (sym (carried ds (length ds) at w.least on (walk.there (omega (arith, lt, within)))) ∙ none_before ds at w.least free lt (omega (arith, lt, within)))))
        (λ ge. omega (arith, le, ge)) (cases_lt w.least at)
