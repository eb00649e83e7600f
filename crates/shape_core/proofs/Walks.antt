-- Walks of no steps, of one, and of some more behind others.
use Rattle.std.proofs.Common.{◌≡◌, ℕ, zero, suc, ◌+◌, ◌<◌, ◌≤◌, ◌==◌, min, List, [], ◌∷◌, length, Bool, true, false, ◌||◌, Option, Some, None, option_map, unwrap_or, ⊎_elim, refl, sym, ap, ◌∙◌, subst, true≢false, arith}
use Rattle.std.proofs.Math.Nat.{min-le_left, min-le_right}
use Rattle.std.proofs.lemmas.Bool.{or_cases, or_left, or_right, or_from, eqb-true, eq-eqb, cases_lt}
use Rattle.std.proofs.lemmas.Option.{slice_get-map, slice_get_past}
use Rattle.std.proofs.lemmas.List.{length-map}
use Rattle.std.specs.Prelude.{slice_get}
use Rattle.std.specs.List.{list_any}
use Rattle.std.specs.Option.{option_map_or}
use Rattle.semantics_lines.specs.Shapes.{Draft}
use Rattle.semantics.specs.Registry.{draft_steps, steps_from, steps_to}
use Rattle.shape_core.specs.declared.steps.Walk.{Walk}
use Rattle.shape_core.proofs.Lists.{past_end}
use Rattle.shape_core.specs.Walks.{IsWalk, AreWalks, joined, joined_all}

-- no step leads from where there is no shape
past : (ds : List Draft) (b t e : ℕ) → length ds ≤ e → steps_to ds b t e ≡ false
past ds zero t e le = refl
past ds (suc b) t e le = ap (λ o. list_any (λ u. u == t || steps_to ds b t u) (option_map_or draft_steps o [])) (slice_get_past ds e le)

one_more : (ds : List Draft) (b t s : ℕ) → steps_to ds (1 + b) t s ≡ list_any (λ u. u == t || steps_to ds b t u) (steps_from ds s)
one_more ds b t s = let next : 1 + b ≡ suc b = omega arith in ap (λ n. steps_to ds n t s) next

-- no steps
pub stays : (ds : List Draft) (s n : ℕ) → length ds ≡ n → IsWalk ds 0 s (record { end = s; least = n })
stays ds s n many =
    record {
      further = λ b t. let same : 0 + b ≡ b = omega arith in ap (λ n. steps_to ds n t s) same;
      below = λ t h. absurd (true≢false (sym h));
      there = λ lt. absurd (omega (arith, lt, many));
    }

or_end : (b : Bool) → b || false ≡ b
or_end true = refl
or_end false = refl

first_or : (b c : Bool) → (b || c) || false ≡ ((b || false) || false) || c
first_or true c = refl
first_or false true = refl
first_or false false = refl

-- one step, which leads to u
pub steps_on : (ds : List Draft) (s u : ℕ) → u ∷ [] ≡ steps_from ds s → IsWalk ds 1 s (record { end = u; least = u })
steps_on ds s u there =
    let one = λ (t : ℕ). ap (list_any (λ v. v == t || false)) (sym there) in
    record {
      further = λ b t. one_more ds b t s ∙ ap (list_any (λ v. v == t || steps_to ds b t v)) (sym there) ∙ first_or (u == t) (steps_to ds b t u) ∙ ap (λ c. c || steps_to ds b t u) (sym (one t));
      below = λ t h. let same = eqb-true u t (sym (or_end (u == t)) ∙ sym (or_end (u == t || false)) ∙ sym (one t) ∙ h) in omega (arith, same);
      there = λ lt. one u ∙ or_left (u == u || false) false (or_left (u == u) false (eq-eqb u u refl));
    }

-- no step leads on
pub ends : (ds : List Draft) (s : ℕ) → [] ≡ steps_from ds s → IsWalk ds 1 s (record { end = length ds; least = length ds })
ends ds s there =
    let none = λ (b t : ℕ). ap (list_any (λ v. v == t || steps_to ds b t v)) (sym there) in
    record {
      further = λ b t. one_more ds b t s ∙ none b t ∙ sym (or_from (steps_to ds 1 t s) (steps_to ds b t (length ds)) (none 0 t) (past ds b t (length ds) (omega arith)));
      below = λ t h. absurd (true≢false (sym h ∙ none 0 t));
      there = λ lt. absurd (omega (arith, lt));
    }

grouped : (a b c : Bool) → a || (b || c) ≡ (a || b) || c
grouped true b c = refl
grouped false b c = refl

none_some : (w : Walk) → None ≡ Some w → ⊥
none_some w e = cc

same_some : (w v : Walk) → Some w ≡ Some v → w ≡ v
same_some w v e = ap (λ o. unwrap_or o w) e

module _ (ds : List Draft) (a b s : ℕ) (w : Walk) where
  -- b steps more, which begin where the walk ends
  behind : (v : Walk) → IsWalk ds a s w → IsWalk ds b w.end v → IsWalk ds (a + b) s (record { end = v.end; least = min w.least v.least })
  behind v front rest =
      let whole = front.further b in
      let low = min-le_left w.least v.least in
      let high = min-le_right w.least v.least in
      let first : w.least < v.least → min w.least v.least < length ds → steps_to ds a (min w.least v.least) s ≡ true =
      λ less lt. let is : min w.least v.least ≡ w.least = omega (arith, less) in ap (λ l. steps_to ds a l s) is ∙ front.there (omega (arith, is, lt)) in
      let second : v.least ≤ w.least → min w.least v.least < length ds → steps_to ds b (min w.least v.least) w.end ≡ true =
      λ le lt. let is : min w.least v.least ≡ v.least = omega (arith, le) in ap (λ l. steps_to ds b l w.end) is ∙ rest.there (omega (arith, is, lt)) in
      record {
        further = λ c t.
            let sum : (a + b) + c ≡ a + (b + c) = omega arith in
            ap (λ n. steps_to ds n t s) sum ∙ front.further (b + c) t ∙ ap (λ r. steps_to ds a t s || r) (rest.further c t)
            ∙ grouped (steps_to ds a t s) (steps_to ds b t w.end) (steps_to ds c t v.end) ∙ ap (λ r. r || steps_to ds c t v.end) (sym (whole t));
        below = λ t h. ⊎_elim (λ x. let le = front.below t x in omega (arith, le, low)) (λ y. let le = rest.below t y in omega (arith, le, high)) (or_cases (steps_to ds a t s) (steps_to ds b t w.end) (sym (whole t) ∙ h));
        there = λ lt. whole (min w.least v.least) ∙ ⊎_elim
            (λ less. or_left (steps_to ds a (min w.least v.least) s) (steps_to ds b (min w.least v.least) w.end) (first less lt))
            (λ le. or_right (steps_to ds a (min w.least v.least) s) (steps_to ds b (min w.least v.least) w.end) (second le lt)) (cases_lt w.least v.least);
      }

  -- nothing more, since the walk ends where there is no shape
  alone : IsWalk ds a s w → length ds ≤ w.end → IsWalk ds (a + b) s w
  alone front le =
      let none = λ (c t : ℕ). past ds c t w.end le in
      let same = λ (c t : ℕ). front.further c t ∙ ap (λ r. steps_to ds a t s || r) (none c t) ∙ or_end (steps_to ds a t s) in
      record {
        further = λ c t.
            let sum : (a + b) + c ≡ a + (b + c) = omega arith in
            ap (λ n. steps_to ds n t s) sum ∙ same (b + c) t ∙ sym (same b t) ∙ sym (or_end (steps_to ds (a + b) t s)) ∙ ap (λ r. steps_to ds (a + b) t s || r) (sym (none c t));
        below = λ t h. front.below t (sym (same b t) ∙ h);
        there = λ lt. same b w.least ∙ front.there lt;
      }

  -- the walk with the one that begins where it ends
  pub joins : (ws : List Walk) → IsWalk ds a s w → AreWalks ds b ws → IsWalk ds (a + b) s (joined w ws)
  joins ws front rest = by (slice_get ws w.end) refl
    where
      by : (o : Option Walk) → slice_get ws w.end ≡ o → IsWalk ds (a + b) s (joined w ws)
      by None e = subst (λ o. IsWalk ds (a + b) s (option_map_or (λ v. record { end = v.end; least = min w.least v.least }) o w)) (sym e) (alone front (omega (arith, rest.all, past_end ws w.end e)))
      by (Some v) e = subst (λ o. IsWalk ds (a + b) s (option_map_or (λ v. record { end = v.end; least = min w.least v.least }) o w)) (sym e) (behind v front (rest.each w.end v e))

found : (ws behind : List Walk) (s : ℕ) (w : Walk) → (o : Option Walk) → slice_get ws s ≡ o → slice_get (joined_all behind ws) s ≡ Some w → (v : Walk) × (slice_get ws s ≡ Some v) × (w ≡ joined v behind)
found ws behind s w None here there = absurd (none_some w (sym (slice_get-map (λ v. joined v behind) ws s ∙ ap (option_map (λ v. joined v behind)) here) ∙ there))
found ws behind s w (Some v) here there = (v, here, same_some w (joined v behind) (sym there ∙ slice_get-map (λ v. joined v behind) ws s ∙ ap (option_map (λ v. joined v behind)) here))

-- each walk with the one that begins where it ends
pub all_join : (ds : List Draft) (a b : ℕ) (ws behind : List Walk) → AreWalks ds a ws → AreWalks ds b behind → AreWalks ds (a + b) (joined_all behind ws)
all_join ds a b ws behind front rest =
    record {
      all = length-map ws (λ v. joined v behind) ∙ front.all;
      each = λ s w there.
          let (v, here, is) = found ws behind s w (slice_get ws s) refl there in
          subst (IsWalk ds (a + b) s) (sym is) (joins ds a b s v behind (front.each s v here) rest);
    }

-- twice as many steps
pub doubled : (ds : List Draft) (n : ℕ) (half left right even : List Walk) → AreWalks ds n half → left ≡ half → right ≡ half → even ≡ joined_all right left → AreWalks ds (n + n) even
doubled ds n half left right even walks first second is =
    subst (AreWalks ds (n + n)) (sym (is ∙ ap (λ ws. joined_all ws left) second ∙ ap (joined_all half) first)) (all_join ds n n half half walks walks)
