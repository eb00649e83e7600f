-- What a key does to a struct that is open.
use Rattle.std.proofs.Common.{◌≡◌, ℕ, suc, List, [], ◌∷◌, ◌++◌, Option, Some, None, Ok, Err, Bool, true, false, cond, not, ◌||◌, is_some, refl, sym, ap, ◌∙◌, subst, append_assoc}
use Rattle.semantics_lines.specs.Shapes.{Registry}
use Rattle.semantics_lines.specs.Events.{Key, named, nameless, ordered, key_note, key, Event, leaf}
use Rattle.semantics_lines.specs.Faults.{duplicate_field}
use Rattle.semantics.specs.Runs.{run_events}
use Rattle.semantics.specs.Places.{Path, is_taken}
use Rattle.semantics.specs.Keys.{plan_of, leads, key_label, ordered_count, is_allowed}
use Rattle.semantics.specs.Reading.{part_value, parts_by, source_of, plain_layout, read}
use Rattle.semantics.specs.Ends.{End, one_shape, leaf_at, steps_at}
use Rattle.semantics_causes.specs.Taken.{struct_plan, leads_behind, label_behind, end_in, placed_in, is_free, TakesKey, in_passed}
use Rattle.semantics_causes.specs.Due.{Part, field_part}
use Rattle.laws_reading.specs.Input.{refused}
use Rattle.laws_reading.specs.Structs.{taken_span, key_fault}
use Rattle.laws_reading.specs.Values.{Terms}
use Rattle.laws_reading.proofs.Ends.{taken_kept}
use Rattle.laws_reading.proofs.Leads.{key_leads}
use Rattle.laws_machine.specs.Frames.{StructPart, object, field, Frames, path}
use Rattle.laws_machine.specs.Delivery.{going, complete, Steps, here, past_key}
use Rattle.laws_machine.specs.Begins.{await, await_end}
use Rattle.laws_machine.specs.Steps.{plan_in, entered, end_step, lead_step, field_step}
use Rattle.laws_causes.proofs.Lacking.{leaf_shape}
use Rattle.laws_causes.proofs.Holding.{first_of, HoldsObject, AwaitsField}
use Rattle.laws_causes.proofs.Keeping.{Fits, fits_frame, Passing, After, AfterAwait}
use Rattle.laws_causes.proofs.ObjectHolds.{keeps_nowhere, took_as, holds_more}
use Rattle.laws_causes.proofs.Opened.{opened_none}
use Rattle.laws_causes.proofs.Beginning.{await_after}
use Rattle.laws_causes.proofs.ObjectCauses.{unexpected_here, unknown_here, duplicate_here}

-- what awaits a part behind an event that was taken
after_await : (t : Terms) (root : Part) (before : List Event) (e : Event) (r : Steps) → AfterAwait t root (before ++ (e ∷ [])) r → After t root false before e r
after_await t root before e (Ok (going fs)) h = h
after_await t root before e (Ok (complete v)) h = absurd h
after_await t root before e (Err f) h = h

-- a named key that isn't allowed leads nowhere, and the struct refuses such keys
denied_lead : (o : Option Path) (deny : Bool) → (is_some o || not deny) ≡ false → (o ≡ None) × (deny ≡ true)
denied_lead None true e = (refl, refl)
denied_lead None false e = absurd cc
denied_lead (Some p) deny e = absurd cc

-- a key that isn't allowed
denied_after : (t : Terms) (root : Part) (top : root.path ≡ []) (fs : Frames) (before own : List Event) (part : Part) (n : ℕ) (deep : part.depth ≡ suc n) (fits : Fits t root fs before part (first_of own None))
    (s : StructPart) (holds : HoldsObject t s part n own) (q : Key) → is_allowed (struct_plan t.setting.registry [] holds.struct) (ordered_count 0 holds.entries) q ≡ false
    → After t root false (before ++ own) (leaf (key q)) (key_fault q (path t fs) (here (key_note q).span))
denied_after t root top fs before own part n deep fits s holds (named u m note) denied =
    let (nowhere, denies) = denied_lead (leads_behind t.setting.registry [] holds.struct holds.entries (named u m note)) holds.struct.deny denied in
    unknown_here t root top fs before own part n deep fits s holds u m note nowhere denies
denied_after t root top fs before own part n deep fits s holds (nameless m note) denied = absurd cc
denied_after t root top fs before own part n deep fits s holds (ordered note) denied = unexpected_here t root top fs before own part n deep fits s holds (leaf (key (ordered note))) note.span denied

module _ (t : Terms) (root : Part) (top : root.path ≡ []) (fs : Frames) (before own : List Event) (part : Part) (n : ℕ) (deep : part.depth ≡ suc n) (fits : Fits t root fs before part (first_of own None))
    (s : StructPart) (holds : HoldsObject t s part n own) (q : Key) where
  abbrev g : Registry
  g = t.setting.registry

  -- after the key
  abbrev Then : Steps → Type 0
  Then r = After t root false (before ++ own) (leaf (key q)) r

  -- the struct's plan is that of the part
  plan_is : plan_in t s ≡ struct_plan g [] holds.struct
  plan_is =
      ap (λ c. plan_of g c s.deny s.layout) holds.defined.choice
      ∙ ap (λ b. plan_of g [] b s.layout) holds.defined.deny
      ∙ ap (plan_of g [] holds.struct.deny) holds.defined.layout

  allowed_is : is_allowed (plan_in t s) s.got.count q ≡ is_allowed (struct_plan g [] holds.struct) (ordered_count 0 holds.entries) q
  allowed_is = ap (λ p. is_allowed p s.got.count q) plan_is ∙ ap (λ k. is_allowed (struct_plan g [] holds.struct) k q) holds.keeps.count

  lead_is : leads_behind g [] holds.struct holds.entries q ≡ leads (plan_in t s) s.got.count q
  lead_is = sym (ap (λ p. leads p s.got.count q) plan_is ∙ ap (λ k. leads (struct_plan g [] holds.struct) k q) holds.keeps.count)

  end_is : (way : Path) → end_in g [] holds.struct way ≡ leaf_at g s.choice s.layout way
  end_is way = sym (ap (λ c. leaf_at g c s.layout way) holds.defined.choice ∙ ap (λ l. leaf_at g [] l way) holds.defined.layout)

  label_is : label_behind g [] holds.struct holds.entries q ≡ key_label (plan_in t s) s.got.count q
  label_is = sym (ap (λ p. key_label p s.got.count q) plan_is ∙ ap (λ k. key_label (struct_plan g [] holds.struct) k q) holds.keeps.count)

  -- the events before the part that the key leads to
  abbrev behind : List Event
  behind = own ++ (leaf (key q) ∷ [])

  fits_behind : Fits t root fs before part (first_of behind None)
  fits_behind = subst (λ l. Fits t root fs before part (first_of (l ++ (leaf (key q) ∷ [])) None)) (sym holds.is) (subst (λ l. Fits t root fs before part (first_of l None)) holds.is fits)

  module _ (allowed : is_allowed (plan_in t s) s.got.count q ≡ true) where
    -- it leads nowhere, so its value is passed over
    nowhere : leads (plan_in t s) s.got.count q ≡ None → Passing t root [] (object (past_key s q)) fs ((before ++ own) ++ (leaf (key q) ∷ []))
    nowhere lead = record {
      part = part;
      n = n;
      deep = deep;
      before = before;
      kind = holds.kind;
      note = holds.note;
      entries = holds.entries;
      q = q;
      inside = [];
      is = append_assoc before own (leaf (key q) ∷ []) ∙ ap (λ l. before ++ (l ++ (leaf (key q) ∷ []))) holds.is;
      fits = subst (λ l. Fits t root fs before part (first_of l None)) holds.is fits;
      opened = opened_none;
      shape = s.shape;
      what = holds.defined.of.what;
      took = λ inside opened. took_as t s part n own holds (in_passed holds.entries q inside) (holds.took, takes, lead_is ∙ lead, opened);
      holds = λ run rest begins. subst (HoldsObject t (past_key s q) part n) (append_assoc own (leaf (key q) ∷ []) (run_events run) ∙ ap (λ l. l ++ (leaf (key q) ∷ run_events run)) holds.is)
          (holds_more t s part n own holds (past_key s q).got q run (record { key = takes; value = λ way end there ends. absurd (no_way way there) })
          (keeps_nowhere t n holds.struct holds.entries s.got q run holds.keeps (lead_is ∙ lead)));
    }
      where
        no_way : (way : Path) → leads_behind g [] holds.struct holds.entries q ≡ Some way → ⊥
        no_way way there = let none = lead_is ∙ lead in cc

        takes : TakesKey g [] holds.struct holds.entries q
        takes = record { allowed = sym allowed_is ∙ allowed; free = λ way there. absurd (no_way way there) }

    -- it leads to a part that comes
    awaited : (way : Path) (i : ℕ) → leads (plan_in t s) s.got.count q ≡ Some way → end_in g [] holds.struct way ≡ Some (one_shape i) → is_taken way s.got.values ≡ false
        → Then (await_end t s.depth (one_shape i).part q (field (past_key s q) (entered way q) ∷ fs) (key_note q).span)
    awaited way i lead ends free =
        after_await t root (before ++ own) (leaf (key q)) (await t s.depth i (source_of q) (field (past_key s q) (entered way q) ∷ fs) (key_note q).span)
        (subst (λ l. AfterAwait t root l (await t s.depth i (source_of q) (field (past_key s q) (entered way q) ∷ fs) (key_note q).span)) (sym (append_assoc before own (leaf (key q) ∷ [])))
        (await_after t root top s.depth i (source_of q) (field (past_key s q) (entered way q) ∷ fs) (before ++ behind) comes (key_note q).span
        (fits_frame (field (past_key s q) (entered way q)) fs part n before behind comes None deep fits_behind awaits) refl (sym holds.defined.depth)))
      where
        comes : Part
        comes = field_part part n q (steps_at g [] (plain_layout holds.struct) way) (one_shape i)

        none_there : is_taken way (placed_in g [] holds.struct holds.entries) ≡ false
        none_there = taken_kept (end_in g [] holds.struct) (parts_by (part_value g (read t.setting n))) way (placed_in g [] holds.struct holds.entries) s.got.values holds.keeps.kept ∙ free

        awaits : AwaitsField t (past_key s q) (entered way q) part n behind comes
        awaits = record {
          before = own;
          earlier = s;
          holds = holds;
          q = q;
          past = refl;
          own_is = refl;
          takes = record {
            allowed = sym allowed_is ∙ allowed;
            free = λ other there.
                let same : way ≡ other = (let twice = sym lead ∙ sym lead_is ∙ there in cc) in
                subst (λ p. is_free (end_in g [] holds.struct p) p (placed_in g [] holds.struct holds.entries) ≡ true) same
                (ap (λ o. is_free o way (placed_in g [] holds.struct holds.entries)) ends ∙ ap not none_there);
          };
          way = way;
          end = one_shape i;
          leads = lead_is ∙ lead;
          ends = ends;
          entered = refl;
          is = refl;
        }

    to_shape : (way : Path) (i : ℕ) → leads (plan_in t s) s.got.count q ≡ Some way → end_in g [] holds.struct way ≡ Some (one_shape i) → (b : Bool) → is_taken way s.got.values ≡ b
        → Then (cond b (refused (duplicate_field (key_label (plan_in t s) s.got.count q) (taken_span way s.got.values)) (path t fs) (here (key_note q).span))
        (await_end t s.depth (one_shape i).part q (field (past_key s q) (entered way q) ∷ fs) (key_note q).span))
    to_shape way i lead ends true taken = subst (λ name. Then (refused (duplicate_field name (taken_span way s.got.values)) (path t fs) (here (key_note q).span))) label_is
        (duplicate_here t root top fs before own part n deep fits s holds q way (lead_is ∙ lead) taken)
    to_shape way i lead ends false free = awaited way i lead ends free

    to_end : (way : Path) → leads (plan_in t s) s.got.count q ≡ Some way → (o : Option End) → leaf_at g s.choice s.layout way ≡ o → Then (end_step (key_label (plan_in t s) s.got.count q) o t (past_key s q) way q fs)
    to_end way lead None none = absurd (let (e, is) = key_leads g s.choice s.deny s.layout s.got.count q way lead allowed in cc)
    to_end way lead (Some e) ends =
        let (i, one) = leaf_shape g s.choice s.layout way e ends in
        subst (λ z. Then (end_step (key_label (plan_in t s) s.got.count q) (Some z) t (past_key s q) way q fs)) (sym one) (to_shape way i lead (end_is way ∙ ends ∙ ap (λ z. Some z) one) (is_taken way s.got.values) refl)

    to_lead : (o : Option Path) → leads (plan_in t s) s.got.count q ≡ o → Then (lead_step (key_label (plan_in t s) s.got.count q) o t s q fs)
    to_lead None lead = nowhere lead
    to_lead (Some way) lead = to_end way lead (leaf_at g s.choice s.layout way) refl

  -- a key that may be refused
  pub key_after : Then (field_step t s fs q)
  key_after = by_test (is_allowed (plan_in t s) s.got.count q) refl
    where
      by_test : (b : Bool) → is_allowed (plan_in t s) s.got.count q ≡ b → Then (cond b (lead_step (key_label (plan_in t s) s.got.count q) (leads (plan_in t s) s.got.count q) t s q fs) (key_fault q (path t fs) (here (key_note q).span)))
      by_test true allowed = to_lead allowed (leads (plan_in t s) s.got.count q) refl
      by_test false denied = denied_after t root top fs before own part n deep fits s holds q (sym allowed_is ∙ denied)
