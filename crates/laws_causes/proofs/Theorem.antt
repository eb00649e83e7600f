-- Each fault of the machine has its cause.
use Rattle.std.proofs.Common.{◌≡◌, ◌⊎◌, inl, inr, ℕ, zero, suc, ◌≤◌, List, [], ◌∷◌, ◌++◌, length, Option, Some, None, Ok, Err, Bool, true, false, cond, refl, sym, ap, ◌∙◌, subst, append_assoc, arith}
use Rattle.std.proofs.lemmas.List.{append-nil}
use Rattle.semantics_lines.specs.Events.{Span, Event, span_of}
use Rattle.semantics_lines.specs.Shapes.{Definition, scalar_shape, option_shape, result_shape, list_shape, array_shape, set_shape, map_shape, struct_shape, enum_shape, transparent_shape, definition_at}
use Rattle.semantics_lines.specs.Faults.{bug, too_deep, Fault, Ending, ended_at}
use Rattle.semantics.specs.Registry.{IsRegistry}
use Rattle.semantics.specs.Reading.{Source, from_events}
use Rattle.semantics.specs.Seen.{last_span, IsOpen}
use Rattle.semantics_causes.specs.Due.{Part, root_part}
use Rattle.semantics_causes.specs.Refusals.{HasOwnCause, HasCauseFrom}
use Rattle.laws_reading.specs.Input.{Input, feed, fault_at}
use Rattle.laws_reading.specs.Values.{Terms, reading}
use Rattle.laws_reading.proofs.Lifting.{last_span-append}
use Rattle.laws_reading.proofs.Theorem.{reading_refuses}
use Rattle.laws_machine.specs.Frames.{Awaited, awaits, option, items, elements, keyed, keyed_item, object, field, outcome_key, outcome_side, outcome_end, node, argument, passing, Frames, path}
use Rattle.laws_machine.specs.Delivery.{going, complete, Steps, here}
use Rattle.laws_machine.specs.Begins.{await_as, await}
use Rattle.laws_machine.specs.Steps.{step_at}
use Rattle.laws_machine.specs.Leaves.{leaves}
use Rattle.laws_machine.proofs.Leaves.{faults_stand}
use Rattle.laws_causes.specs.Stopping.{Stop, stop_at, behind_step, left_at, stoppings, stopping, untold}
use Rattle.laws_causes.specs.Laws.{Leaves, StoppingFails}
use Rattle.laws_causes.proofs.Holding.{first_of}
use Rattle.laws_causes.proofs.Keeping.{Fits, fits_root, Open, Keeps, Caused, CausedAt, After, AfterAwait}
use Rattle.laws_causes.proofs.Standing.{fits_any}
use Rattle.laws_causes.proofs.Beginning.{begin_after, await_after}
use Rattle.laws_causes.proofs.ListSteps.{items_after, elements_after, keyed_after}
use Rattle.laws_causes.proofs.ObjectSteps.{object_after}
use Rattle.laws_causes.proofs.NodeSteps.{node_after, argument_after, passing_after}
use Rattle.laws_causes.proofs.ResultSteps.{outcome_key_after, outcome_end_after}
use Rattle.laws_causes.proofs.Opens.{keeps_open}
use Rattle.laws_causes.proofs.Stops.{stopping_reads}

-- where no depth is left for a value that has to come
await_span : (t : Terms) (n s : ℕ) (source : Source) (fs : Frames) (last : Span) (x : Fault) → await t n s source fs last ≡ Err x → x.span ≡ Some last
await_span t zero s source fs last x is = let same : fault_at (too_deep t.limit) (path t fs) (here last) ≡ x = cc in ap (λ (y : Fault). y.span) (sym same)
await_span t (suc n) s source fs last x is = by_definition (definition_at t.setting.registry s) is (λ i. await_span t n i source fs last x)
  where
    by_definition : (o : Option Definition) → await_as (await t n) n s source o fs last ≡ Err x → ((i : ℕ) → await t n i source fs last ≡ Err x → x.span ≡ Some last) → x.span ≡ Some last
    by_definition None is rec = absurd cc
    by_definition (Some (scalar_shape y)) is rec = absurd cc
    by_definition (Some (option_shape i)) is rec = absurd cc
    by_definition (Some (result_shape i j)) is rec = absurd cc
    by_definition (Some (list_shape i)) is rec = absurd cc
    by_definition (Some (array_shape i len)) is rec = absurd cc
    by_definition (Some (set_shape i)) is rec = absurd cc
    by_definition (Some (map_shape i j)) is rec = absurd cc
    by_definition (Some (struct_shape d)) is rec = absurd cc
    by_definition (Some (enum_shape form vs)) is rec = absurd cc
    by_definition (Some (transparent_shape i)) is rec = rec i is

module _ (t : Terms) (root : Part) (top : root.path ≡ []) (checked : IsRegistry t.setting.registry) where
  -- What came is the events before the part and those of it.
  placed_events : (left : Bool) (e : Event) (s : Steps) (a b : List Event) → a ≡ b → After t root left b e s → After t root left a e s
  placed_events left e s a b is h = subst (λ l. After t root left l e s) (sym is) h

  -- a value that had to come begins
  awaits_after : (a : Awaited) (fs : Frames) (events : List Event) → Open t root (awaits a) fs events → (last : Span) (e : Event) → After t root (leaves t (awaits a ∷ fs) e) events e (step_at t (awaits a ∷ fs) last e)
  awaits_after a fs events o last e =
      let (what, depth, none) = o.holds in
      placed_events (leaves t (awaits a ∷ fs) e) e (step_at t (awaits a ∷ fs) last e) events o.before (o.is ∙ ap (λ l. o.before ++ l) none ∙ append-nil o.before)
      (begin_after t root top (suc a.depth) a.shape from_events fs o.before o.part e last
      (fits_any t root e fs o.before o.part (subst (λ l. Fits t root fs o.before o.part (first_of l None)) none o.fits)) what (o.deep ∙ ap (λ k. suc k) (sym depth)))

  -- each event keeps the frames, or has the cause of its fault
  step_after : (fs : Frames) (events : List Event) → Keeps t root fs events → (last : Span) (e : Event) → After t root (leaves t fs e) events e (step_at t fs last e)
  step_after [] events h last e = absurd h
  step_after (passing os ∷ []) events h last e = absurd h
  step_after (passing os ∷ f ∷ fs) events h last e = passing_after t root top os f fs events h last e
  step_after (awaits a ∷ fs) events h last e = awaits_after a fs events h last e
  step_after (items l ∷ fs) events h last e = placed_events (leaves t (items l ∷ fs) e) e (step_at t (items l ∷ fs) last e) events (h.before ++ h.own) h.is (items_after t root top fs h.before h.own h.part h.n h.deep h.fits l h.holds last e)
  step_after (elements l ∷ fs) events h last e = placed_events (leaves t (elements l ∷ fs) e) e (step_at t (elements l ∷ fs) last e) events (h.before ++ h.own) h.is (elements_after t root top fs h.before h.own h.part h.n h.deep h.fits l h.holds last e)
  step_after (keyed l ∷ fs) events h last e = placed_events (leaves t (keyed l ∷ fs) e) e (step_at t (keyed l ∷ fs) last e) events (h.before ++ h.own) h.is (keyed_after t root top fs h.before h.own h.part h.n h.deep h.fits l h.holds last e)
  step_after (object s ∷ fs) events h last e = placed_events (leaves t (object s ∷ fs) e) e (step_at t (object s ∷ fs) last e) events (h.before ++ h.own) h.is (object_after t root top checked fs h.before h.own h.part h.n h.deep h.fits s h.holds last e)
  step_after (outcome_key r ∷ fs) events h last e = placed_events (leaves t (outcome_key r ∷ fs) e) e (step_at t (outcome_key r ∷ fs) last e) events (h.before ++ h.own) h.is (outcome_key_after t root top fs h.before h.own h.part h.n h.deep h.fits r h.holds last e)
  step_after (outcome_end b v ∷ fs) events h last e = placed_events (leaves t (outcome_end b v ∷ fs) e) e (step_at t (outcome_end b v ∷ fs) last e) events (h.before ++ h.own) h.is (outcome_end_after t root top fs h.before h.own h.part h.n h.deep h.fits b v h.holds last e)
  step_after (node p ∷ fs) events h last e = placed_events (leaves t (node p ∷ fs) e) e (step_at t (node p ∷ fs) last e) events (h.before ++ h.own) h.is (node_after t root top fs h.before h.own h.part h.n h.deep h.fits p h.holds last e)
  step_after (argument p first ∷ fs) events h last e = placed_events (leaves t (argument p first ∷ fs) e) e (step_at t (argument p first ∷ fs) last e) events (h.before ++ h.own) h.is (argument_after t root top fs h.before h.own h.part h.n h.deep h.fits p first h.holds last e)
  step_after (option ∷ fs) events h last e = absurd h.holds
  step_after (keyed_item l ∷ fs) events h last e = absurd h.holds
  step_after (field s x ∷ fs) events h last e = absurd h.holds
  step_after (outcome_side r b ∷ fs) events h last e = absurd h.holds

  -- a fault with a cause isn't a bug
  no_bug : (taken looked : List Event) (f : Fault) → Caused t root taken looked f → f.kind ≡ bug → ⊥
  no_bug taken looked f c is = subst (λ k. HasOwnCause t.setting root t.limit taken looked f k) is c

  -- why: the events ended before the value, or one was refused
  data Why (first : Span) (all : List Event) (ending : Ending) (f : Fault) (left : Input) (taken : List Event) : Type 0 where
    ran_out : left.events ≡ [] → f ≡ ended_at ending (last_span first all) → IsOpen all → Why first all ending f left taken
    refused : (looked unseen : List Event) → left.events ≡ looked ++ unseen → length looked ≤ 1 → f.span ≡ Some (last_span first taken) → Caused t root taken looked f → Why first all ending f left taken

  -- Of all events `first` was the place before; these were taken, and where the machine stopped these are left.
  record Stopped (first : Span) (all : List Event) (ending : Ending) (f : Fault) (left : Input) : Type 0 where
    taken : List Event
    cut : all ≡ taken ++ left.events
    same : left.ending ≡ ending
    last : left.last ≡ last_span first taken
    why : Why first all ending f left taken

  stopped_by : (left : Bool) (first : Span) (front : List Event) (e : Event) (es : List Event) (ending : Ending) (last : Span) (f : Fault) → last ≡ last_span first front
      → CausedAt t root left front e f → ((f.kind ≡ bug) ⊎ (f.span ≡ Some (cond left last (span_of e)))) → Stopped first (front ++ (e ∷ es)) ending f (cond left (feed (e ∷ es) ending last) (feed es ending (span_of e)))
  stopped_by true first front e es ending last f at caused stands = record {
    taken = front;
    cut = refl;
    same = refl;
    last = at;
    why = refused (e ∷ []) es refl (omega arith) (spanned stands) caused;
  }
    where
      spanned : (f.kind ≡ bug) ⊎ (f.span ≡ Some last) → f.span ≡ Some (last_span first front)
      spanned (inl b) = absurd (no_bug front (e ∷ []) f caused b)
      spanned (inr is) = is ∙ ap (λ (x : Span). Some x) at
  stopped_by false first front e es ending last f at caused stands = record {
    taken = front ++ (e ∷ []);
    cut = sym (append_assoc front (e ∷ []) es);
    same = refl;
    last = sym (last_span-append first front (e ∷ []));
    why = refused [] es refl (omega arith) (spanned stands) caused;
  }
    where
      spanned : (f.kind ≡ bug) ⊎ (f.span ≡ Some (span_of e)) → f.span ≡ Some (last_span first (front ++ (e ∷ [])))
      spanned (inl b) = absurd (no_bug (front ++ (e ∷ [])) [] f caused b)
      spanned (inr is) = is ∙ ap (λ (x : Span). Some x) (sym (last_span-append first front (e ∷ [])))

  -- the same stop
  stop_same : (f f' : Fault) (left left' : Input) → stop_at f left ≡ stop_at f' left' → (f ≡ f') × (left ≡ left')
  stop_same f f' left left' h = let same : record { fault = f; input = left } ≡ record { fault = f'; input = left' } = cc in (ap (λ (x : Stop). x.fault) same, ap (λ (x : Stop). x.input) same)

  -- the loop over the events
  stoppings_stop : (fs : Frames) (first : Span) (front es : List Event) (ending : Ending) (last : Span) (f : Fault) (left : Input) → Keeps t root fs front → last ≡ last_span first front
      → stoppings t fs es ending last ≡ stop_at f left → Stopped first (front ++ es) ending f left
  stoppings_stop fs first front [] ending last f left keeps at told =
      let (same, rest) = stop_same (ended_at ending last) f (feed [] ending last) left told in
      let all = append-nil front in
      subst (λ l. Stopped first (front ++ []) ending f l) rest (record {
        taken = front ++ [];
        cut = sym (append-nil (front ++ []));
        same = refl;
        last = at ∙ ap (last_span first) (sym all);
        why = ran_out refl (sym same ∙ ap (ended_at ending) (at ∙ ap (last_span first) (sym all))) (subst IsOpen (sym all) (keeps_open t root fs front keeps));
      })
  stoppings_stop fs first front (e ∷ es) ending last f left keeps at told =
      by_step (step_at t fs last e) refl (step_after fs front keeps last e) told (λ gs. stoppings_stop gs first (front ++ (e ∷ [])) es ending (span_of e) f left)
    where
      Rec : Type 0
      Rec = (gs : Frames) → Keeps t root gs (front ++ (e ∷ [])) → span_of e ≡ last_span first (front ++ (e ∷ [])) → stoppings t gs es ending (span_of e) ≡ stop_at f left → Stopped first ((front ++ (e ∷ [])) ++ es) ending f left

      by_step : (s : Steps) → step_at t fs last e ≡ s → After t root (leaves t fs e) front e s
          → behind_step (λ gs. stoppings t gs es ending (span_of e)) (feed es ending (span_of e)) (left_at t fs e es ending last) s ≡ stop_at f left → Rec → Stopped first (front ++ (e ∷ es)) ending f left
      by_step (Ok (going gs)) is h told rec =
          subst (λ l. Stopped first l ending f left) (append_assoc front (e ∷ []) es) (rec gs h (sym (last_span-append first front (e ∷ []))) told)
      by_step (Ok (complete v)) is h told rec = absurd cc
      by_step (Err x) is h told rec =
          let (same, rest) = stop_same x f (left_at t fs e es ending last) left told in
          subst (λ l. Stopped first (front ++ (e ∷ es)) ending f l) rest
          (subst (λ y. Stopped first (front ++ (e ∷ es)) ending y (left_at t fs e es ending last)) same
          (stopped_by (leaves t fs e) first front e es ending last x at h (faults_stand t fs last e x is)))

module _ (t : Terms) (s : ℕ) (checked : IsRegistry t.setting.registry) (input : Input) (f : Fault) (left : Input) where
  abbrev root : Part
  root = root_part s t.limit

  -- from the root on
  stopping_stop : stopping t t.limit s from_events input ≡ stop_at f left → Stopped t root refl checked input.last input.events input.ending f left
  stopping_stop told = by_await (await t t.limit s from_events [] input.last) refl (await_after t root refl t.limit s from_events [] [] root input.last (fits_root None) refl refl) told
    where
      by_await : (r : Steps) → await t t.limit s from_events [] input.last ≡ r → AfterAwait t root [] r
          → behind_step (λ fs. stoppings t fs input.events input.ending input.last) input input r ≡ stop_at f left → Stopped t root refl checked input.last input.events input.ending f left
      by_await (Ok (going fs)) is h told = stoppings_stop t root refl checked fs input.last [] input.events input.ending input.last f left h refl told
      by_await (Ok (complete v)) is h told = absurd h
      by_await (Err x) is h told =
          let (same, rest) = stop_same t root refl checked x f input left told in
          subst (λ l. Stopped t root refl checked input.last input.events input.ending f l) rest
          (subst (λ y. Stopped t root refl checked input.last input.events input.ending y input) same (record {
            taken = [];
            cut = refl;
            same = refl;
            last = refl;
            why = refused [] input.events refl (omega arith) (await_span t t.limit s from_events [] input.last x is) h;
          }))

  -- the law's words
  told_fault : stopping t t.limit s from_events input ≡ stop_at f left → reading t t.limit s from_events [] input ≡ Err f
  told_fault told = sym (stopping_reads t t.limit s from_events input) ∙ ap untold told

  in_words : stopping t t.limit s from_events input ≡ stop_at f left → Stopped t root refl checked input.last input.events input.ending f left
      → Leaves input left × HasCauseFrom t.setting s t.limit input.last input.events input.ending left.events f
  in_words told x = (record { taken = x.taken; cut = x.cut; ending = x.same; last = x.last }, by_why x.why)
    where
      by_why : Why t root refl checked input.last input.events input.ending f left x.taken → HasCauseFrom t.setting s t.limit input.last input.events input.ending left.events f
      by_why (ran_out none_left is open_all) = inl (record { none_left = none_left; is = is; begun = open_all })
      by_why (refused looked unseen rest few spanned caused) = inr (record {
        taken = x.taken;
        looked = looked;
        unseen = unseen;
        cut = x.cut;
        rest = rest;
        few = few;
        spanned = spanned;
        cause = caused;
        no_run = λ run after cut. reading_refuses t t.limit s from_events [] input.events input.ending input.last f (told_fault told) run after cut;
      })

pub stopping_fails : StoppingFails
stopping_fails t s input f left checked told = in_words t s checked input f left told (stopping_stop t s checked input f left told)
