-- A value that is passed over, behind one more event.
use Rattle.std.proofs.Common.{◌≡◌, ℕ, suc, List, [], ◌∷◌, ◌++◌, Some, Result, Bool, false, refl, sym, ap, ◌∙◌, subst, append_assoc}
use Rattle.semantics_lines.specs.Shapes.{definition_at}
use Rattle.semantics_lines.specs.Events.{Note, Key, key, of_struct, ContainerKind, Event, leaf, start, span_of}
use Rattle.semantics_lines.specs.Faults.{Step, unexpected_token, Fault}
use Rattle.semantics.specs.Runs.{Run, run_events, Entry, entries_events}
use Rattle.semantics.specs.Reading.{of_shape}
use Rattle.semantics.specs.Seen.{IsOpen}
use Rattle.semantics_causes.specs.Taken.{in_passed, Took}
use Rattle.semantics_causes.specs.Due.{Part, Stands, Spot}
use Rattle.laws_reading.specs.Input.{Input, ◌>>=◌, fault_at}
use Rattle.laws_reading.specs.Skips.{Opened, skip_of}
use Rattle.laws_reading.specs.Values.{Terms}
use Rattle.laws_machine.specs.Frames.{awaits, option, items, elements, keyed, keyed_item, object, field, outcome_key, outcome_side, outcome_end, node, argument, passing, Frame, Frames, path_in, path}
use Rattle.laws_machine.specs.Delivery.{here}
use Rattle.laws_machine.specs.Steps.{pass_behind, pass_step}
use Rattle.laws_causes.proofs.Opened.{Completes, OpenedBy, Moves, Skipped, goes, ends, fails, skipped, opened_more, opened_ends, opened_fails, opened_open}
use Rattle.laws_causes.proofs.Holding.{Holds}
use Rattle.laws_causes.proofs.Keeping.{Fits, Open, Passing, Caused, After}
use Rattle.laws_causes.proofs.Standing.{fits_path, spot_at}
use Rattle.laws_causes.proofs.Refusing.{unexpected_there}
use Rattle.laws_causes.proofs.Coming.{open_keeps}

module _ (t : Terms) where
  -- a frame that is an object has no step of its own
  object_path : (f : Frame) (part : Part) (n : ℕ) (k : ContainerKind) (m : Note) (l : List Event) (p : List Step) → Holds t f part n (start of_struct k m ∷ l) → path_in t f p ≡ p
  object_path (awaits a) part n k m l p h = refl
  object_path option part n k m l p h = refl
  object_path (items x) part n k m l p h = absurd (let other = h.is in cc)
  object_path (elements x) part n k m l p h = absurd (let other = h.is in cc)
  object_path (keyed x) part n k m l p h = refl
  object_path (keyed_item x) part n k m l p h = absurd h
  object_path (object s) part n k m l p h = refl
  object_path (field s e) part n k m l p h = absurd h
  object_path (outcome_key r) part n k m l p h = refl
  object_path (outcome_side r b) part n k m l p h = absurd h
  object_path (outcome_end b v) part n k m l p h = refl
  object_path (node x) part n k m l p h = refl
  object_path (argument x first) part n k m l p h = refl
  object_path (passing os) part n k m l p h = refl

  -- A value is passed over, as in Passing, and this event comes next. Whatever run it begins so, the frame holds it then.
  pub record PassingTo (root : Part) (os : Opened) (f : Frame) (fs : Frames) (events : List Event) (e : Event) : Type 0 where
    pub part : Part
    pub n : ℕ
    pub deep : part.depth ≡ suc n
    pub before : List Event
    pub kind : ContainerKind
    pub note : Note
    pub entries : List Entry
    pub q : Key
    pub inside : List Event
    pub is : events ≡ before ++ ((start of_struct kind note ∷ entries_events entries) ++ (leaf (key q) ∷ inside))
    pub fits : Fits t root fs before part (Some (start of_struct kind note))
    pub opened : OpenedBy inside os
    pub shape : ℕ
    pub what : part.what ≡ of_shape shape
    pub took : (inside : List Event) → IsOpen inside → Took t.setting n [] shape (definition_at t.setting.registry shape) (in_passed entries q inside)
    pub holds : (run : Run) (rest : List Event) → run_events run ≡ inside ++ (e ∷ rest)
        → Holds t f part n ((start of_struct kind note ∷ entries_events entries) ++ (leaf (key q) ∷ run_events run))
    pub plain : path t (f ∷ fs) ≡ path t fs

  module _ (root : Part) (os : Opened) (f : Frame) (fs : Frames) (events : List Event) where
    -- any event may come next
    pub passing_to : Passing t root os f fs events → (e : Event) → PassingTo root os f fs events e
    passing_to h e =
        let o = opened_open h.inside os h.opened in
        record {
          part = h.part;
          n = h.n;
          deep = h.deep;
          before = h.before;
          kind = h.kind;
          note = h.note;
          entries = h.entries;
          q = h.q;
          inside = h.inside;
          is = h.is;
          fits = h.fits;
          opened = h.opened;
          shape = h.shape;
          what = h.what;
          took = h.took;
          holds = λ run rest is. h.holds run (e ∷ rest) is;
          plain = object_path f h.part h.n h.kind h.note (entries_events h.entries ++ (leaf (key h.q) ∷ run_events o.run)) (path t fs) (h.holds o.run (o.next ∷ o.rest) o.goes_on);
        }

    module _ (top : root.path ≡ []) (e : Event) (h : PassingTo root os f fs events e) where
      abbrev front : List Event
      front = start of_struct h.kind h.note ∷ entries_events h.entries

      abbrev so_far : List Event
      so_far = front ++ (leaf (key h.q) ∷ h.inside)

      abbrev steps : List Step
      steps = path t (f ∷ fs)

      -- one more event behind what came
      more : events ++ (e ∷ []) ≡ h.before ++ (front ++ (leaf (key h.q) ∷ (h.inside ++ (e ∷ []))))
      more =
          ap (λ l. l ++ (e ∷ [])) h.is ∙ append_assoc h.before so_far (e ∷ [])
          ∙ ap (λ l. h.before ++ l) (append_assoc front (leaf (key h.q) ∷ h.inside) (e ∷ []))

      passing_goes : (os' : Opened) → Moves os e os' → Passing t root os' f fs (events ++ (e ∷ []))
      passing_goes os' moves = record {
        part = h.part;
        n = h.n;
        deep = h.deep;
        before = h.before;
        kind = h.kind;
        note = h.note;
        entries = h.entries;
        q = h.q;
        inside = h.inside ++ (e ∷ []);
        is = more;
        fits = h.fits;
        opened = opened_more h.inside os e os' h.opened moves;
        shape = h.shape;
        what = h.what;
        took = h.took;
        holds = λ run rest is. h.holds run rest (is ∙ append_assoc h.inside (e ∷ []) rest);
      }

      passing_ends : ((l : List Event) → Completes os (e ∷ l) l) → Open t root f fs (events ++ (e ∷ []))
      passing_ends whole =
          let (run, is) = opened_ends h.inside os e h.opened whole in
          record {
            part = h.part;
            n = h.n;
            deep = h.deep;
            before = h.before;
            own = front ++ (leaf (key h.q) ∷ run_events run);
            is = more ∙ ap (λ l. h.before ++ (front ++ (leaf (key h.q) ∷ l))) (sym is);
            fits = h.fits;
            holds = h.holds run [] is;
          }

      abbrev stands : (seen : List Event) → Stands t.setting h.part h.n so_far seen (in_passed h.entries h.q h.inside)
      stands seen = record {
        shape = h.shape;
        is_shape = h.what;
        choice = [];
        chosen = refl;
        reaches = (h.kind, h.note, refl);
        took = h.took h.inside (opened_open h.inside os h.opened);
      }

      abbrev pub passing_spot : Spot t.setting root (h.before ++ so_far) (e ∷ [])
      passing_spot =
          spot_at t root fs h.before h.part (Some (start of_struct h.kind h.note)) h.fits h.n h.deep so_far (e ∷ []) refl (in_passed h.entries h.q h.inside)
          (stands ((h.before ++ so_far) ++ (e ∷ [])))

      pub passing_path : h.part.path ≡ steps
      passing_path = fits_path t root top fs h.before h.part (Some (start of_struct h.kind h.note)) h.fits ∙ sym h.plain

      passing_fails : ((l y : List Event) → Completes os (e ∷ l) y → ⊥) → Caused t root (events ++ (e ∷ [])) [] (fault_at unexpected_token steps (here (span_of e)))
      passing_fails none =
          subst (λ l. Caused t root (l ++ (e ∷ [])) [] (fault_at unexpected_token steps (here (span_of e)))) (sym h.is)
          (unexpected_there t root (h.before ++ so_far) e passing_spot (opened_fails h.inside os e h.opened none) steps passing_path (span_of e))

      -- what the event does to it
      pub passed : After t root false events e (pass_step t os (f ∷ fs) e)
      passed = by_sort (skip_of e os steps (here (span_of e))) (skipped steps (here (span_of e)) e os)
        where
          by_sort : (told : Result ((Bool × Opened) × Input) Fault) → Skipped os e steps (here (span_of e)) told → After t root false events e (told >>= pass_behind (f ∷ fs))
          by_sort told (goes os' is moves) = subst (λ x. After t root false events e (x >>= pass_behind (f ∷ fs))) (sym is) (passing_goes os' moves)
          by_sort told (ends os' is whole) =
              subst (λ x. After t root false events e (x >>= pass_behind (f ∷ fs))) (sym is) (open_keeps t root f fs (events ++ (e ∷ [])) (passing_ends whole))
          by_sort told (fails is none) = subst (λ x. After t root false events e (x >>= pass_behind (f ∷ fs))) (sym is) (passing_fails none)
