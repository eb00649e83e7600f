-- What an event does to an object that is open: it is refused, or completes the object, or a part of it comes.
use Rattle.std.proofs.Common.{◌≡◌, ℕ, suc, List, [], ◌∷◌, ◌++◌, Some, None, false, Ok, Err, refl, sym, ap, ◌∙◌, subst, append_assoc}
use Rattle.semantics_lines.specs.Trees.{Tree}
use Rattle.semantics_lines.specs.Shapes.{Definition}
use Rattle.semantics_lines.specs.Events.{Span, Note, ContainerKind, of_struct, Event, start, stop}
use Rattle.semantics_lines.specs.Faults.{unexpected_token}
use Rattle.semantics.specs.Runs.{Run, group, run_events, Entry, entries_events}
use Rattle.semantics.specs.Reading.{read_shape, read, read_part}
use Rattle.semantics_causes.specs.Taken.{in_object, Took}
use Rattle.semantics_causes.specs.Due.{Part, defined_at, Stands, Spot}
use Rattle.semantics_causes.specs.Causes.{takes_in_object}
use Rattle.laws_reading.specs.Input.{fault_at}
use Rattle.laws_reading.specs.Values.{Terms}
use Rattle.laws_reading.proofs.Streams.{inside_of, inside_of_events}
use Rattle.laws_machine.specs.Frames.{awaits, option, items, elements, keyed, keyed_item, object, field, outcome_key, outcome_side, outcome_end, node, argument, passing, Frame, Frames, path}
use Rattle.laws_machine.specs.Delivery.{going, complete, Steps, here, deliver}
use Rattle.laws_causes.proofs.Holding.{Next, first_of, NextIs, IsOf}
use Rattle.laws_causes.proofs.Keeping.{Fits, Open, Keeps, Caused, After, AfterAwait, AfterValue}
use Rattle.laws_causes.proofs.Standing.{own_next, fits_path, spot_at, fits_value}
use Rattle.laws_causes.proofs.Refusing.{unexpected_there, value_after}

-- the first event stays the first
pub first_more : (own more : List Event) (x : Event) (l : List Event) (next : Next) → own ≡ x ∷ l → first_of own None ≡ first_of (own ++ more) next
first_more own more x l next is = ap (λ z. first_of z None) is ∙ sym (ap (λ z. first_of (z ++ more) next) is)

module _ (t : Terms) (root : Part) where
  -- a part that has to come behind an event
  pub awaited : (before : List Event) (e : Event) (s : Steps) → AfterAwait t root (before ++ (e ∷ [])) s → After t root false before e s
  awaited before e (Ok (going fs)) h = h
  awaited before e (Ok (complete v)) h = tt
  awaited before e (Err f) h = h

  -- what a frame holds is kept
  pub open_keeps : (f : Frame) (fs : Frames) (events : List Event) → Open t root f fs events → Keeps t root (f ∷ fs) events
  open_keeps (awaits a) fs events o = o
  open_keeps option fs events o = absurd o.holds
  open_keeps (items l) fs events o = o
  open_keeps (elements l) fs events o = o
  open_keeps (keyed l) fs events o = o
  open_keeps (keyed_item l) fs events o = absurd o.holds
  open_keeps (object s) fs events o = o
  open_keeps (field s e) fs events o = absurd o.holds
  open_keeps (outcome_key r) fs events o = o
  open_keeps (outcome_side r b) fs events o = absurd o.holds
  open_keeps (outcome_end b v) fs events o = o
  open_keeps (node p) fs events o = o
  open_keeps (argument p first) fs events o = o
  open_keeps (passing os) fs events o = absurd o.holds

  -- Of the part came the start of an object, and these entries.
  module _ (top : root.path ≡ []) (fs : Frames) (before own : List Event) (part : Part) (n : ℕ) (deep : part.depth ≡ suc n) (fits : Fits t root fs before part (first_of own None))
      (s : ℕ) (d : Definition) (of : IsOf t part s d) (k : ContainerKind) (m : Note) (entries : List Entry) (is : own ≡ start of_struct k m ∷ entries_events entries) where
    abbrev pub object_stands : Took t.setting n [] s (Some d) (in_object k entries) → (seen : List Event) → Stands t.setting part n own seen (in_object k entries)
    object_stands took seen = record {
      shape = s;
      is_shape = of.what;
      choice = [];
      chosen = refl;
      reaches = (m, is);
      took = subst (λ o. Took t.setting n [] s o (in_object k entries)) (sym of.defined) took;
    }

    abbrev pub object_spot : Took t.setting n [] s (Some d) (in_object k entries) → (looked : List Event) → Spot t.setting root (before ++ own) looked
    object_spot took looked = spot_at t root fs before part (first_of own None) fits n deep own looked (own_next own looked) (in_object k entries) (object_stands took ((before ++ own) ++ looked))

    -- an event that it doesn't take
    pub object_stray : Took t.setting n [] s (Some d) (in_object k entries) → (e : Event) → takes_in_object t.setting.registry [] (Some d) entries e ≡ false → (span : Span)
        → Caused t root ((before ++ own) ++ (e ∷ [])) [] (fault_at unexpected_token (path t fs) (here span))
    object_stray took e none span =
        unexpected_there t root (before ++ own) e (object_spot took (e ∷ []))
        (ap (λ o. takes_in_object t.setting.registry [] o entries e) (ap (λ w. defined_at t.setting.registry w) of.what ∙ of.defined) ∙ none)
        (path t fs) (fits_path t root top fs before part (first_of own None) fits) span

    -- its end
    pub object_ends : (j : Note) (v : Tree) → read_shape t.setting (read t.setting n) s part.source (group of_struct k m (inside_of entries j)) (Some d) ≡ Some v
        → After t root false (before ++ own) (stop of_struct j) (deliver fs v)
    object_ends j v reads =
        value_after t root false (before ++ own) (stop of_struct j) (deliver fs v)
        (subst (λ l. AfterValue t root l (deliver fs v)) (ap (λ l. before ++ l) own_is ∙ sym (append_assoc before own (stop of_struct j ∷ [])))
        (fits_value t root fs before part (first_of own None) fits run v (subst (NextIs (first_of own None)) (sym own_is) (own_next own (stop of_struct j ∷ []))) reads_part))
      where
        run : Run
        run = group of_struct k m (inside_of entries j)

        own_is : run_events run ≡ own ++ (stop of_struct j ∷ [])
        own_is = ap (λ l. start of_struct k m ∷ l) (inside_of_events entries j) ∙ sym (ap (λ l. l ++ (stop of_struct j ∷ [])) is)

        reads_part : read_part t.setting part.depth part.what part.source run ≡ Some v
        reads_part =
            ap (λ x. read_part t.setting x part.what part.source run) deep ∙ ap (λ w. read_part t.setting (suc n) w part.source run) of.what
            ∙ ap (read_shape t.setting (read t.setting n) s part.source run) of.defined ∙ reads
