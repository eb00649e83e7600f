-- What an event does to a result that is open.
use Rattle.std.proofs.Common.{◌≡◌, ℕ, suc, List, [], ◌∷◌, ◌++◌, Option, Some, None, Bool, true, false, is_some, option_map, option_and_then, cond, refl, sym, ap, ◌∙◌, subst, append_assoc}
use Rattle.semantics_lines.specs.Trees.{Tree, ok, err}
use Rattle.semantics_lines.specs.Shapes.{result_shape}
use Rattle.semantics_lines.specs.Events.{Span, Key, scalar, key, tag, of_struct, of_sequence, Event, leaf, start, stop, span_of}
use Rattle.semantics.specs.Runs.{Run, Entry}
use Rattle.semantics.specs.Reading.{from_events, by_outcome, read_result, read_outcome, read}
use Rattle.semantics_causes.specs.Due.{Part, outcome_part}
use Rattle.semantics_causes.specs.Causes.{result_takes}
use Rattle.laws_reading.specs.Input.{unexpected}
use Rattle.laws_reading.specs.Options.{Sides, side_of, side_in, outcome}
use Rattle.laws_reading.specs.Values.{Terms}
use Rattle.laws_reading.proofs.Objects.{entry}
use Rattle.laws_reading.proofs.Streams.{inside_of_entries}
use Rattle.laws_reading.proofs.Results.{chosen}
use Rattle.laws_machine.specs.Frames.{ResultPart, outcome_key, outcome_side, outcome_end, Frames, path}
use Rattle.laws_machine.specs.Steps.{side_step, close_step, step_at}
use Rattle.laws_machine.specs.Leaves.{leaves}
use Rattle.laws_machine.specs.Delivery.{here}
use Rattle.laws_causes.proofs.Holding.{first_of, HoldsResult, HoldsOutcome, AwaitsOutcome}
use Rattle.laws_causes.proofs.Keeping.{Fits, fits_frame, After, AfterAwait}
use Rattle.laws_causes.proofs.Beginning.{await_after}
use Rattle.laws_causes.proofs.Coming.{first_more, awaited, object_stray, object_ends}

module _ (t : Terms) where
  -- neither side is named
  no_side : (e : Event) → side_in e ≡ None → result_takes [] e ≡ false
  no_side (leaf (key q)) is = ap is_some is
  no_side (leaf (scalar x m)) is = refl
  no_side (leaf (tag x m)) is = refl
  no_side (start b k m) is = refl
  no_side (stop b m) is = refl

  side_named : (e : Event) (b : Bool) → side_in e ≡ Some b → (q : Key) × (e ≡ leaf (key q)) × (by_outcome q true false ≡ Some b)
  side_named (leaf (key q)) b is = (q, refl, is)
  side_named (leaf (scalar x m)) b is = absurd cc
  side_named (leaf (tag x m)) b is = absurd cc
  side_named (start c k m) b is = absurd cc
  side_named (stop c m) b is = absurd cc

  module _ (n : ℕ) (sides : Sides) where
    -- what a result holds is the result
    outcome_read : (q : Key) (run : Run) (b : Bool) (v : Tree) → by_outcome q true false ≡ Some b → read t.setting n (side_of sides b).shape from_events run ≡ Some v
        → read_outcome (read t.setting n) sides.ok_shape sides.err_shape (entry q run) ≡ Some (outcome b v)
    outcome_read q run b v named reads =
        ap (option_and_then (λ (o : Option Tree). o))
        (chosen q (option_map ok (read t.setting n sides.ok_shape from_events run)) (option_map err (read t.setting n sides.err_shape from_events run)) (Some b) named)
        ∙ by_side b reads
      where
        by_side : (b : Bool) → read t.setting n (side_of sides b).shape from_events run ≡ Some v
            → cond b (option_map ok (read t.setting n sides.ok_shape from_events run)) (option_map err (read t.setting n sides.err_shape from_events run)) ≡ Some (outcome b v)
        by_side true reads = ap (option_map ok) reads
        by_side false reads = ap (option_map err) reads

  module _ (root : Part) (top : root.path ≡ []) (fs : Frames) (before own : List Event) (part : Part) (n : ℕ) (deep : part.depth ≡ suc n)
      (fits : Fits t root fs before part (first_of own None)) where
    pub outcome_key_after : (r : ResultPart) → HoldsResult t r part n own → (last : Span) (e : Event)
        → After t root (leaves t (outcome_key r ∷ fs) e) (before ++ own) e (step_at t (outcome_key r ∷ fs) last e)
    outcome_key_after r holds last e = by_side (side_in e) refl
      where
        comes : (q : Key) (b : Bool) → by_outcome q true false ≡ Some b → AwaitsOutcome t r b part n (own ++ (leaf (key q) ∷ [])) (outcome_part part n (side_of r.sides b))
        comes q b named = record { before = own; holds = holds; q = q; own_is = refl; named = named; is = refl }

        side_fits : (q : Key) (b : Bool) → by_outcome q true false ≡ Some b
            → Fits t root (outcome_side r b ∷ fs) (before ++ (own ++ (leaf (key q) ∷ []))) (outcome_part part n (side_of r.sides b)) None
        side_fits q b named =
            let first = first_more own (leaf (key q) ∷ []) (start of_struct holds.kind holds.note) [] None holds.is in
            fits_frame (outcome_side r b) fs part n before (own ++ (leaf (key q) ∷ [])) (outcome_part part n (side_of r.sides b)) None deep
            (subst (Fits t root fs before part) first fits) (comes q b named)

        by_side : (o : Option Bool) → side_in e ≡ o → After t root false (before ++ own) e (side_step o t r fs (span_of e))
        by_side None is =
            object_stray t root top fs before own part n deep fits holds.shape (result_shape r.sides.ok_shape r.sides.err_shape) holds.of holds.kind holds.note [] holds.is
            tt e (no_side e is) (span_of e)
        by_side (Some b) is =
            let (q, event, named) = side_named e b is in
            awaited t root (before ++ own) e (side_step (Some b) t r fs (span_of e))
            (subst (λ l. AfterAwait t root l (side_step (Some b) t r fs (span_of e))) (ap (λ x. before ++ (own ++ (x ∷ []))) (sym event) ∙ sym (append_assoc before own (e ∷ [])))
            (await_after t root top r.depth (side_of r.sides b).shape from_events (outcome_side r b ∷ fs) (before ++ (own ++ (leaf (key q) ∷ []))) (outcome_part part n (side_of r.sides b))
            (span_of e) (side_fits q b named) refl (sym holds.depth)))

    pub outcome_end_after : (b : Bool) (v : Tree) → HoldsOutcome t b v part n own → (last : Span) (e : Event)
        → After t root (leaves t (outcome_end b v ∷ fs) e) (before ++ own) e (step_at t (outcome_end b v ∷ fs) last e)
    outcome_end_after b v holds last e = by_event e
      where
        held : Entry
        held = entry holds.q holds.run

        i : ℕ
        i = holds.sides.sides.ok_shape

        j : ℕ
        j = holds.sides.sides.err_shape

        reads : read_outcome (read t.setting n) i j held ≡ Some (outcome b v)
        reads = outcome_read n holds.sides.sides holds.q holds.run b v holds.named holds.reads

        stray : (e : Event) → result_takes (held ∷ []) e ≡ false → After t root false (before ++ own) e (unexpected (path t fs) (here (span_of e)))
        stray e none =
            object_stray t root top fs before own part n deep fits holds.shape (result_shape i j) holds.of holds.kind holds.note (held ∷ []) holds.is (outcome b v, reads) e none (span_of e)

        by_event : (e : Event) → After t root false (before ++ own) e (close_step e t b v fs)
        by_event (stop of_struct m) =
            object_ends t root top fs before own part n deep fits holds.shape (result_shape i j) holds.of holds.kind holds.note (held ∷ []) holds.is m (outcome b v)
            (ap (option_and_then (read_result (read t.setting n) i j)) (inside_of_entries (held ∷ []) m) ∙ reads)
        by_event (stop of_sequence m) = stray (stop of_sequence m) refl
        by_event (start c k m) = stray (start c k m) refl
        by_event (leaf l) = stray (leaf l) refl
