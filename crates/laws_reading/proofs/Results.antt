-- The reader of results, and the meaning, in both directions.
use Rattle.std.proofs.Common.{◌≡◌, ℕ, List, [], ◌∷◌, ◌++◌, Option, Some, None, Ok, Bool, true, false, cond, option_map, option_and_then, bytes_eq, codes, refl, sym, ap, ◌∙◌, subst, append_assoc}
use Rattle.semantics_lines.specs.Trees.{Tree, ok, err}
use Rattle.semantics_lines.specs.Events.{Span, Note, Key, named, nameless, ordered, key_note, scalar, key, tag, of_struct, of_sequence, ContainerKind, Event, leaf, start, stop}
use Rattle.semantics_lines.specs.Faults.{Step, variant_step, Ending}
use Rattle.semantics.specs.Runs.{Inside, close, loose, Run, group, inside_events, run_events, Entry, entries}
use Rattle.semantics.specs.Reading.{Source, from_events, Reader, read_object, by_outcome, read_result}
use Rattle.semantics.specs.Seen.{last_span}
use Rattle.laws_reading.specs.Input.{Input, feed, ◌>>=◌, taken_of}
use Rattle.laws_reading.specs.Structs.{ReadsPart}
use Rattle.laws_reading.specs.Options.{Sides, side_of, outcome, result_end, result_closed, result_side, result_at}
use Rattle.laws_reading.specs.Laws.{Sound, Complete}
use Rattle.laws_reading.proofs.Steps.{bind_ok, ok_is}
use Rattle.laws_reading.proofs.Streams.{put_run, put_run_events, entry_first, entries_are}
use Rattle.laws_reading.proofs.Lifting.{last_span-append}

-- what a key chooses among two
pub chosen : {A : Type 0} → (q : Key) (x y : A) (o : Option Bool) → by_outcome q true false ≡ o → by_outcome q x y ≡ option_map (λ b. cond b x y) o
chosen (named t m n) x y o is = by_test (bytes_eq t.bytes (codes "Ok")) (bytes_eq t.bytes (codes "Err")) ∙ ap (option_map (λ b. cond b x y)) is
  where
    by_test : (b c : Bool) → cond b (Some x) (cond c (Some y) None) ≡ option_map (λ b. cond b x y) (cond b (Some true) (cond c (Some false) None))
    by_test true c = refl
    by_test false true = refl
    by_test false false = refl
chosen (nameless m n) x y o is = ap (option_map (λ b. cond b x y)) is
chosen (ordered n) x y o is = ap (option_map (λ b. cond b x y)) is

-- The value that a key chooses is of its side, where it names one.
side_chosen : (o p : Option Tree) (b : Bool) → option_and_then (λ (x : Option Tree). x) (option_map (λ b. cond b (option_map ok o) (option_map err p)) (Some b)) ≡ option_map (outcome b) (cond b o p)
side_chosen o p true = refl
side_chosen o p false = refl

-- the events of a result behind its start: the key, what it holds, and the end
inside_cut : (q : Key) (r : Run) (m : Note) (rest : List Event) → inside_events of_struct (loose (key q) (put_run r (close m))) ++ rest ≡ leaf (key q) ∷ (run_events r ++ (stop of_struct m ∷ rest))
inside_cut q r m rest = ap (λ l. leaf (key q) ∷ (l ++ rest)) (put_run_events of_struct r (close m)) ∙ ap (λ l. leaf (key q) ∷ l) (append_assoc (run_events r) (stop of_struct m ∷ []) rest)

-- its last event is the end
inside_last : (last : Span) (q : Key) (r : Run) (m : Note) → last_span last (inside_events of_struct (loose (key q) (put_run r (close m)))) ≡ m.span
inside_last last q r m = ap (last_span (key_note q).span) (put_run_events of_struct r (close m)) ∙ last_span-append (key_note q).span (run_events r) (stop of_struct m ∷ [])

module _ (rd : Reader) (read : ReadsPart) (s t : ℕ) where
  abbrev sides : Sides
  sides = record { ok_shape = s; err_shape = t }

  -- what a side holds is read as the shape of this side
  part_of : (b : Bool) (r : Run) → cond b (rd s from_events r) (rd t from_events r) ≡ rd (side_of sides b).shape from_events r
  part_of true r = refl
  part_of false r = refl

  -- a result whose key names this side
  outcome_is : (q : Key) (r : Run) (m : Note) (b : Bool) → by_outcome q true false ≡ Some b
      → option_and_then (read_result rd s t) (entries (loose (key q) (put_run r (close m)))) ≡ option_map (outcome b) (rd (side_of sides b).shape from_events r)
  outcome_is q r m b is =
      ap (option_and_then (read_result rd s t)) (entry_first q r (close m))
      ∙ ap (option_and_then (λ (x : Option Tree). x)) (chosen q (option_map ok (rd s from_events r)) (option_map err (rd t from_events r)) (Some b) is)
      ∙ side_chosen (rd s from_events r) (rd t from_events r) b
      ∙ ap (option_map (outcome b)) (part_of b r)

  abbrev Closed : Bool → Tree → Input → Tree → Input → Type 0
  Closed b v input w after = (m : Note) × (input.events ≡ stop of_struct m ∷ after.events) × (after.ending ≡ input.ending) × (after.last ≡ m.span) × (outcome b v ≡ w)

  -- what stands behind the value is the end of the result
  closed_sound : (b : Bool) (path : List Step) (v : Tree) (input : Input) (w : Tree) (after : Input) (l : List Event) → input.events ≡ l
      → (taken_of l input >>= λ x. result_end x.0 b v path x.1) ≡ Ok (w, after) → Closed b v input w after
  closed_sound b path v input w after [] is e = absurd cc
  closed_sound b path v input w after (stop of_struct m ∷ l) is e =
      let p = ok_is (outcome b v, feed l input.ending m.span) (w, after) e in (
        m,
        is ∙ ap (λ (y : Tree × Input). stop of_struct m ∷ y.1.events) p,
        sym (ap (λ (y : Tree × Input). y.1.ending) p),
        sym (ap (λ (y : Tree × Input). y.1.last) p),
        ap (λ (y : Tree × Input). y.0) p,
      )
  closed_sound b path v input w after (stop of_sequence m ∷ l) is e = absurd cc
  closed_sound b path v input w after (leaf x ∷ l) is e = absurd cc
  closed_sound b path v input w after (start c k n ∷ l) is e = absurd cc

  module _ (sound : (s : ℕ) (source : Source) → Sound (rd s source) (read s source)) (path : List Step) (k : ContainerKind) (n : Note) (q : Key) (es : List Event) (ending : Ending) (last : Span) (w : Tree) (after : Input) where
    abbrev Found : Type 0
    Found = (r : Run) × (start of_struct k n ∷ (leaf (key q) ∷ es) ≡ run_events r ++ after.events) × (after.ending ≡ ending) × (after.last ≡ last_span last (run_events r)) × (read_object (read_result rd s t) r ≡ Some w)

    side_sound : (o : Option Bool) → by_outcome q true false ≡ o → result_side o read sides path (feed es ending (key_note q).span) ≡ Ok (w, after) → Found
    side_sound None is e = absurd cc
    side_sound (Some b) is e =
        let steps : List Step = path ++ (variant_step (side_of sides b).name ∷ []) in
        let (v, told, made) = bind_ok (read (side_of sides b).shape from_events steps (feed es ending (key_note q).span)) (result_closed b path) (w, after) e in
        let (r, cut, same, end, reads) = sound (side_of sides b).shape from_events steps es ending (key_note q).span v.0 v.1 told in
        let (m, behind, same', end', is_outcome) = closed_sound b path v.0 v.1 w after v.1.events refl made in (
          group of_struct k n (loose (key q) (put_run r (close m))),
          ap (λ l. start of_struct k n ∷ l) (ap (λ l. leaf (key q) ∷ l) (cut ∙ ap (λ l. run_events r ++ l) behind) ∙ sym (inside_cut q r m after.events)),
          same' ∙ same,
          end' ∙ sym (inside_last n.span q r m),
          outcome_is q r m b is ∙ ap (option_map (outcome b)) reads ∙ ap (λ y. Some y) is_outcome,
        )

  pub result_sound : ((s : ℕ) (source : Source) → Sound (rd s source) (read s source)) → Sound (read_object (read_result rd s t)) (result_at read sides)
  result_sound sound path [] ending last w after e = absurd cc
  result_sound sound path (start of_struct k n ∷ []) ending last w after e = absurd cc
  result_sound sound path (start of_struct k n ∷ (leaf (key q) ∷ es)) ending last w after e = side_sound sound path k n q es ending last w after (by_outcome q true false) refl e
  result_sound sound path (start of_struct k n ∷ (leaf (scalar x m) ∷ es)) ending last w after e = absurd cc
  result_sound sound path (start of_struct k n ∷ (leaf (tag x m) ∷ es)) ending last w after e = absurd cc
  result_sound sound path (start of_struct k n ∷ (start c x m ∷ es)) ending last w after e = absurd cc
  result_sound sound path (start of_struct k n ∷ (stop c m ∷ es)) ending last w after e = absurd cc
  result_sound sound path (start of_sequence k n ∷ es) ending last w after e = absurd cc
  result_sound sound path (leaf x ∷ es) ending last w after e = absurd cc
  result_sound sound path (stop c n ∷ es) ending last w after e = absurd cc

  module _ (complete : (s : ℕ) (source : Source) → Complete (rd s source) (read s source)) (path : List Step) (k : ContainerKind) (n : Note) (w : Tree) (rest : List Event) (ending : Ending) (last : Span) where
    abbrev Read : Inside → Type 0
    Read i = result_at read sides path (feed (start of_struct k n ∷ (inside_events of_struct i ++ rest)) ending last) ≡ Ok (w, feed rest ending (last_span n.span (inside_events of_struct i)))

    value_complete : (q : Key) (r : Run) (m : Note) (b : Bool) (o : Option Tree) → rd (side_of sides b).shape from_events r ≡ o → option_map (outcome b) o ≡ Some w
        → result_side (Some b) read sides path (feed (run_events r ++ (stop of_struct m ∷ rest)) ending (key_note q).span) ≡ Ok (w, feed rest ending m.span)
    value_complete q r m b None reads e = absurd cc
    value_complete q r m b (Some v) reads e =
        let same : outcome b v ≡ w = cc in
        ap (λ z. z >>= result_closed b path) (complete (side_of sides b).shape from_events (path ++ (variant_step (side_of sides b).name ∷ [])) r v (stop of_struct m ∷ rest) ending (key_note q).span reads)
        ∙ ap (λ y. Ok (y, feed rest ending m.span)) same

    side_complete : (q : Key) (r : Run) (m : Note) (o : Option Bool) → by_outcome q true false ≡ o → option_and_then (read_result rd s t) (entries (loose (key q) (put_run r (close m)))) ≡ Some w
        → result_side o read sides path (feed (run_events r ++ (stop of_struct m ∷ rest)) ending (key_note q).span) ≡ Ok (w, feed rest ending m.span)
    side_complete q r m None is e =
        let none : option_and_then (read_result rd s t) (entries (loose (key q) (put_run r (close m)))) ≡ None =
        ap (option_and_then (read_result rd s t)) (entry_first q r (close m)) ∙ ap (option_and_then (λ (x : Option Tree). x)) (chosen q (option_map ok (rd s from_events r)) (option_map err (rd t from_events r)) None is) in
        absurd cc
    side_complete q r m (Some b) is e = value_complete q r m b (rd (side_of sides b).shape from_events r) refl (sym (outcome_is q r m b is) ∙ e)

    entry_complete : (q : Key) (r : Run) (m : Note) → option_and_then (read_result rd s t) (entries (loose (key q) (put_run r (close m)))) ≡ Some w → Read (loose (key q) (put_run r (close m)))
    entry_complete q r m e =
        ap (λ l. result_at read sides path (feed (start of_struct k n ∷ l) ending last)) (inside_cut q r m rest)
        ∙ side_complete q r m (by_outcome q true false) refl e
        ∙ ap (λ x. Ok (w, feed rest ending x)) (sym (inside_last n.span q r m))

    entries_complete : (i : Inside) (o : Option (List Entry)) → entries i ≡ o → option_and_then (read_result rd s t) o ≡ Some w → Read i
    entries_complete i None are e = absurd cc
    entries_complete i (Some []) are e = absurd cc
    entries_complete i (Some (x ∷ y ∷ es)) are e = absurd cc
    entries_complete i (Some (x ∷ [])) are e =
        let (m, same) = entries_are i (x ∷ []) are in
        subst Read (sym same) (entry_complete x.key x.run m (ap (option_and_then (read_result rd s t)) (ap entries (sym same) ∙ are) ∙ e))

  pub result_complete : ((s : ℕ) (source : Source) → Complete (rd s source) (read s source)) → Complete (read_object (read_result rd s t)) (result_at read sides)
  result_complete complete path (group of_struct k n i) w rest ending last e = entries_complete complete path k n w rest ending last i (entries i) refl e
  result_complete complete path _ w rest ending last e = absurd cc
