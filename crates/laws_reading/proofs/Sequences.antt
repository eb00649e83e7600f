-- The reader of lists and arrays, and the meaning, in both directions.
use Rattle.std.proofs.Common.{◌≡◌, ℕ, zero, suc, ◌+◌, ◌<◌, List, [], ◌∷◌, ◌++◌, length, Option, Some, None, Result, Ok, Bool, true, false, cond, option_map, option_and_then, refl, sym, ap, ap₂, ◌∙◌, subst, append_assoc, length-append, arith}
use Rattle.std.proofs.lemmas.List.{append-nil}
use Rattle.std.proofs.lemmas.Bool.{eqb-true, lt-ltb}
use Rattle.semantics_lines.specs.Trees.{Tree, list, Trees, no_trees, tree, trees_of}
use Rattle.semantics_lines.specs.Events.{Span, Note, of_struct, of_sequence, ContainerKind, Event, leaf, start, stop}
use Rattle.semantics_lines.specs.Faults.{ShapeLabel, Step, index_step, Fault, Ending}
use Rattle.semantics.specs.Runs.{Inside, Run, one, group, tagged, inside_events, run_events, items, runs_events}
use Rattle.semantics.specs.Typed.{has_length}
use Rattle.semantics.specs.Reading.{and_trees, read_sequence, read_each, read_items}
use Rattle.semantics.specs.Seen.{last_span}
use Rattle.semantics.specs.Typed.{has_room}
use Rattle.laws_reading.specs.Input.{Input, feed, ◌>>=◌, Reads, turned, turning}
use Rattle.laws_reading.specs.Sequences.{Items, with_item, length_fault, more_items, item_turn, items_at, items_end, items_whole, sequence_at}
use Rattle.laws_reading.specs.Laws.{Sound, Complete}
use Rattle.laws_reading.proofs.Steps.{bind_ok, ok_is}
use Rattle.laws_reading.proofs.ItemStreams.{inside_of_items, items_of_inside, inside_of_items_events, items_are}
use Rattle.laws_reading.proofs.Lifting.{last_span-append}

-- a run has an event
pub run_long : (r : Run) → 0 < length (run_events r)
run_long (one s n) = omega arith
run_long (group b k n i) = omega arith
run_long (tagged t n r) = omega arith

-- one value and more, where both are there
pub and_trees_some : (o : Option Tree) (os : Option Trees) (ts : Trees) → and_trees o os ≡ Some ts → (v : Tree) × (vs : Trees) × (o ≡ Some v) × (os ≡ Some vs) × (tree v vs ≡ ts)
and_trees_some None os ts e = absurd cc
and_trees_some (Some v) None ts e = absurd cc
and_trees_some (Some v) (Some vs) ts e = (v, vs, refl, refl, cc)

-- what stands behind the start of a sequence: its items and the end
pub items_cut : (rs : List Run) (m : Note) (rest : List Event) → inside_events of_sequence (inside_of_items rs m) ++ rest ≡ runs_events rs ++ (stop of_sequence m ∷ rest)
items_cut rs m rest = ap (λ l. l ++ rest) (inside_of_items_events rs m) ∙ append_assoc (runs_events rs) (stop of_sequence m ∷ []) rest

-- its last event is the end
pub items_last : (last : Span) (rs : List Run) (m : Note) → last_span last (inside_events of_sequence (inside_of_items rs m)) ≡ m.span
items_last last rs m = ap (last_span last) (inside_of_items_events rs m) ∙ last_span-append last (runs_events rs) (stop of_sequence m ∷ [])

-- another length is always refused
no_length : {A : Type 0} → (len : Option ℕ) (shape : ShapeLabel) (got : ℕ) (path : List Step) (input : Input) (x : A) → length_fault len shape got path input ≡ Ok x → ⊥
no_length None shape got path input x e = absurd cc
no_length (Some n) shape got path input x e = absurd cc

-- where so many items and some more are the length, there is room for one
has_room_for : (len : Option ℕ) (k n : ℕ) → has_length len (k + suc n) ≡ true → has_room len k ≡ true
has_room_for None k n e = refl
has_room_for (Some m) k n e = let same = eqb-true m (k + suc n) e in lt-ltb k m (omega (arith, same))

module _ (rd : Run → Option Tree) (read : Reads Tree) (t : Items) where
  -- Behind some items more come, and then the end.
  record AreItems (front vs : List Tree) (l rest : List Event) : Type 0 where
    runs : List Run
    more : List Tree
    note : Note
    cut : l ≡ runs_events runs ++ (stop of_sequence note ∷ rest)
    reads : read_each rd runs ≡ Some (trees_of more)
    count : length runs ≡ length more
    whole : front ++ more ≡ vs

  abbrev others : List Step → ℕ → (Bool × List Tree) × Input → Result (List Tree × Input) Fault
  others path turns x = turned (turning (item_turn t read) turns) x.0.0 x.0.1 path x.1

  abbrev one_item : (front vs : List Tree) (r : Run) (v : Tree) (l after rest : List Event) → l ≡ run_events r ++ after → rd r ≡ Some v → AreItems (front ++ (v ∷ [])) vs after rest → AreItems front vs l rest
  one_item front vs r v l after rest cut reads m = record {
    runs = r ∷ m.runs;
    more = v ∷ m.more;
    note = m.note;
    cut = cut ∙ ap (λ l. run_events r ++ l) m.cut ∙ sym (append_assoc (run_events r) (runs_events m.runs) (stop of_sequence m.note ∷ rest));
    reads = ap₂ and_trees reads m.reads;
    count = ap suc m.count;
    whole = sym (append_assoc front (v ∷ []) m.more) ∙ m.whole;
  }

  module _ (sound : Sound rd read) (path : List Step) where
    abbrev Goes : ℕ → Type 0
    Goes turns = (front vs : List Tree) (l : List Event) (ending : Ending) (last : Span) (after : Input)
        → turning (item_turn t read) turns front path (feed l ending last) ≡ Ok (vs, after) → (m : AreItems front vs l after.events) × (after.ending ≡ ending) × (after.last ≡ m.note.span)

    item_sound : (turns : ℕ) → Goes turns → (front vs : List Tree) (l : List Event) (ending : Ending) (last : Span) (after : Input) (b : Bool)
        → (more_items b t read front path (feed l ending last) >>= others path turns) ≡ Ok (vs, after) → (m : AreItems front vs l after.events) × (after.ending ≡ ending) × (after.last ≡ m.note.span)
    item_sound turns go front vs l ending last after false e =
        let (x, did, told) = bind_ok (more_items false t read front path (feed l ending last)) (others path turns) (vs, after) e in
        absurd (no_length t.len t.shape (length front + 1) path (feed l ending last) x did)
    item_sound turns go front vs l ending last after true e =
        let steps : List Step = path ++ (index_step (length front) ∷ []) in
        let (x, did, told) = bind_ok (more_items true t read front path (feed l ending last)) (others path turns) (vs, after) e in
        let (v, got, made) = bind_ok (read steps (feed l ending last)) (with_item front) x did in
        let p = ok_is ((true, front ++ (v.0 ∷ [])), v.1) x made in
        let (r, cut, same, end, reads) = sound steps l ending last v.0 v.1 got in
        let (m, same', end') = go (front ++ (v.0 ∷ [])) vs v.1.events v.1.ending v.1.last after (ap (others path turns) p ∙ told) in
        (one_item front vs r v.0 l v.1.events after.events cut reads m, same' ∙ same, end')

    items_sound : (turns : ℕ) → Goes turns
    items_sound zero front vs l ending last after e = absurd cc
    items_sound (suc turns) front vs [] ending last after e = absurd cc
    items_sound (suc turns) front vs (stop of_sequence n ∷ l) ending last after e =
        let p = ok_is (front, feed l ending n.span) (vs, after) e in (
          record {
            runs = [];
            more = [];
            note = n;
            cut = ap (λ (y : List Tree × Input). stop of_sequence n ∷ y.1.events) p;
            reads = refl;
            count = refl;
            whole = append-nil front ∙ ap (λ (y : List Tree × Input). y.0) p;
          },
          sym (ap (λ (y : List Tree × Input). y.1.ending) p),
          sym (ap (λ (y : List Tree × Input). y.1.last) p),
        )
    items_sound (suc turns) front vs (x ∷ l) ending last after e = item_sound turns (items_sound turns) front vs (x ∷ l) ending last after (has_room t.len (length front)) e

  -- a run begins with no end
  turn_item : (path : List Step) (front : List Tree) (r : Run) (tail : List Event) (ending : Ending) (last : Span)
      → item_turn t read front path (feed (run_events r ++ tail) ending last) ≡ more_items (has_room t.len (length front)) t read front path (feed (run_events r ++ tail) ending last)
  turn_item path front (one s n) tail ending last = refl
  turn_item path front (group b k n i) tail ending last = refl
  turn_item path front (tagged x n r) tail ending last = refl

  -- the items behind some items are read, up to the end
  record Taken (front : List Tree) (us : Trees) (count : ℕ) (told : Result (List Tree × Input) Fault) (rest : Input) : Type 0 where
    more : List Tree
    are : trees_of more ≡ us
    count_is : length more ≡ count
    is : told ≡ Ok (front ++ more, rest)

  items_complete : Complete rd read → (path : List Step) (turns : ℕ) (rs : List Run) (front : List Tree) (us : Trees) (n : Note) (rest : List Event) (ending : Ending) (last : Span)
      → read_each rd rs ≡ Some us → has_length t.len (length front + length rs) ≡ true → length (runs_events rs ++ (stop of_sequence n ∷ rest)) < turns
      → Taken front us (length rs) (turning (item_turn t read) turns front path (feed (runs_events rs ++ (stop of_sequence n ∷ rest)) ending last)) (feed rest ending n.span)
  items_complete complete path zero rs front us n rest ending last reads full less = absurd (omega (arith, less))
  items_complete complete path (suc turns) [] front us n rest ending last reads full less =
      let same : no_trees ≡ us = cc in
      record { more = []; are = same; count_is = refl; is = ap (λ l. Ok (l, feed rest ending n.span)) (sym (append-nil front)) }
  items_complete complete path (suc turns) (r ∷ rs) front us n rest ending last reads full less =
      let tail : List Event = runs_events rs ++ (stop of_sequence n ∷ rest) in
      let cut : (run_events r ++ runs_events rs) ++ (stop of_sequence n ∷ rest) ≡ run_events r ++ tail = append_assoc (run_events r) (runs_events rs) (stop of_sequence n ∷ rest) in
      let long : length ((run_events r ++ runs_events rs) ++ (stop of_sequence n ∷ rest)) ≡ length (run_events r ++ tail) = ap length cut in
      let sum = length-append (run_events r) tail in
      let some_event = run_long r in
      let shorter : length tail < turns = omega (arith, less, long, sum, some_event) in
      let (v, vs, here, behind, are) = and_trees_some (rd r) (read_each rd rs) us reads in
      let steps : List Step = path ++ (index_step (length front) ∷ []) in
      let counted : length (front ++ (v ∷ [])) + length rs ≡ length front + suc (length rs) = let added = length-append front (v ∷ []) in omega (arith, added) in
      let m = items_complete complete path turns rs (front ++ (v ∷ [])) vs n rest ending (last_span last (run_events r)) behind (ap (has_length t.len) counted ∙ full) shorter in
      let first : more_items (has_room t.len (length front)) t read front path (feed (run_events r ++ tail) ending last) ≡ Ok ((true, front ++ (v ∷ [])), feed tail ending (last_span last (run_events r))) =
      ap (λ b. more_items b t read front path (feed (run_events r ++ tail) ending last)) (has_room_for t.len (length front) (length rs) full) ∙ ap (λ z. z >>= with_item front) (complete steps r v tail ending last here) in
      record {
        more = v ∷ m.more;
        are = ap (tree v) m.are ∙ are;
        count_is = ap suc m.count_is;
        is =
            ap (λ l. turning (item_turn t read) (suc turns) front path (feed l ending last)) cut
            ∙ ap (λ z. z >>= others path turns) (turn_item path front r tail ending last ∙ first)
            ∙ m.is
            ∙ ap (λ l. Ok (l, feed rest ending n.span)) (append_assoc front (v ∷ []) m.more);
      }

  -- the items are as many as there have to be
  length_sound : (path : List Step) (vs : List Tree) (input : Input) (w : Tree) (after : Input) (b : Bool) → has_length t.len (length vs) ≡ b → items_end b t vs path input ≡ Ok (w, after)
      → (has_length t.len (length vs) ≡ true) × ◌≡◌ {A = Tree × Input} (list (trees_of vs), input) (w, after)
  length_sound path vs input w after true full e = (full, ok_is (list (trees_of vs), input) (w, after) e)
  length_sound path vs input w after false full e = absurd (no_length t.len t.shape (length vs) path input (w, after) e)

  pub sequence_sound : Sound rd read → Sound (read_sequence (read_items rd t.len)) (sequence_at t read)
  sequence_sound sound path [] ending last w after e = absurd cc
  sequence_sound sound path (start of_sequence k n ∷ l) ending last w after e =
      let (vs, got, made) = bind_ok (items_at t read path (feed l ending n.span)) (items_whole t path) (w, after) e in
      let (m, same, end) = items_sound sound path (length l + 1) [] vs.0 l ending n.span vs.1 got in
      let (full, p) = length_sound path vs.0 vs.1 w after (has_length t.len (length vs.0)) refl made in
      let counted : length m.runs ≡ length vs.0 = m.count ∙ ap length m.whole in
      let cut : l ≡ inside_events of_sequence (inside_of_items m.runs m.note) ++ after.events =
      m.cut ∙ ap (λ (y : Tree × Input). runs_events m.runs ++ (stop of_sequence m.note ∷ y.1.events)) p ∙ sym (items_cut m.runs m.note after.events) in (
        group of_sequence k n (inside_of_items m.runs m.note),
        ap (λ l. start of_sequence k n ∷ l) cut,
        sym (ap (λ (y : Tree × Input). y.1.ending) p) ∙ same,
        sym (ap (λ (y : Tree × Input). y.1.last) p) ∙ end ∙ sym (items_last n.span m.runs m.note),
        ap (option_and_then (read_items rd t.len)) (items_of_inside m.runs m.note)
            ∙ ap (λ b. cond b (option_map list (read_each rd m.runs)) None) (ap (has_length t.len) counted ∙ full)
            ∙ ap (option_map list) m.reads
            ∙ ap (λ l. Some (list (trees_of l))) m.whole
            ∙ ap (λ (y : Tree × Input). Some y.0) p,
      )
  sequence_sound sound path (start of_struct k n ∷ l) ending last w after e = absurd cc
  sequence_sound sound path (leaf x ∷ l) ending last w after e = absurd cc
  sequence_sound sound path (stop b n ∷ l) ending last w after e = absurd cc

  module _ (complete : Complete rd read) (path : List Step) (k : ContainerKind) (n : Note) (w : Tree) (rest : List Event) (ending : Ending) (last : Span) where
    abbrev Read : Inside → Type 0
    Read i = sequence_at t read path (feed (start of_sequence k n ∷ (inside_events of_sequence i ++ rest)) ending last) ≡ Ok (w, feed rest ending (last_span n.span (inside_events of_sequence i)))

    whole_read : (rs : List Run) (m : Note) (us : Trees) → has_length t.len (length rs) ≡ true → read_each rd rs ≡ Some us → list us ≡ w → Read (inside_of_items rs m)
    whole_read rs m us full reads is =
        let l : List Event = runs_events rs ++ (stop of_sequence m ∷ rest) in
        let none_in_front : 0 + length rs ≡ length rs = omega arith in
        let got = items_complete complete path (length l + 1) rs [] us m rest ending n.span reads (ap (has_length t.len) none_in_front ∙ full) (omega arith) in
        ap (λ l. sequence_at t read path (feed (start of_sequence k n ∷ l) ending last)) (items_cut rs m rest)
        ∙ ap (λ z. z >>= items_whole t path) got.is
        ∙ ap (λ b. items_end b t got.more path (feed rest ending m.span)) (ap (has_length t.len) got.count_is ∙ full)
        ∙ ap (λ x. Ok (list x, feed rest ending m.span)) got.are
        ∙ ap (λ x. Ok (x, feed rest ending m.span)) is
        ∙ ap (λ x. Ok (w, feed rest ending x)) (sym (items_last n.span rs m))

    values_read : (rs : List Run) (m : Note) → has_length t.len (length rs) ≡ true → (o : Option Trees) → read_each rd rs ≡ o → option_map list o ≡ Some w → Read (inside_of_items rs m)
    values_read rs m full None reads e = absurd cc
    values_read rs m full (Some us) reads e = whole_read rs m us full reads cc

    length_read : (rs : List Run) (m : Note) (b : Bool) → has_length t.len (length rs) ≡ b → cond b (option_map list (read_each rd rs)) None ≡ Some w → Read (inside_of_items rs m)
    length_read rs m true full e = values_read rs m full (read_each rd rs) refl e
    length_read rs m false full e = absurd cc

    items_read : (i : Inside) (o : Option (List Run)) → items i ≡ o → option_and_then (read_items rd t.len) o ≡ Some w → Read i
    items_read i None are e = absurd cc
    items_read i (Some rs) are e =
        let (m, same) = items_are i rs are in
        subst Read (sym same) (length_read rs m (has_length t.len (length rs)) refl e)

  pub sequence_complete : Complete rd read → Complete (read_sequence (read_items rd t.len)) (sequence_at t read)
  sequence_complete complete path (group of_sequence k n i) w rest ending last e = items_read complete path k n w rest ending last i (items i) refl e
  sequence_complete complete path _ w rest ending last e = absurd cc
