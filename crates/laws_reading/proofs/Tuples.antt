-- The reader of tuples, and the meaning, in both directions.
use Rattle.std.proofs.Common.{◌≡◌, ℕ, ◌+◌, List, [], ◌∷◌, ◌++◌, length, Option, Some, None, Result, Ok, Bool, true, false, cond, not, ◌&&◌, option_map, option_and_then, refl, sym, ap, ◌∙◌, subst, arith}
use Rattle.semantics_lines.specs.Trees.{Tree, structure, Trees, no_trees}
use Rattle.semantics_lines.specs.Shapes.{StructShape, Registry}
use Rattle.semantics_lines.specs.Events.{Span, Note, Scalar, scalar, of_struct, of_sequence, object_kind, array_kind, Event, leaf, start, stop}
use Rattle.semantics_lines.specs.Faults.{Step, Fault, Ending}
use Rattle.semantics.specs.Runs.{Inside, Run, one, group, tagged, inside_events, run_events, Entry, entries, items, entries_events, runs_events}
use Rattle.semantics.specs.Registry.{has_some}
use Rattle.semantics.specs.Labels.{label_at}
use Rattle.semantics.specs.Reading.{Setting, Source, Reader, is_nothing, read_elements, entry_runs, read_tuple}
use Rattle.semantics.specs.Seen.{last_span}
use Rattle.laws_reading.specs.Input.{Input, feed, ◌>>=◌, turning}
use Rattle.laws_reading.specs.Structs.{ReadsPart}
use Rattle.laws_reading.specs.Tuples.{Elements, element_turn, keyed_turn, tuple_end, elements_at, keyed_at, empty_tuple, tuple_at}
use Rattle.laws_reading.specs.Laws.{Sound, Complete}
use Rattle.laws_reading.proofs.Steps.{bind_ok, ok_is}
use Rattle.laws_reading.proofs.Streams.{inside_of, inside_of_entries, inside_of_cut, inside_of_last, entries_are}
use Rattle.laws_reading.proofs.ItemStreams.{inside_of_items, items_of_inside, items_are}
use Rattle.laws_reading.proofs.Sequences.{items_cut, items_last}
use Rattle.laws_reading.proofs.Elements.{lead, Behind, end_sound, end_complete}
use Rattle.laws_reading.proofs.TupleLoops.{Taken, items_sound, entries_sound, items_complete, entries_complete}

module _ (setting : Setting) (rd : Reader) (read : ReadsPart) (d : StructShape) (s : ℕ) where
  abbrev g : Registry
  g = setting.registry

  abbrev elements : Elements
  elements = record { shape = label_at g s; fields = d.fields }

  -- the tuple without items, of an event for nothing
  empty_sound : (path : List Step) (x : Scalar) (n : Note) (l : List Event) (ending : Ending) (last : Span) (w : Tree) (after : Input) (b : Bool) → (not (has_some d.fields) && is_nothing x) ≡ b
      → empty_tuple b path (feed l ending n.span) ≡ Ok (w, after)
      → (r : Run) × (leaf (scalar x n) ∷ l ≡ run_events r ++ after.events) × (after.ending ≡ ending) × (after.last ≡ last_span last (run_events r)) × (read_tuple setting rd d r ≡ Some w)
  empty_sound path x n l ending last w after false is e = absurd cc
  empty_sound path x n l ending last w after true is e =
      let p = ok_is (structure no_trees, feed l ending n.span) (w, after) e in (
        one x n,
        ap (λ (y : Tree × Input). leaf (scalar x n) ∷ y.1.events) p,
        sym (ap (λ (y : Tree × Input). y.1.ending) p),
        sym (ap (λ (y : Tree × Input). y.1.last) p),
        ap (λ b. cond b (Some (structure no_trees)) None) is ∙ ap (λ (y : Tree × Input). Some y.0) p,
      )

  pub tuple_sound : ((s : ℕ) (source : Source) → Sound (rd s source) (read s source)) → Sound (read_tuple setting rd d) (tuple_at setting elements read)
  tuple_sound sound path [] ending last w after e = absurd cc
  tuple_sound sound path (start of_sequence k n ∷ l) ending last w after e =
      let (x, got, made) = bind_ok (turning (element_turn elements read) (length l + 1) [] path (feed l ending n.span)) (tuple_end g elements path) (w, after) e in
      let (m, same, end) = items_sound g rd read elements sound path (length l + 1) d.fields [] x.0 l ending n.span x.1 refl got in
      let (reads, p) = end_sound g rd elements path x.0 x.1 w after (read_elements g rd d.fields m.runs) (m.leads.reads ∙ ap (λ vs. lead vs (Behind g rd elements x.0)) m.leads.whole) made in (
        group of_sequence k n (inside_of_items m.runs m.note),
        ap (λ l. start of_sequence k n ∷ l) (m.cut ∙ ap (λ (y : Input). runs_events m.runs ++ (stop of_sequence m.note ∷ y.events)) p ∙ sym (items_cut m.runs m.note after.events)),
        sym (ap (λ (y : Input). y.ending) p) ∙ same,
        sym (ap (λ (y : Input). y.last) p) ∙ end ∙ sym (items_last n.span m.runs m.note),
        ap (λ o. option_map structure (option_and_then (read_elements g rd d.fields) o)) (items_of_inside m.runs m.note) ∙ reads,
      )
  tuple_sound sound path (start of_struct object_kind n ∷ l) ending last w after e =
      let (x, got, made) = bind_ok (turning (keyed_turn elements read) (length l + 1) [] path (feed l ending n.span)) (tuple_end g elements path) (w, after) e in
      let (m, same, end) = entries_sound g rd read elements sound path (length l + 1) d.fields [] x.0 l ending n.span x.1 refl got in
      let (reads, p) = end_sound g rd elements path x.0 x.1 w after (read_elements g rd d.fields (entry_runs m.keyed)) (m.leads.reads ∙ ap (λ vs. lead vs (Behind g rd elements x.0)) m.leads.whole) made in (
        group of_struct object_kind n (inside_of m.keyed m.note),
        ap (λ l. start of_struct object_kind n ∷ l) (m.cut ∙ ap (λ (y : Input). entries_events m.keyed ++ (stop of_struct m.note ∷ y.events)) p ∙ sym (inside_of_cut m.keyed m.note after.events)),
        sym (ap (λ (y : Input). y.ending) p) ∙ same,
        sym (ap (λ (y : Input). y.last) p) ∙ end ∙ sym (inside_of_last n.span m.keyed m.note),
        ap (λ o. option_map structure (option_and_then (λ es. read_elements g rd d.fields (entry_runs es)) o)) (inside_of_entries m.keyed m.note) ∙ reads,
      )
  tuple_sound sound path (leaf (scalar x n) ∷ l) ending last w after e = empty_sound path x n l ending last w after (not (has_some d.fields) && is_nothing x) refl e
  tuple_sound sound path (_ ∷ l) ending last w after e = absurd cc

  module _ (complete : (s : ℕ) (source : Source) → Complete (rd s source) (read s source)) (path : List Step) (n : Note) (w : Tree) (rest : List Event) (ending : Ending) (last : Span) where
    -- what the items come to, where the loop over them was told so
    items_told : (us : Trees) (told : Result (List Tree × Input) Fault) (after : Input) → structure us ≡ w → Taken g rd read elements [] us told after → (told >>= tuple_end g elements path) ≡ Ok (w, after)
    items_told us told after is m = ap (λ z. z >>= tuple_end g elements path) m.is ∙ end_complete g rd elements path m.more after us m.leads ∙ ap (λ x. Ok (x, after)) is

    structure_of : (o : Option Trees) → option_map structure o ≡ Some w → (us : Trees) × (o ≡ Some us) × (structure us ≡ w)
    structure_of None e = absurd cc
    structure_of (Some us) e = (us, refl, cc)

    items_read : (i : Inside) (o : Option (List Run)) → items i ≡ o → option_map structure (option_and_then (read_elements g rd d.fields) o) ≡ Some w
        → elements_at g elements read path (feed (inside_events of_sequence i ++ rest) ending n.span) ≡ Ok (w, feed rest ending (last_span n.span (inside_events of_sequence i)))
    items_read i None are e = absurd cc
    items_read i (Some rs) are e =
        let (m, same) = items_are i rs are in
        let (us, reads, is) = structure_of (read_elements g rd d.fields rs) e in
        let l : List Event = runs_events rs ++ (stop of_sequence m ∷ rest) in
        let got = items_complete g rd read elements complete path (length l + 1) rs d.fields [] us m rest ending n.span refl reads (omega arith) in
        subst (λ j. elements_at g elements read path (feed (inside_events of_sequence j ++ rest) ending n.span) ≡ Ok (w, feed rest ending (last_span n.span (inside_events of_sequence j)))) (sym same)
        (ap (λ l. elements_at g elements read path (feed l ending n.span)) (items_cut rs m rest)
        ∙ items_told us _ (feed rest ending m.span) is got
        ∙ ap (λ x. Ok (w, feed rest ending x)) (sym (items_last n.span rs m)))

    entries_read : (i : Inside) (o : Option (List Entry)) → entries i ≡ o → option_map structure (option_and_then (λ es. read_elements g rd d.fields (entry_runs es)) o) ≡ Some w
        → keyed_at g elements read path (feed (inside_events of_struct i ++ rest) ending n.span) ≡ Ok (w, feed rest ending (last_span n.span (inside_events of_struct i)))
    entries_read i None are e = absurd cc
    entries_read i (Some es) are e =
        let (m, same) = entries_are i es are in
        let (us, reads, is) = structure_of (read_elements g rd d.fields (entry_runs es)) e in
        let l : List Event = entries_events es ++ (stop of_struct m ∷ rest) in
        let got = entries_complete g rd read elements complete path (length l + 1) es d.fields [] us m rest ending n.span refl reads (omega arith) in
        subst (λ j. keyed_at g elements read path (feed (inside_events of_struct j ++ rest) ending n.span) ≡ Ok (w, feed rest ending (last_span n.span (inside_events of_struct j)))) (sym same)
        (ap (λ l. keyed_at g elements read path (feed l ending n.span)) (inside_of_cut es m rest)
        ∙ items_told us _ (feed rest ending m.span) is got
        ∙ ap (λ x. Ok (w, feed rest ending x)) (sym (inside_of_last n.span es m)))

    empty_read : (b : Bool) → cond b (Some (structure no_trees)) None ≡ Some w → empty_tuple b path (feed rest ending n.span) ≡ Ok (w, feed rest ending n.span)
    empty_read true e = let same : structure no_trees ≡ w = cc in ap (λ x. Ok (x, feed rest ending n.span)) same
    empty_read false e = absurd cc

  pub tuple_complete : ((s : ℕ) (source : Source) → Complete (rd s source) (read s source)) → Complete (read_tuple setting rd d) (tuple_at setting elements read)
  tuple_complete complete path (group of_sequence k n i) w rest ending last e = items_read complete path n w rest ending last i (items i) refl e
  tuple_complete complete path (group of_struct object_kind n i) w rest ending last e = entries_read complete path n w rest ending last i (entries i) refl e
  tuple_complete complete path (group of_struct array_kind n i) w rest ending last e = absurd cc
  tuple_complete complete path (one x n) w rest ending last e = empty_read complete path n w rest ending last (not (has_some d.fields) && is_nothing x) e
  tuple_complete complete path (tagged t n r) w rest ending last e = absurd cc
