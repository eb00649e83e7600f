-- The loops over the items of a tuple: those of a sequence, and those behind the keys of an object.
use Rattle.std.proofs.Common.{◌≡◌, ℕ, zero, suc, ◌<◌, List, [], ◌∷◌, ◌++◌, length, drop, Some, Result, Ok, Bool, refl, sym, ap, ap₂, ◌∙◌, subst, append_assoc, length-append, arith}
use Rattle.std.proofs.lemmas.List.{append-nil}
use Rattle.std.specs.Prelude.{slice_get}
use Rattle.semantics_lines.specs.Trees.{Tree, Trees, tree}
use Rattle.semantics_lines.specs.Shapes.{Field, Registry}
use Rattle.semantics_lines.specs.Events.{Span, Note, key_note, key, of_struct, of_sequence, Event, leaf, stop}
use Rattle.semantics_lines.specs.Faults.{Step, Fault, Ending}
use Rattle.semantics.specs.Runs.{Run, one, group, tagged, run_events, Entry, entries_events, runs_events}
use Rattle.semantics.specs.Reading.{Source, from_events, Reader, and_trees, read_elements, entry_runs}
use Rattle.semantics.specs.Seen.{last_span}
use Rattle.laws_reading.specs.Input.{Input, feed, ◌>>=◌, Reads, turned, turning}
use Rattle.laws_reading.specs.Structs.{ReadsPart}
use Rattle.laws_reading.specs.Tuples.{Elements, element_at, element_turn, keyed_turn}
use Rattle.laws_reading.specs.Laws.{Sound, Complete}
use Rattle.laws_reading.proofs.Steps.{bind_ok, ok_is}
use Rattle.laws_reading.proofs.Sequences.{run_long, and_trees_some}
use Rattle.laws_reading.proofs.Elements.{lead, Behind, left_next, element_sound, element_complete}

module _ (g : Registry) (rd : Reader) (read : ReadsPart) (t : Elements) where
  abbrev Turn : Type 0
  Turn = List Tree → Reads (Bool × List Tree)

  abbrev others : Turn → List Step → ℕ → (Bool × List Tree) × Input → Result (List Tree × Input) Fault
  others turn path turns x = turned (turning turn turns) x.0.0 x.0.1 path x.1

  -- Behind some items more come, and lead the same rest.
  pub record Leads (fs : List Field) (front vs : List Tree) (runs : List Run) : Type 0 where
    pub more : List Tree
    pub whole : front ++ more ≡ vs
    pub reads : read_elements g rd fs runs ≡ lead more (Behind g rd t vs)

  abbrev none_more : (fs : List Field) (front vs : List Tree) → drop (length front) t.fields ≡ fs → front ≡ vs → Leads fs front vs []
  none_more fs front vs left is = record {
    more = [];
    whole = append-nil front ∙ is;
    reads = ap (λ l. read_elements g rd l []) (sym left) ∙ ap (λ l. read_elements g rd (drop (length l) t.fields) []) is;
  }

  abbrev one_more : (fs : List Field) (front vs : List Tree) (f : Field) (later : List Field) (v : Tree) (r : Run) (runs : List Run) → fs ≡ f ∷ later → rd f.shape from_events r ≡ Some v
      → Leads later (front ++ (v ∷ [])) vs runs → Leads fs front vs (r ∷ runs)
  one_more fs front vs f later v r runs left reads m = record {
    more = v ∷ m.more;
    whole = sym (append_assoc front (v ∷ []) m.more) ∙ m.whole;
    reads = ap (λ l. read_elements g rd l (r ∷ runs)) left ∙ ap₂ and_trees reads m.reads;
  }

  -- the items of a sequence, and its end
  pub record AreItems (fs : List Field) (front vs : List Tree) (l rest : List Event) : Type 0 where
    pub runs : List Run
    pub note : Note
    pub cut : l ≡ runs_events runs ++ (stop of_sequence note ∷ rest)
    pub leads : Leads fs front vs runs

  -- the entries of an object, and its end
  pub record AreEntries (fs : List Field) (front vs : List Tree) (l rest : List Event) : Type 0 where
    pub keyed : List Entry
    pub note : Note
    pub cut : l ≡ entries_events keyed ++ (stop of_struct note ∷ rest)
    pub leads : Leads fs front vs (entry_runs keyed)

  module _ (sound : (s : ℕ) (source : Source) → Sound (rd s source) (read s source)) (path : List Step) where
    abbrev ItemsGo : ℕ → Type 0
    ItemsGo turns = (fs : List Field) (front vs : List Tree) (l : List Event) (ending : Ending) (last : Span) (after : Input) → drop (length front) t.fields ≡ fs
        → turning (element_turn t read) turns front path (feed l ending last) ≡ Ok (vs, after) → (m : AreItems fs front vs l after.events) × (after.ending ≡ ending) × (after.last ≡ m.note.span)

    item_sound : (turns : ℕ) → ItemsGo turns → (fs : List Field) (front vs : List Tree) (l : List Event) (ending : Ending) (last : Span) (after : Input) → drop (length front) t.fields ≡ fs
        → (element_at (slice_get t.fields (length front)) t read front path (feed l ending last) >>= others (element_turn t read) path turns) ≡ Ok (vs, after)
        → (m : AreItems fs front vs l after.events) × (after.ending ≡ ending) × (after.last ≡ m.note.span)
    item_sound turns go fs front vs l ending last after left e =
        let (x, did, told) = bind_ok (element_at (slice_get t.fields (length front)) t read front path (feed l ending last)) (others (element_turn t read) path turns) (vs, after) e in
        let s = element_sound rd read t sound path front fs x.0 l ending last x.1 left did in
        let next = left_next t.fields front s.value s.field s.later (left ∙ s.left) in
        let (m, same, end) = go s.later (front ++ (s.value ∷ [])) vs x.1.events x.1.ending x.1.last after next (ap (λ (y : Bool × List Tree). others (element_turn t read) path turns (y, x.1)) s.is ∙ told) in (
          record {
            runs = s.run ∷ m.runs;
            note = m.note;
            cut = s.cut ∙ ap (λ l. run_events s.run ++ l) m.cut ∙ sym (append_assoc (run_events s.run) (runs_events m.runs) (stop of_sequence m.note ∷ after.events));
            leads = one_more fs front vs s.field s.later s.value s.run m.runs s.left s.reads m.leads;
          },
          same ∙ s.same,
          end,
        )

    pub items_sound : (turns : ℕ) → ItemsGo turns
    items_sound zero fs front vs l ending last after left e = absurd cc
    items_sound (suc turns) fs front vs [] ending last after left e = absurd cc
    items_sound (suc turns) fs front vs (stop of_sequence n ∷ l) ending last after left e =
        let p = ok_is (front, feed l ending n.span) (vs, after) e in (
          record {
            runs = [];
            note = n;
            cut = ap (λ (y : List Tree × Input). stop of_sequence n ∷ y.1.events) p;
            leads = none_more fs front vs left (ap (λ (y : List Tree × Input). y.0) p);
          },
          sym (ap (λ (y : List Tree × Input). y.1.ending) p),
          sym (ap (λ (y : List Tree × Input). y.1.last) p),
        )
    items_sound (suc turns) fs front vs (x ∷ l) ending last after left e = item_sound turns (items_sound turns) fs front vs (x ∷ l) ending last after left e

    abbrev EntriesGo : ℕ → Type 0
    EntriesGo turns = (fs : List Field) (front vs : List Tree) (l : List Event) (ending : Ending) (last : Span) (after : Input) → drop (length front) t.fields ≡ fs
        → turning (keyed_turn t read) turns front path (feed l ending last) ≡ Ok (vs, after) → (m : AreEntries fs front vs l after.events) × (after.ending ≡ ending) × (after.last ≡ m.note.span)

    pub entries_sound : (turns : ℕ) → EntriesGo turns
    entries_sound zero fs front vs l ending last after left e = absurd cc
    entries_sound (suc turns) fs front vs [] ending last after left e = absurd cc
    entries_sound (suc turns) fs front vs (leaf (key q) ∷ l) ending last after left e =
        let (x, did, told) = bind_ok (element_at (slice_get t.fields (length front)) t read front path (feed l ending (key_note q).span)) (others (keyed_turn t read) path turns) (vs, after) e in
        let s = element_sound rd read t sound path front fs x.0 l ending (key_note q).span x.1 left did in
        let next = left_next t.fields front s.value s.field s.later (left ∙ s.left) in
        let again = ap (λ (y : Bool × List Tree). others (keyed_turn t read) path turns (y, x.1)) s.is ∙ told in
        let (m, same, end) = entries_sound turns s.later (front ++ (s.value ∷ [])) vs x.1.events x.1.ending x.1.last after next again in (
          record {
            keyed = record { key = q; run = s.run } ∷ m.keyed;
            note = m.note;
            cut = ap (λ l. leaf (key q) ∷ l) (s.cut ∙ ap (λ l. run_events s.run ++ l) m.cut ∙ sym (append_assoc (run_events s.run) (entries_events m.keyed) (stop of_struct m.note ∷ after.events)));
            leads = one_more fs front vs s.field s.later s.value s.run (entry_runs m.keyed) s.left s.reads m.leads;
          },
          same ∙ s.same,
          end,
        )
    entries_sound (suc turns) fs front vs (stop of_struct n ∷ l) ending last after left e =
        let p = ok_is (front, feed l ending n.span) (vs, after) e in (
          record {
            keyed = [];
            note = n;
            cut = ap (λ (y : List Tree × Input). stop of_struct n ∷ y.1.events) p;
            leads = none_more fs front vs left (ap (λ (y : List Tree × Input). y.0) p);
          },
          sym (ap (λ (y : List Tree × Input). y.1.ending) p),
          sym (ap (λ (y : List Tree × Input). y.1.last) p),
        )
    entries_sound (suc turns) fs front vs (_ ∷ l) ending last after left e = absurd cc

  -- the items behind some items are read, up to the end, and lead the rest of these
  pub record Taken (front : List Tree) (us : Trees) (told : Result (List Tree × Input) Fault) (rest : Input) : Type 0 where
    pub more : List Tree
    pub is : told ≡ Ok (front ++ more, rest)
    pub leads : lead more (Behind g rd t (front ++ more)) ≡ Some us

  abbrev none_taken : (fs : List Field) (front : List Tree) (us : Trees) (rest : Input) → drop (length front) t.fields ≡ fs → read_elements g rd fs [] ≡ Some us → Taken front us (Ok (front, rest)) rest
  none_taken fs front us rest left reads = record {
    more = [];
    is = ap (λ l. Ok (l, rest)) (sym (append-nil front));
    leads = ap (λ l. read_elements g rd (drop (length l) t.fields) []) (append-nil front) ∙ ap (λ l. read_elements g rd l []) left ∙ reads;
  }

  abbrev one_taken : (front : List Tree) (v : Tree) (us ts : Trees) (told : Result (List Tree × Input) Fault) (rest : Input) → tree v ts ≡ us → Taken (front ++ (v ∷ [])) ts told rest → Taken front us told rest
  one_taken front v us ts told rest are m = record {
    more = v ∷ m.more;
    is = m.is ∙ ap (λ l. Ok (l, rest)) (append_assoc front (v ∷ []) m.more);
    leads = ap (and_trees (Some v)) (ap (λ l. lead m.more (Behind g rd t l)) (sym (append_assoc front (v ∷ []) m.more)) ∙ m.leads) ∙ ap (λ x. Some x) are;
  }

  -- a run begins with no end
  turn_element : (path : List Step) (front : List Tree) (r : Run) (tail : List Event) (ending : Ending) (last : Span)
      → element_turn t read front path (feed (run_events r ++ tail) ending last) ≡ element_at (slice_get t.fields (length front)) t read front path (feed (run_events r ++ tail) ending last)
  turn_element path front (one s n) tail ending last = refl
  turn_element path front (group b k n i) tail ending last = refl
  turn_element path front (tagged x n r) tail ending last = refl

  module _ (complete : (s : ℕ) (source : Source) → Complete (rd s source) (read s source)) (path : List Step) where
    pub items_complete : (turns : ℕ) (rs : List Run) (fs : List Field) (front : List Tree) (us : Trees) (n : Note) (rest : List Event) (ending : Ending) (last : Span) → drop (length front) t.fields ≡ fs
        → read_elements g rd fs rs ≡ Some us → length (runs_events rs ++ (stop of_sequence n ∷ rest)) < turns
        → Taken front us (turning (element_turn t read) turns front path (feed (runs_events rs ++ (stop of_sequence n ∷ rest)) ending last)) (feed rest ending n.span)
    items_complete zero rs fs front us n rest ending last left reads less = absurd (omega (arith, less))
    items_complete (suc turns) [] fs front us n rest ending last left reads less = none_taken fs front us (feed rest ending n.span) left reads
    items_complete (suc turns) (r ∷ rs) [] front us n rest ending last left reads less = absurd cc
    items_complete (suc turns) (r ∷ rs) (f ∷ fs) front us n rest ending last left reads less =
        let tail : List Event = runs_events rs ++ (stop of_sequence n ∷ rest) in
        let cut : (run_events r ++ runs_events rs) ++ (stop of_sequence n ∷ rest) ≡ run_events r ++ tail = append_assoc (run_events r) (runs_events rs) (stop of_sequence n ∷ rest) in
        let long : length ((run_events r ++ runs_events rs) ++ (stop of_sequence n ∷ rest)) ≡ length (run_events r ++ tail) = ap length cut in
        let sum = length-append (run_events r) tail in
        let some_event = run_long r in
        let shorter : length tail < turns = omega (arith, less, long, sum, some_event) in
        let (v, vs, here, behind, are) = and_trees_some (rd f.shape from_events r) (read_elements g rd fs rs) us reads in
        let next = left_next t.fields front v f fs left in
        let m = items_complete turns rs fs (front ++ (v ∷ [])) vs n rest ending (last_span last (run_events r)) next behind shorter in
        let told = ap (λ l. turning (element_turn t read) (suc turns) front path (feed l ending last)) cut
        ∙ ap (λ z. z >>= others (element_turn t read) path turns) (turn_element path front r tail ending last ∙ element_complete rd read t complete path front f fs r v tail ending last left here) in
        subst (λ z. Taken front us z (feed rest ending n.span)) (sym told) (one_taken front v us vs _ (feed rest ending n.span) are m)

    pub entries_complete : (turns : ℕ) (es : List Entry) (fs : List Field) (front : List Tree) (us : Trees) (n : Note) (rest : List Event) (ending : Ending) (last : Span) → drop (length front) t.fields ≡ fs
        → read_elements g rd fs (entry_runs es) ≡ Some us → length (entries_events es ++ (stop of_struct n ∷ rest)) < turns
        → Taken front us (turning (keyed_turn t read) turns front path (feed (entries_events es ++ (stop of_struct n ∷ rest)) ending last)) (feed rest ending n.span)
    entries_complete zero es fs front us n rest ending last left reads less = absurd (omega (arith, less))
    entries_complete (suc turns) [] fs front us n rest ending last left reads less = none_taken fs front us (feed rest ending n.span) left reads
    entries_complete (suc turns) (x ∷ es) [] front us n rest ending last left reads less = absurd cc
    entries_complete (suc turns) (x ∷ es) (f ∷ fs) front us n rest ending last left reads less =
        let tail : List Event = entries_events es ++ (stop of_struct n ∷ rest) in
        let cut : (run_events x.run ++ entries_events es) ++ (stop of_struct n ∷ rest) ≡ run_events x.run ++ tail = append_assoc (run_events x.run) (entries_events es) (stop of_struct n ∷ rest) in
        let long : length ((run_events x.run ++ entries_events es) ++ (stop of_struct n ∷ rest)) ≡ length (run_events x.run ++ tail) = ap length cut in
        let sum = length-append (run_events x.run) tail in
        let shorter : length tail < turns = omega (arith, less, long, sum) in
        let (v, vs, here, behind, are) = and_trees_some (rd f.shape from_events x.run) (read_elements g rd fs (entry_runs es)) us reads in
        let next = left_next t.fields front v f fs left in
        let m = entries_complete turns es fs (front ++ (v ∷ [])) vs n rest ending (last_span (key_note x.key).span (run_events x.run)) next behind shorter in
        let told = ap (λ l. turning (keyed_turn t read) (suc turns) front path (feed (leaf (key x.key) ∷ l) ending last)) cut
        ∙ ap (λ z. z >>= others (keyed_turn t read) path turns) (element_complete rd read t complete path front f fs x.run v tail ending (key_note x.key).span left here) in
        subst (λ z. Taken front us z (feed rest ending n.span)) (sym told) (one_taken front v us vs _ (feed rest ending n.span) are m)
