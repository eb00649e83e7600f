-- Whole lists and tuples: what their items are read as where the end comes.
use Rattle.std.proofs.Common.{◌≡◌, ℕ, suc, List, [], ◌∷◌, ◌++◌, length, take, drop, Some, None, option_map, option_and_then, Ok, true, cond, sym, ap, ◌∙◌}
use Rattle.semantics_lines.specs.Trees.{Tree, list, structure, trees_of}
use Rattle.semantics_lines.specs.Shapes.{StructShape, definition_at}
use Rattle.semantics_lines.specs.Events.{Note, of_struct, of_sequence, object_kind, Event, start, stop}
use Rattle.semantics_lines.specs.Faults.{Step}
use Rattle.semantics.specs.Runs.{Run, group, run_events}
use Rattle.semantics.specs.Typed.{has_length}
use Rattle.semantics.specs.Reading.{from_events, of_shape, plain_layout, read_each, read_sequence, read_items, read_elements, entry_runs, read_tuple, read_object, read_struct, read_shape, read, read_part}
use Rattle.semantics_causes.specs.Due.{Part}
use Rattle.laws_reading.specs.Input.{Input, ◌>>=◌}
use Rattle.laws_reading.specs.Tuples.{filled_from, as_tuple}
use Rattle.laws_reading.specs.Values.{Terms}
use Rattle.laws_reading.proofs.Streams.{inside_of, inside_of_entries, inside_of_events}
use Rattle.laws_reading.proofs.ItemStreams.{inside_of_items, items_of_inside, inside_of_items_events}
use Rattle.laws_reading.proofs.Elements.{end_sound}
use Rattle.laws_machine.specs.Frames.{ItemsPart, TuplePart}
use Rattle.laws_causes.proofs.ItemReads.{elements_lead}
use Rattle.laws_causes.proofs.ListStands.{items_counted}
use Rattle.laws_causes.proofs.Holding.{ListDefined, a_list, an_array, TupleDefined, HoldsItems, HoldsElements, HoldsKeyed}

module _ (t : Terms) (part : Part) (n : ℕ) (own : List Event) (deep : part.depth ≡ suc n) where
  -- the run of a whole list
  abbrev pub list_run : (l : ItemsPart) → HoldsItems t l part n own → Note → Run
  list_run l h m = group of_sequence h.kind h.note (inside_of_items h.runs m)

  pub list_run_events : (l : ItemsPart) (h : HoldsItems t l part n own) (m : Note) → run_events (list_run l h m) ≡ own ++ (stop of_sequence m ∷ [])
  list_run_events l h m = ap (λ z. start of_sequence h.kind h.note ∷ z) (inside_of_items_events h.runs m) ∙ ap (λ z. z ++ (stop of_sequence m ∷ [])) (sym h.is)

  -- by the definition of its shape
  by_shape : (s : ℕ) → part.what ≡ of_shape s → (run : Run)
      → read_part t.setting part.depth part.what part.source run ≡ read_shape t.setting (read t.setting n) s part.source run (definition_at t.setting.registry s)
  by_shape s what run = ap (λ k. read_part t.setting k part.what part.source run) deep ∙ ap (λ w. read_part t.setting (suc n) w part.source run) what

  pub list_reads : (l : ItemsPart) (h : HoldsItems t l part n own) (m : Note) → has_length l.items.len (length l.front) ≡ true
      → read_part t.setting part.depth part.what part.source (list_run l h m) ≡ Some (list (trees_of l.front))
  list_reads l h m full = by_shape l.items.shape.number h.what (list_run l h m) ∙ by_defined h.defined ∙ read_all
    where
      by_defined : ListDefined t l.items.shape.number l → read_shape t.setting (read t.setting n) l.items.shape.number part.source (list_run l h m) (definition_at t.setting.registry l.items.shape.number)
          ≡ read_sequence (read_items (read t.setting n l.item from_events) l.items.len) (list_run l h m)
      by_defined (a_list is none) =
          ap (read_shape t.setting (read t.setting n) l.items.shape.number part.source (list_run l h m)) is ∙ ap (λ o. read_sequence (read_items (read t.setting n l.item from_events) o) (list_run l h m)) (sym none)
      by_defined (an_array len is some) =
          ap (read_shape t.setting (read t.setting n) l.items.shape.number part.source (list_run l h m)) is ∙ ap (λ o. read_sequence (read_items (read t.setting n l.item from_events) o) (list_run l h m)) (sym some)

      read_all : read_sequence (read_items (read t.setting n l.item from_events) l.items.len) (list_run l h m) ≡ Some (list (trees_of l.front))
      read_all =
          ap (option_and_then (read_items (read t.setting n l.item from_events) l.items.len)) (items_of_inside h.runs m)
          ∙ ap (λ b. cond b (option_map list (read_each (read t.setting n l.item from_events) h.runs)) None) (ap (has_length l.items.len) (items_counted t l part n own h) ∙ full)
          ∙ ap (option_map list) h.reads

  module _ (l : TuplePart) (path : List Step) (input : Input) (ws : List Tree)
      (filled : filled_from t.setting.registry l.elements.shape (drop (length l.front) l.elements.fields) l.front path input ≡ Ok ws) where
    -- a tuple is read as the items that came and those that are filled in
    whole_tuple : (d : StructShape) → TupleDefined t l part n d → (rs : List Run) → read_elements t.setting.registry (read t.setting n) (take (length rs) d.fields) rs ≡ Some (trees_of l.front)
        → option_map structure (read_elements t.setting.registry (read t.setting n) d.fields rs) ≡ Some (structure (trees_of ws))
    whole_tuple d defined rs reads =
        let same : read_elements t.setting.registry (read t.setting n) (take (length rs) l.elements.fields) rs ≡ Some (trees_of l.front) =
        ap (λ fs. read_elements t.setting.registry (read t.setting n) (take (length rs) fs) rs) defined.fields ∙ reads in
        ap (λ fs. option_map structure (read_elements t.setting.registry (read t.setting n) fs rs)) (sym defined.fields)
        ∙ (end_sound t.setting.registry (read t.setting n) l.elements path l.front input (structure (trees_of ws)) input (read_elements t.setting.registry (read t.setting n) l.elements.fields rs)
        (elements_lead t.setting.registry (read t.setting n) l.elements.fields rs l.front same) (ap (λ z. z >>= as_tuple input) filled)).0

    by_tuple : (d : StructShape) → TupleDefined t l part n d → (run : Run) → read_part t.setting part.depth part.what part.source run ≡ read_tuple t.setting (read t.setting n) d run
    by_tuple d defined run =
        by_shape l.elements.shape.number defined.of.what run ∙ ap (read_shape t.setting (read t.setting n) l.elements.shape.number part.source run) defined.of.defined
        ∙ ap (λ b. cond b (read_tuple t.setting (read t.setting n) d run) (read_object (read_struct t.setting (read t.setting n) [] d.deny (plain_layout d)) run)) defined.tuple

    -- the run of a whole tuple in a sequence
    abbrev pub elements_run : HoldsElements t l part n own → Note → Run
    elements_run h m = group of_sequence h.kind h.note (inside_of_items h.runs m)

    pub elements_run_events : (h : HoldsElements t l part n own) (m : Note) → run_events (elements_run h m) ≡ own ++ (stop of_sequence m ∷ [])
    elements_run_events h m = ap (λ z. start of_sequence h.kind h.note ∷ z) (inside_of_items_events h.runs m) ∙ ap (λ z. z ++ (stop of_sequence m ∷ [])) (sym h.is)

    pub elements_read : (h : HoldsElements t l part n own) (m : Note) → read_part t.setting part.depth part.what part.source (elements_run h m) ≡ Some (structure (trees_of ws))
    elements_read h m =
        by_tuple h.struct h.defined (elements_run h m)
        ∙ ap (λ o. option_map structure (option_and_then (read_elements t.setting.registry (read t.setting n) h.struct.fields) o)) (items_of_inside h.runs m)
        ∙ whole_tuple h.struct h.defined h.runs h.reads

    -- the run of a whole tuple in an object
    abbrev pub keyed_run : HoldsKeyed t l part n own → Note → Run
    keyed_run h m = group of_struct object_kind h.note (inside_of h.entries m)

    pub keyed_run_events : (h : HoldsKeyed t l part n own) (m : Note) → run_events (keyed_run h m) ≡ own ++ (stop of_struct m ∷ [])
    keyed_run_events h m = ap (λ z. start of_struct object_kind h.note ∷ z) (inside_of_events h.entries m) ∙ ap (λ z. z ++ (stop of_struct m ∷ [])) (sym h.is)

    pub keyed_reads : (h : HoldsKeyed t l part n own) (m : Note) → read_part t.setting part.depth part.what part.source (keyed_run h m) ≡ Some (structure (trees_of ws))
    keyed_reads h m =
        by_tuple h.struct h.defined (keyed_run h m)
        ∙ ap (λ o. option_map structure (option_and_then (λ es. read_elements t.setting.registry (read t.setting n) h.struct.fields (entry_runs es)) o)) (inside_of_entries h.entries m)
        ∙ whole_tuple h.struct h.defined (entry_runs h.entries) h.reads
