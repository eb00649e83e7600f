-- Items of lists and tuples as parts that come.
use Rattle.std.proofs.Common.{◌≡◌, ℕ, ◌≤◌, List, [], ◌∷◌, ◌++◌, length, take, Option, Some, true, false, refl, sym, ap, ◌∙◌, subst, append_assoc, length-append, arith}
use Rattle.std.specs.Prelude.{slice_get}
use Rattle.std.proofs.lemmas.Bool.{ltb-true}
use Rattle.std.proofs.lemmas.List.{append-nil, length-map, map-append}
use Rattle.semantics_lines.specs.Trees.{Tree, trees_of}
use Rattle.semantics_lines.specs.Shapes.{StructShape}
use Rattle.semantics_lines.specs.Events.{Note, Key, key, of_struct, of_sequence, ContainerKind, object_kind, Event, leaf, start}
use Rattle.semantics.specs.Runs.{Run, run_events, runs_events, Entry, entries_events}
use Rattle.semantics.specs.Typed.{has_room}
use Rattle.semantics.specs.Reading.{from_events, read_elements, entry_runs, read, read_part}
use Rattle.semantics.specs.Seen.{IsOpen, ends_sequence}
use Rattle.semantics_causes.specs.Taken.{in_object, in_sequence}
use Rattle.semantics_causes.specs.Due.{Part, item_part, into_item, into_element, into_entry, Entered as EntersPart}
use Rattle.laws_reading.specs.Values.{Terms}
use Rattle.laws_reading.proofs.Objects.{entry}
use Rattle.laws_machine.specs.Frames.{ItemsPart, TuplePart, items, elements, keyed_item, path_in}
use Rattle.laws_machine.specs.Delivery.{with_item, with_element}
use Rattle.laws_causes.proofs.Open.{run_open, entry_open}
use Rattle.laws_causes.proofs.SoFar.{item_comes, entry_comes}
use Rattle.laws_causes.proofs.ItemReads.{on_first, each_more, elements_more}
use Rattle.laws_causes.proofs.Holding.{Next, NextIs, ListDefined, a_list, an_array, TupleDefined, HoldsItems, HoldsElements, HoldsKeyed, AwaitsItem, AwaitsElement, AwaitsKeyed}
use Rattle.laws_causes.proofs.ListStands.{list_item, list_length, list_stands, items_counted, tuple_struct, elements_stand, elements_counted, keyed_stands, keyed_counted}

-- one more item came
items_more : (k : ContainerKind) (m : Note) (rs : List Run) (r : Run) (own : List Event) → own ≡ start of_sequence k m ∷ runs_events rs
    → own ++ run_events r ≡ start of_sequence k m ∷ runs_events (rs ++ (r ∷ []))
items_more k m rs r own is =
    ap (λ z. z ++ run_events r) is ∙ item_comes k m rs r (run_events r) [] (sym (append-nil (run_events r))) ∙ append-nil (start of_sequence k m ∷ runs_events (rs ++ (r ∷ [])))

-- one more entry came
entries_more : (k : ContainerKind) (m : Note) (es : List Entry) (q : Key) (r : Run) (before : List Event) → before ≡ start of_struct k m ∷ entries_events es
    → (before ++ (leaf (key q) ∷ [])) ++ run_events r ≡ start of_struct k m ∷ entries_events (es ++ (entry q r ∷ []))
entries_more k m es q r before is =
    append_assoc before (leaf (key q) ∷ []) (run_events r) ∙ ap (λ z. z ++ (leaf (key q) ∷ run_events r)) is
    ∙ entry_comes k m es q r (run_events r) [] (sym (append-nil (run_events r))) ∙ append-nil (start of_struct k m ∷ entries_events (es ++ (entry q r ∷ [])))

-- an array has room for one more
room_more : (len : Option ℕ) (rs : List Run) (r : Run) (count : ℕ) → length rs ≡ count → has_room len count ≡ true → (m : ℕ) → len ≡ Some m → length (rs ++ (r ∷ [])) ≤ m
room_more len rs r count same room m is =
    let test = ap (λ o. has_room o count) (sym is) ∙ room in
    let less = ltb-true count m test in
    let longer = length-append rs (r ∷ []) in
    omega (arith, same, less, longer)

module _ (t : Terms) where
  -- a tuple is the same behind one more item
  defined_more : (l : TuplePart) (part : Part) (n : ℕ) (d : StructShape) (v : Tree) → TupleDefined t l part n d → TupleDefined t (with_element l v) part n d
  defined_more l part n d v h = record { of = h.of; named = h.named; tuple = h.tuple; fields = h.fields; depth = h.depth }

  module _ (l : ItemsPart) (whole : Part) (n : ℕ) (own : List Event) (part : Part) (next : Next) (a : AwaitsItem t l whole n own part next) where
    pub item_entered : (inside looked : List Event) → NextIs next (inside ++ looked) → EntersPart t.setting whole n (own ++ inside) looked part inside
    item_entered inside looked h =
        let count = items_counted t l whole n own a.holds in
        record {
          so_far = own;
          place = in_sequence a.holds.runs;
          stands = list_stands t l whole n own ((own ++ inside) ++ looked) a.holds;
          between = [];
          into = into_item l.item (list_item t l whole n own a.holds) a.holds.runs refl refl
              (ap (λ o. has_room o (length a.holds.runs)) (list_length t l whole n own a.holds) ∙ ap (has_room l.items.len) count ∙ a.room)
              (on_first (λ e. ends_sequence e ≡ false) next (inside ++ looked) a.on h)
              (a.is ∙ ap (λ k. item_part whole n k l.item) (sym count));
          is = refl;
        }

    pub item_open : (inside : List Event) → IsOpen inside → IsOpen (own ++ inside)
    item_open inside h = subst (λ z. IsOpen (z ++ inside)) (sym a.holds.is) (run_open a.holds.kind a.holds.note a.holds.runs inside h)

    pub item_path : part.path ≡ path_in t (items l) whole.path
    item_path = ap (λ (p : Part). p.path) a.is

    pub item_delivered : (run : Run) (v : Tree) → read_part t.setting part.depth part.what part.source run ≡ Some v → HoldsItems t (with_item l v) whole n (own ++ run_events run)
    item_delivered run v reads =
        let count = items_counted t l whole n own a.holds in
        record {
          what = a.holds.what;
          named = a.holds.named;
          defined = defined_more a.holds.defined;
          depth = a.holds.depth;
          kind = a.holds.kind;
          note = a.holds.note;
          runs = a.holds.runs ++ (run ∷ []);
          is = items_more a.holds.kind a.holds.note a.holds.runs run own a.holds.is;
          reads = each_more (read t.setting n l.item from_events) a.holds.runs l.front run v a.holds.reads (subst (λ (p : Part). read_part t.setting p.depth p.what p.source run ≡ Some v) a.is reads);
          fits = room_more l.items.len a.holds.runs run (length l.front) count a.room;
        }
      where
        defined_more : ListDefined t l.items.shape.number l → ListDefined t l.items.shape.number (with_item l v)
        defined_more (a_list is none) = a_list is none
        defined_more (an_array len is some) = an_array len is some

  module _ (l : TuplePart) (whole : Part) (n : ℕ) (own : List Event) (part : Part) (next : Next) (a : AwaitsElement t l whole n own part next) where
    pub element_entered : (inside looked : List Event) → NextIs next (inside ++ looked) → EntersPart t.setting whole n (own ++ inside) looked part inside
    element_entered inside looked h =
        let count = elements_counted t l whole n own a.holds in
        record {
          so_far = own;
          place = in_sequence a.holds.runs;
          stands = elements_stand t l whole n own ((own ++ inside) ++ looked) a.holds;
          between = [];
          into = into_element a.holds.struct (tuple_struct t l whole n a.holds.struct a.holds.defined) a.holds.runs refl refl a.field
              (ap (slice_get a.holds.struct.fields) count ∙ ap (λ fs. slice_get fs (length l.front)) (sym a.holds.defined.fields) ∙ a.here)
              (on_first (λ e. ends_sequence e ≡ false) next (inside ++ looked) a.on h)
              (a.is ∙ ap (λ k. item_part whole n k a.field.shape) (sym count));
          is = refl;
        }

    pub element_open : (inside : List Event) → IsOpen inside → IsOpen (own ++ inside)
    element_open inside h = subst (λ z. IsOpen (z ++ inside)) (sym a.holds.is) (run_open a.holds.kind a.holds.note a.holds.runs inside h)

    pub element_path : part.path ≡ path_in t (elements l) whole.path
    element_path = ap (λ (p : Part). p.path) a.is

    pub element_delivered : (run : Run) (v : Tree) → read_part t.setting part.depth part.what part.source run ≡ Some v → HoldsElements t (with_element l v) whole n (own ++ run_events run)
    element_delivered run v reads =
        let count = elements_counted t l whole n own a.holds in
        record {
          struct = a.holds.struct;
          defined = defined_more l whole n a.holds.struct v a.holds.defined;
          kind = a.holds.kind;
          note = a.holds.note;
          runs = a.holds.runs ++ (run ∷ []);
          is = items_more a.holds.kind a.holds.note a.holds.runs run own a.holds.is;
          reads = elements_more t.setting.registry (read t.setting n) a.holds.struct.fields a.holds.runs l.front a.field run v a.holds.reads
              (ap (slice_get a.holds.struct.fields) count ∙ ap (λ fs. slice_get fs (length l.front)) (sym a.holds.defined.fields) ∙ a.here)
              (subst (λ (p : Part). read_part t.setting p.depth p.what p.source run ≡ Some v) a.is reads);
        }

  module _ (l : TuplePart) (whole : Part) (n : ℕ) (own : List Event) (part : Part) (a : AwaitsKeyed t l whole n own part) where
    pub keyed_entered : (inside looked : List Event) → EntersPart t.setting whole n (own ++ inside) looked part inside
    keyed_entered inside looked =
        let count = keyed_counted t l whole n a.before a.holds in
        record {
          so_far = a.before;
          place = in_object object_kind a.holds.entries;
          stands = keyed_stands t l whole n a.before ((own ++ inside) ++ looked) a.holds;
          between = leaf (key a.q) ∷ [];
          into = into_entry a.holds.struct (tuple_struct t l whole n a.holds.struct a.holds.defined) a.holds.entries refl a.q refl a.field
              (ap (slice_get a.holds.struct.fields) count ∙ ap (λ fs. slice_get fs (length l.front)) (sym a.holds.defined.fields) ∙ a.here)
              (a.is ∙ ap (λ k. item_part whole n k a.field.shape) (sym count));
          is = ap (λ z. z ++ inside) a.own_is ∙ append_assoc a.before (leaf (key a.q) ∷ []) inside;
        }

    pub keyed_open : (inside : List Event) → IsOpen inside → IsOpen (own ++ inside)
    keyed_open inside h =
        subst IsOpen (sym (ap (λ z. z ++ inside) a.own_is ∙ append_assoc a.before (leaf (key a.q) ∷ []) inside ∙ ap (λ z. z ++ (leaf (key a.q) ∷ inside)) a.holds.is))
        (entry_open object_kind a.holds.note a.holds.entries a.q inside h)

    pub keyed_path : part.path ≡ path_in t (keyed_item l) whole.path
    keyed_path = ap (λ (p : Part). p.path) a.is

    pub keyed_delivered : (run : Run) (v : Tree) → read_part t.setting part.depth part.what part.source run ≡ Some v → HoldsKeyed t (with_element l v) whole n (own ++ run_events run)
    keyed_delivered run v reads =
        let count : length (entry_runs a.holds.entries) ≡ length l.front = length-map a.holds.entries (λ (e : Entry). e.run) ∙ keyed_counted t l whole n a.before a.holds in
        let more : entry_runs (a.holds.entries ++ (entry a.q run ∷ [])) ≡ entry_runs a.holds.entries ++ (run ∷ []) = map-append (λ (e : Entry). e.run) a.holds.entries (entry a.q run ∷ []) in
        record {
          struct = a.holds.struct;
          defined = defined_more l whole n a.holds.struct v a.holds.defined;
          note = a.holds.note;
          entries = a.holds.entries ++ (entry a.q run ∷ []);
          is = ap (λ z. z ++ run_events run) a.own_is ∙ entries_more object_kind a.holds.note a.holds.entries a.q run a.before a.holds.is;
          reads = subst (λ rs. read_elements t.setting.registry (read t.setting n) (take (length rs) a.holds.struct.fields) rs ≡ Some (trees_of (l.front ++ (v ∷ [])))) (sym more)
              (elements_more t.setting.registry (read t.setting n) a.holds.struct.fields (entry_runs a.holds.entries) l.front a.field run v a.holds.reads
              (ap (slice_get a.holds.struct.fields) count ∙ ap (λ fs. slice_get fs (length l.front)) (sym a.holds.defined.fields) ∙ a.here)
              (subst (λ (p : Part). read_part t.setting p.depth p.what p.source run ≡ Some v) a.is reads));
        }
