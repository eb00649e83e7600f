-- The faults of lists and tuples, with their causes: another length, too many items, and an absent item without a fill.
use Rattle.std.proofs.Common.{◌≡◌, inl, inr, ℕ, zero, suc, ◌+◌, ◌<◌, ◌≤◌, List, [], ◌∷◌, ◌++◌, length, drop, Option, Some, None, Err, true, false, cond, refl, sym, ap, ◌∙◌, subst, arith}
use Rattle.std.specs.Prelude.{slice_get}
use Rattle.std.proofs.lemmas.Bool.Decides.{nat_tests}
use Rattle.std.proofs.lemmas.List.{length-map}
use Rattle.std.proofs.lemmas.Option.{slice_get_cases}
use Rattle.semantics_lines.specs.Trees.{Tree}
use Rattle.semantics_lines.specs.Shapes.{Field, StructShape, array_shape, Registry, definition_at}
use Rattle.semantics_lines.specs.Events.{Span, Note, Key, key, of_struct, of_sequence, object_kind, Event, leaf, stop}
use Rattle.semantics_lines.specs.Faults.{Step, unexpected_token, missing_field, too_many_elements, array_length, reflect, Fault}
use Rattle.semantics_lines.specs.Faults.{ShapeLabel}
use Rattle.semantics.specs.Runs.{Entry}
use Rattle.semantics.specs.Typed.{has_length, has_room}
use Rattle.semantics.specs.Places.{Choice}
use Rattle.semantics.specs.Reading.{fill, entry_runs, read}
use Rattle.semantics.specs.Seen.{ends_sequence}
use Rattle.semantics_causes.specs.Taken.{Place, in_object, in_sequence}
use Rattle.semantics_causes.specs.Due.{Part, defined_at, Stands, Spot}
use Rattle.semantics_causes.specs.Causes.{entry_takes, struct_takes, takes_in_object, ItemsEnd, of_items, of_entries, another_item, another_entry, too_short, too_long}
use Rattle.laws_reading.specs.Input.{Input, ◌>>=◌, fault_at}
use Rattle.laws_reading.specs.Tuples.{or_missing, filled_from}
use Rattle.laws_reading.specs.Values.{Terms}
use Rattle.laws_machine.specs.Frames.{ItemsPart, TuplePart, Frames, path}
use Rattle.laws_machine.specs.Delivery.{here}
use Rattle.laws_causes.proofs.Errors.{err_is}
use Rattle.laws_causes.proofs.ItemReads.{elements_within}
use Rattle.laws_causes.proofs.ListStands.{list_stands, items_counted, tuple_struct, elements_stand, elements_counted, keyed_stands, keyed_counted}
use Rattle.laws_causes.proofs.Holding.{first_of, ListDefined, a_list, an_array, TupleDefined, HoldsItems, HoldsElements, HoldsKeyed}
use Rattle.laws_causes.proofs.Keeping.{Fits, Caused}
use Rattle.laws_causes.proofs.Standing.{own_next, fits_path, spot_at}

-- the list has no such place
has_no_place : {A : Type 0} → (xs : List A) (k : ℕ) → slice_get xs k ≡ None → length xs ≤ k
has_no_place xs k is = elim (slice_get_cases xs k).1 [ inl y ↦ absurd (let some = y.2 in cc) | inr y ↦ y.0 ]

-- a place behind so many
dropped_place : {A : Type 0} → (k j i : ℕ) (xs : List A) → i ≡ k + j → slice_get (drop k xs) j ≡ slice_get xs i
dropped_place zero j i xs at = let same : j ≡ i = omega (arith, at) in ap (slice_get xs) same
dropped_place (suc k) j i [] at = refl
dropped_place (suc k) j zero (x ∷ xs) at = absurd (omega (arith, at))
dropped_place (suc k) j (suc i) (x ∷ xs) at = dropped_place k j i xs (omega (arith, at))

-- as many as there have to be, where there is no room for more
full : (n len : ℕ) → n ≤ len → has_room (Some len) n ≡ false → n ≡ len
full n len within room = grind (arith, nat_tests)

-- fewer than there have to be
short : (n len : ℕ) → n ≤ len → has_length (Some len) n ≡ false → n < len
short n len within other = grind (arith, nat_tests)

-- The first of these fields that has no fill.
pub record Lacks (g : Registry) (shape : ShapeLabel) (fs : List Field) (path : List Step) (input : Input) (f : Fault) : Type 0 where
  pub behind : ℕ
  pub field : Field
  pub is_field : slice_get fs behind ≡ Some field
  pub no_fill : fill g field ≡ None
  pub first : (earlier : ℕ) (other : Field) → earlier < behind → slice_get fs earlier ≡ Some other → fill g other ≡ None → ⊥
  pub is : fault_at (missing_field field.name shape) path input ≡ f

lacks_later : (g : Registry) (shape : ShapeLabel) (x : Field) (v : Tree) (fs : List Field) (path : List Step) (input : Input) (f : Fault) → fill g x ≡ Some v
    → Lacks g shape fs path input f → Lacks g shape (x ∷ fs) path input f
lacks_later g shape x v fs path input f filled l = record { behind = suc l.behind; field = l.field; is_field = l.is_field; no_fill = l.no_fill; first = first; is = l.is }
  where
    first : (earlier : ℕ) (other : Field) → earlier < suc l.behind → slice_get (x ∷ fs) earlier ≡ Some other → fill g other ≡ None → ⊥
    first zero other less is none = let same : x ≡ other = cc in let both = ap (fill g) same in cc
    first (suc k) other less is none = l.first k other (omega (arith, less)) is none

-- the fills that are told lack the first that isn't there
pub filled_lacks : (g : Registry) (shape : ShapeLabel) (fs : List Field) (front : List Tree) (path : List Step) (input : Input) (f : Fault)
    → filled_from g shape fs front path input ≡ Err f → Lacks g shape fs path input f
filled_lacks g shape [] front path input f told = absurd cc
filled_lacks g shape (x ∷ fs) front path input f told = by_fill (fill g x) refl told (λ v. filled_lacks g shape fs (front ++ (v ∷ [])) path input f)
  where
    by_fill : (o : Option Tree) → fill g x ≡ o → (or_missing x shape o path input >>= λ v. filled_from g shape fs (front ++ (v ∷ [])) path input) ≡ Err f
        → ((v : Tree) → filled_from g shape fs (front ++ (v ∷ [])) path input ≡ Err f → Lacks g shape fs path input f) → Lacks g shape (x ∷ fs) path input f
    by_fill None is told later = record {
      behind = 0;
      field = x;
      is_field = refl;
      no_fill = is;
      first = λ earlier other less at none. omega (arith, less);
      is = err_is {A = List Tree} (fault_at (missing_field x.name shape) path input) f told;
    }
    by_fill (Some v) is told later = lacks_later g shape x v fs path input f is (later v told)

module _ (t : Terms) (root : Part) (top : root.path ≡ []) (fs : Frames) (before own : List Event) (part : Part) (n : ℕ)
    (deep : part.depth ≡ suc n) (fits : Fits t root fs before part (first_of own None)) where
  -- the part is due before this event, at this place
  abbrev pub spot_here : (e : Event) (place : Place) → Stands t.setting part n own ((before ++ own) ++ (e ∷ [])) place → Spot t.setting root (before ++ own) (e ∷ [])
  spot_here e place stands = spot_at t root fs before part (first_of own None) fits n deep own (e ∷ []) (own_next own (e ∷ [])) place stands

  path_here : part.path ≡ path t fs
  path_here = fits_path t root top fs before part (first_of own None) fits

  array_defined : (l : ItemsPart) (h : HoldsItems t l part n own) (wanted : ℕ) → l.items.len ≡ Some wanted → defined_at t.setting.registry part.what ≡ Some (array_shape l.item wanted)
  array_defined l h wanted some = ap (λ w. defined_at t.setting.registry w) h.what ∙ by_defined h.defined
    where
      by_defined : ListDefined t l.items.shape.number l → definition_at t.setting.registry l.items.shape.number ≡ Some (array_shape l.item wanted)
      by_defined (a_list is none) = absurd cc
      by_defined (an_array len is other) = let same : len ≡ wanted = cc in is ∙ ap (λ k. Some (array_shape l.item k)) same

  -- an array ends before it has all of its items
  pub short_caused : (l : ItemsPart) (h : HoldsItems t l part n own) (e : Event) → ends_sequence e ≡ true → (wanted : ℕ) → l.items.len ≡ Some wanted → has_length (Some wanted) (length l.front) ≡ false
      → (span : Span)
      → Caused t root ((before ++ own) ++ (e ∷ [])) [] (fault_at (reflect (array_length l.items.shape wanted (length l.front)) []) (path t fs) (here span))
  short_caused l h e ends wanted some other span =
      let count = items_counted t l part n own h in
      let within = h.fits wanted some in
      too_short (record { front = before ++ own; event = e; is = refl; spot = spot_here e (in_sequence h.runs) (list_stands t l part n own ((before ++ own) ++ (e ∷ [])) h) })
      l.item (array_defined l h wanted some) h.runs refl count (short (length l.front) wanted (omega (arith, count, within)) other) ends (h.what, h.named) path_here

  -- an item stands behind the last one of an array
  pub long_caused : (l : ItemsPart) (h : HoldsItems t l part n own) (e : Event) → ends_sequence e ≡ false → (wanted : ℕ) → l.items.len ≡ Some wanted → has_room (Some wanted) (length l.front) ≡ false
      → (span : Span)
      → Caused t root (before ++ own) (e ∷ []) (fault_at (reflect (array_length l.items.shape wanted (length l.front + 1)) []) (path t fs) (here span))
  long_caused l h e goes wanted some none span =
      let count = items_counted t l part n own h in
      let within = h.fits wanted some in
      let all = full (length l.front) wanted (omega (arith, count, within)) none in
      too_long (record { event = e; is = refl; spot = spot_here e (in_sequence h.runs) (list_stands t l part n own ((before ++ own) ++ (e ∷ [])) h) })
      l.item (array_defined l h wanted some) h.runs refl (count ∙ all) (ap (λ k. k + 1) all) goes (h.what, h.named) path_here

  -- an item stands behind the last one of a tuple
  pub another_caused : (l : TuplePart) (h : HoldsElements t l part n own) (e : Event) → ends_sequence e ≡ false → slice_get l.elements.fields (length l.front) ≡ None → (span : Span)
      → Caused t root (before ++ own) (e ∷ []) (fault_at (reflect (too_many_elements l.elements.shape (length l.elements.fields)) []) (path t fs) (here span))
  another_caused l h e goes none span =
      let count = elements_counted t l part n own h in
      let same = ap length h.defined.fields in
      let within = elements_within t.setting.registry (read t.setting n) h.struct.fields h.runs l.front h.reads in
      let past = has_no_place l.elements.fields (length l.front) none in
      another_item (record { event = e; is = refl; spot = spot_here e (in_sequence h.runs) (elements_stand t l part n own ((before ++ own) ++ (e ∷ [])) h) })
      h.struct (tuple_struct t l part n h.struct h.defined) (sym same) h.runs refl (omega (arith, count, same, within, past)) goes (h.defined.of.what, h.defined.named) path_here

  -- the same for a key in its object, which is taken
  pub another_key_caused : (l : TuplePart) (h : HoldsKeyed t l part n own) (q : Key) → slice_get l.elements.fields (length l.front) ≡ None → (span : Span)
      → Caused t root ((before ++ own) ++ (leaf (key q) ∷ [])) [] (fault_at (reflect (too_many_elements l.elements.shape (length l.elements.fields)) []) (path t fs) (here span))
  another_key_caused l h q none span =
      let count = keyed_counted t l part n own h in
      let runs : length (entry_runs h.entries) ≡ length h.entries = length-map h.entries (λ (e : Entry). e.run) in
      let same = ap length h.defined.fields in
      let within = elements_within t.setting.registry (read t.setting n) h.struct.fields (entry_runs h.entries) l.front h.reads in
      let past = has_no_place l.elements.fields (length l.front) none in
      let stands = keyed_stands t l part n own ((before ++ own) ++ (leaf (key q) ∷ [])) h in
      another_entry (record { front = before ++ own; event = leaf (key q); is = refl; spot = spot_here (leaf (key q)) (in_object object_kind h.entries) stands })
      h.struct (tuple_struct t l part n h.struct h.defined) (sym same) object_kind h.entries refl (omega (arith, count, runs, same, within, past)) q refl (h.defined.of.what, h.defined.named) path_here

  -- another event than a key or the end stands in the object of a tuple
  pub keyed_unexpected : (l : TuplePart) (h : HoldsKeyed t l part n own) (e : Event) → entry_takes e ≡ false → (span : Span)
      → Caused t root ((before ++ own) ++ (e ∷ [])) [] (fault_at unexpected_token (path t fs) (here span))
  keyed_unexpected l h e other span = record {
    here = record { front = before ++ own; event = e; is = refl; spot = spot_here e (in_object object_kind h.entries) (keyed_stands t l part n own ((before ++ own) ++ (e ∷ [])) h) };
    takes_none = takes_none (keyed_stands t l part n own ((before ++ own) ++ (e ∷ [])) h).choice;
    at = path_here;
  }
    where
      takes_none : (c : Choice) → takes_in_object t.setting.registry c (defined_at t.setting.registry part.what) h.entries e ≡ false
      takes_none c =
          ap (λ w. takes_in_object t.setting.registry c (defined_at t.setting.registry w) h.entries e) h.defined.of.what ∙ ap (λ o. takes_in_object t.setting.registry c o h.entries e) h.defined.of.defined
          ∙ ap (λ b. cond b (entry_takes e) (struct_takes t.setting.registry c h.struct h.entries e)) h.defined.tuple ∙ other

  -- a tuple ends, and an item is absent that has no fill
  lacking_caused : (l : TuplePart) (d : StructShape) (defined : TupleDefined t l part n d) (e : Event) (place : Place) (stands : Stands t.setting part n own ((before ++ own) ++ (e ∷ [])) place)
      → ItemsEnd place (length l.front) e → (input : Input) (f : Fault) → filled_from t.setting.registry l.elements.shape (drop (length l.front) l.elements.fields) l.front (path t fs) input ≡ Err f
      → Caused t root ((before ++ own) ++ (e ∷ [])) [] f
  lacking_caused l d defined e place stands ended input f told =
      let lacks = filled_lacks t.setting.registry l.elements.shape (drop (length l.front) l.elements.fields) l.front (path t fs) input f told in
      subst (Caused t root ((before ++ own) ++ (e ∷ [])) []) lacks.is (inr (record {
        here = record { front = before ++ own; event = e; is = refl; spot = spot_here e place stands };
        tuple = d;
        is_tuple = tuple_struct t l part n d defined;
        count = length l.front;
        ended = ended;
        behind = lacks.behind;
        field = lacks.field;
        is_field = in_struct lacks.behind ∙ lacks.is_field;
        no_fill = lacks.no_fill;
        first = λ earlier other less is. lacks.first earlier other less (sym (in_struct earlier) ∙ is);
        named = refl;
        of = (defined.of.what, defined.named);
        at = path_here;
      }))
    where
      in_struct : (k : ℕ) → slice_get d.fields (length l.front + k) ≡ slice_get (drop (length l.front) l.elements.fields) k
      in_struct k = ap (λ xs. slice_get xs (length l.front + k)) (sym defined.fields) ∙ sym (dropped_place (length l.front) k (length l.front + k) l.elements.fields refl)

  -- the same for both forms of a tuple
  pub elements_lacking : (l : TuplePart) (h : HoldsElements t l part n own) (m : Note) (input : Input) (f : Fault)
      → filled_from t.setting.registry l.elements.shape (drop (length l.front) l.elements.fields) l.front (path t fs) input ≡ Err f → Caused t root ((before ++ own) ++ (stop of_sequence m ∷ [])) [] f
  elements_lacking l h m input f told =
      lacking_caused l h.struct h.defined (stop of_sequence m) (in_sequence h.runs) (elements_stand t l part n own ((before ++ own) ++ (stop of_sequence m ∷ [])) h)
      (of_items h.runs refl (elements_counted t l part n own h) m refl) input f told

  pub keyed_lacking : (l : TuplePart) (h : HoldsKeyed t l part n own) (m : Note) (input : Input) (f : Fault)
      → filled_from t.setting.registry l.elements.shape (drop (length l.front) l.elements.fields) l.front (path t fs) input ≡ Err f → Caused t root ((before ++ own) ++ (stop of_struct m ∷ [])) [] f
  keyed_lacking l h m input f told =
      lacking_caused l h.struct h.defined (stop of_struct m) (in_object object_kind h.entries) (keyed_stands t l part n own ((before ++ own) ++ (stop of_struct m ∷ [])) h)
      (of_entries object_kind h.entries refl (keyed_counted t l part n own h) m refl) input f told
