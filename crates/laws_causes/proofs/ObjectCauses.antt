-- Why an event is refused by a struct that is open: it stands behind these entries.
use Rattle.std.proofs.Common.{◌≡◌, inl, inr, ℕ, zero, suc, ◌+◌, ◌<◌, List, [], ◌∷◌, ◌++◌, length, slice_get, Option, Some, None, Err, Bool, true, false, cond, ◌&&◌, ◌||◌, ◌==◌, refl, sym, ap, ◌∙◌, subst, arith}
use Rattle.std.specs.Prelude.{nat_lt}
use Rattle.std.specs.List.{AllByRecursion as Every}
use Rattle.std.proofs.lemmas.Bool.{ltb-true}
use Rattle.semantics_lines.specs.Texts.{Phrase}
use Rattle.semantics_lines.specs.Shapes.{Field, struct_shape, Registry, definition_at}
use Rattle.semantics_lines.specs.Events.{Span, Metadata, Note, Key, named, key_note, key, of_struct, Event, leaf, stop}
use Rattle.semantics_lines.specs.Faults.{unexpected_token, unknown_field, duplicate_field, Fault}
use Rattle.semantics.specs.Labels.{label_at}
use Rattle.semantics.specs.Registry.{IsRegistry}
use Rattle.semantics.specs.Runs.{Entry}
use Rattle.semantics.specs.Places.{Path, At, below, all_below, comes_before, is_taken}
use Rattle.semantics.specs.Keys.{Layout}
use Rattle.semantics.specs.Reading.{Parts, part_value, parts_by, plain_layout, fill, read}
use Rattle.semantics.specs.Ends.{Owner, Gap, own_gap, gap_found, gap_flat, gap_at, leaf_flat}
use Rattle.semantics_causes.specs.Taken.{struct_plan, leads_behind, label_behind, end_in, placed_in, in_object}
use Rattle.semantics_causes.specs.Due.{Part, defined_at, Spot}
use Rattle.semantics_causes.specs.Causes.{entry_takes, struct_takes, takes_in_object, At as Refused, IsMissing, IsUnknown, Collide, same_part, IsDuplicate}
use Rattle.semantics_causes.specs.Refusals.{OnSpan}
use Rattle.laws_reading.specs.Input.{fault_at}
use Rattle.laws_reading.specs.Structs.{Told, taken_span, as_structure, gathered_trees, gathered}
use Rattle.laws_reading.specs.Values.{Terms}
use Rattle.laws.proofs.Built.{BuiltField, struct_built, built}
use Rattle.laws_reading.proofs.Ends.{Ends, Kept, kept_below, covers_all}
use Rattle.laws_machine.specs.Frames.{StructPart, Frames, path}
use Rattle.laws_machine.specs.Delivery.{here}
use Rattle.laws_causes.proofs.Errors.{bind_err}
use Rattle.laws_causes.proofs.Taken.{taken_there, placed_came}
use Rattle.laws_causes.proofs.Lacking.{origin_of, Lacks, gather_lacks}
use Rattle.laws_causes.proofs.Holding.{first_of, HoldsObject}
use Rattle.laws_causes.proofs.Keeping.{Fits, Caused}
use Rattle.laws_causes.proofs.ObjectHolds.{is_object, object_stands}
use Rattle.laws_causes.proofs.Standing.{own_next, fits_path, spot_at}
use Rattle.laws_causes.proofs.Refusing.{unexpected_there}

-- where nothing was read below a path, no entry was placed there
no_told : {A : Type 0} (at : Ends) (rd : Parts A) (p : Path) (xs : List (At A)) (ys : List (At Told)) → Kept at rd xs ys → all_below p ys ≡ [] → all_below p xs ≡ []
no_told at rd [] [] ys kept none = refl
no_told at rd [] (x ∷ xs) [] kept none = absurd kept
no_told at rd [] (x ∷ xs) (y ∷ ys) kept none = absurd cc
no_told at rd (k ∷ p) xs ys kept none = no_told (λ p. at (k ∷ p)) rd p (below k xs) (below k ys) (kept_below at rd k xs ys kept) none

-- and where none was placed, nothing was read
no_placed : {A : Type 0} (at : Ends) (rd : Parts A) (xs : List (At A)) (ys : List (At Told)) → Kept at rd xs ys → xs ≡ [] → ys ≡ []
no_placed at rd xs [] kept none = refl
no_placed at rd [] (y ∷ ys) kept none = absurd kept
no_placed at rd (x ∷ xs) (y ∷ ys) kept none = absurd cc

-- the field at a place
field_built : (fs : List Field) (k : ℕ) (f : Field) → Every BuiltField fs → slice_get fs k ≡ Some f → BuiltField f
field_built [] k f fine is = absurd cc
field_built (x ∷ fs) zero f (here, fine) is = let same : x ≡ f = cc in subst BuiltField same here
field_built (x ∷ fs) (suc k) f (here, fine) is = field_built fs k f fine is

-- a path of one place stands before another one by that place
stands_before : (j k : ℕ) (q : Path) → comes_before (j ∷ []) (k ∷ q) ≡ true → j < k
stands_before j k q is = by_first (nat_lt j k) refl is
  where
    none : (b : Bool) → (b && false) ≡ true → ⊥
    none true e = cc
    none false e = cc

    by_first : (b : Bool) → nat_lt j k ≡ b → (b || (j == k && false)) ≡ true → j < k
    by_first true less is = ltb-true j k less
    by_first false less is = absurd (none (j == k) is)

module _ (t : Terms) (root : Part) (top : root.path ≡ []) (fs : Frames) (before own : List Event) (part : Part) (n : ℕ) (deep : part.depth ≡ suc n) (fits : Fits t root fs before part (first_of own None))
    (s : StructPart) (holds : HoldsObject t s part n own) where
  abbrev g : Registry
  g = t.setting.registry

  -- the part is due before the event
  abbrev spot : (e : Event) → Spot t.setting root (before ++ own) (e ∷ [])
  spot e =
      spot_at t root fs before part (first_of own None) fits n deep own (e ∷ []) (own_next own (e ∷ [])) (in_object holds.kind holds.entries)
      (object_stands t s part n own holds ((before ++ own) ++ (e ∷ [])))

  abbrev refused : (e : Event) → Refused t.setting root ((before ++ own) ++ (e ∷ [])) []
  refused e = record { front = before ++ own; event = e; is = refl; spot = spot e }

  path_is : part.path ≡ path t fs
  path_is = fits_path t root top fs before part (first_of own None) fits

  -- an event that the struct doesn't take
  pub unexpected_here : (e : Event) (span : Span) → struct_takes g [] holds.struct holds.entries e ≡ false
      → Caused t root ((before ++ own) ++ (e ∷ [])) [] (fault_at unexpected_token (path t fs) (here span))
  unexpected_here e span none =
      unexpected_there t root (before ++ own) e (spot e)
      (ap (λ w. takes_in_object g [] (defined_at g w) holds.entries e) holds.defined.of.what
      ∙ ap (λ o. takes_in_object g [] o holds.entries e) holds.defined.of.defined
      ∙ ap (λ b. cond b (entry_takes e) (struct_takes g [] holds.struct holds.entries e)) holds.defined.plain ∙ none)
      (path t fs) path_is span

  -- a key with a name that leads nowhere, of a struct that refuses such keys
  pub unknown_here : (u : Phrase) (m : Option Metadata) (note : Note) → leads_behind g [] holds.struct holds.entries (named u m note) ≡ None → holds.struct.deny ≡ true
      → Caused t root ((before ++ own) ++ (leaf (key (named u m note)) ∷ [])) [] (fault_at (unknown_field u.bytes) (path t fs) (here note.span))
  unknown_here u m note nowhere denies = record {
    here = refused (leaf (key (named u m note)));
    text = u;
    metadata = m;
    note = note;
    event = refl;
    struct = holds.struct;
    object = is_object t s part n own holds;
    container = holds.kind;
    entries = holds.entries;
    place = refl;
    nowhere = nowhere;
    denies = denies;
    called = refl;
    at = path_is;
  }

  -- a key that leads where something stands already
  pub duplicate_here : (q : Key) (p : Path) → leads_behind g [] holds.struct holds.entries q ≡ Some p → is_taken p s.got.values ≡ true
      → Caused t root ((before ++ own) ++ (leaf (key q) ∷ [])) [] (fault_at (duplicate_field (label_behind g [] holds.struct holds.entries q) (taken_span p s.got.values)) (path t fs) (here (key_note q).span))
  duplicate_here q p lead taken =
      let there = taken_there p s.got.values taken in
      let o = origin_of (end_in g [] holds.struct) (part_value g (read t.setting n)) there.item (placed_in g [] holds.struct holds.entries) s.got.values
      there.among.before there.among.after there.among.is holds.keeps.kept holds.keeps.spanned in
      let c = placed_came (struct_plan g [] holds.struct) 0 o.item holds.entries o.among in
      subst (λ span. OnSpan span (λ first. IsDuplicate t.setting root ((before ++ own) ++ (leaf (key q) ∷ [])) [] (label_behind g [] holds.struct holds.entries q) first (path t fs))) (sym there.span) (record {
        here = refused (leaf (key q));
        again = q;
        event = refl;
        container = holds.kind;
        before = c.before;
        earlier = o.item.item;
        after = c.after;
        place = ap (in_object holds.kind) c.is;
        clashes = same_part holds.struct (is_object t s part n own holds) p o.item.path (ap (λ es. leads_behind g [] holds.struct es q) (sym c.is) ∙ lead) c.leads_there
            (subst (λ z. Collide z p) (sym o.path) there.collide) (ap (λ es. label_behind g [] holds.struct es q) (sym c.is));
        first_span = o.span;
        at = path_is;
      })

  abbrev layout : Layout
  layout = plain_layout holds.struct

  abbrev placed : List (At Entry)
  placed = placed_in g [] holds.struct holds.entries

  abbrev owner : Owner
  owner = record { shape = s.shape; path = part.path }

  -- The field that lacks an entry is the first one that does.
  module _ (note : Note) (f : Fault) (fine : Every BuiltField holds.struct.fields) (l : Lacks g (length g) [] owner holds.struct.fields 0 s.got.values (here note.span) f) where
    first_gap : (earlier : Path) (other : Gap) → comes_before earlier (l.place ∷ l.way) ≡ true
        → gap_at g [] layout owner earlier ≡ Some other → all_below earlier placed ≡ [] → fill g other.field ≡ None → ⊥
    first_gap [] other before_it is none no_fill = cc
    first_gap (j ∷ p) other before_it is none no_fill = by_field (slice_get holds.struct.fields j) refl is
      where
        by_own : (field : Field) → slice_get holds.struct.fields j ≡ Some field → (p : Path) → comes_before (j ∷ p) (l.place ∷ l.way) ≡ true
            → own_gap field owner p ≡ Some other → all_below (j ∷ p) placed ≡ [] → ⊥
        by_own field at [] before_it is none =
            let same : field ≡ other.field = (let gap : record { field = field; owner = owner } ≡ other = cc in ap (λ (z : Gap). z.field) gap) in
            let no_told : below j s.got.values ≡ [] = no_placed (λ q. end_in g [] holds.struct (j ∷ q)) (parts_by (part_value g (read t.setting n))) (below j placed) (below j s.got.values)
            (kept_below (end_in g [] holds.struct) (parts_by (part_value g (read t.setting n))) j placed s.got.values holds.keeps.kept) none in
            l.first j field (stands_before j l.place l.way before_it) at (ap (λ i. below i s.got.values) (omega arith) ∙ no_told) (ap (fill g) same ∙ no_fill)
        by_own field at (k ∷ p) before_it is none = cc

        by_field : (o : Option Field) → slice_get holds.struct.fields j ≡ o → gap_found (gap_flat g (length g)) g (below j []) owner o p ≡ Some other → ⊥
        by_field None at is = cc
        by_field (Some field) at is =
            by_own field at p before_it
            (ap (λ b. cond b (gap_flat g (length g) (definition_at g field.shape) (below j []) field owner p) (own_gap field owner p))
            (sym (field_built holds.struct.fields j field fine at).flattened) ∙ is) none

    missing_field_here : IsMissing t.setting root ((before ++ own) ++ (stop of_struct note ∷ [])) [] l.gap.field.name (label_at g l.gap.owner.shape) l.gap.owner.path
    missing_field_here =
        let place : 0 + l.place ≡ l.place = omega arith in
        record {
          here = refused (stop of_struct note);
          note = note;
          event = refl;
          struct = holds.struct;
          object = is_object t s part n own holds;
          number = s.shape;
          numbered = holds.defined.of.what;
          container = holds.kind;
          entries = holds.entries;
          place = refl;
          way = l.place ∷ l.way;
          gap = l.gap;
          is_gap = ap (λ i. gap_found (gap_flat g (length g)) g (below i []) owner (slice_get holds.struct.fields l.place) l.way) (sym place) ∙ l.here;
          no_entry = no_told (end_in g [] holds.struct) (parts_by (part_value g (read t.setting n))) (l.place ∷ l.way) placed s.got.values holds.keeps.kept
              (ap (λ i. all_below l.way (below i s.got.values)) (sym place) ∙ l.none_there);
          no_fill = l.no_fill;
          first = first_gap;
          named = refl;
          of = refl;
          at = refl;
        }

  -- the end, where a field has no entry and no fill
  pub missing_here : IsRegistry g → (note : Note) (f : Fault) → gathered g s.choice s.layout s.shape s.got (path t fs) (here note.span) ≡ Err f
      → Caused t root ((before ++ own) ++ (stop of_struct note ∷ [])) [] f
  missing_here checked note f told =
      elim (bind_err (gathered_trees g [] layout s.shape s.got part.path (here note.span)) as_structure f plain_told) [
        | inl x ↦
            let l = gather_lacks g (parts_by (part_value g (read t.setting n))) false [] owner (here note.span) (length g) 0 holds.struct.fields (end_in g [] holds.struct)
            (covers_all g false (leaf_flat g false (length g)) [] holds.struct.fields) placed s.got.values holds.keeps.kept holds.keeps.apart f fine x in
            subst (Caused t root ((before ++ own) ++ (stop of_struct note ∷ [])) []) (sym l.is) (inl (missing_field_here note f fine l))
        | inr z ↦ absurd (let no_fault = z.2 in cc)
      ]
    where
      fine : Every BuiltField holds.struct.fields
      fine = (struct_built holds.struct (built g checked s.shape (struct_shape holds.struct) holds.defined.of.defined)).fields

      plain_told : gathered g [] layout s.shape s.got part.path (here note.span) ≡ Err f
      plain_told =
          ap (λ p. gathered g [] layout s.shape s.got p (here note.span)) path_is
          ∙ ap (λ l. gathered g [] l s.shape s.got (path t fs) (here note.span)) (sym holds.defined.layout)
          ∙ ap (λ c. gathered g c s.layout s.shape s.got (path t fs) (here note.span)) (sym holds.defined.choice) ∙ told
