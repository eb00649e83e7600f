-- The documents of the fields, in any order, are read back as the fields.
use Rattle.std.proofs.Common.{◌≡◌, ℕ, suc, ◌<◌, ◌≤◌, List, [], ◌∷◌, ◌++◌, map, length, Option, Some, None, Bool, true, false, cond, not, ◌&&◌, ◌||◌, ◌==◌, Ok, Err, option_map, filter_map, is_some, refl, sym, ap, ap₂, ◌∙◌, subst, arith, eq-eqb}
use Rattle.std.proofs.lemmas.Bool.{ne_eqb}
use Rattle.std.proofs.lemmas.List.{append-nil}
use Rattle.std.proofs.lemmas.List.Elements.{filter_map-append}
use Rattle.std.specs.List.{cons_option, AllByRecursion as Every}
use Rattle.semantics_lines.specs.Trees.{Tree, structure, Trees, no_trees, tree}
use Rattle.semantics_lines.specs.Shapes.{Field, effective_name, Registry, definition_at}
use Rattle.semantics_lines.specs.Events.{Note, named}
use Rattle.semantics.specs.Runs.{Run, Entry}
use Rattle.semantics_lines.specs.Documents.{free, Document, Members, Member, member_list, on_tape}
use Rattle.semantics.specs.Writing.{Written, write, write_fields}
use Rattle.semantics.specs.Places.{Path, rest_of, rest_at, below, has_whole, Choice}
use Rattle.semantics.specs.Keys.{flat_keys, keys, Layout, Plan, plan_of, leads, after_key, Placed, with_entry, placed, is_allowed, are_allowed}
use Rattle.semantics.specs.Reading.{Setting, Reader, from_events, source_of, by_run, read_own, FlatReader, read_field, and_trees, read_fields, read_flat, read_layout, read_entries, read_struct}
use Rattle.semantics.specs.Validity.{Distinct, Alike, FieldsAlike}
use Rattle.laws.proofs.Mixes.{Mixes, Agrees, mixes_filter, mixes_one, mixes_every}
use Rattle.laws.proofs.Orders.{Comes, Carried}
use Rattle.laws.proofs.Keys.{first_found}
use Rattle.laws.proofs.Writes.{put_inverted}
use Rattle.laws.proofs.Places.{PlacedDocument, with_document, name_leads, place_member, IsDeclared, prefixed, own_document, fields_places, IsOwn, fields_placed}

-- such a value was read
abbrev pub ReadAs : Registry → ℕ → Tree → Option Tree → Type 0
ReadAs g s v o = (w : Tree) × (o ≡ Some w) × Alike g s v w

abbrev pub FieldsReadAs : Registry → List Field → Trees → Option Trees → Type 0
FieldsReadAs g fs vs o = (ws : Trees) × (o ≡ Some ws) × FieldsAlike g fs vs ws

-- the entry is one of the document, and its key has no metadata
abbrev pub Brings : Document → Entry → Type 0
Brings d e = (source_of e.key ≡ from_events) × Comes d e.run

abbrev pub SamePlace : PlacedDocument → Placed → Type 0
SamePlace x y = (y.path ≡ x.path) × Brings x.item y.item

rest_alike : (k : ℕ) (d : Document) (e : Entry) (p : Path) → Brings d e → Agrees SamePlace (rest_of k p d) (rest_of k p e)
rest_alike k d e [] c = tt
rest_alike k d e (j ∷ p) c = by_test (j == k)
  where
    by_test : (b : Bool) → Agrees SamePlace (cond b (Some (record { path = p; item = d })) None) (cond b (Some (record { path = p; item = e })) None)
    by_test true = (refl, c)
    by_test false = tt

rests_agree : (k : ℕ) (x : PlacedDocument) (y : Placed) → SamePlace x y → Agrees SamePlace (rest_at k x) (rest_at k y)
rests_agree k x y (path, c) =
    subst (λ p. Agrees SamePlace (rest_at k x) (rest_of k p y.item)) (sym path) (rest_alike k x.item y.item x.path c)

below_mixes : (k : ℕ) (l : List PlacedDocument) (ps : List Placed) → Mixes SamePlace l ps → Mixes SamePlace (below k l) (below k ps)
below_mixes k l ps m = mixes_filter SamePlace SamePlace (rest_at k) (rest_at k) (rests_agree k) l ps m

own_here : (k : ℕ) (d : Document) → below k (own_document k (Ok d)) ≡ record { path = []; item = d } ∷ []
own_here k d = ap (λ b. cons_option (cond b (Some (record { path = []; item = d })) None) []) (eq-eqb k k refl)

own_other : (k i : ℕ) (o : Written Document) → (k ≡ i → ⊥) → below i (own_document k o) ≡ []
own_other k i (Err e) other = refl
own_other k i (Ok d) other = ap (λ b. cons_option (cond b (Some (record { path = []; item = d })) None) []) (ne_eqb k i other)

later : (g : Registry) (fs : List Field) (vs : Trees) (k i : ℕ) → i < k → below i (fields_places g k fs vs) ≡ []
later g [] vs k i less = refl
later g (f ∷ fs) no_trees k i less = refl
later g (f ∷ fs) (tree v vs) k i less =
    filter_map-append (rest_at i) (own_document k (write g f.shape v)) (fields_places g (suc k) fs vs)
    ∙ ap₂ (λ a b. a ++ b) (own_other k i (write g f.shape v) (λ same. omega arith)) (later g fs vs (suc k) i (omega arith))

pub both_read : (g : Registry) (f : Field) (fs : List Field) (v : Tree) (vs : Trees) (o : Option Tree) (os : Option Trees)
    → ReadAs g f.shape v o → FieldsReadAs g fs vs os → FieldsReadAs g (f ∷ fs) (tree v vs) (and_trees o os)
both_read g f fs v vs o os (w, e, alike) (ws, e', alikes) = (tree w ws, ap₂ and_trees e e', (w, ws, refl, alike, alikes))

-- what is written of each field is read back
abbrev pub FieldsRead : Registry → Reader → List Field → Trees → Type 0
FieldsRead g rd (f ∷ fs) (tree v vs) =
    ((d : Document) (r : Run) → write g f.shape v ≡ Ok d → Comes d r → ReadAs g f.shape v (rd f.shape from_events r)) × FieldsRead g rd fs vs
FieldsRead g rd _ _ = Unit {0}

module _ (g : Registry) (rd : Reader) where
  own_read : (f : Field) (v : Tree) (k : ℕ) (x : Document) (xs : List Placed) → write g f.shape v ≡ Ok x → Mixes SamePlace (below k (own_document k (write g f.shape v))) xs
      → ((d : Document) (r : Run) → write g f.shape v ≡ Ok d → Comes d r → ReadAs g f.shape v (rd f.shape from_events r))
      → ReadAs g f.shape v (read_own g (by_run g rd) f xs)
  own_read f v k x xs is_x m when_written =
      let one : below k (own_document k (write g f.shape v)) ≡ record { path = []; item = x } ∷ [] = ap (λ o. below k (own_document k o)) is_x ∙ own_here k x in
      let (y, e, (path, (source, comes))) = mixes_one SamePlace (record { path = []; item = x }) xs (subst (λ l. Mixes SamePlace l xs) one m) in
      let (w, read, alike) = when_written x y.item.run is_x comes in
      (w, ap (read_own g (by_run g rd) f) e ∙ ap (λ s. rd f.shape s y.item.run) source ∙ read, alike)

  field_read : (flat : FlatReader Entry) (whole : Bool) (c : Choice) (f : Field) (xs : List Placed) → IsOwn f → read_field flat g (by_run g rd) whole c f xs ≡ read_own g (by_run g rd) f xs
  field_read flat whole c f xs own = ap (λ b. cond (b && not (whole && has_whole xs)) (flat (definition_at g f.shape) c xs) (read_own g (by_run g rd) f xs)) own

  pub fields_back : (flat : FlatReader Entry) (whole : Bool) (c : Choice) (k : ℕ) (fs : List Field) (vs : Trees) (ms : Members) (all : List PlacedDocument) (ps : List Placed) → Mixes SamePlace all ps
      → ((i : ℕ) → k ≤ i → below i all ≡ below i (fields_places g k fs vs))
      → Every IsOwn fs → FieldsRead g rd fs vs → write_fields g fs vs ≡ Ok ms
      → FieldsReadAs g fs vs (read_fields flat g (by_run g rd) whole c k fs ps)
  fields_back flat whole c k [] no_trees ms all ps m cut own good e = (no_trees, refl, refl)
  fields_back flat whole c k [] (tree v vs) ms all ps m cut own good e = absurd cc
  fields_back flat whole c k (f ∷ fs) no_trees ms all ps m cut own good e = absurd cc
  fields_back flat whole c k (f ∷ fs) (tree v vs) ms all ps m cut (own, others) (when_written, good) e =
      let part = own_document k (write g f.shape v) in
      let rest = fields_places g (suc k) fs vs in
      let (x, ns, is_x, is_ns, is) = put_inverted free (effective_name f) (write g f.shape v) (write_fields g fs vs) ms e in
      let here : below k all ≡ below k part =
      cut k (omega arith) ∙ filter_map-append (rest_at k) part rest ∙ ap (λ l. below k part ++ l) (later g fs vs (suc k) k (omega arith)) ∙ append-nil (below k part) in
      let mine = subst (λ l. Mixes SamePlace l (below k ps)) here (below_mixes k all ps m) in
      let (w, read, alike) = own_read f v k x (below k ps) is_x mine when_written in
      both_read g f fs v vs (read_field flat g (by_run g rd) whole (below k c) f (below k ps)) (read_fields flat g (by_run g rd) whole c (suc k) fs ps)
      (w, field_read flat whole (below k c) f (below k ps) own ∙ read, alike)
      (fields_back flat whole c (suc k) fs vs ns all ps m
      (λ i le. cut i (omega arith) ∙ filter_map-append (rest_at i) part rest
      ∙ ap (λ l. l ++ below i rest) (own_other k i (write g f.shape v) (λ same. omega arith)))
      others good is_ns)

-- the key is a name that leads somewhere
abbrev pub Leads : Plan → Entry → Type 0
Leads plan e = (t : List ℕ) × (n : Note) × (e.key ≡ named (on_tape t) None n) × (is_some (name_leads plan t) ≡ true)

module _ (plan : Plan) where
  abbrev pub place_entry : Entry → Option Placed
  place_entry e = with_entry e (leads plan 0 e.key)

  place_alike : (d : Document) (e : Entry) (o : Option Path) → Brings d e → Agrees SamePlace (with_document d o) (with_entry e o)
  place_alike d e None c = tt
  place_alike d e (Some p) c = (refl, c)

  places_agree : (x : Member) (e : Entry) → Carried x e → Agrees SamePlace (place_member plan x) (place_entry e)
  places_agree x e (y, (name, p), (n, is, shown)) =
      let where_to : leads plan 0 e.key ≡ name_leads plan x.name = ap (leads plan 0) is ∙ ap (name_leads plan) name in
      subst (λ o. Agrees SamePlace (place_member plan x) (with_entry e o)) (sym where_to) (place_alike x.document e (name_leads plan x.name) (ap source_of is, (y.document, p, shown)))

  pub carried_leads : (x : Member) (e : Entry) → Carried x e → IsDeclared plan x → Leads plan e
  carried_leads x e (y, (name, p), (n, is, shown)) d = (y.name, n, is, ap (λ t. is_some (name_leads plan t)) name ∙ d)

  pub placed_is : (k : ℕ) (es : List Entry) → Every (Leads plan) es → placed plan k es ≡ filter_map place_entry es
  placed_is k [] all = refl
  placed_is k (e ∷ es) ((t, n, is, found), all) =
      ap (λ q. cons_option (with_entry e (leads plan k q)) (placed plan (after_key k q) es)) is
      ∙ ap (cons_option (with_entry e (name_leads plan t))) (placed_is k es all)
      ∙ ap (λ q. cons_option (with_entry e (leads plan 0 q)) (filter_map place_entry es)) (sym is)

  and_true : (b c : Bool) → b ≡ true → c ≡ true → b && c ≡ true
  and_true true c e f = f
  and_true false c e f = absurd cc

  pub allowed : (k : ℕ) (es : List Entry) → Every (Leads plan) es → are_allowed plan k es ≡ true
  allowed k [] all = refl
  allowed k (e ∷ es) ((t, n, is, found), all) =
      ap (λ q. is_allowed plan k q && are_allowed plan (after_key k q) es) is
      ∙ and_true (is_some (name_leads plan t) || not plan.deny) (are_allowed plan k es) (ap (λ b. b || not plan.deny) found) (allowed k es all)

-- with nothing in front
none_prefixed : (l : List PlacedDocument) → map (prefixed []) l ≡ l
none_prefixed [] = refl
none_prefixed (x ∷ l) = ap (λ m. x ∷ m) (none_prefixed l)

-- The entries of what is written, in any order, are read as the fields.
pub entries_read : (g : Registry) (rd : Reader) (c : Choice) (deny : Bool) (l : Layout) (vs : Trees) (ms : Members) (es : List Entry)
    → Distinct (keys g l c) → Every IsOwn l.fields → FieldsRead g rd l.fields vs → write_fields g l.fields vs ≡ Ok ms
    → Mixes Carried (member_list ms) es → FieldsReadAs g l.fields vs (read_entries g (by_run g rd) c deny l es)
entries_read g rd c deny l vs ms es distinct own good e order =
    let plan = plan_of g c deny l in
    let (declared, places) = fields_placed g plan [] (flat_keys g l.whole (length g)) l.whole c 0 l.fields vs ms (λ x h. first_found (keys g l c) x distinct h) own e in
    let leading = mixes_every Carried (IsDeclared plan) (Leads plan) (carried_leads plan) (member_list ms) es order declared in
    let mixed = mixes_filter Carried SamePlace (place_member plan) (place_entry plan) (places_agree plan) (member_list ms) es order in
    let (ws, read, alike) = fields_back g rd (read_flat g (by_run g rd) l.whole (length g)) l.whole c 0 l.fields vs ms (fields_places g 0 l.fields vs) (filter_map (place_entry plan) es)
    (subst (λ q. Mixes SamePlace q (filter_map (place_entry plan) es)) (places ∙ none_prefixed (fields_places g 0 l.fields vs)) mixed) (λ i le. refl) own good e in (
      ws,
      ap (λ b. cond b (read_layout g (by_run g rd) c l (placed plan 0 es)) None) (allowed plan 0 es leading) ∙ ap (read_layout g (by_run g rd) c l) (placed_is plan 0 es leading) ∙ read,
      alike,
    )

-- the same of a struct
pub struct_read : (g : Setting) (rd : Reader) (c : Choice) (deny : Bool) (l : Layout) (vs : Trees) (ms : Members) (es : List Entry)
    → Distinct (keys g.registry l c) → Every IsOwn l.fields → FieldsRead g.registry rd l.fields vs → write_fields g.registry l.fields vs ≡ Ok ms
    → Mixes Carried (member_list ms) es → (ws : Trees) × (read_struct g rd c deny l es ≡ Some (structure ws)) × FieldsAlike g.registry l.fields vs ws
struct_read g rd c deny l vs ms es distinct own good e order =
    let (ws, read, alike) = entries_read g.registry rd c deny l vs ms es distinct own good e order in
    (ws, ap (option_map structure) read, alike)
