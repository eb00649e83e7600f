-- Each key leads to a part.
use Rattle.std.proofs.Common.{◌≡◌, ℕ, zero, suc, ◌<◌, List, [], ◌∷◌, ◌++◌, map, length, slice_get, Option, Some, None, Bool, true, false, cond, not, ◌&&◌, ◌||◌, bytes_eq, option_map, refl, sym, ap, ◌∙◌, subst, arith}
use Rattle.std.specs.Prelude.{⊤, nat_lt}
use Rattle.std.specs.List.{list_any}
use Rattle.std.proofs.lemmas.Bool.{ltb-true}
use Rattle.std.proofs.lemmas.List.{length-map}
use Rattle.semantics_lines.specs.Shapes.{Field, effective_name, Definition, Registry, definition_at}
use Rattle.semantics_lines.specs.Events.{Key, named, nameless, ordered}
use Rattle.semantics.specs.Places.{Path, below, under, is_end, Choice}
use Rattle.semantics.specs.Keys.{Declared, alias_key, own_keys, Layout, keys_by, flat_keys, keys, path_of, or_path, stray_by, flat_stray, plan_of, takes_order, leads, is_allowed}
use Rattle.semantics.specs.Ends.{End, one_shape, leaf_end, FlatLeaf, leaf_flat, leaf_found, leaf_at}
use Rattle.laws_reading.proofs.Ends.{Ends, Covers, covers_all}

-- each declared key leads to a part
abbrev pub Leads : Ends → List Declared → Type 0
Leads ends [] = ⊤
Leads ends (x ∷ xs) = ((s : End) × (ends x.path ≡ Some s)) × Leads ends xs

leads_both : (ends : Ends) (xs ys : List Declared) → Leads ends xs → Leads ends ys → Leads ends (xs ++ ys)
leads_both ends [] ys h h' = h'
leads_both ends (x ∷ xs) ys (first, more) h' = (first, leads_both ends xs ys more h')

leads_under : (ends inner : Ends) (k : ℕ) → ((p : Path) → ends (k ∷ p) ≡ inner p) → (xs : List Declared) → Leads inner xs → Leads ends (map (under k) xs)
leads_under ends inner k same [] h = tt
leads_under ends inner k same (x ∷ xs) ((s, end), more) = ((s, same x.path ∙ end), leads_under ends inner k same xs more)

leads_parts : (inner ends : Ends) (a : End) → ends [] ≡ Some a → ((k : ℕ) (p : Path) → ends (k ∷ p) ≡ inner (k ∷ p)) → (xs : List Declared) → Leads inner xs → Leads ends xs
leads_parts inner ends a here same [] h = tt
leads_parts inner ends a here same (x ∷ xs) ((s, end), more) = (by_path x.path end, leads_parts inner ends a here same xs more)
  where
    by_path : (p : Path) → inner p ≡ Some s → (s : End) × (ends p ≡ Some s)
    by_path [] end = (a, here)
    by_path (k ∷ p) end = (s, same k p ∙ end)

leads_alias : (ends : Ends) (k : ℕ) (s : End) (o : Option (List ℕ)) → ends (k ∷ []) ≡ Some s → Leads ends (alias_key k o)
leads_alias ends k s None end = tt
leads_alias ends k s (Some a) end = ((s, end), tt)

path_leads : (ends : Ends) (ks : List Declared) (t : List ℕ) (p : Path) → Leads ends ks → path_of ks t ≡ Some p → (s : End) × (ends p ≡ Some s)
path_leads ends [] t p h e = absurd cc
path_leads ends (x ∷ ks) t p ((s, end), more) e = by_test (bytes_eq x.item t) e (path_leads ends ks t p more)
  where
    by_test : (b : Bool) → cond b (Some x.path) (path_of ks t) ≡ Some p → (path_of ks t ≡ Some p → (s : End) × (ends p ≡ Some s)) → (s : End) × (ends p ≡ Some s)
    by_test true e rec = let same : x.path ≡ p = cc in (s, ap ends (sym same) ∙ end)
    by_test false e rec = rec e

module _ (g : Registry) (whole : Bool) where
  abbrev pub FlatLeads : (Option Definition → Choice → List Declared) → FlatLeaf → Type 0
  FlatLeads inner leaf = (d : Option Definition) (c : Choice) → Leads (leaf d c) (inner d c)

  fields_lead : (inner : Option Definition → Choice → List Declared) (leaf : FlatLeaf) → FlatLeads inner leaf → (c : Choice) (ends : Ends) (k : ℕ) (fs : List Field) → Covers g whole leaf c ends k fs → Leads ends (keys_by g inner whole c k fs)
  fields_lead inner leaf flat c ends k [] covers = tt
  fields_lead inner leaf flat c ends k (f ∷ fs) covers =
      leads_both ends (cond f.flattened (cond whole (own_keys k f) [] ++ map (under k) (inner (definition_at g f.shape) (below k c))) (own_keys k f)) (keys_by g inner whole c (suc k) fs)
      (by_test f.flattened whole (covers 0 k f (omega arith) refl))
      (fields_lead inner leaf flat c ends (suc k) fs (λ j i h at is. covers (suc j) i h (omega (arith, at)) is))
    where
      own : ends (k ∷ []) ≡ Some (one_shape f.shape) → Leads ends (own_keys k f)
      own same = ((one_shape f.shape, same), leads_alias ends k (one_shape f.shape) f.alias same)

      by_test : (a m : Bool) → ((p : Path) → ends (k ∷ p) ≡ cond (a && not (m && is_end p)) (leaf (definition_at g f.shape) (below k c) p) (leaf_end (Some (one_shape f.shape)) p)) → Leads ends (cond a (cond m (own_keys k f) [] ++ map (under k) (inner (definition_at g f.shape) (below k c))) (own_keys k f))
      by_test true true same =
          leads_both ends (own_keys k f) (map (under k) (inner (definition_at g f.shape) (below k c))) (own (same []))
          (leads_under ends (λ p. ends (k ∷ p)) k (λ p. refl) (inner (definition_at g f.shape) (below k c))
          (leads_parts (leaf (definition_at g f.shape) (below k c)) (λ p. ends (k ∷ p)) (one_shape f.shape) (same []) (λ j p. same (j ∷ p)) (inner (definition_at g f.shape) (below k c)) (flat (definition_at g f.shape) (below k c))))
      by_test true false same = leads_under ends (leaf (definition_at g f.shape) (below k c)) k same (inner (definition_at g f.shape) (below k c)) (flat (definition_at g f.shape) (below k c))
      by_test false m same = own (same [])

  flat_leads : (n : ℕ) → FlatLeads (flat_keys g whole n) (leaf_flat g whole n)
  flat_leads zero d c = tt
  flat_leads (suc n) d c = tt

  -- where stray keys lead
  abbrev pub FlatStray : (Option Definition → Choice → Option Path) → FlatLeaf → Type 0
  FlatStray inner leaf = (d : Option Definition) (c : Choice) (p : Path) → inner d c ≡ Some p → (s : End) × (leaf d c p ≡ Some s)

  fields_stray : (inner : Option Definition → Choice → Option Path) (leaf : FlatLeaf) → FlatStray inner leaf → (c : Choice) (ends : Ends) (k : ℕ) (fs : List Field) → Covers g whole leaf c ends k fs
      → (p : Path) → stray_by g inner c k fs ≡ Some p → (s : End) × (ends p ≡ Some s)
  fields_stray inner leaf flat c ends k [] covers p e = absurd cc
  fields_stray inner leaf flat c ends k (f ∷ fs) covers p e =
      by_test f.flattened whole (covers 0 k f (omega arith) refl) e (fields_stray inner leaf flat c ends (suc k) fs (λ j i h at is. covers (suc j) i h (omega (arith, at)) is) p)
    where
      Rest : Type 0
      Rest = stray_by g inner c (suc k) fs ≡ Some p → (s : End) × (ends p ≡ Some s)

      by_end : (m : Bool) (q : Path) (s : End) → ((p : Path) → ends (k ∷ p) ≡ cond (not (m && is_end p)) (leaf (definition_at g f.shape) (below k c) p) (leaf_end (Some (one_shape f.shape)) p))
          → leaf (definition_at g f.shape) (below k c) q ≡ Some s → (s : End) × (ends (k ∷ q) ≡ Some s)
      by_end true [] s same end = (one_shape f.shape, same [])
      by_end true (j ∷ q) s same end = (s, same (j ∷ q) ∙ end)
      by_end false q s same end = (s, same q ∙ end)

      by_inner : (m : Bool) (o : Option Path) → inner (definition_at g f.shape) (below k c) ≡ o → ((p : Path) → ends (k ∷ p) ≡ cond (not (m && is_end p)) (leaf (definition_at g f.shape) (below k c) p) (leaf_end (Some (one_shape f.shape)) p))
          → or_path (option_map (λ p. k ∷ p) o) (stray_by g inner c (suc k) fs) ≡ Some p → Rest → (s : End) × (ends p ≡ Some s)
      by_inner m None is same e rec = rec e
      by_inner m (Some q) is same e rec =
          let (s, end) = flat (definition_at g f.shape) (below k c) q is in
          let (a, end') = by_end m q s same end in
          let there : k ∷ q ≡ p = cc in
          (a, ap ends (sym there) ∙ end')

      by_test : (b m : Bool) → ((p : Path) → ends (k ∷ p) ≡ cond (b && not (m && is_end p)) (leaf (definition_at g f.shape) (below k c) p) (leaf_end (Some (one_shape f.shape)) p))
          → or_path (cond b (option_map (λ p. k ∷ p) (inner (definition_at g f.shape) (below k c))) None) (stray_by g inner c (suc k) fs) ≡ Some p → Rest → (s : End) × (ends p ≡ Some s)
      by_test true m same e rec = by_inner m (inner (definition_at g f.shape) (below k c)) refl same e rec
      by_test false m same e rec = rec e

  flat_strays : (n : ℕ) → FlatStray (flat_stray g n) (leaf_flat g whole n)
  flat_strays zero d c p e = absurd cc
  flat_strays (suc n) d c p e = absurd cc

-- a field of a place that is there, where none is flattened
plain_field : (fs : List Field) (k : ℕ) → list_any (λ f. f.flattened) fs ≡ false → k < length fs → (f : Field) × (slice_get fs k ≡ Some f) × (f.flattened ≡ false)
plain_field [] k plain few = absurd (omega (arith, few))
plain_field (f ∷ fs) k plain few = by_first f.flattened refl plain (plain_field fs)
  where
    Others : Type 0
    Others = (k : ℕ) → list_any (λ f. f.flattened) fs ≡ false → k < length fs → (e : Field) × (slice_get fs k ≡ Some e) × (e.flattened ≡ false)

    by_place : (k : ℕ) → k < suc (length fs) → f.flattened ≡ false → list_any (λ f. f.flattened) fs ≡ false → Others → (e : Field) × (slice_get (f ∷ fs) k ≡ Some e) × (e.flattened ≡ false)
    by_place zero few first none others = (f, refl, first)
    by_place (suc k) few first none others = others k none (omega (arith, few))

    by_first : (b : Bool) → f.flattened ≡ b → (b || list_any (λ f. f.flattened) fs) ≡ false → Others → (e : Field) × (slice_get (f ∷ fs) k ≡ Some e) × (e.flattened ≡ false)
    by_first true first none others = absurd cc
    by_first false first none others = by_place k few first none others

-- a key by order that is allowed leads to the field of its place
order_leads : (g : Registry) (c : Choice) (l : Layout) (n : ℕ) → (takes_order l && nat_lt n (length (map effective_name l.fields))) ≡ true → (s : End) × (leaf_at g c l (n ∷ []) ≡ Some s)
order_leads g c l n allowed = by_order (list_any (λ f. f.flattened) l.fields) refl allowed
  where
    by_order : (b : Bool) → list_any (λ f. f.flattened) l.fields ≡ b → (not b && nat_lt n (length (map effective_name l.fields))) ≡ true → (s : End) × (leaf_at g c l (n ∷ []) ≡ Some s)
    by_order true some allowed = absurd cc
    by_order false none allowed =
        let few : n < length l.fields = subst (λ k. n < k) (length-map l.fields effective_name) (ltb-true n (length (map effective_name l.fields)) allowed) in
        let (f, at, plain) = plain_field l.fields n none few in (
          one_shape f.shape,
          ap (λ o. leaf_found (leaf_flat g l.whole (length g)) g l.whole (below n c) o []) at
              ∙ ap (λ b. cond (b && not (l.whole && true)) (leaf_flat g l.whole (length g) (definition_at g f.shape) (below n c) []) (Some (one_shape f.shape))) plain,
        )

-- a key that is allowed leads to a part
pub key_leads : (g : Registry) (c : Choice) (deny : Bool) (l : Layout) (n : ℕ) (q : Key) (p : Path) → leads (plan_of g c deny l) n q ≡ Some p → is_allowed (plan_of g c deny l) n q ≡ true → (s : End) × (leaf_at g c l p ≡ Some s)
key_leads g c deny l n (named t m note) p e allowed = by_key (path_of (keys g l c) t.bytes) refl e
  where
    by_key : (o : Option Path) → path_of (keys g l c) t.bytes ≡ o → or_path o (stray_by g (flat_stray g (length g)) c 0 l.fields) ≡ Some p → (s : End) × (leaf_at g c l p ≡ Some s)
    by_key None is e = fields_stray g l.whole (flat_stray g (length g)) (leaf_flat g l.whole (length g)) (flat_strays g l.whole (length g)) c (leaf_at g c l) 0 l.fields (covers_all g l.whole (leaf_flat g l.whole (length g)) c l.fields) p e
    by_key (Some q) is e =
        let same : q ≡ p = cc in
        path_leads (leaf_at g c l) (keys g l c) t.bytes p (fields_lead g l.whole (flat_keys g l.whole (length g)) (leaf_flat g l.whole (length g)) (flat_leads g l.whole (length g)) c (leaf_at g c l) 0 l.fields (covers_all g l.whole (leaf_flat g l.whole (length g)) c l.fields)) (is ∙ ap (λ z. Some z) same)
key_leads g c deny l n (nameless m note) p e allowed = absurd cc
key_leads g c deny l n (ordered note) p e allowed =
    let (s, there) = order_leads g c l n allowed in
    let same : n ∷ [] ≡ p = cc in
    (s, ap (leaf_at g c l) (sym same) ∙ there)
