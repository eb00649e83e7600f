-- Where the documents of the fields stand, whatever the keys are.
use Rattle.std.proofs.Common.{◌≡◌, inl, ℕ, suc, List, [], ◌∷◌, ◌++◌, map, Option, Some, None, Bool, true, false, cond, Ok, Err, filter_map, is_some, refl, sym, ap, ◌∙◌, subst}
use Rattle.std.specs.List.{cons_option, AllByRecursion as Every}
use Rattle.semantics_lines.specs.Trees.{Trees, no_trees, tree}
use Rattle.semantics_lines.specs.Shapes.{Field, effective_name, Registry, definition_at}
use Rattle.semantics_lines.specs.Documents.{free, Document, Members, no_members, member, Member, member_list}
use Rattle.semantics.specs.Writing.{Written, write, write_fields}
use Rattle.semantics.specs.Places.{Path, At, below, under, Choice}
use Rattle.semantics.specs.Keys.{Declared, own_keys, InnerKeys, field_keys, keys_by, path_of, or_path, Plan}
use Rattle.laws.proofs.Keys.{Has, has_left, has_right}
use Rattle.laws.proofs.Writes.{put_inverted}

abbrev pub PlacedDocument : Type 0
PlacedDocument = At Document

abbrev pub with_document : Document → Option Path → Option PlacedDocument
with_document d None = None
with_document d (Some p) = Some (record { path = p; item = d })

-- where a name leads
abbrev pub name_leads : Plan → List ℕ → Option Path
name_leads plan t = or_path (path_of plan.declared t) plan.stray

abbrev pub place_member : Plan → Member → Option PlacedDocument
place_member plan x = with_document x.document (name_leads plan x.name)

abbrev pub IsDeclared : Plan → Member → Type 0
IsDeclared plan x = is_some (name_leads plan x.name) ≡ true

abbrev pub prefixed : Path → PlacedDocument → PlacedDocument
prefixed p x = record { path = p ++ x.path; item = x.item }

-- the document of a field at its place
abbrev pub own_document : ℕ → Written Document → List PlacedDocument
own_document k (Ok d) = record { path = k ∷ []; item = d } ∷ []
own_document k (Err e) = []

abbrev pub fields_places : Registry → ℕ → List Field → Trees → List PlacedDocument
fields_places g k (f ∷ fs) (tree v vs) = own_document k (write g f.shape v) ++ fields_places g (suc k) fs vs
fields_places g k _ _ = []

-- no field is flattened yet
abbrev pub IsOwn : Field → Type 0
IsOwn f = f.flattened ≡ false

pub keys_own : (g : Registry) (inner : InnerKeys) (whole : Bool) (c : Choice) (k : ℕ) (f : Field) → IsOwn f → field_keys g inner whole c k f ≡ own_keys k f
keys_own g inner whole c k f own = ap (λ b. cond b (cond whole (own_keys k f) [] ++ map (under k) (inner (definition_at g f.shape) (below k c))) (own_keys k f)) own

module _ (g : Registry) (plan : Plan) where
  -- these keys are those of the plan that stand under p
  abbrev pub LeadUnder : Path → List Declared → Type 0
  LeadUnder p ks = (x : Declared) → Has x ks → path_of plan.declared x.item ≡ Some (p ++ x.path)

  -- the members lead to these places under p
  abbrev pub PlacedAt : Path → Members → List PlacedDocument → Type 0
  PlacedAt p ms l = Every (IsDeclared plan) (member_list ms) × (filter_map (place_member plan) (member_list ms) ≡ map (prefixed p) l)

  own_placed : (p : Path) (k : ℕ) (name : List ℕ) (x : Document) (ns : Members) (tail : List PlacedDocument) → path_of plan.declared name ≡ Some (p ++ (k ∷ [])) → PlacedAt p ns tail
      → PlacedAt p (member free name x ns) (record { path = k ∷ []; item = x } ∷ tail)
  own_placed p k name x ns tail here (all, places) =
      let leads : name_leads plan name ≡ Some (p ++ (k ∷ [])) = ap (λ o. or_path o plan.stray) here in
      ((ap is_some leads, all), ap (λ q. cons_option (with_document x q) (filter_map (place_member plan) (member_list ns))) leads ∙ ap (λ l. record { path = p ++ (k ∷ []); item = x } ∷ l) places)

  pub fields_placed : (p : Path) (inner : InnerKeys) (whole : Bool) (c : Choice) (k : ℕ) (fs : List Field) (vs : Trees) (ms : Members)
      → LeadUnder p (keys_by g inner whole c k fs) → Every IsOwn fs → write_fields g fs vs ≡ Ok ms → PlacedAt p ms (fields_places g k fs vs)
  fields_placed p inner whole c k [] no_trees ms lead own e =
      let is : no_members ≡ ms = cc in
      subst (λ m. PlacedAt p m []) is (tt, refl)
  fields_placed p inner whole c k [] (tree v vs) ms lead own e = absurd cc
  fields_placed p inner whole c k (f ∷ fs) no_trees ms lead own e = absurd cc
  fields_placed p inner whole c k (f ∷ fs) (tree v vs) ms lead (own, others) e =
      let (x, ns, is_x, is_ns, is) = put_inverted free (effective_name f) (write g f.shape v) (write_fields g fs vs) ms e in
      let mine : Has (record { path = k ∷ []; item = effective_name f }) (field_keys g inner whole c k f) = subst (Has (record { path = k ∷ []; item = effective_name f })) (sym (keys_own g inner whole c k f own)) (inl refl) in
      let here = lead (record { path = k ∷ []; item = effective_name f }) (has_left (record { path = k ∷ []; item = effective_name f }) (field_keys g inner whole c k f) (keys_by g inner whole c (suc k) fs) mine) in
      let rest = fields_placed p inner whole c (suc k) fs vs ns (λ y h. lead y (has_right y (field_keys g inner whole c k f) (keys_by g inner whole c (suc k) fs) h)) others is_ns in
      subst (λ m. PlacedAt p m (own_document k (write g f.shape v) ++ fields_places g (suc k) fs vs)) (sym is)
      (subst (λ o. PlacedAt p (member free (effective_name f) x ns) (own_document k o ++ fields_places g (suc k) fs vs)) (sym is_x)
      (own_placed p k (effective_name f) x ns (fields_places g (suc k) fs vs) here rest))
