-- Shapes that are being built, and the registry that they become.
use Rattle.std.proofs.Common.{◌≡◌, ℕ, suc, ◌<◌, List, [], ◌∷◌, length, map, Option, Some, None, Bool, true, false, cond, refl, sym, ap, ◌∙◌, arith, ◌&&◌}
use Rattle.std.specs.Prelude.{option_and_then, slice_get, IsTrue}
use Rattle.std.specs.List.{filter_map, list_all}
use Rattle.std.specs.Str.{is_utf8}
use Rattle.std.proofs.lemmas.List.{length-map}
use Rattle.semantics_lines.specs.Shapes as mirror
use Rattle.semantics_lines.specs.ShapeFaults.{undefined, not_built}
use Rattle.semantics.specs.Registry.{fault_of, NoFault, drafted, IsRegistry, shape_is_utf8, definition_is_utf8}
use Rattle.shape_core.specs.Builder.{finished, draft_is_utf8}
use Rattle.shape_types.specs.Builder.{IsDraftList}
use Rattle.shape_types.specs.Shapes.{drafts_of, draft_of}
use Rattle.shape_types.specs.declared.draft.Draft.{Draft}

some_kind : (b : Bool) → cond b (Some not_built) (Some undefined) ≡ None → ⊥
some_kind true h = cc
some_kind false h = cc

-- a shape without a fault is defined
defined_at : (ds : List mirror.Draft) (i : ℕ) (d : mirror.Draft) (o : Option mirror.Definition) → d.definition ≡ o → fault_of ds i d ≡ None
    → (definition : mirror.Definition) × (d.definition ≡ Some definition)
defined_at ds i d (Some definition) e h = (definition, e)
defined_at ds i d None e h = absurd (some_kind _ (rw e at h))

cons_back : (x : mirror.Draft) (definition : mirror.Definition) (xs : List mirror.Draft) → x.definition ≡ Some definition
    → map drafted (filter_map finished xs) ≡ xs → map drafted (filter_map finished (x ∷ xs)) ≡ x ∷ xs
cons_back x definition xs e rest = rw e (ap (λ ys. record { name = x.name; definition = Some definition; proxy = x.proxy } ∷ ys) rest)

restored : (ds xs : List mirror.Draft) → ((i : ℕ) → i < length xs → (j : ℕ) × (option_and_then (fault_of ds j) (slice_get xs i) ≡ None))
    → map drafted (filter_map finished xs) ≡ xs
restored ds [] h = refl
restored ds (x ∷ xs) h =
    let first : (j : ℕ) × (fault_of ds j x ≡ None) = h 0 (omega arith) in
    let is : (definition : mirror.Definition) × (x.definition ≡ Some definition) = defined_at ds first.0 x x.definition refl first.1 in
    cons_back x is.0 xs is.1 (restored ds xs (λ i lt. h (suc i) (omega arith)))

-- the shapes of drafts without a fault are these drafts
pub finished_shapes : (ds : List mirror.Draft) → NoFault ds → map drafted (filter_map finished ds) ≡ ds
finished_shapes ds h = restored ds ds (λ i lt. (i, h i lt))

-- a shape's names are texts where those of its draft are
shapes_utf8 : (g : mirror.Registry) → list_all draft_is_utf8 (map drafted g) ≡ list_all shape_is_utf8 g
shapes_utf8 [] = refl
shapes_utf8 (s ∷ ss) = ap (λ b. (is_utf8 s.name && definition_is_utf8 s.definition) && b) (shapes_utf8 ss)

-- the registry that `check` makes
pub registry_from : (ds : List Draft) → IsDraftList ds → NoFault (drafts_of ds) → IsTrue (list_all draft_is_utf8 (drafts_of ds))
    → IsRegistry (filter_map finished (drafts_of ds))
registry_from ds ok h utf8 =
    let e = finished_shapes (drafts_of ds) h in
    let g = filter_map finished (drafts_of ds) in
    let same : length g ≡ length ds = sym (length-map g drafted) ∙ (ap length e ∙ length-map ds draft_of) in
    let few = ok.few in
    record {
      scalars = rw e ok.scalars;
      few = omega arith;
      sound = rw e h;
      utf8 = rw (← shapes_utf8 g, e) utf8;
    }
