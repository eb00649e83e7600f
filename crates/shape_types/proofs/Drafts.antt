-- Shapes that are being built.
use Rattle.std.proofs.Common.{◌≡◌, ℕ, ◌<◌, ◌≤◌, List, [], ◌∷◌, ◌++◌, get_or, length, Some, refl, sym, ap, ◌∙◌, arith, length-append}
use Rattle.std.specs.Prelude.{option_map, slice_get, slice_set, IfSome}
use Rattle.std.proofs.lemmas.List.{take-append-le, take-set-le, length-map, length-set, map-append, map-set}
use Rattle.std.proofs.lemmas.Option.{slice_get-get_or}
use Rattle.semantics_lines.specs.Shapes as mirror
use Rattle.semantics_lines.specs.Scalars.{scalar_drafts}
use Rattle.shape_types.specs.Builder.{IsDraftList, redefined}
use Rattle.shape_types.specs.Shapes.{drafts_of, draft_of}
use Rattle.shape_types.proofs.Lists.{slice_get_map}
use Rattle.shape_types.specs.declared.draft.Draft.{Draft}

-- the scalars alone are such a list
pub scalars_hold : (ds : List Draft) → drafts_of ds ≡ scalar_drafts → IsDraftList ds
unfolding scalar_drafts
scalars_hold ds e =
    let count : length ds ≡ 17 = sym (length-map ds draft_of) ∙ ap length e in
    record { scalars = rw e refl; enough = omega arith; few = omega arith }

-- one more shape
pub pushed : (ds : List Draft) (d : Draft) → IsDraftList ds → length ds < 65535 → IsDraftList (ds ++ d ∷ [])
pushed ds d ok lt =
    let enough = ok.enough in
    let long : 17 ≤ length (drafts_of ds) = omega (arith, length-map ds draft_of) in
    record {
      scalars = rw (map-append, take-append-le) ok.scalars;
      enough = omega (arith, length-append ds (d ∷ []));
      few = omega (arith, length-append ds (d ∷ []));
    }

-- one shape that isn't a scalar is another
pub set_kept : (ds : List Draft) (i : ℕ) (d : Draft) → 17 ≤ i → IsDraftList ds → IsDraftList (slice_set ds i d)
set_kept ds i d le ok =
    let enough = ok.enough in
    let few = ok.few in
    record {
      scalars = rw (map-set draft_of ds i d, take-set-le 17 (drafts_of ds) i (draft_of d) le) ok.scalars;
      enough = omega (arith, length-set ds i d);
      few = omega (arith, length-set ds i d);
    }

-- the definition of one shape is another
pub redefined_at : (ds : List Draft) (i : ℕ) (before after : Draft) (definition : mirror.Definition) → i < length (drafts_of ds)
    → before ≡ get_or ds i before → draft_of after ≡ redefined (draft_of before) definition
    → IfSome (slice_get (drafts_of ds) i) (λ draft. drafts_of (slice_set ds i after) ≡ slice_set (drafts_of ds) i (redefined draft definition))
redefined_at ds i before after definition lt at e =
    let within : i < length ds = omega (arith, length-map ds draft_of) in
    let found : slice_get ds i ≡ Some before = slice_get-get_or ds i before within ∙ ap Some (sym at) in
    let there : slice_get (drafts_of ds) i ≡ Some (draft_of before) = slice_get_map draft_of ds i ∙ ap (option_map draft_of) found in
    rw there (map-set draft_of ds i after ∙ ap (slice_set (drafts_of ds) i) e)
