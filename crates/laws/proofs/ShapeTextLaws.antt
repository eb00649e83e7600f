-- A shape text has one meaning: its lines are determined, and where it describes shapes nothing is wrong with it.
use Rattle.std.proofs.Common.{◌≡◌, ℕ, ◌≤◌, List, ◌∷◌, ◌++◌, true, false, Option, Some, None, option_and_then, refl, sym, ap, ◌∙◌, subst}
use Rattle.std.proofs.lemmas.Option.{slice_get_within}
use Rattle.std.specs.Prelude.{slice_get}
use Rattle.std.specs.List.{list_all}
use Rattle.semantics_lines.specs.Shapes.{Draft}
use Rattle.semantics_lines.specs.ShapeFaults.{ShapeFault, ShapeFaultKind, shape_limit}
use Rattle.semantics.specs.Registry.{NoFault, IsFirstFault}
use Rattle.semantics_lines.specs.ShapeLines.{is_line}
use Rattle.semantics_lines.specs.ShapeText.{shape_count, first_place, are_in_place, all_names, is_known, shapes_of, ShapeTextKind, IsRefusedBehind}
use Rattle.semantics.specs.CheckedText.{IsShapeText, IsShapeTextFault, at_line, at_reference, at_head}
use Rattle.laws_lines.proofs.ShapeTextLines.{both, Leading, leads, leading, lines_same, all_behind, none_refused}

-- A text describes at most one list of shapes.
pub one_meaning : (text : List ℕ) (a b : List Draft) → IsShapeText text a → IsShapeText text b → a ≡ b
one_meaning text a b x y =
    let same = lines_same x.lines y.lines x.good.good y.good.good (sym x.whole ∙ y.whole) in
    x.described ∙ ap shapes_of same ∙ sym y.described

-- A text that describes shapes has no fault.
pub no_fault : (text : List ℕ) (a : List Draft) → IsShapeText text a → (line : ℕ) (kind : ShapeTextKind) → IsShapeTextFault text line kind → ⊥
no_fault text a x line kind (at_line before left whole good refused number) =
    by_leading (leading before x.lines left good.good x.good.good (sym x.whole ∙ whole))
  where
    by_leading : Leading x.lines before left → ⊥
    by_leading (leads more is at) =
        none_refused before more kind (all_behind is_line before more (ap (list_all is_line) (sym is) ∙ x.good.good))
        (ap (are_in_place first_place) (sym is) ∙ x.good.placed) (subst (λ n. n ≤ shape_limit) (ap shape_count is) x.good.few)
        (subst (λ l. IsRefusedBehind before l kind) at refused)
no_fault text a x line kind (at_reference before after l names whole good named known unknown number is) =
    let same = lines_same x.lines (before ++ (l ∷ after)) x.good.good good.good (sym x.whole ∙ whole) in
    let all : list_all (is_known names) (before ++ (l ∷ after)) ≡ true =
    ap (λ n. list_all (is_known n) (before ++ (l ∷ after))) named ∙ ap (λ m. list_all (is_known (all_names m)) m) (sym same) ∙ x.known in
    let here = (both (is_known names l) (list_all (is_known names) after) (all_behind (is_known names) before (l ∷ after) all)).0 in
    absurd (let f : false ≡ true = sym unknown ∙ here in cc)
no_fault text a x line kind (at_head before after l fault whole good known first head at number is) =
    let same = lines_same x.lines (before ++ (l ∷ after)) x.good.good good.good (sym x.whole ∙ whole) in
    let shapes : a ≡ shapes_of (before ++ (l ∷ after)) = x.described ∙ ap shapes_of same in
    by_fault (shapes_of (before ++ (l ∷ after))) fault (subst NoFault shapes x.sound) first
  where
    within : (o : Option Draft) (f : Draft → Option ShapeFaultKind) (k : ShapeFaultKind) → option_and_then f o ≡ Some k → (d : Draft) × (o ≡ Some d)
    within None f k e = absurd cc
    within (Some d) f k e = (d, refl)

    by_fault : (ds : List Draft) (fault : ShapeFault) → NoFault ds → IsFirstFault ds fault → ⊥
    by_fault ds fault none first =
        let there = within (slice_get ds fault.shape) (Rattle.semantics.specs.Registry.fault_of ds fault.shape) fault.kind first.here in
        let e = none fault.shape (slice_get_within ds fault.shape there.0 there.1) in
        absurd (let f : None ≡ Some fault.kind = sym e ∙ first.here in cc)
