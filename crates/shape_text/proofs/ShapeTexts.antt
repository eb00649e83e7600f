-- What the parts of reading say of the whole text.
use Rattle.std.proofs.Common.{ℕ, suc, ◌<◌, ◌≤◌, ◌≡◌, List, [], ◌∷◌, ◌++◌, true, Option, Some, None, length, refl, sym, ap, ◌∙◌, subst, arith, length-append}
use Rattle.std.specs.Prelude.{IsTrue, option_and_then, slice_get}
use Rattle.std.specs.List.{list_all}
use Rattle.std.proofs.lemmas.Option.{slice_get_within}
use borrow.Author.Count.{below_none, below_more}
use Rattle.semantics_lines.specs.Shapes.{Draft}
use Rattle.semantics_lines.specs.Scalars.{scalar_drafts}
use Rattle.semantics_lines.specs.ShapeFaults.{ShapeFault, ShapeFaultKind}
use Rattle.semantics.specs.Registry.{fault_of, fault_at, NoFaultBelow, NoFault, IsFirstFault}
use Rattle.semantics_lines.specs.ShapeLines.{ShapeLine, head_line, item_line, field_line, variant_line}
use Rattle.semantics_lines.specs.ShapeText as mirror
use Rattle.semantics_lines.specs.ShapeText.{shape_names, shape_count, shape_text, AreLines, is_known, Scope, scope_of, drafts_said, all_names, shapes_of}
use Rattle.semantics.specs.CheckedText.{IsShapeText, IsShapeTextFault, at_line, at_reference, at_head}
use Rattle.shape_lines.specs.declared.shape_fault.ReadShapesError.{ReadShapesError}
use Rattle.shape_lines.specs.declared.shape_fault.ReadShapesError.TheVariants as error
use Rattle.shape_text.specs.ShapeErrors.{IsReadShapesError}
use Rattle.shape_lines.specs.ShapeReading.{AreLinesOf, IsLineFault, IsHeadAt}
use Rattle.shape_lines.specs.ShapeScopes.{IsReferenceFault}
use Rattle.shape_lines.proofs.LineSteps.{scalar_count}

pub line_error : (text : List ℕ) (e : ReadShapesError) → IsLineFault text e → IsReadShapesError text e
line_error text (error.Fault fault) f = at_line f.before f.left f.whole f.good f.here.refused f.here.at
line_error text error.Alloc f = tt

pub reference_error : (text : List ℕ) (ls : List ShapeLine) (e : ReadShapesError) → AreLinesOf text ls → IsReferenceFault (all_names ls) ls e → IsReadShapesError text e
reference_error text ls (error.Fault fault) are f =
    at_reference f.before f.after f.here (all_names ls) (are.whole ∙ ap shape_text f.are) (subst (λ (x : List ShapeLine). AreLines x) f.are are.good) (ap all_names f.are) f.known f.unknown f.at f.kind
reference_error text ls error.Alloc are f = tt

-- the scalars keep every rule, whatever stands behind them
scalars_sound : (more : List Draft) → NoFaultBelow (scalar_drafts ++ more) 17
unfolding scalar_drafts
scalars_sound more =
    let ds = scalar_drafts ++ more in
    let P = λ (i : ℕ). fault_at ds i ≡ None in
    below_more P 16 (below_more P 15 (below_more P 14 (below_more P 13 (below_more P 12 (below_more P 11 (below_more P 10 (below_more P 9 (below_more P 8 (below_more P 7 (below_more P 6 (below_more P 5 (below_more P 4 (below_more P 3 (below_more P 2 (below_more P 1 (below_more P 0 (below_none P) refl) refl) refl) refl) refl) refl) refl) refl) refl) refl) refl) refl) refl) refl) refl) refl) refl

some_is_none : (kind : ShapeFaultKind) → ◌≡◌ {A = Option ShapeFaultKind} None (Some kind) → ⊥
some_is_none kind h = cc

fault_there : (ds : List Draft) (i : ℕ) (o : Option Draft) (kind : ShapeFaultKind) → slice_get ds i ≡ o → option_and_then (fault_of ds i) o ≡ Some kind → i < length ds
fault_there ds i None kind e h = absurd (some_is_none kind h)
fault_there ds i (Some d) kind e h = slice_get_within ds i d e

drafts_count : (scope : Scope) (ls : List ShapeLine) → length (drafts_said scope ls) ≡ length (shape_names ls)
drafts_count scope [] = refl
drafts_count scope (head_line name head ∷ ls) = ap (λ n. suc n) (drafts_count scope ls)
drafts_count scope (item_line shape ∷ ls) = drafts_count scope ls
drafts_count scope (field_line f ∷ ls) = drafts_count scope ls
drafts_count scope (variant_line v ∷ ls) = drafts_count scope ls

shapes_count : (ls : List ShapeLine) → length (shapes_of ls) ≡ shape_count ls
shapes_count ls = omega (arith, length-append scalar_drafts (drafts_said (scope_of ls) ls), scalar_count, drafts_count (scope_of ls) ls)

-- only a shape of the text can break a rule
pub fault_is_shape : (ls : List ShapeLine) (f : ShapeFault) → IsFirstFault (shapes_of ls) f → (17 ≤ f.shape) × (f.shape < shape_count ls)
fault_is_shape ls f h =
    let there = fault_there (shapes_of ls) f.shape (slice_get (shapes_of ls) f.shape) f.kind refl h.here in
    (above f.shape (λ lt. some_is_none f.kind (sym (scalars_sound (drafts_said (scope_of ls) ls) f.shape lt) ∙ h.here)), omega (arith, there, shapes_count ls))
  where
    above : (i : ℕ) → (i < 17 → ⊥) → 17 ≤ i
    above i h = omega (arith, h)

pub rule_error : (text : List ℕ) (ls : List ShapeLine) (f : ShapeFault) (line : ℕ) → AreLinesOf text ls → list_all (is_known (all_names ls)) ls ≡ true → IsFirstFault (shapes_of ls) f
    → IsHeadAt ls f.shape line → IsShapeTextFault text line (mirror.check f)
rule_error text ls f line are known first at =
    at_head at.before at.after at.here f (are.whole ∙ ap shape_text at.are) (subst (λ (x : List ShapeLine). AreLines x) at.are are.good)
    (subst (λ (x : List ShapeLine). IsTrue (list_all (is_known (all_names x)) x)) at.are known) (subst (λ (x : List ShapeLine). IsFirstFault (shapes_of x) f) at.are first)
    at.head at.count at.at refl

pub described : (text : List ℕ) (ls : List ShapeLine) (drafts shapes : List Draft) → AreLinesOf text ls → list_all (is_known (all_names ls)) ls ≡ true → drafts ≡ shapes_of ls → NoFault drafts → shapes ≡ drafts
    → IsShapeText text shapes
described text ls drafts shapes are known is sound same = record {
  lines = ls;
  whole = are.whole;
  good = are.good;
  known = known;
  described = same ∙ is;
  sound = subst (λ (x : List Draft). NoFault x) (sym same) sound;
}
