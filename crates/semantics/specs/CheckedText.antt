-- The shapes that a text describes by the rules of the registry, and the first fault of a text that describes none.
use Rattle.std.specs.Prelude.{◌≡◌, ℕ, ◌+◌, List, ◌∷◌, ◌++◌, length, false, IsTrue}
use Rattle.std.specs.List.{list_all}
use Rattle.semantics_lines.specs.Shapes.{Draft}
use Rattle.semantics_lines.specs.ShapeFaults.{ShapeFault}
use Rattle.semantics.specs.Registry.{NoFault, IsFirstFault}
use Rattle.semantics_lines.specs.ShapeLines.{ShapeLine}
use Rattle.semantics_lines.specs.ShapeText.{lines_before, shape_text, is_head, shape_count, AreLines, all_names, is_known, shapes_of, ShapeTextKind, unknown_ref, check, IsRefusedBehind}

-- The text describes these shapes, and nothing is wrong with it.
pub record IsShapeText (text : List ℕ) (shapes : List Draft) : Type 0 where
  pub lines : List ShapeLine
  pub whole : text ≡ shape_text lines
  pub good : AreLines lines
  pub known : IsTrue (list_all (is_known (all_names lines)) lines)
  pub described : shapes ≡ shapes_of lines
  pub sound : NoFault shapes

-- The first fault of a text, with its line, counted from 1. First come faults of lines alone, then references, and
-- then the rules of the registry, which are answered where the shape begins that breaks one.
pub data IsShapeTextFault (text : List ℕ) (line : ℕ) (kind : ShapeTextKind) : Type 0 where
  at_line : (before : List ShapeLine) (left : List ℕ) → text ≡ lines_before before left → AreLines before
      → IsRefusedBehind before left kind → line ≡ length before + 1 → IsShapeTextFault text line kind
  at_reference : (before after : List ShapeLine) (l : ShapeLine) (names : List (List ℕ)) → text ≡ shape_text (before ++ (l ∷ after))
      → AreLines (before ++ (l ∷ after)) → names ≡ all_names (before ++ (l ∷ after))
      → IsTrue (list_all (is_known names) before) → is_known names l ≡ false
      → line ≡ length before + 1 → kind ≡ unknown_ref → IsShapeTextFault text line kind
  at_head : (before after : List ShapeLine) (l : ShapeLine) (fault : ShapeFault) → text ≡ shape_text (before ++ (l ∷ after))
      → AreLines (before ++ (l ∷ after))
      → IsTrue (list_all (is_known (all_names (before ++ (l ∷ after)))) (before ++ (l ∷ after)))
      → IsFirstFault (shapes_of (before ++ (l ∷ after))) fault → IsTrue (is_head l) → fault.shape ≡ shape_count before
      → line ≡ length before + 1 → kind ≡ check fault → IsShapeTextFault text line kind
