-- What is wrong with a shape text, as the definitions see it.
use Rattle.std.specs.Prelude.{ℕ, List}
use Rattle.semantics.specs.CheckedText.{IsShapeTextFault}
use Rattle.shape_lines.specs.declared.shape_fault.ReadShapesError.{ReadShapesError}
use Rattle.shape_lines.specs.declared.shape_fault.ReadShapesError.TheVariants as error
use Rattle.shape_lines.specs.ShapeErrors.{text_kind}

-- it is the first fault of the text, or memory ran out
abbrev pub IsReadShapesError : List ℕ → ReadShapesError → Type 0
IsReadShapesError text (error.Fault fault) = IsShapeTextFault text fault.line (text_kind fault.kind)
IsReadShapesError text error.Alloc = Unit {0}
