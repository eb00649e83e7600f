-- What the parts of reading a shape text give.
use Rattle.std.specs.Prelude.{◌≡◌, ℕ, ◌+◌, ◌<◌, ◌≤◌, List, [], ◌∷◌, ◌++◌, length, map, IsTrue}
use Rattle.semantics_lines.specs.Shapes.{Draft}
use Rattle.semantics_lines.specs.Scalars.{scalar_drafts}
use Rattle.semantics_lines.specs.ShapeFaults.{shape_limit}
use Rattle.semantics_lines.specs.ShapeLines.{ShapeLine}
use Rattle.semantics_lines.specs.ShapeText.{spelled_before, lines_before, shape_text, is_head, shape_names, shape_count, AreLines, Scope, drafts_said, too_many, IsRefusedBehind}
use Rattle.shape_types.specs.Builder.{named}
use Rattle.shape_lines.specs.declared.shape_fault.ShapeTextFault.{ShapeTextFault}
use Rattle.shape_lines.specs.declared.shape_fault.ReadShapesError.{ReadShapesError}
use Rattle.shape_lines.specs.declared.shape_fault.ReadShapesError.TheVariants as error
use Rattle.shape_lines.specs.ShapeErrors.{text_kind}

-- the scalars, and then the shapes of the lines, still to be defined
abbrev pub named_drafts : List ShapeLine → List Draft
named_drafts ls = scalar_drafts ++ map named (shape_names ls)

-- there was room, and the shape has its number
pub record IsNamed (ls : List ShapeLine) (name : List ℕ) (drafts : List Draft) : Type 0 where
  pub room : shape_count ls < shape_limit
  pub are : drafts ≡ named_drafts ls ++ named name ∷ []

-- there was no room behind these lines
pub record IsFullAt (ls : List ShapeLine) (fault : ShapeTextFault) : Type 0 where
  pub full : shape_count ls ≡ shape_limit
  pub kind : text_kind fault.kind ≡ too_many
  pub at : fault.line ≡ length ls + 1

abbrev pub IsFull : List ShapeLine → ReadShapesError → Type 0
IsFull ls (error.Fault fault) = IsFullAt ls fault
IsFull ls error.Alloc = Unit {0}

-- what is left begins with a line that can't stand behind these
pub record IsFaultBehind (ls : List ShapeLine) (left : List ℕ) (fault : ShapeTextFault) : Type 0 where
  pub refused : IsRefusedBehind ls left (text_kind fault.kind)
  pub at : fault.line ≡ length ls + 1

-- the line can't stand behind these
abbrev pub IsPlaceFault : List ShapeLine → ShapeLine → ReadShapesError → Type 0
IsPlaceFault ls l (error.Fault fault) = (rest : List ℕ) → IsFaultBehind ls (spelled_before l rest) fault
IsPlaceFault ls l error.Alloc = Unit {0}

-- the text is these lines
pub record AreLinesOf (text : List ℕ) (ls : List ShapeLine) : Type 0 where
  pub whole : text ≡ shape_text ls
  pub good : AreLines ls

-- a line that can't stand where it does
pub record IsFirstRefused (text : List ℕ) (fault : ShapeTextFault) : Type 0 where
  pub before : List ShapeLine
  pub left : List ℕ
  pub whole : text ≡ lines_before before left
  pub good : AreLines before
  pub here : IsFaultBehind before left fault

abbrev pub IsLineFault : List ℕ → ReadShapesError → Type 0
IsLineFault text (error.Fault fault) = IsFirstRefused text fault
IsLineFault text error.Alloc = Unit {0}

-- The shapes of the first lines are defined, those of the others still named alone; `number` is that of the next.
pub record Defining (scope : Scope) (before after : List ShapeLine) (drafts : List Draft) (number : ℕ) : Type 0 where
  pub done : List Draft
  pub are : drafts ≡ scalar_drafts ++ (done ++ map named (shape_names after))
  pub count : number ≡ 17 + length done
  pub few : number + length (shape_names after) ≤ shape_limit
  pub whole : done ++ drafts_said scope after ≡ drafts_said scope (before ++ after)

-- the shape of this number begins at this line
pub record IsHeadAt (ls : List ShapeLine) (number line : ℕ) : Type 0 where
  pub before : List ShapeLine
  pub here : ShapeLine
  pub after : List ShapeLine
  pub are : ls ≡ before ++ (here ∷ after)
  pub head : IsTrue (is_head here)
  pub count : number ≡ shape_count before
  pub at : line ≡ length before + 1
