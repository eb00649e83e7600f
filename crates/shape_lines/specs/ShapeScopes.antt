-- What is known of the shapes of a text, as the definitions see it.
use Rattle.std.specs.Prelude.{◌≡◌, ℕ, ◌+◌, List, ◌∷◌, ◌++◌, length, map, Bool, false, Option, None, Some, IsTrue}
use Rattle.std.specs.List.{list_all}
use Rattle.semantics_lines.specs.Shapes.{StructKind, Field, Definition, struct_shape}
use Rattle.semantics_lines.specs.Scalars.{scalar_drafts}
use Rattle.semantics_lines.specs.ShapeLines.{ShapeLine, item_line, field_line}
use Rattle.semantics_lines.specs.ShapeText as text
use Rattle.shape_lines.specs.declared.shape_names.Scope.{Scope}
use Rattle.shape_lines.specs.declared.shape_fault.ShapeTextFault.{ShapeTextFault}
use Rattle.shape_lines.specs.declared.shape_fault.ReadShapesError.{ReadShapesError}
use Rattle.shape_lines.specs.declared.shape_fault.ReadShapesError.TheVariants as error
use Rattle.shape_lines.specs.ShapeErrors.{text_kind}

abbrev pub scope_view : Scope → text.Scope
scope_view s = record { names = s.names.now; maps = s.maps.now }

-- the scalars are no maps
abbrev pub scalar_maps : List Bool
scalar_maps = map text.no_map scalar_drafts

-- for each shape by its number, whether it is a map
abbrev pub all_maps : List ShapeLine → List Bool
all_maps ls = scalar_maps ++ text.shape_maps ls

-- the item or the field of a line, at this place
abbrev pub member_said : text.Scope → ℕ → ShapeLine → Option Field
member_said scope at (item_line shape) = Some (text.item_said scope at shape)
member_said scope at (field_line f) = Some (text.field_said scope f)
member_said scope at _ = None

-- a struct of these fields
abbrev pub struct_said : StructKind → List Field → Bool → Bool → Bool → Definition
struct_said kind fields deny default container = struct_shape (record { kind = kind; fields = fields; deny = deny; default = text.struct_default default; container = container })

-- where the first line stands that refers to a shape which isn't there
pub record IsFirstUnknown (names : List (List ℕ)) (ls : List ShapeLine) (fault : ShapeTextFault) : Type 0 where
  pub before : List ShapeLine
  pub here : ShapeLine
  pub after : List ShapeLine
  pub are : ls ≡ before ++ (here ∷ after)
  pub known : IsTrue (list_all (text.is_known names) before)
  pub unknown : text.is_known names here ≡ false
  pub at : fault.line ≡ length before + 1
  pub kind : text_kind fault.kind ≡ text.unknown_ref

-- the fault of a reference
abbrev pub IsReferenceFault : List (List ℕ) → List ShapeLine → ReadShapesError → Type 0
IsReferenceFault names ls (error.Fault fault) = IsFirstUnknown names ls fault
IsReferenceFault names ls error.Alloc = Unit {0}
