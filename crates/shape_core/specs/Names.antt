-- Which names stand twice, and the number of the shape of a name.
use Rattle.std.specs.Prelude.{◌≡◌, ℕ, List, [], ◌∷◌, length, map, take, Bool, Some, None, slice_get, bytes_eq, if◌then◌else◌}
use Rattle.std.specs.List.{list_any, position, cons_option}
use Rattle.std.specs.Option.{option_or}
use Rattle.std.specs.Borrow.{Bor}
use Rattle.std.specs.BTreeMap.{BTreeMap, get_by_text}
use Rattle.std.specs.declared.string.String.{String}
use Rattle.std.specs.declared.alloc.Global.{Global}
use Rattle.semantics_lines.specs.Shapes.{Field, effective_name}
use Rattle.semantics.specs.Registry.{IsRegistry}
use Rattle.shape_types.specs.Shapes.{registry}
use Rattle.shape_types.specs.declared.draft.Draft.{Draft}
use Rattle.shape_types.specs.declared.shape.Shape.{Shape}

-- some texts, in bytes
abbrev pub texts : List (Bor (List ℕ)) → List (List ℕ)
texts rs = map (λ r. r.now) rs

-- the texts of the keys of one field
abbrev pub own_texts : Field → List (List ℕ)
own_texts f = effective_name f ∷ cons_option f.alias []

-- for each shape, whether an earlier one has its name
pub record AreRepeats (ds : List Draft) (repeats : List Bool) : Type 0 where
  pub all : length repeats ≡ length ds
  pub each : (i : ℕ) (b : Bool) → slice_get repeats i ≡ Some b → (d : Draft) → slice_get ds i ≡ Some d → b ≡ list_any (λ e. bytes_eq e.name d.name) (take i ds)

-- a table with one name more, whose number is kept where it has one
abbrev pub IsNumbered : BTreeMap (String Global) ℕ → List ℕ → ℕ → BTreeMap (String Global) ℕ → Type 0
IsNumbered old name number new = (q : List ℕ) → get_by_text new q ≡ option_or (get_by_text old q) (if bytes_eq name q then Some number else None)

-- by its name the table finds the first shape that has it
abbrev pub FindsShapes : BTreeMap (String Global) ℕ → List Shape → Type 0
FindsShapes numbers shapes = (q : List ℕ) → get_by_text numbers q ≡ position (λ s. bytes_eq s.name q) shapes

-- what is kept of a registry: it keeps every rule, and its table finds its shapes
pub record AreShapes (shapes : List Shape) (numbers : BTreeMap (String Global) ℕ) : Type 0 where
  pub rules : IsRegistry (registry shapes)
  pub finds : FindsShapes numbers shapes
