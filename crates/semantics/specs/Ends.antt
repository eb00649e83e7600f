-- Where the paths of an object end: what stands there, and by which steps one comes to it.
use Rattle.std.specs.Prelude.{ℕ, zero, suc, List, [], ◌∷◌, length, Option, Some, None, slice_get, Bool, false, cond}
use Rattle.semantics_lines.specs.Shapes.{Field, Definition, Registry, definition_at}
use Rattle.semantics_lines.specs.Faults.{Step, field_step}
use Rattle.semantics.specs.Places.{Path, below, is_end, Choice}
use Rattle.semantics.specs.Keys.{Layout}
use Rattle.semantics.specs.Reading.{Part, of_shape, in_parts}

-- what stands at the end of a path, and whether any number of them may
pub record End : Type 0 where
  pub part : Part
  pub many : Bool

-- one thing
abbrev pub one_of : Part → End
one_of p = record { part = p; many = false }

-- one value of a shape
abbrev pub one_shape : ℕ → End
one_shape s = one_of (of_shape s)

-- the end of a path that is at its end
abbrev pub leaf_end : Option End → Path → Option End
leaf_end o [] = o
leaf_end o (k ∷ p) = None

-- the ends of a flattened shape
abbrev pub FlatLeaf : Type 0
FlatLeaf = Option Definition → Choice → Path → Option End

-- of a field: the field itself, or a part of the flattened shape below it
abbrev pub leaf_field : FlatLeaf → Registry → Bool → Choice → Field → Path → Option End
leaf_field inner g whole c f p = cond (in_parts whole f (is_end p)) (inner (definition_at g f.shape) c p) (leaf_end (Some (one_shape f.shape)) p)

-- of a field that is there
abbrev pub leaf_found : FlatLeaf → Registry → Bool → Choice → Option Field → Path → Option End
leaf_found inner g whole c None p = None
leaf_found inner g whole c (Some f) p = leaf_field inner g whole c f p

-- among these fields
abbrev pub leaf_in : FlatLeaf → Registry → Bool → Choice → List Field → Path → Option End
leaf_in inner g whole c fs [] = None
leaf_in inner g whole c fs (k ∷ p) = leaf_found inner g whole (below k c) (slice_get fs k) p

-- Within so many layers. No shape can be flattened yet.
abbrev pub leaf_flat : Registry → Bool → ℕ → FlatLeaf
leaf_flat g whole zero d c p = None
leaf_flat g whole (suc n) d c p = None

-- where the paths of an object end
abbrev pub leaf_at : Registry → Choice → Layout → Path → Option End
leaf_at g c l p = leaf_in (leaf_flat g l.whole (length g)) g l.whole c l.fields p

-- the steps to the parts of a flattened shape, whose variants are chosen
abbrev pub FlatSteps : Type 0
FlatSteps = Option Definition → Choice → Path → List Step

-- the steps to a field, and from there on
abbrev pub steps_found : FlatSteps → Registry → Choice → Option Field → Path → List Step
steps_found inner g c None p = []
steps_found inner g c (Some f) p = field_step f.name ∷ inner (definition_at g f.shape) c p

-- the steps among these fields
abbrev pub steps_in : FlatSteps → Registry → Choice → List Field → Path → List Step
steps_in inner g c fs [] = []
steps_in inner g c fs (k ∷ p) = steps_found inner g (below k c) (slice_get fs k) p

-- Within so many layers. No shape can be flattened yet.
abbrev pub flat_steps : Registry → ℕ → FlatSteps
flat_steps g zero d c p = []
flat_steps g (suc n) d c p = []

-- a path of places, as steps by the declared names
abbrev pub steps_at : Registry → Choice → Layout → Path → List Step
steps_at g c l p = steps_in (flat_steps g (length g)) g c l.fields p

-- a struct whose fields are read, by the number of its shape and the way to it
pub record Owner : Type 0 where
  pub shape : ℕ
  pub path : List Step

-- a field that may have no entry, and the struct that has it
pub record Gap : Type 0 where
  pub field : Field
  pub owner : Owner

-- the field itself, at the end of its path
abbrev pub own_gap : Field → Owner → Path → Option Gap
own_gap f o [] = Some (record { field = f; owner = o })
own_gap f o (k ∷ p) = None

-- what may be absent in a flattened shape, whose field and owner are these
abbrev pub FlatGap : Type 0
FlatGap = Option Definition → Choice → Field → Owner → Path → Option Gap

-- of a field: the field itself, or what may be absent in the flattened shape below it
abbrev pub gap_field : FlatGap → Registry → Choice → Field → Owner → Path → Option Gap
gap_field inner g c f o p = cond f.flattened (inner (definition_at g f.shape) c f o p) (own_gap f o p)

-- of a field that is there
abbrev pub gap_found : FlatGap → Registry → Choice → Owner → Option Field → Path → Option Gap
gap_found inner g c o None p = None
gap_found inner g c o (Some f) p = gap_field inner g c f o p

-- among these fields
abbrev pub gap_in : FlatGap → Registry → Choice → Owner → List Field → Path → Option Gap
gap_in inner g c o fs [] = None
gap_in inner g c o fs (k ∷ p) = gap_found inner g (below k c) o (slice_get fs k) p

-- Within so many layers. No shape can be flattened yet.
abbrev pub gap_flat : Registry → ℕ → FlatGap
gap_flat g zero d c f o p = None
gap_flat g (suc n) d c f o p = None

-- which field may be absent at a path
abbrev pub gap_at : Registry → Choice → Layout → Owner → Path → Option Gap
gap_at g c l o p = gap_in (gap_flat g (length g)) g c o l.fields p
