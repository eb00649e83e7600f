-- What may be wrong with a shape of a registry.
use Rattle.std.specs.Prelude.{ℕ}

-- The kinds of faults, in their order.
pub data ShapeFaultKind : Type 0 where
  undefined : ShapeFaultKind
  repeated_shape_name : ShapeFaultKind
  repeated_name : ShapeFaultKind
  bad_default : ShapeFaultKind
  bad_skip : ShapeFaultKind
  bad_flatten : ShapeFaultKind
  step_cycle : ShapeFaultKind
  bad_container : ShapeFaultKind
  bad_enum : ShapeFaultKind
  too_many_choices : ShapeFaultKind
  too_many : ShapeFaultKind
  not_built : ShapeFaultKind

-- a shape, by its number, and the rule that it breaks
pub record ShapeFault : Type 0 where
  pub shape : ℕ
  pub kind : ShapeFaultKind

-- how many shapes a registry holds at most, and how many fields a struct or variants an enum
abbrev pub shape_limit : ℕ
shape_limit = 65535
