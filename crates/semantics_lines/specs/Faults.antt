-- Faults: what is answered where something can't be read.
use Rattle.std.specs.Prelude.{ℕ, ℤ, List, Option, Some, None}
use Rattle.semantics_lines.specs.Events.{Span, Event}

-- a step from a value to a part of it
pub data Step : Type 0 where
  field_step : List ℕ → Step
  index_step : ℕ → Step
  variant_step : List ℕ → Step

-- a shape, as an error names it
pub record ShapeLabel : Type 0 where
  pub number : ℕ
  pub name : List ℕ

-- why a builder or a setter refused
pub data Refusal : Type 0 where
  uninitialized_field : ShapeLabel → List ℕ → Refusal
  parse_failed : ShapeLabel → List ℕ → Refusal
  no_such_variant : ShapeLabel → List ℕ → Refusal
  no_such_discriminant : ShapeLabel → ℤ → Refusal
  wrong_kind : ShapeLabel → Refusal
  no_default : ShapeLabel → Refusal
  -- the shape, the number that is wanted, and the number that came
  array_length : ShapeLabel → ℕ → ℕ → Refusal
  too_many_elements : ShapeLabel → ℕ → Refusal
  key_form : ShapeLabel → Refusal
  refused_memory : Refusal

-- The kind of a fault, with what its cause names. A shape is named by its number and its name.
-- The texts of what was expected and what came are no part of it.
pub data FaultKind : Type 0 where
  unexpected_char : ℕ → FaultKind
  unexpected_eof : FaultKind
  -- the first bytes of the line
  invalid_utf8 : List ℕ → FaultKind
  unexpected_token : FaultKind
  type_mismatch : ShapeLabel → FaultKind
  shape_mismatch : ShapeLabel → ShapeLabel → FaultKind
  unknown_field : List ℕ → FaultKind
  unknown_variant : List ℕ → ShapeLabel → FaultKind
  no_matching_variant : ShapeLabel → FaultKind
  -- the field, and the shape that has it
  missing_field : List ℕ → ShapeLabel → FaultKind
  -- the key, and where it stood at first
  duplicate_field : List ℕ → Option Span → FaultKind
  -- the number and the name of the type, as they are printed
  number_out_of_range : List ℕ → List ℕ → FaultKind
  invalid_value : FaultKind
  -- the reason, in words
  cannot_borrow : List ℕ → FaultKind
  -- why it was refused, and in which context
  reflect : Refusal → List ℕ → FaultKind
  unsupported : FaultKind
  io_fault : FaultKind
  solver_fault : FaultKind
  validation : FaultKind
  bug : FaultKind
  out_of_memory : FaultKind
  materialize : FaultKind
  -- the shape that no raw input goes into
  raw_capture : ShapeLabel → FaultKind
  -- the depth that was handed in
  too_deep : ℕ → FaultKind

-- a fault, where it arose, and at which part of the value
pub record Fault : Type 0 where
  pub kind : FaultKind
  pub span : Option Span
  pub path : Option (List Step)

-- what stands behind the last event: the end of events, or a fault
pub data Ending : Type 0 where
  ends : Ending
  stops : Fault → Ending

-- the events to come, and what stands behind them
pub record Coming : Type 0 where
  pub events : List Event
  pub ending : Ending

-- what is answered where an event is asked for behind the last one
abbrev pub ended_at : Ending → Span → Fault
ended_at ends last = record { kind = unexpected_eof; span = Some last; path = None }
ended_at (stops f) last = f
