-- Faults of what is read.
use Rattle.std.specs.Prelude.{ℕ, List, [], ◌∷◌, ◌++◌, Option, Some, None}
use Rattle.semantics_lines.specs.Shapes.{Field}
use Rattle.semantics_lines.specs.Events.{Span}
use Rattle.semantics_lines.specs.Faults.{ShapeLabel, Step, field_step, FaultKind, bug, array_length, reflect, Fault}
use Rattle.laws_reading.specs.Values.{Terms}
use Rattle.laws_machine.specs.Frames.{Frames, path}

-- a fault of what is read inside these frames
abbrev pub fault_in : Terms → Frames → FaultKind → Span → Fault
fault_in t fs kind span = record { kind = kind; span = Some span; path = Some (path t fs) }

-- the step to a field, where it is there
abbrev pub with_field_step : Option Field → List Step → List Step
with_field_step None p = p
with_field_step (Some f) p = p ++ (field_step f.name ∷ [])

-- an array has another number of items, which a list never has
abbrev pub length_fault_in : Terms → Frames → Option ℕ → ShapeLabel → ℕ → Span → Fault
length_fault_in t fs None shape got span = fault_in t fs bug span
length_fault_in t fs (Some wanted) shape got span = fault_in t fs (reflect (array_length shape wanted got) []) span
