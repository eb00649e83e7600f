-- What fills a struct or a tuple whose parts are absent, as the code fills it.
use Rattle.std.specs.Prelude.{ℕ, ◌+◌, List, [], ◌∷◌, ◌++◌, length, drop, Option, Some, None, Result, Ok}
use Rattle.semantics_lines.specs.Trees.{Tree}
use Rattle.semantics_lines.specs.Shapes.{Field, Registry, definition_at}
use Rattle.semantics_lines.specs.Events.{Span}
use Rattle.semantics_lines.specs.Faults.{ShapeLabel, Step, missing_field, Fault}
use Rattle.semantics.specs.Labels.{label_at}
use Rattle.semantics.specs.Places.{At, below}
use Rattle.semantics.specs.Reading.{absent}
use Rattle.laws_reading.specs.Input.{◌>>=◌, refused, never}
use Rattle.laws_reading.specs.Structs.{Told}
use Rattle.laws_reading.specs.Tuples.{filled_from}
use Rattle.laws_machine.specs.Delivery.{here}
use Rattle.read_steps.specs.Filled.{Taken, nothing, once, twice, taken_of}
use Rattle.read_steps.specs.Tasks.{fields_at}

abbrev pub or_missing : Option Tree → Field → ShapeLabel → List Step → Span → Result Tree Fault
or_missing None f shape p span = refused (missing_field f.name shape) p (here span)
or_missing (Some v) f shape p span = Ok v

-- what an absent field holds
abbrev pub absent_value : Registry → Field → ℕ → List Step → Span → Result Tree Fault
absent_value g f shape p span = or_missing (absent (definition_at g f.shape)) f (label_at g shape) p span

-- the value of a field
abbrev pub own_value : Registry → Field → ℕ → Taken → List Step → Span → Result Tree Fault
own_value g f shape nothing p span = absent_value g f shape p span
own_value g f shape (once v) p span = Ok v
own_value g f shape twice p span = never p (here span)

-- the values of these fields, the first of which has place k, behind those in front
abbrev pub values_from : Registry → List Field → ℕ → ℕ → List Tree → List (At Told) → List Step → Span → Result (List Tree) Fault
values_from g [] shape k front got p span = Ok front
values_from g (f ∷ fs) shape k front got p span = own_value g f shape (taken_of (below k got)) p span >>= λ v. values_from g fs shape (k + 1) (front ++ (v ∷ [])) got p span

-- the items of a tuple, of which those in front came
abbrev pub filled_at : Registry → ℕ → List Tree → List Step → Span → Result (List Tree) Fault
filled_at g shape front p span = filled_from g (label_at g shape) (drop (length front) (fields_at g shape)) front p (here span)
