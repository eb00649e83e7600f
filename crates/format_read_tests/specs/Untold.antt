-- A parser that doesn't tell its events, as the tests have one.
use Rattle.std.specs.Prelude.{ℕ, true, List, [], ◌∷◌, length, Option, Some, None}
use Rattle.semantics_lines.specs.Faults.{Fault, io_fault}
use Rattle.event_core.specs.Metadata.{span_view}
use Rattle.event_core.specs.declared.span.Span.{Span}
use Rattle.event_core.specs.declared.event.ParseEvent.{ParseEvent}
use Rattle.format_traits.specs.Parsing.{Parsing}

-- a read failed at this place
abbrev pub io_at : Span → Fault
io_at s = record { kind = io_fault; span = Some (span_view s); path = None }

-- the fault behind the events, where none of them is left
abbrev pub stuck_at : List ParseEvent → Option Fault → Option Fault
stuck_at [] fault = fault
stuck_at (e ∷ es) fault = None

-- these events are left, and then this fault stands, if any
abbrev pub untold : List ParseEvent → Option Fault → ℕ → Parsing
untold es fault faults = record { coming = None; left = length es; faults = faults; describes_itself = true; stuck = stuck_at es fault; saved = None }
