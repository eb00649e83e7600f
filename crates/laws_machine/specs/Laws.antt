-- What holds of the machine.
use Rattle.std.specs.Prelude.{◌≡◌, ℕ, List, [], ◌∷◌, Result, Ok, Err}
use Rattle.semantics_lines.specs.Trees.{Tree}
use Rattle.semantics_lines.specs.Events.{Span, Event, span_of}
use Rattle.semantics_lines.specs.Faults.{Fault, Ending}
use Rattle.semantics_lines.specs.Faults.{ended_at}
use Rattle.semantics.specs.Reading.{Source}
use Rattle.laws_reading.specs.Input.{Input, feed}
use Rattle.laws_reading.specs.Values.{Terms, reading}
use Rattle.laws_machine.specs.Frames.{Frames}
use Rattle.laws_machine.specs.Delivery.{going, complete}
use Rattle.laws_machine.specs.Steps.{step_at}
use Rattle.laws_machine.specs.Machine.{run, machine}

-- The machine reads what the recursion reads, or stops at the same fault.
abbrev pub MachineReads : Type 0
MachineReads = (t : Terms) (n s : ℕ) (source : Source) (input : Input) → machine t n s source input ≡ reading t n s source [] input

-- What a loop over the events keeps, and what it comes to: whatever `told` is.
pub record LoopKeeps (t : Terms) (told : Result (Tree × Input) Fault) (fs : Frames) (ending : Ending) (last : Span) : Type 0 where
  pub ends : run t fs (feed [] ending last) ≡ told → told ≡ Err (ended_at ending last)
  pub goes : (e : Event) (es : List Event) (gs : Frames) → step_at t fs last e ≡ Ok (going gs) → run t fs (feed (e ∷ es) ending last) ≡ told → run t gs (feed es ending (span_of e)) ≡ told
  pub completes : (e : Event) (es : List Event) (v : Tree) → step_at t fs last e ≡ Ok (complete v) → run t fs (feed (e ∷ es) ending last) ≡ told → told ≡ Ok (v, feed es ending (span_of e))
  pub fails : (e : Event) (es : List Event) (f : Fault) → step_at t fs last e ≡ Err f → run t fs (feed (e ∷ es) ending last) ≡ told → told ≡ Err f

-- A loop over the events keeps what it was to come to.
abbrev pub LoopsKeep : Type 0
LoopsKeep = (t : Terms) (told : Result (Tree × Input) Fault) (fs : Frames) (ending : Ending) (last : Span) → LoopKeeps t told fs ending last
