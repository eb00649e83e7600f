-- A parser of a tape: what it still gives, and what stands at a place of its input.
use Rattle.std.specs.Prelude.{◌≡◌, ◌⊎◌, ◌<◌, ◌≤◌, ℕ, ◌-◌, Bool, true, false, List, [], ◌∷◌, ◌++◌, drop, length, Option, Some, None, Result, Ok, Err}
use Rattle.semantics_lines.specs.Faults.{ends, stops, Coming}
use Rattle.event_core.specs.Events.{event_of}
use Rattle.event_core.specs.Faults.{parse_fault}
use Rattle.event_core.specs.declared.event.ParseEvent.{ParseEvent}
use Rattle.event_core.specs.declared.error.ParseError.{ParseError}
use Rattle.format_traits.specs.Parsing.{Parsing, Gave, EndAfter, IsMemory, telling}
use Rattle.tape_text.specs.declared.line.Stop.{Stop}
use Rattle.tape_text.specs.declared.line.Stop.TheVariants.{NoMemory, Bad}
use Rattle.tape_text.specs.Coming.{good, bad, judged, before, only, coming_from}

-- a parser of a tape: its input, how much of it is taken, and how many faults were met
pub record Tape : Type 0 where
  pub input : List ℕ
  pub at : ℕ
  pub faults : ℕ

-- what comes from a place of an input
abbrev pub coming_at : List ℕ → ℕ → Coming
coming_at input at = coming_from at (drop at input)

-- Each event takes at least one byte, its line feed.
abbrev pub parsing_of : Tape → Parsing
parsing_of t = telling (coming_at t.input t.at) (length t.input - t.at) t.faults None

-- a line that stands there was judged so, unless memory ran out
abbrev pub JudgesLine : ℕ → List ℕ → Result ParseEvent Stop → Type 0
JudgesLine at line (Ok e) = judged at line ≡ good (event_of e)
JudgesLine at line (Err NoMemory) = Unit {0}
JudgesLine at line (Err (Bad e)) = judged at line ≡ bad (parse_fault e)

-- what stands at a place of an input: an event, with the place behind its line, or the end
abbrev pub FindsAt : List ℕ → ℕ → Option (ParseEvent × ℕ) → Type 0
FindsAt input at (Some found) = (at < found.1) × (found.1 ≤ length input) × (coming_at input at ≡ before (event_of found.0) (coming_at input found.1))
FindsAt input at None = coming_at input at ≡ only ends

-- the fault that stands at a place of an input
abbrev pub FaultsAt : List ℕ → ℕ → ParseError → Type 0
FaultsAt input at e = coming_at input at ≡ only (stops (parse_fault e))

-- what stands at a place, unless memory ran out
abbrev pub StandsAt : List ℕ → ℕ → Result (Option (ParseEvent × ℕ)) Stop → Type 0
StandsAt input at (Ok found) = FindsAt input at found
StandsAt input at (Err NoMemory) = Unit {0}
StandsAt input at (Err (Bad e)) = FaultsAt input at e

-- the same of a parser's answer
abbrev pub LooksAt : List ℕ → ℕ → Result (Option (ParseEvent × ℕ)) ParseError → Type 0
LooksAt input at (Ok found) = FindsAt input at found
LooksAt input at (Err e) = IsMemory e ⊎ FaultsAt input at e

-- an event was given and put behind those that the buffer held, or none was left
abbrev pub PutNext : Bool → Parsing → Parsing → List ParseEvent → List ParseEvent → Type 0
PutNext true old new held now = (e : ParseEvent) × (now ≡ held ++ (e ∷ [])) × Gave (event_of e ∷ []) old new
PutNext false old new held now = (now ≡ held) × Gave [] old new × EndAfter [] new
