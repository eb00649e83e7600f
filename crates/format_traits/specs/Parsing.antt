-- What a parser has still to give, and what its calls do to that.
use Rattle.std.specs.Prelude.{ℕ, ◌+◌, ◌-◌, ◌^◌, ◌≤◌, ◌≡◌, ◌⊎◌, Bool, true, List, [], ◌∷◌, ◌++◌, length, min, Option, Some, None, Result, IfErr, IfSome, slice_get}
use Rattle.std.specs.Option.{option_map}
use Rattle.semantics_lines.specs.Events.{Event}
use Rattle.semantics_lines.specs.Faults.{Fault, out_of_memory, Ending, ends, stops, Coming}
use Rattle.event_core.specs.Events.{event_of}
use Rattle.event_core.specs.Faults.{fault_kind_of, parse_fault}
use Rattle.event_core.specs.declared.event.ParseEvent.{ParseEvent}
use Rattle.event_core.specs.declared.error.ParseError.{ParseError}

-- what an open save point brings back
pub record Saved : Type 0 where
  pub id : ℕ
  pub coming : Option Coming
  pub left : ℕ
  pub stuck : Option Fault

-- a parser as its callers see it
pub record Parsing : Type 0 where
  -- the events to come and their ending, where the parser tells them
  pub coming : Option Coming
  -- a number that falls with each event given
  pub left : ℕ
  -- how many faults it has met
  pub faults : ℕ
  pub describes_itself : Bool
  -- the fault that it stands at, which comes again
  pub stuck : Option Fault
  pub saved : Option Saved

-- these events, and then those
abbrev pub preceded : List Event → Coming → Coming
preceded given c = record { events = given ++ c.events; ending = c.ending }

-- the same where the events are told
abbrev pub before : List Event → Option Coming → Option Coming
before given None = None
before given (Some c) = Some (preceded given c)

-- a parser that stands at a fault gives nothing, and stays there
abbrev pub Stays : List Event → Option Fault → Option Fault → Type 0
Stays given old new = IfSome old (λ f. (given ≡ []) × (new ≡ Some f))

-- a call that gave these events
pub record Gave (given : List Event) (old new : Parsing) : Type 0 where
  pub coming : before given new.coming ≡ old.coming
  pub left : new.left + length given ≤ old.left
  pub stuck : Stays given old.stuck new.stuck
  pub describes_itself : new.describes_itself ≡ old.describes_itself
  pub saved : new.saved ≡ old.saved

-- a call that gave these events and then was refused: what comes now is the end of what was to come
pub record FailedAfter (given : List Event) (old new : Parsing) : Type 0 where
  pub lost : List Event
  pub coming : before (given ++ lost) new.coming ≡ old.coming
  pub left : new.left + length given ≤ old.left
  pub stuck : Stays given old.stuck new.stuck
  pub describes_itself : new.describes_itself ≡ old.describes_itself
  pub saved : new.saved ≡ old.saved

-- a call that was refused
abbrev pub Failed : Parsing → Parsing → Type 0
Failed old new = FailedAfter [] old new

-- these events come, and then the end
pub record EndAfter (given : List Event) (p : Parsing) : Type 0 where
  pub coming : IfSome p.coming (λ c. c ≡ record { events = given; ending = ends })
  pub stuck : p.stuck ≡ None

-- these events come, and then this fault
pub record FaultAfter (given : List Event) (fault : Fault) (p : Parsing) : Type 0 where
  pub coming : IfSome p.coming (λ c. c ≡ record { events = given; ending = stops fault })

-- this error is the fault that stood behind these events, and the parser stands there now
pub record Met (given : List Event) (e : ParseError) (old new : Parsing) : Type 0 where
  pub fault : FaultAfter given (parse_fault e) old
  pub stuck : new.stuck ≡ Some (parse_fault e)

-- the next event is this one, or there is none
abbrev pub IsNext : Option ParseEvent → Parsing → Type 0
IsNext event p = IfSome p.coming (λ c. slice_get c.events 0 ≡ option_map event_of event)

-- memory ran out
abbrev pub IsMemory : ParseError → Type 0
IsMemory e = fault_kind_of e.kind ≡ out_of_memory

-- the count rose, or it stands at its last value
abbrev pub Rose : ℕ → ℕ → Type 0
Rose old new = min (old + 1) (2 ^ 64 - 1) ≤ new

-- a fault is answered only where one was met
pub record HasCause {T : Type 0} (old new : ℕ) (result : Result T ParseError) : Type 0 where
  pub later : old ≤ new
  pub fault : IfErr result (λ e. IsMemory e ⊎ Rose old new)

-- the fault behind the events, where there is one
abbrev pub ending_fault : Ending → Option Fault
ending_fault ends = None
ending_fault (stops f) = Some f

-- the fault that comes with no event before it
abbrev pub first_fault : List Event → Ending → Option Fault
first_fault [] ending = ending_fault ending
first_fault (e ∷ es) ending = None

-- a parser that tells its events and describes itself
abbrev pub telling : Coming → ℕ → ℕ → Option Saved → Parsing
telling c left faults saved = record { coming = Some c; left = left; faults = faults; describes_itself = true; stuck = first_fault c.events c.ending; saved = saved }
