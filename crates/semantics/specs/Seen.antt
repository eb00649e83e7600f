-- What is seen of the events that come.
use Rattle.std.specs.Prelude.{◌≡◌, List, [], ◌∷◌, ◌++◌, Bool, true, false}
use Rattle.semantics_lines.specs.Events.{Span, scalar, of_sequence, Event, leaf, stop, span_of}
use Rattle.semantics.specs.Runs.{Run, run_events}
use Rattle.semantics.specs.Reading.{is_nothing}

-- where the last of these events stands, behind one that stands there
abbrev pub last_span : Span → List Event → Span
last_span last [] = last
last_span last (e ∷ es) = last_span (span_of e) es

-- the first of these events, where there is one
abbrev pub OnFirst : List Event → (Event → Type 0) → Type 0
OnFirst [] P = ⊥
OnFirst (e ∷ es) P = P e

-- an event that an option takes for nothing
abbrev pub is_nothing_event : Event → Bool
is_nothing_event (leaf (scalar x n)) = is_nothing x
is_nothing_event _ = false

-- the end of a sequence
abbrev pub ends_sequence : Event → Bool
ends_sequence (stop of_sequence n) = true
ends_sequence _ = false

-- The events begin a whole run that isn't ended yet: it goes on with some event.
pub record IsOpen (events : List Event) : Type 0 where
  pub run : Run
  pub next : Event
  pub rest : List Event
  pub goes_on : run_events run ≡ events ++ (next ∷ rest)
