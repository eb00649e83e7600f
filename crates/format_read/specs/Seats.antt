-- What a deserializer has still to read, and what its calls do to that.
use Rattle.std.specs.Prelude.{◌≡◌, ◌≢◌, ◌≤◌, ◌⊎◌, ℕ, zero, suc, ◌+◌, List, [], ◌++◌, length, map, Option, Some, None}
use Rattle.semantics_lines.specs.Shapes.{Registry}
use Rattle.semantics_lines.specs.Events.{Span, Event}
use Rattle.semantics_lines.specs.Faults.{unexpected_eof, Fault, ends, Coming}
use Rattle.event_core.specs.Events.{event_of}
use Rattle.event_core.specs.Metadata.{span_view}
use Rattle.event_core.specs.Queued.{Queued}
use Rattle.event_core.specs.declared.span.Span.{Span as DeclaredSpan}
use Rattle.format_traits.specs.Parsing.{Parsing, before, Rose}
use Rattle.laws_reading.specs.Input.{Input, feed}

-- what it was made with: which parser, the registry, and the depth
pub record Owner : Type 0 where
  pub parser : ℕ
  pub registry : Registry
  pub depth : ℕ

-- what no call changes: that, and how many events may be read ahead
pub record Place : Type 0 where
  pub owner : Owner
  pub capacity : ℕ

-- a deserializer as its callers see it
pub record Seat : Type 0 where
  -- the events to come, their ending, and where the last one that was taken stands; no events where the parser doesn't
  -- tell them, or where none may be read ahead
  pub input : Input
  -- a number that falls with each event taken
  pub left : ℕ
  -- how many events the parser has given beyond the last one that was taken
  pub ahead : ℕ
  -- how many faults the parser has met
  pub faults : ℕ
  pub place : Place

-- nothing comes
abbrev pub nothing_comes : Coming
nothing_comes = record { events = []; ending = ends }

abbrev pub told_or_nothing : Option Coming → Coming
told_or_nothing None = nothing_comes
told_or_nothing (Some c) = c

-- The events that were read ahead, and then the parser's. Nothing comes where the parser doesn't tell, and at capacity 0.
abbrev pub coming_by : ℕ → Parsing → Queued → Coming
coming_by zero p q = nothing_comes
coming_by (suc n) p q = told_or_nothing (before (map event_of q.ahead) p.coming)

abbrev pub fed : Coming → Span → Input
fed c last = feed c.events c.ending last

abbrev pub seat_of : Parsing → Owner → Queued → DeclaredSpan → Seat
seat_of p owner q last = record {
  input = fed (coming_by q.capacity p q) (span_view last);
  left = p.left + length q.ahead;
  ahead = length q.ahead;
  faults = p.faults;
  place = record { owner = owner; capacity = q.capacity };
}

-- the parser has given no more events beyond the last one taken than may be read ahead
abbrev pub IsWithin : Seat → Type 0
IsWithin s = s.ahead ≤ s.place.capacity

-- Some events were taken, and the rest is left as it was.
pub record IsLeft (old new : Seat) : Type 0 where
  pub taken : List Event
  pub cut : old.input.events ≡ taken ++ new.input.events
  pub ending : new.input.ending ≡ old.input.ending
  pub left : new.left ≤ old.left
  pub within : IsWithin old → IsWithin new
  pub faults : old.faults ≤ new.faults
  pub place : new.place ≡ old.place

-- A fault is the reader's own, with a path, or comes behind the last event of a parser that told its end, or the parser's
-- count of faults rose. Want of memory has no cause.
abbrev pub HasSource : Option Fault → Seat → Seat → Type 0
HasSource None old new = Unit {0}
HasSource (Some f) old new = (f.path ≢ None) ⊎ ((f.kind ≡ unexpected_eof) × (old.input.ending ≡ ends)) ⊎ Rose old.faults new.faults
