-- What a parser puts into a buffer.
use Rattle.std.specs.Prelude.{ℕ, ◌≤◌, ◌<◌, ◌≡◌, ◌⊎◌, List, ◌++◌, length, map}
use Rattle.event_core.specs.Events.{event_of}
use Rattle.event_core.specs.declared.event.ParseEvent.{ParseEvent}
use Rattle.event_core.specs.declared.error.ParseError.{ParseError}
use Rattle.format_traits.specs.Parsing.{Parsing, Gave, FailedAfter, Met, IsMemory}

-- this many events were given, and put behind those that the buffer held
pub record Put (count : ℕ) (old new : Parsing) (held now : List ParseEvent) : Type 0 where
  pub given : List ParseEvent
  pub items : now ≡ held ++ given
  pub length_is : length given ≡ count
  pub gave : Gave (map event_of given) old new

-- at most this many events were given and put there, and then the call was refused
pub record PutBefore (limit : ℕ) (e : ParseError) (old new : Parsing) (held now : List ParseEvent) : Type 0 where
  pub given : List ParseEvent
  pub items : now ≡ held ++ given
  pub within : length given ≤ limit
  pub failed : FailedAfter (map event_of given) old new
  pub fault : IsMemory e ⊎ ((length given < limit) × Met (map event_of given) e old new)
