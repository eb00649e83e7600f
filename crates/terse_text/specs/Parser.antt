-- The parser as its callers see it.
use Rattle.std.specs.Prelude.{◌≡◌, ℕ, Bool, true, false, List, [], ◌∷◌, ◌++◌, length, None}
use Rattle.event_core.specs.Events.{event_of}
use Rattle.event_core.specs.declared.event.ParseEvent.{ParseEvent}
use Rattle.format_traits.specs.Parsing.{Parsing, Gave, EndAfter, telling}
use Rattle.terse_text.specs.Terse.{coming_from}

-- the length of the text, what is left of it, and how many faults were met
pub record Terse : Type 0 where
  pub len : ℕ
  pub rest : List ℕ
  pub faults : ℕ

-- It tells its events. Each takes one byte.
abbrev pub parsing_of : Terse → Parsing
parsing_of t = telling (coming_from t.len t.rest) (length t.rest) t.faults None

-- an event was given and put after those that the buffer held, or none was left
abbrev pub PutNext : Bool → Parsing → Parsing → List ParseEvent → List ParseEvent → Type 0
PutNext true old new held now = (e : ParseEvent) × (now ≡ held ++ (e ∷ [])) × Gave (event_of e ∷ []) old new
PutNext false old new held now = (now ≡ held) × Gave [] old new × EndAfter [] new
