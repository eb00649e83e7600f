-- What a call of a serializer does.
use Rattle.std.specs.Prelude.{◌≡◌, ◌≤◌, ℕ, List, [], ◌∷◌, Result, Ok, Err}
use Rattle.semantics_lines.specs.Calls.{Call, Settings}
use Rattle.format_traits.specs.Parsing.{Rose}
use Rattle.format_traits.specs.declared.serializer.WriteStop.{WriteStop}
use Rattle.format_traits.specs.declared.serializer.WriteStop.TheVariants.{Alloc, Fault}

-- a serializer as its callers see it
pub record Writing : Type 0 where
  -- how it wants values written
  pub settings : Settings
  -- how many faults it has met
  pub faults : ℕ

-- the settings stay, and the count of faults doesn't fall
pub record Kept (old new : Writing) : Type 0 where
  pub settings : new.settings ≡ old.settings
  pub later : old.faults ≤ new.faults

-- why a call may be refused
abbrev pub Stops : {E : Type 0} → Writing → Writing → WriteStop E → Type 0
Stops old new Alloc = Unit {0}
Stops old new (Fault e) = Rose old.faults new.faults

-- the call was made, or nothing was
abbrev pub Answers : {E : Type 0} → (List Call → Type 0) → Writing → Writing → Call → Result (Unit {0}) (WriteStop E) → Type 0
Answers made old new call (Ok _) = made (call ∷ []) × Kept old new
Answers made old new call (Err stop) = made [] × Kept old new × Stops old new stop
