-- A queue of events that were read ahead.
use Rattle.std.specs.Prelude.{ℕ, ◌+◌, ◌-◌, ◌≤◌, ◌≡◌, Bool, false, List, [], ◌∷◌, ◌++◌, length, Option, Some, None}
use Rattle.std.specs.Option.{option_map}
use Rattle.event_core.specs.declared.event.ParseEvent.{ParseEvent}

-- what the queue holds
pub record Queued : Type 0 where
  -- how many events it may hold beyond the furthest one taken
  pub capacity : ℕ
  -- the events that are held and not yet taken
  pub ahead : List ParseEvent
  -- how many of these were taken once, and came back
  pub again : ℕ
  -- the events taken since the save, where one is open
  pub saved : Option (List ParseEvent)

-- no more events are held beyond the furthest one taken
abbrev pub IsBounded : Queued → Type 0
IsBounded q = length q.ahead ≤ q.again + q.capacity

abbrev pub empty_queue : ℕ → Queued
empty_queue capacity = record { capacity = capacity; ahead = []; again = 0; saved = None }

-- the queue with more events at its end
abbrev pub filled_by : List ParseEvent → Queued → Queued
filled_by batch q = record q { ahead = q.ahead ++ batch }

-- this event was taken: it leaves those ahead, and is kept where a save is open
pub record Took (event : ParseEvent) (old new : Queued) : Type 0 where
  pub ahead : old.ahead ≡ event ∷ new.ahead
  pub saved : new.saved ≡ option_map (λ taken. taken ++ (event ∷ [])) old.saved
  pub again : new.again ≡ old.again - 1
  pub capacity : new.capacity ≡ old.capacity

-- the events taken since the save come again, and the save is closed
abbrev pub came_back : List ParseEvent → Queued → Queued
came_back taken q = record q { ahead = taken ++ q.ahead; again = length taken + q.again; saved = None }

-- How a deque with a cursor holds a queue: the cursor stands in it, and at its front where no save is open.
pub record IsHeld (at again capacity : ℕ) (saving : Bool) (events : List ParseEvent) : Type 0 where
  pub within : at ≤ length events
  pub plain : saving ≡ false → at ≡ 0
  pub bounded : length events ≤ at + (again + capacity)
  pub again_within : again + at ≤ length events
