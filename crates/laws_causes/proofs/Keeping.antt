-- How the parts that are open stand in one another, and what each step has to keep.
use Rattle.std.specs.Prelude.{◌≡◌, ℕ, suc, List, [], ◌∷◌, ◌++◌, Some, None, Bool, true, false, Ok, Err}
use Rattle.semantics_lines.specs.Shapes.{transparent_shape, definition_at}
use Rattle.semantics_lines.specs.Events.{Note, Key, key, of_struct, ContainerKind, Event, leaf, start}
use Rattle.semantics_lines.specs.Faults.{Fault}
use Rattle.semantics.specs.Runs.{Run, run_events, Entry, entries_events}
use Rattle.semantics.specs.Reading.{of_shape}
use Rattle.semantics.specs.Seen.{IsOpen}
use Rattle.semantics_causes.specs.Taken.{in_passed, Took}
use Rattle.semantics_causes.specs.Due.{Part, inner_part}
use Rattle.semantics_causes.specs.Refusals.{HasOwnCause}
use Rattle.laws_reading.specs.Skips.{Opened}
use Rattle.laws_reading.specs.Values.{Terms}
use Rattle.laws_machine.specs.Frames.{Frame, passing, Frames}
use Rattle.laws_machine.specs.Delivery.{going, complete, Steps}
use Rattle.laws_causes.proofs.Opened.{OpenedBy}
use Rattle.laws_causes.proofs.Holding.{Next, first_of, IsOf, Holds, Awaits}

module _ (t : Terms) (root : Part) where
  -- Behind these events, with these frames open, the part comes, whose first event is the next one.
  pub data Fits : Frames → List Event → Part → Next → Type 0 where
    fits_root : (next : Next) → Fits [] [] root next
    fits_inner : (fs : Frames) (outer : List Event) (next : Next) (whole : Part) (n s inner : ℕ) → Fits fs outer whole next → whole.depth ≡ suc n → IsOf t whole s (transparent_shape inner)
        → Fits fs outer (inner_part whole n inner whole.source) next
    fits_frame : (f : Frame) (fs : Frames) (whole : Part) (n : ℕ) (before own : List Event) (part : Part) (next : Next) → whole.depth ≡ suc n
        → Fits fs before whole (first_of own next) → Awaits t f whole n own part next → Fits (f ∷ fs) (before ++ own) part next

  -- Behind these events the innermost part is the one that the first frame is.
  pub record Open (f : Frame) (fs : Frames) (events : List Event) : Type 0 where
    pub part : Part
    pub n : ℕ
    pub deep : part.depth ≡ suc n
    pub before : List Event
    pub own : List Event
    pub is : events ≡ before ++ own
    pub fits : Fits fs before part (first_of own None)
    pub holds : Holds t f part n own

  -- Behind these events a value is passed over that stands behind a key, of which those inside came. Whatever run begins
  -- so, the frame holds it then.
  pub record Passing (os : Opened) (f : Frame) (fs : Frames) (events : List Event) : Type 0 where
    pub part : Part
    pub n : ℕ
    pub deep : part.depth ≡ suc n
    pub before : List Event
    pub kind : ContainerKind
    pub note : Note
    pub entries : List Entry
    pub q : Key
    pub inside : List Event
    pub is : events ≡ before ++ ((start of_struct kind note ∷ entries_events entries) ++ (leaf (key q) ∷ inside))
    pub fits : Fits fs before part (Some (start of_struct kind note))
    pub opened : OpenedBy inside os
    pub shape : ℕ
    pub what : part.what ≡ of_shape shape
    pub took : (inside : List Event) → IsOpen inside → Took t.setting n [] shape (definition_at t.setting.registry shape) (in_passed entries q inside)
    pub holds : (run : Run) (rest : List Event) → run_events run ≡ inside ++ rest → Holds t f part n ((start of_struct kind note ∷ entries_events entries) ++ (leaf (key q) ∷ run_events run))

  -- what is open, behind these events
  abbrev pub Keeps : Frames → List Event → Type 0
  Keeps [] events = ⊥
  Keeps (passing os ∷ []) events = ⊥
  Keeps (passing os ∷ f ∷ fs) events = Passing os f fs events
  Keeps (f ∷ fs) events = Open f fs events

  -- the fault has its cause in these events, of which those looked at weren't taken
  abbrev pub Caused : List Event → List Event → Fault → Type 0
  Caused taken looked f = HasOwnCause t.setting root t.limit taken looked f f.kind

  -- the same, where the event was only looked at, and where it was taken
  abbrev pub CausedAt : Bool → List Event → Event → Fault → Type 0
  CausedAt true before e f = Caused before (e ∷ []) f
  CausedAt false before e f = Caused (before ++ (e ∷ [])) [] f

  -- What an event comes to behind these: what is open then, or a fault with its cause. `left` says whether the event is
  -- left where there is a fault.
  abbrev pub After : Bool → List Event → Event → Steps → Type 0
  After left before e (Ok (going fs)) = Keeps fs (before ++ (e ∷ []))
  After left before e (Ok (complete v)) = Unit {0}
  After left before e (Err f) = CausedAt left before e f

  -- what awaiting a part comes to, behind these events
  abbrev pub AfterAwait : List Event → Steps → Type 0
  AfterAwait events (Ok (going fs)) = Keeps fs events
  AfterAwait events (Ok (complete v)) = ⊥
  AfterAwait events (Err f) = Caused events [] f

  -- what handing on a value comes to, behind these events
  abbrev pub AfterValue : List Event → Steps → Type 0
  AfterValue events (Ok (going fs)) = Keeps fs events
  AfterValue events (Ok (complete v)) = Unit {0}
  AfterValue events (Err f) = ⊥
