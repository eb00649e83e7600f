-- What reading events has to do with the meaning of runs.
use Rattle.std.specs.Prelude.{◌≡◌, ℕ, List, ◌++◌, Option, Some, None, Ok, Err}
use Rattle.semantics_lines.specs.Events.{Span, Event}
use Rattle.semantics_lines.specs.Faults.{Step, Fault, Ending}
use Rattle.semantics.specs.Runs.{Run, run_events}
use Rattle.semantics.specs.Reading.{Source, read}
use Rattle.semantics.specs.Seen.{last_span}
use Rattle.laws_reading.specs.Input.{Input, feed, Reads}
use Rattle.laws_reading.specs.Values.{Terms, reading}

-- What is read is a run at the front, and is what this run is read as. The rest is left as it was, and the last event that
-- was taken is the last one of the run.
abbrev pub Sound : {A : Type 0} → (Run → Option A) → Reads A → Type 0
Sound {A} rd at = (path : List Step) (es : List Event) (ending : Ending) (last : Span) (w : A) (after : Input)
    → at path (feed es ending last) ≡ Ok (w, after) → (r : Run) × (es ≡ run_events r ++ after.events) × (after.ending ≡ ending) × (after.last ≡ last_span last (run_events r)) × (rd r ≡ Some w)

-- A run that is read as a value is read, whatever follows.
abbrev pub Complete : {A : Type 0} → (Run → Option A) → Reads A → Type 0
Complete {A} rd at = (path : List Step) (r : Run) (w : A) (rest : List Event) (ending : Ending) (last : Span)
    → rd r ≡ Some w → at path (feed (run_events r ++ rest) ending last) ≡ Ok (w, feed rest ending (last_span last (run_events r)))

-- Where there is a fault, no run at the front is read as a value.
abbrev pub Refuses : {A : Type 0} → (Run → Option A) → Reads A → Type 0
Refuses rd at = (path : List Step) (es : List Event) (ending : Ending) (last : Span) (f : Fault)
    → at path (feed es ending last) ≡ Err f → (r : Run) (rest : List Event) → es ≡ run_events r ++ rest → rd r ≡ None

-- all three of the reader, within every depth, for every shape
abbrev pub ReadingMeans : Type 0
ReadingMeans = (terms : Terms) (n s : ℕ) (source : Source)
    → Sound (read terms.setting n s source) (reading terms n s source)
    × Complete (read terms.setting n s source) (reading terms n s source)
    × Refuses (read terms.setting n s source) (reading terms n s source)
