-- Passing over one event of a value.
use Rattle.std.specs.Prelude.{◌≡◌, List, [], ◌∷◌, map, Option, Some, None, Result, Ok, Err, Bool, true, false}
use Rattle.semantics_lines.specs.Events.{scalar, key, tag, Bracket, of_struct, of_sequence, Event, leaf, start, stop}
use Rattle.laws_reading.specs.Input.{Reads, unexpected}
use Rattle.laws_reading.specs.Skips.{Opened, goes_on, same_bracket}
use Rattle.read_steps.specs.declared.opened.NotPassed.{NotPassed}
use Rattle.read_steps.specs.declared.opened.NotPassed.TheVariants as unpassed

-- true for a struct
abbrev pub bracket_of : Bool → Bracket
bracket_of true = of_struct
bracket_of false = of_sequence

-- the containers that are open, the innermost first
abbrev pub opened_of : List Bool → Opened
opened_of bs = map bracket_of bs

abbrev pub if_same : Bool → Opened → Option (Bool × Opened)
if_same true bs = Some (goes_on bs, bs)
if_same false bs = None

abbrev pub key_passed : Opened → Option (Bool × Opened)
key_passed [] = None
key_passed (b ∷ bs) = Some (true, b ∷ bs)

abbrev pub start_passed : Bracket → Opened → Option (Bool × Opened)
start_passed b bs = Some (true, b ∷ bs)

abbrev pub stop_passed : Bracket → Opened → Option (Bool × Opened)
stop_passed b [] = None
stop_passed b (c ∷ bs) = if_same (same_bracket b c) bs

-- what an event does to the containers that are open, and whether the value goes on
abbrev pub pass_of : Event → Opened → Option (Bool × Opened)
pass_of (leaf (scalar x n)) bs = Some (goes_on bs, bs)
pass_of (leaf (tag t n)) bs = Some (true, bs)
pass_of (leaf (key q)) bs = key_passed bs
pass_of (start b k n) bs = start_passed b bs
pass_of (stop b n) bs = stop_passed b bs

-- the answer is this, or memory ran out
abbrev pub IsPassed : Result Bool NotPassed → List Bool → Option (Bool × Opened) → Type 0
IsPassed (Ok more) now o = o ≡ Some (more, opened_of now)
IsPassed (Err unpassed.Alloc) now o = Unit {0}
IsPassed (Err (unpassed.Unfit u)) now o = o ≡ None

abbrev pub or_passed : Option (Bool × Opened) → Reads (Bool × Opened)
or_passed None path input = unexpected path input
or_passed (Some x) path input = Ok (x, input)
