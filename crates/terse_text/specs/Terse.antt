-- Terse texts: what each byte says, and what comes of a text.
use Rattle.std.specs.Prelude.{ℕ, ◌-◌, ◌==◌, ◌&&◌, ◌≡◌, ◌≤◌, nat_le, cond, true, List, [], ◌∷◌, length, drop, Option, Some, None, Result, Ok, Err}
use Rattle.semantics_lines.specs.Events.{Event, Note, leaf, start, stop, key, named, scalar, u64, null, of_struct, of_sequence, object_kind, array_kind}
use Rattle.semantics_lines.specs.Faults.{Coming, Ending, ends, stops, unexpected_char}
use Rattle.event_core.specs.Events.{event_of}
use Rattle.event_core.specs.Faults.{parse_fault}
use Rattle.event_core.specs.declared.event.ParseEvent.{ParseEvent}
use Rattle.event_core.specs.declared.error.ParseError.{ParseError}
use Rattle.format_traits.specs.Parsing.{preceded}

-- the event that a byte is, at its place
unfoldable pub event_at : ℕ → Note → Option Event
event_at b n =
    cond (b == 91) (Some (start of_sequence array_kind n)) (
    cond (b == 93) (Some (stop of_sequence n)) (
    cond (b == 123) (Some (start of_struct object_kind n)) (
    cond (b == 125) (Some (stop of_struct n)) (
    cond (b == 45) (Some (leaf (scalar null n))) (
    cond (nat_le 48 b && nat_le b 57) (Some (leaf (scalar (u64 (b - 48)) n))) (
    cond (nat_le 97 b && nat_le b 122) (Some (leaf (key (named (record { bytes = b ∷ []; borrowed = true }) None n)))) None))))))

-- the place of the first of the bytes that are left of a text of this length
abbrev pub place : ℕ → List ℕ → Note
place len rest = record { span = record { offset = len - length rest; len = 1 }; metadata = None }

-- no event
abbrev pub only : Ending → Coming
only ending = record { events = []; ending = ending }

-- an event and then what comes later, or the fault of its byte
abbrev pub first_then : Option Event → ℕ → Note → Coming → Coming
first_then None b n later = only (stops (record { kind = unexpected_char b; span = Some n.span; path = None }))
first_then (Some e) b n later = preceded (e ∷ []) later

-- what comes of the bytes that are left of a text of this length
unfoldable pub coming_from : ℕ → List ℕ → Coming
coming_from len [] = only ends
coming_from len (b ∷ bs) = first_then (event_at b (place len (b ∷ bs))) b (place len (b ∷ bs)) (coming_from len bs)

-- what stands in front of these bytes: an event of one byte, the end, or a fault
abbrev pub Stands : ℕ → List ℕ → Result (Option ParseEvent) ParseError → Type 0
Stands len rest (Ok (Some e)) = (1 ≤ length rest) × (coming_from len rest ≡ preceded (event_of e ∷ []) (coming_from len (drop 1 rest)))
Stands len rest (Ok None) = coming_from len rest ≡ only ends
Stands len rest (Err e) = coming_from len rest ≡ only (stops (parse_fault e))
