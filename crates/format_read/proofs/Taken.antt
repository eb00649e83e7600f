-- Events that were taken, one by one.
use Rattle.std.proofs.Common.{◌≡◌, ℕ, zero, suc, ◌<◌, List, [], ◌∷◌, length, map, Bool, Option, Some, None, Ok, refl, ap, arith}
use Rattle.std.specs.Prelude.{IsTrue, IsSome}
use Rattle.std.specs.Option.{option_map}
use Rattle.semantics_lines.specs.Texts.{Phrase}
use Rattle.semantics_lines.specs.Events.{Span, Metadata, Note, key_note, Event, span_of}
use Rattle.shape_types.specs.Texts.{phrase_of}
use Rattle.semantics_lines.specs.Faults.{Coming}
use Rattle.event_core.specs.Events.{event_of, event_from}
use Rattle.event_core.specs.Keys.{key_of, full_key}
use Rattle.event_core.specs.Metadata.{span_view, metadata_of, note_view}
use Rattle.event_core.specs.Queued.{Queued, Took}
use Rattle.event_core.specs.declared.event.ParseEvent.{ParseEvent}
use Rattle.event_core.specs.declared.event.ParseEventKind.{ParseEventKind}
use Rattle.event_core.specs.declared.event.ParseEventKind.TheVariants as events
use Rattle.event_core.specs.declared.key.FieldKey.{FieldKey}
use Rattle.event_core.specs.declared.key.FieldKey.TheVariants as keys
use Rattle.event_core.specs.declared.span.Span.{Span as DeclaredSpan}
use Rattle.format_traits.specs.Parsing.{Parsing, before}
use Rattle.laws_reading.specs.Input.{Input, feed, taken_at}
use Rattle.format_read.specs.Seats.{Owner, fed, coming_by, told_or_nothing, seat_of, IsLeft}
use Rattle.format_read.proofs.Seats.{ahead_of, left_by, took_ahead}

-- the first of those that were read ahead was taken
pub taken_left : (e : ParseEvent) (p : Parsing) (owner : Owner) (q s : Queued) (last : DeclaredSpan) → Took e q s → IsLeft (seat_of p owner q last) (seat_of p owner s e.span)
taken_left e p owner q s last took =
    let size : length q.ahead ≡ length (e ∷ s.ahead) = ap length took.ahead in
    left_by (event_of e ∷ []) p p owner q s last e.span took.capacity (took_ahead e p q s took) (omega (arith, size)) (λ h. omega (arith, size, took.capacity, h)) (omega arith)

pub taken_fewer : (e : ParseEvent) (p : Parsing) (owner : Owner) (q s : Queued) (last : DeclaredSpan) → Took e q s → (seat_of p owner s e.span).left < (seat_of p owner q last).left
taken_fewer e p owner q s last took =
    let size : length q.ahead ≡ length (e ∷ s.ahead) = ap length took.ahead in
    omega (arith, size)

full_stands : (o : Option Phrase) (m : Metadata) (n : Note) → (key_note (full_key o m n)).span ≡ n.span
full_stands None m n = refl
full_stands (Some t) m n = refl

key_stands : (k : FieldKey) (n : Note) → (key_note (key_of k n)).span ≡ n.span
key_stands (keys.Name t) n = refl
key_stands (keys.Full k) n = full_stands (option_map phrase_of k.name) (metadata_of k.meta) n

kind_stands : (k : ParseEventKind) (n : Note) → span_of (event_from k n) ≡ n.span
kind_stands (events.FieldKey k) n = key_stands k n
kind_stands _ n = refl

-- where an event stands
pub stands : (e : ParseEvent) → span_of (event_of e) ≡ span_view e.span
stands e = kind_stands e.kind (note_view e.span e.meta)

pub taken_exact : (tells : Bool) (e : ParseEvent) (p : Parsing) (owner : Owner) (q s : Queued) (last : DeclaredSpan) → (IsTrue tells → IsSome p.coming) → 0 < q.capacity → Took e q s
    → IsTrue tells → taken_at [] (seat_of p owner q last).input ≡ Ok (event_of e, (seat_of p owner s e.span).input)
taken_exact tells e p owner q s last told room took it_tells = by_room q.capacity s.capacity room took.capacity
  where
    rest : Input
    rest = fed (told_or_nothing (ahead_of s p)) (span_view e.span)

    told_taken : (es : List Event) (rest o : Option Coming) → before (event_of e ∷ []) rest ≡ o → IsSome rest → taken_at [] (fed (told_or_nothing o) (span_view last)) ≡ Ok (event_of e, fed (told_or_nothing rest) (span_view e.span))
    told_taken es None o is some = absurd cc
    told_taken es (Some c) o is some = rw (← is) (ap (λ (x : Span). Ok (event_of e, feed c.events c.ending x)) (stands e))

    still_told : (es : List Event) (c : Option Coming) → IsSome c → IsSome (before es c)
    still_told es None some = some
    still_told es (Some c) some = refl

    by_room : (n m : ℕ) → 0 < n → m ≡ n → taken_at [] (fed (coming_by n p q) (span_view last)) ≡ Ok (event_of e, fed (coming_by m p s) (span_view e.span))
    by_room zero m some same = absurd (omega (arith, some))
    by_room (suc n) zero some same = absurd cc
    by_room (suc n) (suc m) some same = told_taken [] (ahead_of s p) (ahead_of q p) (took_ahead e p q s took) (still_told (map event_of s.ahead) p.coming (told it_tells))
