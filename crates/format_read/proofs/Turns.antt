-- The loop over the events, in the words of the machine.
use Rattle.std.proofs.Common.{◌≡◌, ◌⊎◌, inl, inr, ◌<◌, ℕ, zero, suc, List, [], ◌∷◌, length, slice_get, map, Bool, true, false, cond, Option, Some, None, Result, Ok, Err, refl, sym, ◌∙◌, ap, subst, arith}
use Rattle.std.specs.Prelude.{IsTrue, IsSome}
use Rattle.semantics_lines.specs.Trees.{Tree}
use Rattle.semantics_lines.specs.Events.{Span, Event, span_of}
use Rattle.semantics_lines.specs.Faults.{bug, Fault, Ending, ends, stops, Coming}
use Rattle.semantics_lines.specs.Faults.{ended_at}
use Rattle.semantics.specs.Reading.{from_events}
use Rattle.shape_types.specs.Trees.{tree_of}
use Rattle.shape_types.specs.declared.value.Value.{Value}
use Rattle.event_core.specs.Building.{is_memory}
use Rattle.event_core.specs.Events.{event_of}
use Rattle.event_core.specs.Faults.{parse_fault}
use Rattle.event_core.specs.Metadata.{span_view}
use Rattle.event_core.specs.Queued.{Queued}
use Rattle.event_core.specs.declared.error.ParseError.{ParseError}
use Rattle.event_core.specs.declared.event.ParseEvent.{ParseEvent}
use Rattle.event_core.specs.declared.span.Span.{Span as DeclaredSpan}
use Rattle.format_traits.specs.Parsing.{Parsing, before}
use Rattle.laws_reading.specs.Input.{Input, feed, taken_at}
use Rattle.laws_reading.specs.Values.{Terms}
use Rattle.laws_machine.specs.Frames.{Frames}
use Rattle.laws_machine.specs.Delivery.{Status, going, complete, Steps}
use Rattle.laws_machine.specs.Begins.{await}
use Rattle.laws_machine.specs.Steps.{step_at}
use Rattle.laws_machine.specs.Leaves.{leaves, FaultsStand}
use Rattle.laws_causes.specs.Stopping.{Stop, Stopping, behind_step, left_at, stoppings, stopping}
use Rattle.read_steps.specs.Stops.{IsFault, Fails}
use Rattle.format_read.specs.Seats.{Owner, fed, coming_by, told_or_nothing, seat_of}
use Rattle.format_read.specs.Stopping.{StopsAt}
use Rattle.format_read.specs.Taking.{told_parse, IsToldAs, Faulted, NothingComes}
use Rattle.format_read.specs.Turning.{status_by, behind_event, turn_of, turn_at, stopping_from, IsAdmitted, StandsAt}
use Rattle.format_read.proofs.Taken.{stands}

-- a whole value, or more events
abbrev pub stopping_on : Terms → Status → Input → Stopping
stopping_on t (complete v) rest = Ok (v, rest)
stopping_on t (going fs) rest = stopping_from t fs rest

-- the same behind a turn
abbrev pub behind_turn : Terms → Result (Status × Input) Stop → Stopping
behind_turn t (Ok x) = stopping_on t x.0 x.1
behind_turn t (Err s) = Err s

stepped : (t : Terms) (r : Steps) (es : List Event) (ending : Ending) (last : Span) (at_fault : Input)
    → behind_step (λ gs. stoppings t gs es ending last) (feed es ending last) at_fault r ≡ behind_turn t (behind_event (feed es ending last) at_fault r)
stepped t (Ok (going fs)) es ending last at_fault = refl
stepped t (Ok (complete v)) es ending last at_fault = refl
stepped t (Err f) es ending last at_fault = refl

turned : (t : Terms) (fs : Frames) (es : List Event) (ending : Ending) (last : Span) → stoppings t fs es ending last ≡ behind_turn t (turn_of t fs es ending last)
turned t fs [] ending last = refl
turned t fs (e ∷ es) ending last = stepped t (step_at t fs last e) es ending (span_of e) (left_at t fs e es ending last)

-- the loop begins
pub begins : (t : Terms) (n s : ℕ) (fs : Frames) (input : Input) → await t n s from_events [] input.last ≡ Ok (going fs) → stopping_from t fs input ≡ stopping t n s from_events input
begins t n s fs input one = ap (behind_step (λ gs. stopping_from t gs input) input input) (sym one)

pub begins_not : (o : Option Fault) (t : Terms) (n s : ℕ) (input : Input) → Fails {Y = Status} o (await t n s from_events [] input.last) → StopsAt {Y = Tree × Input} o input (stopping t n s from_events input)
begins_not None t n s input h = tt
begins_not (Some f) t n s input h = ap (behind_step (λ gs. stopping_from t gs input) input input) h

pub goes_on : (t : Terms) (fs : Frames) (input : Input) (s : Status) (rest : Input) (total : Stopping) → stopping_from t fs input ≡ total → turn_at t fs input ≡ Ok (s, rest) → stopping_on t s rest ≡ total
goes_on t fs input s rest total told one = ap (behind_turn t) (sym one) ∙ sym (turned t fs input.events input.ending input.last) ∙ told

pub fails : (o : Option Fault) (t : Terms) (fs : Frames) (input left : Input) (total : Stopping) → stopping_from t fs input ≡ total → StopsAt {Y = Status × Input} o left (turn_at t fs input) → StopsAt {Y = Tree × Input} o left total
fails None t fs input left total told h = tt
fails (Some f) t fs input left total told h = sym told ∙ turned t fs input.events input.ending input.last ∙ ap (behind_turn t) h

pub completes : (t : Terms) (fs after : Frames) (input : Input) (o : Option Value) (v : Value) (rest : Input) (total : Stopping)
    → stopping_from t fs input ≡ total → turn_at t fs input ≡ Ok (status_by after o, rest) → o ≡ Some v → total ≡ Ok (tree_of v, rest)
completes t fs after input o v rest total told one is = sym (goes_on t fs input (status_by after o) rest total told one) ∙ rw is refl

-- the event that comes first, and what is left behind it
pub first_taken : (x e : Event) (xs : List Event) (ending : Ending) (rest : Input) → ◌≡◌ {A = Result (Event × Input) Fault} (Ok (x, feed xs ending (span_of x))) (Ok (e, rest)) → (x ≡ e) × (feed xs ending (span_of x) ≡ rest)
first_taken x e xs ending rest one =
    let pair : ◌≡◌ {A = Event × Input} (x, feed xs ending (span_of x)) (e, rest) = cc in
    (ap (λ (y : Event × Input). y.0) pair, ap (λ (y : Event × Input). y.1) pair)

-- an event was taken, and the machine goes on
pub turn_goes : (t : Terms) (fs : Frames) (input rest : Input) (e : Event) (s : Status) → taken_at [] input ≡ Ok (e, rest) → step_at t fs input.last e ≡ Ok s → turn_at t fs input ≡ Ok (s, rest)
turn_goes t fs input rest e s one two = by_events input.events input.ending input.last one two
  where
    by_events : (es : List Event) (ending : Ending) (last : Span) → taken_at [] (feed es ending last) ≡ Ok (e, rest) → step_at t fs last e ≡ Ok s → turn_of t fs es ending last ≡ Ok (s, rest)
    by_events [] ending last one two = absurd cc
    by_events (x ∷ xs) ending last one two =
        let (event, behind) = first_taken x e xs ending rest one in
        ap (behind_event (feed xs ending (span_of x)) (left_at t fs x xs ending last)) (ap (step_at t fs last) event ∙ two) ∙ ap (λ (i : Input). Ok (s, i)) behind

-- an event was taken, and refused
pub turn_fails : (o : Option Fault) (t : Terms) (fs : Frames) (input rest : Input) (e : ParseEvent) (held others : List ParseEvent) → taken_at [] input ≡ Ok (event_of e, rest) → held ≡ e ∷ others → IsAdmitted t fs held
    → Fails {Y = Status} o (step_at t fs input.last (event_of e)) → StopsAt {Y = Status × Input} o rest (turn_at t fs input)
turn_fails None t fs input rest e held others one is admitted h = tt
turn_fails (Some f) t fs input rest e held others one is admitted h = by_events input.events input.ending input.last one h
  where
    taken : leaves t fs (event_of e) ≡ false
    taken = subst (IsAdmitted t fs) is admitted

    by_events : (es : List Event) (ending : Ending) (last : Span) → taken_at [] (feed es ending last) ≡ Ok (event_of e, rest) → step_at t fs last (event_of e) ≡ Err f → turn_of t fs es ending last ≡ Err (record { fault = f; input = rest })
    by_events [] ending last one h = absurd cc
    by_events (x ∷ xs) ending last one h =
        let (event, behind) = first_taken x (event_of e) xs ending rest one in
        let here : leaves t fs x ≡ false = ap (leaves t fs) event ∙ taken in
        ap (behind_event (feed xs ending (span_of x)) (left_at t fs x xs ending last)) (ap (step_at t fs last) event ∙ h)
        ∙ ap (λ (b : Bool). Err (record { fault = f; input = cond b (feed (x ∷ xs) ending last) (feed xs ending (span_of x)) })) here
        ∙ ap (λ (i : Input). Err (record { fault = f; input = i })) behind

-- nothing comes but this ending
none_comes : (t : Terms) (fs : Frames) (input now : Input) (f : Fault) → input.events ≡ [] → f ≡ ended_at input.ending input.last → now ≡ input → turn_at t fs input ≡ Err (record { fault = f; input = now })
none_comes t fs input now f none is same = by_events input.events input.ending input.last none is same
  where
    by_events : (es : List Event) (ending : Ending) (last : Span) → es ≡ [] → f ≡ ended_at ending last → now ≡ feed es ending last → turn_of t fs es ending last ≡ Err (record { fault = f; input = now })
    by_events [] ending last none is same = rw (is, same) refl
    by_events (x ∷ xs) ending last none is same = absurd cc

-- no event comes
pub ended_fails : (o : Option Fault) (t : Terms) (fs : Frames) (input now : Input) → NothingComes input → now ≡ input → IsFault o (ended_at ends now.last) → StopsAt {Y = Status × Input} o now (turn_at t fs input)
ended_fails None t fs input now none same h = tt
ended_fails (Some f) t fs input now none same h =
    none_comes t fs input now f none.events (h ∙ ap (λ (i : Input). ended_at ends i.last) same ∙ ap (λ (x : Ending). ended_at x input.last) (sym none.ending)) same

-- the parser's fault comes
pub fault_fails : (o p : Option Fault) (t : Terms) (fs : Frames) (input now : Input) → IsToldAs o p → Faulted p input now → StopsAt {Y = Status × Input} o now (turn_at t fs input)
fault_fails None p t fs input now told h = tt
fault_fails (Some f) None t fs input now told h = absurd cc
fault_fails (Some f) (Some g) t fs input now told h =
    let same : g ≡ f = cc in none_comes t fs input now f h.0 (sym same ∙ ap (λ (x : Ending). ended_at x input.last) (sym h.1)) h.2

-- the same where the input is the same
pub fails_alike : (o : Option Fault) (t : Terms) (fs : Frames) (input now left : Input) → now ≡ input → StopsAt {Y = Status × Input} o left (turn_at t fs now) → StopsAt {Y = Status × Input} o left (turn_at t fs input)
fails_alike o t fs input now left same h = subst (λ (i : Input). StopsAt {Y = Status × Input} o left (turn_at t fs i)) same h

pub gives_alike : (t : Terms) (fs : Frames) (input now rest : Input) (s : Status) → now ≡ input → turn_at t fs now ≡ Ok (s, rest) → turn_at t fs input ≡ Ok (s, rest)
gives_alike t fs input now rest s same h = subst (λ (i : Input). turn_at t fs i ≡ Ok (s, rest)) same h

-- Where faults stand.
pub ended_stands : (o : Option Fault) (last span : Span) → IsFault o (ended_at ends last) → StandsAt o span
ended_stands None last span h = tt
ended_stands (Some f) last span h = inl (ap (λ (g : Fault). g.path) h)

pub parse_stands : (e : ParseError) (o : Option Fault) (span : Span) → IsToldAs o (told_parse e) → StandsAt o span
parse_stands e o span told = by_test (is_memory e.kind) o told
  where
    by_test : (b : Bool) (o : Option Fault) → IsToldAs o (cond b None (Some (parse_fault e))) → StandsAt o span
    by_test b None told = tt
    by_test true (Some f) told = absurd cc
    by_test false (Some f) told = let same : parse_fault e ≡ f = cc in inl (sym (ap (λ (g : Fault). g.path) same))

step_stands : FaultsStand → (o : Option Fault) (t : Terms) (fs : Frames) (last span : Span) (e : Event) → Fails {Y = Status} o (step_at t fs last e) → cond (leaves t fs e) last (span_of e) ≡ span → StandsAt o span
step_stands stand None t fs last span e h is = tt
step_stands stand (Some f) t fs last span e h is = inr (subst (λ (x : Span). (f.kind ≡ bug) ⊎ (f.span ≡ Some x)) is (stand t fs last e f h))

-- the event was left
pub left_stands : FaultsStand → (o : Option Fault) (t : Terms) (fs : Frames) (last : Span) (e : Event) → leaves t fs e ≡ true → Fails {Y = Status} o (step_at t fs last e) → StandsAt o last
left_stands stand o t fs last e is h = step_stands stand o t fs last last e h (ap (λ (b : Bool). cond b last (span_of e)) is)

-- the event was taken
pub taken_stands : FaultsStand → (o : Option Fault) (t : Terms) (fs : Frames) (last : Span) (e : ParseEvent) (held rest : List ParseEvent) (now : DeclaredSpan)
    → held ≡ e ∷ rest → IsAdmitted t fs held → now ≡ e.span → Fails {Y = Status} o (step_at t fs last (event_of e)) → StandsAt o (span_view now)
taken_stands stand o t fs last e held rest now is admitted at h =
    step_stands stand o t fs last (span_view now) (event_of e) h (ap (λ (b : Bool). cond b last (span_of (event_of e))) (subst (IsAdmitted t fs) is admitted) ∙ stands e ∙ sym (ap span_view at))

-- Events that are at the head of the queue.
pub has_first : (held : List ParseEvent) → None ≡ slice_get held 0 → 0 < length held → ⊥
has_first [] is some = omega (arith, some)
has_first (x ∷ xs) is some = absurd cc

pub admitted_at : (t : Terms) (fs : Frames) (held : List ParseEvent) (e : ParseEvent) → Some e ≡ slice_get held 0 → leaves t fs (event_of e) ≡ false → IsAdmitted t fs held
admitted_at t fs [] e is taken = tt
admitted_at t fs (x ∷ xs) e is taken = let same : e ≡ x = cc in ap (λ (y : ParseEvent). leaves t fs (event_of y)) (sym same) ∙ taken

-- a turn stops where nothing of what comes was taken
abbrev pub StopsBefore : Option Fault → Terms → Frames → Input → Type 0
StopsBefore o t fs input = StopsAt {Y = Status × Input} o input (turn_at t fs input)

-- what is left at the head of the queue is refused at the head of the input
pub left_fails : (tells : Bool) (o : Option Fault) (t : Terms) (fs : Frames) (e : ParseEvent) (p : Parsing) (owner : Owner) (q : Queued) (last : DeclaredSpan) → (IsTrue tells → IsSome p.coming) → 0 < q.capacity → Some e ≡ slice_get q.ahead 0
    → (test : Bool) → test ≡ leaves t fs (event_of e) → test ≡ true → Fails {Y = Status} o (step_at t fs (span_view last) (event_of e)) → IsTrue tells → StopsBefore o t fs (seat_of p owner q last).input
left_fails tells o t fs e p owner q last told room is test tested left h it_tells = by_room q.capacity room
  where
    by_fault : (o : Option Fault) (c : Coming) → Fails {Y = Status} o (step_at t fs (span_view last) (event_of e))
        → StopsBefore o t fs (fed (record { events = event_of e ∷ c.events; ending = c.ending }) (span_view last))
    by_fault None c h = tt
    by_fault (Some f) c h =
        ap (behind_event (feed c.events c.ending (span_of (event_of e))) (left_at t fs (event_of e) c.events c.ending (span_view last))) h
        ∙ ap (λ (b : Bool). Err (record { fault = f; input = cond b (feed (event_of e ∷ c.events) c.ending (span_view last)) (feed c.events c.ending (span_of (event_of e))) })) (sym tested ∙ left)

    by_held : (held : List ParseEvent) (c : Option Coming) → Some e ≡ slice_get held 0 → IsSome c → StopsBefore o t fs (fed (told_or_nothing (before (map event_of held) c)) (span_view last))
    by_held [] c is some = absurd cc
    by_held (x ∷ xs) None is some = absurd cc
    by_held (x ∷ xs) (Some c) is some =
        let same : e ≡ x = cc in
        subst (λ (y : ParseEvent). StopsBefore o t fs (fed (told_or_nothing (before (event_of y ∷ map event_of xs) (Some c))) (span_view last))) same (by_fault o (told_or_nothing (before (map event_of xs) (Some c))) h)

    by_room : (n : ℕ) → 0 < n → StopsBefore o t fs (fed (coming_by n p q) (span_view last))
    by_room zero some = absurd (omega (arith, some))
    by_room (suc n) some = by_held q.ahead p.coming is (told it_tells)
