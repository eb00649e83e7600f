-- What calls of a parser and its queue leave of the events to come.
use Rattle.std.proofs.Common.{◌≡◌, ℕ, zero, suc, ◌+◌, ◌≤◌, List, [], ◌∷◌, ◌++◌, length, map, Option, Some, None, refl, sym, ap, ◌∙◌}
use Rattle.std.proofs.lemmas.List.{map-append}
use Rattle.semantics_lines.specs.Events.{Event}
use Rattle.semantics_lines.specs.Faults.{Coming}
use Rattle.event_core.specs.Events.{event_of}
use Rattle.event_core.specs.Queued.{Queued, Took}
use Rattle.event_core.specs.declared.event.ParseEvent.{ParseEvent}
use Rattle.event_core.specs.declared.span.Span.{Span as DeclaredSpan}
use Rattle.format_traits.specs.Parsing.{Parsing, Gave, before, preceded}
use Rattle.format_traits.proofs.ParsingLemmas.{before_append}
use Rattle.format_read.specs.Seats.{Owner, coming_by, told_or_nothing, seat_of, IsLeft}

-- the events that are ahead of a parser, where it tells its own
abbrev pub ahead_of : Queued → Parsing → Option Coming
ahead_of q p = before (map event_of q.ahead) p.coming

-- what was cut off the front
pub record Cut (old new : Coming) : Type 0 where
  pub taken : List Event
  pub events : old.events ≡ taken ++ new.events
  pub ending : new.ending ≡ old.ending

told_cut : (given : List Event) (old new : Option Coming) → before given new ≡ old → Cut (told_or_nothing old) (told_or_nothing new)
told_cut given None None is = record { taken = []; events = refl; ending = refl }
told_cut given (Some c) None is = absurd cc
told_cut given None (Some d) is = absurd cc
told_cut given (Some c) (Some d) is =
    let same : preceded given d ≡ c = cc in
    record { taken = given; events = sym (ap (λ (x : Coming). x.events) same); ending = ap (λ (x : Coming). x.ending) same }

cut_by : (given : List Event) (n m : ℕ) (p r : Parsing) (q s : Queued) → m ≡ n → before given (ahead_of s r) ≡ ahead_of q p → Cut (coming_by n p q) (coming_by m r s)
cut_by given zero zero p r q s same is = record { taken = []; events = refl; ending = refl }
cut_by given zero (suc m) p r q s same is = absurd cc
cut_by given (suc n) zero p r q s same is = absurd cc
cut_by given (suc n) (suc m) p r q s same is = told_cut given (ahead_of q p) (ahead_of s r) is

-- these events were given, by the queue or by the parser
pub left_by : (given : List Event) (p r : Parsing) (owner : Owner) (q s : Queued) (last last' : DeclaredSpan) → s.capacity ≡ q.capacity → before given (ahead_of s r) ≡ ahead_of q p
    → r.left + length s.ahead ≤ p.left + length q.ahead → (length q.ahead ≤ q.capacity → length s.ahead ≤ s.capacity) → p.faults ≤ r.faults → IsLeft (seat_of p owner q last) (seat_of r owner s last')
left_by given p r owner q s last last' same is left within faults =
    let cut = cut_by given q.capacity s.capacity p r q s same is in
    record {
      taken = cut.taken;
      cut = cut.events;
      ending = cut.ending;
      left = left;
      within = within;
      faults = faults;
      place = ap (λ (n : ℕ). record { owner = owner; capacity = n }) same;
    }

-- what the queue holds and then the parser gives, with more of it in the queue
pub moved_ahead : (batch : List ParseEvent) (p r : Parsing) (q s : Queued) → s.ahead ≡ q.ahead ++ batch → Gave (map event_of batch) p r → ahead_of s r ≡ ahead_of q p
moved_ahead batch p r q s is gave =
    ap (λ (es : List ParseEvent). before (map event_of es) r.coming) is
    ∙ ap (λ (es : List Event). before es r.coming) (map-append event_of q.ahead batch)
    ∙ before_append (map event_of q.ahead) (map event_of batch) r.coming
    ∙ ap (before (map event_of q.ahead)) gave.coming

-- the first event that the queue holds
pub took_ahead : (e : ParseEvent) (p : Parsing) (q s : Queued) → Took e q s → before (event_of e ∷ []) (ahead_of s p) ≡ ahead_of q p
took_ahead e p q s took = sym (ap (λ (es : List ParseEvent). before (map event_of es) p.coming) took.ahead ∙ before_append (event_of e ∷ []) (map event_of s.ahead) p.coming)

-- what comes of events, by the room for them
pub same_coming : (n m : ℕ) (p r : Parsing) (q s : Queued) → m ≡ n → ahead_of s r ≡ ahead_of q p → coming_by m r s ≡ coming_by n p q
same_coming zero zero p r q s same is = refl
same_coming zero (suc m) p r q s same is = absurd cc
same_coming (suc n) zero p r q s same is = absurd cc
same_coming (suc n) (suc m) p r q s same is = ap told_or_nothing is
