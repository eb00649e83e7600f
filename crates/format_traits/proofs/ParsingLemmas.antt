-- Calls of a parser, one after another.
use Rattle.std.proofs.Common.{◌≡◌, ℕ, ◌+◌, ◌<◌, ◌≤◌, List, [], ◌∷◌, ◌++◌, map, refl, arith, ap, sym, ◌∙◌, Option, Some, None, append_assoc, length-append, ◌⊎◌, inl, inr}
use Rattle.std.specs.Prelude.{IfSome}
use Rattle.std.proofs.lemmas.List.{map-append, append-nil}
use Rattle.semantics_lines.specs.Events.{Event}
use Rattle.semantics_lines.specs.Faults.{Fault, Coming, ends, stops}
use Rattle.event_core.specs.Events.{event_of}
use Rattle.event_core.specs.Faults.{parse_fault}
use Rattle.event_core.specs.declared.event.ParseEvent.{ParseEvent}
use Rattle.event_core.specs.declared.error.ParseError.{ParseError}
use Rattle.format_traits.specs.Parsing.{Parsing, Gave, FailedAfter, Failed, EndAfter, Met, before, preceded, Stays, IsMemory}
use Rattle.format_traits.specs.Batches.{Put, PutBefore}

pub before_none : (p : Option Coming) → before [] p ≡ p
before_none None = refl
before_none (Some c) = refl

pub before_append : (a b : List Event) (p : Option Coming) → before (a ++ b) p ≡ before a (before b p)
before_append a b None = refl
before_append a b (Some c) = ap (λ (events : List Event). Some (record { events = events; ending = c.ending })) (append_assoc a b c.events)

pub stays_none : (p : Option Fault) → Stays [] p p
stays_none None = tt
stays_none (Some f) = (refl, refl)

pub stays_more : (a b : List Event) (p q r : Option Fault) → Stays a p q → Stays b q r → Stays (a ++ b) p r
stays_more a b None q r first then = tt
stays_more a b (Some f) None r first then = cc
stays_more a b (Some f) (Some g) r first then = (rw (first.0, then.0) refl, cc)

-- nothing was given
pub gave_none : (p : Parsing) → Gave [] p p
gave_none p = record {
  coming = before_none p.coming;
  left = omega arith;
  stuck = stays_none p.stuck;
  describes_itself = refl;
  saved = refl;
}

-- two calls in turn
pub gave_more : (a b : List Event) (p q r : Parsing) → Gave a p q → Gave b q r → Gave (a ++ b) p r
gave_more a b p q r first then = record {
  coming = before_append a b r.coming ∙ ap (before a) then.coming ∙ first.coming;
  left = omega (arith, length-append a b);
  stuck = stays_more a b p.stuck q.stuck r.stuck first.stuck then.stuck;
  describes_itself = cc;
  saved = cc;
}

-- a refused call after others
pub failed_more : (a : List Event) (p q r : Parsing) → Gave a p q → Failed q r → FailedAfter a p r
failed_more a p q r first then = record {
  lost = then.lost;
  coming = before_append a then.lost r.coming ∙ ap (before a) then.coming ∙ first.coming;
  left = omega arith;
  stuck = rw (← append-nil a) (stays_more a [] p.stuck q.stuck r.stuck first.stuck then.stuck);
  describes_itself = cc;
  saved = cc;
}

-- a call that gave something is no refusal, but its events may be lost
pub failed_lost : (a : List Event) (p q : Parsing) → Gave a p q → Failed p q
failed_lost a p q gave = record {
  lost = a;
  coming = gave.coming;
  left = omega arith;
  stuck = stays_less a p.stuck q.stuck gave.stuck;
  describes_itself = gave.describes_itself;
  saved = gave.saved;
} where
  stays_less : (a : List Event) (p q : Option Fault) → Stays a p q → Stays [] p q
  stays_less a None q h = tt
  stays_less a (Some f) q h = (refl, h.1)

-- a fault after events that were given
pub met_more : (a : List Event) (e : ParseError) (p q r : Parsing) → Gave a p q → Met [] e q r → Met a e p r
met_more a e p q r first then = record {
  fault = record { coming = fault_coming a (parse_fault e) p.coming q.coming first.coming then.fault.coming };
  stuck = then.stuck;
} where
  fault_coming : (a : List Event) (f : Fault) (p q : Option Coming) → before a q ≡ p → IfSome q (λ c. c ≡ record { events = []; ending = stops f }) → IfSome p (λ c. c ≡ record { events = a; ending = stops f })
  fault_coming a f None q e h = tt
  fault_coming a f (Some all) None e h = cc
  fault_coming a f (Some all) (Some c) e h =
      let same : preceded a c ≡ all = cc in
      let here : preceded a c ≡ record { events = a; ending = stops f } = rw h (ap (λ (events : List Event). record { events = events; ending = stops f }) (append-nil a)) in
      sym same ∙ here

-- the end after events that were given
pub end_more : (a : List Event) (p q : Parsing) → Gave a p q → EndAfter [] q → p.stuck ≡ None → EndAfter a p
end_more a p q first then free = record {
  coming = end_coming a p.coming q.coming first.coming then.coming;
  stuck = free;
} where
  end_coming : (a : List Event) (p q : Option Coming) → before a q ≡ p → IfSome q (λ c. c ≡ record { events = []; ending = ends }) → IfSome p (λ c. c ≡ record { events = a; ending = ends })
  end_coming a None q e h = tt
  end_coming a (Some all) None e h = cc
  end_coming a (Some all) (Some c) e h =
      let same : preceded a c ≡ all = cc in
      let here : preceded a c ≡ record { events = a; ending = ends } = rw h (ap (λ (events : List Event). record { events = events; ending = ends }) (append-nil a)) in
      sym same ∙ here

-- nothing was put yet
pub put_none : (p : Parsing) (held : List ParseEvent) → Put 0 p p held held
put_none p held = record { given = []; items = sym (append-nil held); length_is = refl; gave = gave_none p }

-- one more event
pub put_more : (n : ℕ) (p q r : Parsing) (held now : List ParseEvent) (e : ParseEvent) → Put n p q held now → Gave (event_of e ∷ []) q r → Put (n + 1) p r held (now ++ e ∷ [])
put_more n p q r held now e put gave = record {
  given = put.given ++ e ∷ [];
  items = ap (λ (xs : List ParseEvent). xs ++ e ∷ []) put.items ∙ append_assoc held put.given (e ∷ []);
  length_is = omega (arith, length-append put.given (e ∷ []), put.length_is);
  gave = rw (map-append event_of put.given (e ∷ [])) (gave_more (map event_of put.given) (event_of e ∷ []) p q r put.gave gave);
}

-- a call that gave nothing
pub put_still : (n : ℕ) (p q r : Parsing) (held now : List ParseEvent) → Put n p q held now → Gave [] q r → Put n p r held now
put_still n p q r held now put gave = record {
  given = put.given;
  items = put.items;
  length_is = put.length_is;
  gave = rw (← append-nil (map event_of put.given)) (gave_more (map event_of put.given) [] p q r put.gave gave);
}

-- a refused call
pub put_refused : (n limit : ℕ) (e : ParseError) (p q r : Parsing) (held now : List ParseEvent) → Put n p q held now → n < limit → Failed q r → IsMemory e ⊎ Met [] e q r → PutBefore limit e p r held now
put_refused n limit e p q r held now put lt failed fault = record {
  given = put.given;
  items = put.items;
  within = omega (arith, put.length_is);
  failed = failed_more (map event_of put.given) p q r put.gave failed;
  fault = elim fault [ inl m ↦ inl m | inr met ↦ inr (omega (arith, put.length_is), met_more (map event_of put.given) e p q r put.gave met) ];
}

-- an event that no memory was there for
pub put_lost : (n limit : ℕ) (e : ParseError) (g : List Event) (p q r : Parsing) (held now : List ParseEvent) → Put n p q held now → n ≤ limit → Gave g q r → IsMemory e → PutBefore limit e p r held now
put_lost n limit e g p q r held now put le gave memory = record {
  given = put.given;
  items = put.items;
  within = omega (arith, put.length_is);
  failed = failed_more (map event_of put.given) p q r put.gave (failed_lost g q r gave);
  fault = inl memory;
}
