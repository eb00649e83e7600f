-- Calls of a parser that doesn't tell its events.
use Rattle.std.proofs.Common.{◌≡◌, ◌≢◌, ◌⊎◌, ℕ, zero, suc, ◌+◌, ◌<◌, ◌≤◌, List, [], ◌∷◌, ◌++◌, length, map, take, drop, min, Option, Some, None, refl, sym, ap, inl, inr, arith, length-drop, length-take-le}
use Rattle.std.proofs.lemmas.List.{append-nil}
use Rattle.semantics_lines.specs.Faults.{Fault}
use Rattle.event_core.specs.Events.{event_of}
use Rattle.event_core.specs.Faults.{parse_fault}
use Rattle.event_core.specs.declared.event.ParseEvent.{ParseEvent}
use Rattle.event_core.specs.declared.error.ParseError.{ParseError}
use Rattle.format_traits.specs.Parsing.{Gave, Failed, FailedAfter, EndAfter, Met, IsMemory, Stays}
use Rattle.format_traits.specs.Batches.{Put, PutBefore}
use Rattle.format_read_tests.specs.Untold.{stuck_at, untold}

empty_of : (xs : List ParseEvent) → length xs ≡ 0 → xs ≡ []
empty_of [] h = refl
empty_of (x ∷ xs) h = absurd (omega (arith, h))

stays_stuck : (o : Option Fault) → Stays [] o o
stays_stuck None = tt
stays_stuck (Some f) = (refl, refl)

-- at a fault nothing is left, so nothing is given
stays_rest : (n : ℕ) (xs : List ParseEvent) (f : Option Fault) → n ≤ length xs → Stays (map event_of (take n xs)) (stuck_at xs f) (stuck_at (drop n xs) f)
stays_rest zero [] f h = stays_stuck f
stays_rest (suc n) [] f h = absurd (omega (arith, h))
stays_rest n (x ∷ xs) f h = tt

length_given : (n : ℕ) (xs : List ParseEvent) → n ≤ length xs → length (map event_of (take n xs)) ≡ n
length_given zero xs h = refl
length_given (suc n) [] h = absurd (omega (arith, h))
length_given (suc n) (x ∷ xs) h = ap suc (length_given n xs (omega (arith, h)))

gave_rest : (n : ℕ) (xs : List ParseEvent) (f : Option Fault) (k l : ℕ) → n ≤ length xs → Gave (map event_of (take n xs)) (untold xs f k) (untold (drop n xs) f l)
gave_rest n xs f k l h = record {
  coming = refl;
  left = omega (arith, length-drop n xs, length_given n xs h, h);
  stuck = stays_rest n xs f h;
  describes_itself = refl;
  saved = refl;
}

pub gives : (e : ParseEvent) (xs ys : List ParseEvent) (f : Option Fault) (k l : ℕ) → xs ≡ e ∷ ys → Gave (event_of e ∷ []) (untold xs f k) (untold ys f l)
gives e xs ys f k l h = rw h (record { coming = refl; left = omega arith; stuck = tt; describes_itself = refl; saved = refl })

pub stays : (xs ys : List ParseEvent) (f : Option Fault) (k l : ℕ) → xs ≡ ys → Gave [] (untold xs f k) (untold ys f l)
stays xs ys f k l h = rw h (record { coming = refl; left = omega arith; stuck = stays_stuck (stuck_at ys f); describes_itself = refl; saved = refl })

pub fails : (xs ys : List ParseEvent) (f : Option Fault) (k l : ℕ) → xs ≡ ys → Failed (untold xs f k) (untold ys f l)
fails xs ys f k l h = rw h (record { lost = []; coming = refl; left = omega arith; stuck = stays_stuck (stuck_at ys f); describes_itself = refl; saved = refl })

pub ended : (xs : List ParseEvent) (f : Option Fault) (k : ℕ) → length xs ≡ 0 → f ≡ None → EndAfter [] (untold xs f k)
ended xs f k h none = rw (empty_of xs h) (record { coming = tt; stuck = none })

pub meets : (e : ParseError) (xs ys : List ParseEvent) (f : Option Fault) (k l : ℕ) → length ys ≡ 0 → (IsMemory e ⊎ (f ≡ Some (parse_fault e))) → IsMemory e ⊎ Met [] e (untold xs f k) (untold ys f l)
meets e xs ys f k l h (inl memory) = inl memory
meets e xs ys f k l h (inr met) = inr (rw (empty_of ys h) (record { fault = record { coming = tt }; stuck = met }))

pub puts : (n : ℕ) (xs ys held now : List ParseEvent) (f : Option Fault) (k l : ℕ) → n ≤ length xs → ys ≡ drop n xs → now ≡ held ++ take n xs → Put n (untold xs f k) (untold ys f l) held now
puts n xs ys held now f k l h rest given = rw (rest, given) (record {
  given = take n xs;
  items = refl;
  length_is = length-take-le n xs h;
  gave = gave_rest n xs f k l h;
})

pub put_ended : (n limit : ℕ) (xs ys : List ParseEvent) (f : Option Fault) (l : ℕ) → n ≡ min limit (length xs) → n ≢ limit → ys ≡ drop n xs → f ≡ None → EndAfter [] (untold ys f l)
put_ended n limit xs ys f l least other rest none = ended ys f l (rw rest (omega (arith, length-drop n xs, least, other))) none

pub put_lost : (limit : ℕ) (e : ParseError) (xs ys held now : List ParseEvent) (f : Option Fault) (k l : ℕ) → length ys ≤ length xs → now ≡ held → IsMemory e → PutBefore limit e (untold xs f k) (untold ys f l) held now
put_lost limit e [] ys held now f k l fewer same memory = rw (same, empty_of ys (omega (arith, fewer))) (record {
  given = [];
  items = sym (append-nil held);
  within = omega arith;
  failed = record { lost = []; coming = refl; left = omega arith; stuck = stays_stuck f; describes_itself = refl; saved = refl };
  fault = inl memory;
})
put_lost limit e (x ∷ xs) ys held now f k l fewer same memory = rw same (record {
  given = [];
  items = sym (append-nil held);
  within = omega arith;
  failed = record { lost = []; coming = refl; left = omega (arith, fewer); stuck = tt; describes_itself = refl; saved = refl };
  fault = inl memory;
})

failed_rest : (n : ℕ) (xs : List ParseEvent) (f : Option Fault) (k l : ℕ) → n ≤ length xs → FailedAfter (map event_of (take n xs)) (untold xs f k) (untold (drop n xs) f l)
failed_rest n xs f k l h = record {
  lost = [];
  coming = refl;
  left = omega (arith, length-drop n xs, length_given n xs h, h);
  stuck = stays_rest n xs f h;
  describes_itself = refl;
  saved = refl;
}

-- the fault behind the events that were given, of which there are fewer than the limit
met_behind : (n limit : ℕ) (e : ParseError) (xs ys : List ParseEvent) (f : Option Fault) (k l : ℕ) → length (take n xs) < limit → length ys ≡ 0 → (IsMemory e ⊎ (f ≡ Some (parse_fault e))) → IsMemory e ⊎ ((length (take n xs) < limit) × Met (map event_of (take n xs)) e (untold xs f k) (untold ys f l))
met_behind n limit e xs ys f k l less none (inl memory) = inl memory
met_behind n limit e xs ys f k l less none (inr met) = inr (less, rw (empty_of ys none) (record { fault = record { coming = tt }; stuck = met }))

pub put_met : (n limit : ℕ) (e : ParseError) (xs ys held now : List ParseEvent) (f : Option Fault) (k l : ℕ) → n ≡ min limit (length xs) → n ≢ limit → ys ≡ drop n xs → now ≡ held ++ take n xs → (IsMemory e ⊎ (f ≡ Some (parse_fault e))) → PutBefore limit e (untold xs f k) (untold ys f l) held now
put_met n limit e xs ys held now f k l least other rest given cause = rw (given, rest) (record {
  given = take n xs;
  items = refl;
  within = omega (arith, length-take-le n xs (omega (arith, least)), least);
  failed = failed_rest n xs f k l (omega (arith, least));
  fault = met_behind n limit e xs (drop n xs) f k l (omega (arith, length-take-le n xs (omega (arith, least)), least, other)) (omega (arith, length-drop n xs, least, other)) cause;
})
