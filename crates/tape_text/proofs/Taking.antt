-- Calls of a parser of a tape.
use Rattle.std.proofs.Common.{ℕ, ◌+◌, ◌-◌, ◌<◌, ◌≡◌, ◌⊎◌, List, [], ◌∷◌, ◌++◌, true, false, Some, None, Ok, Err, inl, inr, length, refl, ap, arith}
use Rattle.semantics_lines.specs.Faults.{Coming}
use Rattle.event_core.specs.Events.{event_of}
use Rattle.event_core.specs.declared.event.ParseEvent.{ParseEvent}
use Rattle.event_core.specs.declared.error.ParseError.{ParseError}
use Rattle.format_traits.specs.Parsing.{Parsing, Gave, Failed, EndAfter, Met, IsNext, IsMemory}
use Rattle.format_traits.specs.Batches.{Put, PutBefore}
use Rattle.format_traits.proofs.ParsingLemmas.{put_none, put_more, put_still, put_refused}
use Rattle.format_traits.proofs.TellingLemmas.{told_gave, told_still, told_failed, told_end, told_met, told_next, told_no_next}
use Rattle.tape_text.specs.Parser.{coming_at, parsing_of, LooksAt, PutNext}

abbrev pub tape_at : List ℕ → ℕ → ℕ → Parsing
tape_at input at faults = parsing_of (record { input = input; at = at; faults = faults })

pub takes : (input : List ℕ) (at next f g : ℕ) (e : ParseEvent) → LooksAt input at (Ok (Some (e, next))) → Gave (event_of e ∷ []) (tape_at input at f) (tape_at input next g)
takes input at next f g e h =
    told_gave (event_of e) (coming_at input at) (coming_at input next) (length input - at) (length input - next) f g None h.2 (omega (arith, h.0, h.1))

pub keeps : (input : List ℕ) (at f g : ℕ) → Gave [] (tape_at input at f) (tape_at input at g)
keeps input at f g = told_still (coming_at input at) (length input - at) (length input - at) f g None (omega arith)

pub fails : (input : List ℕ) (at f g : ℕ) → Failed (tape_at input at f) (tape_at input at g)
fails input at f g = told_failed (coming_at input at) (length input - at) (length input - at) f g None (omega arith)

pub ended : (input : List ℕ) (at f : ℕ) → LooksAt input at (Ok None) → EndAfter [] (tape_at input at f)
ended input at f h = told_end (coming_at input at) (length input - at) f None h

pub meets : (input : List ℕ) (at f g : ℕ) (e : ParseError) → LooksAt input at (Err e) → IsMemory e ⊎ Met [] e (tape_at input at f) (tape_at input at g)
meets input at f g e (inl m) = inl m
meets input at f g e (inr h) = inr (told_met e (coming_at input at) (length input - at) (length input - at) f g None h)

pub sees : (input : List ℕ) (at next f : ℕ) (e : ParseEvent) → LooksAt input at (Ok (Some (e, next))) → IsNext (Some e) (tape_at input at f)
sees input at next f e h = told_next e (coming_at input at) (coming_at input next) (length input - at) f None h.2

pub sees_none : (input : List ℕ) (at f : ℕ) → LooksAt input at (Ok None) → IsNext None (tape_at input at f)
sees_none input at f h = told_no_next (coming_at input at) (length input - at) f None (ap (λ (c : Coming). c.events) h)

pub puts : (input : List ℕ) (at next f g : ℕ) (e : ParseEvent) (held : List ParseEvent) → LooksAt input at (Ok (Some (e, next))) → PutNext true (tape_at input at f) (tape_at input next g) held (held ++ (e ∷ []))
puts input at next f g e held h = (e, refl, takes input at next f g e h)

pub puts_none : (input : List ℕ) (at f g : ℕ) (held : List ParseEvent) → LooksAt input at (Ok None) → PutNext false (tape_at input at f) (tape_at input at g) held held
puts_none input at f g held h = (refl, keeps input at f g, ended input at g h)

pub put_first : (p : Parsing) (held : List ParseEvent) → Put 0 p p held held
put_first p held = put_none p held

pub put_another : (n : ℕ) (p q r : Parsing) (held now then : List ParseEvent) → Put n p q held now → PutNext true q r now then → Put (n + 1) p r held then
put_another n p q r held now then put h = rw h.1 (put_more n p q r held now h.0 put h.2)

pub put_last : (n : ℕ) (p q r : Parsing) (held now then : List ParseEvent) → Put n p q held now → PutNext false q r now then → Put n p r held then
put_last n p q r held now then put h = rw h.0 (put_still n p q r held now put h.1)

pub put_end : (q r : Parsing) (now then : List ParseEvent) → PutNext false q r now then → EndAfter [] r
put_end q r now then h = h.2

pub put_refuses : (n limit : ℕ) (e : ParseError) (p q r : Parsing) (held now then : List ParseEvent) → Put n p q held now → n < limit → then ≡ now → Failed q r → IsMemory e ⊎ Met [] e q r → PutBefore limit e p r held then
put_refuses n limit e p q r held now then put less same failed fault = rw same (put_refused n limit e p q r held now put less failed fault)
