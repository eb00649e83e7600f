-- Calls of the parser, each by what stood in front of it.
use Rattle.std.proofs.Common.{ℕ, ◌+◌, ◌<◌, ◌≤◌, ◌≡◌, ◌⊎◌, List, [], ◌∷◌, ◌++◌, true, false, Some, None, Ok, Err, inr, length, drop, refl, ap, arith}
use Rattle.semantics_lines.specs.Faults.{Coming}
use Rattle.event_core.specs.Events.{event_of}
use Rattle.event_core.specs.declared.event.ParseEvent.{ParseEvent}
use Rattle.event_core.specs.declared.error.ParseError.{ParseError}
use Rattle.format_traits.specs.Parsing.{Parsing, Gave, Failed, EndAfter, Met, IsNext, IsMemory}
use Rattle.format_traits.specs.Batches.{Put, PutBefore}
use Rattle.format_traits.proofs.ParsingLemmas.{put_none, put_more, put_still, put_refused}
use Rattle.format_traits.proofs.TellingLemmas.{told_gave, told_still, told_failed, told_end, told_met, told_next, told_no_next}
use Rattle.terse_text.specs.Terse.{coming_from, Stands}
use Rattle.terse_text.specs.Parser.{parsing_of, PutNext}

abbrev pub terse : ℕ → List ℕ → ℕ → Parsing
terse len rest faults = parsing_of (record { len = len; rest = rest; faults = faults })

pub takes : (len : ℕ) (rest : List ℕ) (f g : ℕ) (e : ParseEvent) → Stands len rest (Ok (Some e)) → Gave (event_of e ∷ []) (terse len rest f) (terse len (drop 1 rest) g)
takes len rest f g e h = told_gave (event_of e) (coming_from len rest) (coming_from len (drop 1 rest)) (length rest) (length (drop 1 rest)) f g None h.1 (shorter rest h.0) where
  shorter : (rest : List ℕ) → 1 ≤ length rest → length (drop 1 rest) + 1 ≤ length rest
  shorter [] some = some
  shorter (b ∷ bs) some = omega arith

pub keeps : (len : ℕ) (rest : List ℕ) (f g : ℕ) → Gave [] (terse len rest f) (terse len rest g)
keeps len rest f g = told_still (coming_from len rest) (length rest) (length rest) f g None (omega arith)

pub fails : (len : ℕ) (rest : List ℕ) (f g : ℕ) → Failed (terse len rest f) (terse len rest g)
fails len rest f g = told_failed (coming_from len rest) (length rest) (length rest) f g None (omega arith)

pub ended : (len : ℕ) (rest : List ℕ) (f : ℕ) → Stands len rest (Ok None) → EndAfter [] (terse len rest f)
ended len rest f h = told_end (coming_from len rest) (length rest) f None h

pub meets : (len : ℕ) (rest : List ℕ) (f g : ℕ) (e : ParseError) → Stands len rest (Err e) → IsMemory e ⊎ Met [] e (terse len rest f) (terse len rest g)
meets len rest f g e h = inr (told_met e (coming_from len rest) (length rest) (length rest) f g None h)

pub sees : (len : ℕ) (rest : List ℕ) (f : ℕ) (e : ParseEvent) → Stands len rest (Ok (Some e)) → IsNext (Some e) (terse len rest f)
sees len rest f e h = told_next e (coming_from len rest) (coming_from len (drop 1 rest)) (length rest) f None h.1

pub sees_none : (len : ℕ) (rest : List ℕ) (f : ℕ) → Stands len rest (Ok None) → IsNext None (terse len rest f)
sees_none len rest f h = told_no_next (coming_from len rest) (length rest) f None (ap (λ (c : Coming). c.events) h)

pub puts : (len : ℕ) (rest : List ℕ) (f g : ℕ) (e : ParseEvent) (held : List ParseEvent) → Stands len rest (Ok (Some e)) → PutNext true (terse len rest f) (terse len (drop 1 rest) g) held (held ++ (e ∷ []))
puts len rest f g e held h = (e, refl, takes len rest f g e h)

pub puts_none : (len : ℕ) (rest : List ℕ) (f g : ℕ) (held : List ParseEvent) → Stands len rest (Ok None) → PutNext false (terse len rest f) (terse len rest g) held held
puts_none len rest f g held h = (refl, keeps len rest f g, ended len rest g h)

pub put_first : (p : Parsing) (held : List ParseEvent) → Put 0 p p held held
put_first p held = put_none p held

pub put_another : (n : ℕ) (p q r : Parsing) (held now then : List ParseEvent) → Put n p q held now → PutNext true q r now then → Put (n + 1) p r held then
put_another n p q r held now then put h = rw h.1 (put_more n p q r held now h.0 put h.2)

pub put_last : (n : ℕ) (p q r : Parsing) (held now then : List ParseEvent) → Put n p q held now → PutNext false q r now then → Put n p r held then
put_last n p q r held now then put h = rw h.0 (put_still n p q r held now put h.1)

pub put_end : (q r : Parsing) (now then : List ParseEvent) → PutNext false q r now then → EndAfter [] r
put_end q r now then h = h.2

pub put_refuses : (n limit : ℕ) (e : ParseError) (p q r : Parsing) (held now then : List ParseEvent) → Put n p q held now → n < limit → then ≡ now → Failed q r → IsMemory e ⊎ Met [] e q r → PutBefore limit e p r held then
put_refuses n limit e p q r held now then put less same failed fault = rw same (put_refused n limit e p q r held now put less failed fault)
