-- Adding to the bytes of a tape, piece by piece.
use Rattle.std.proofs.Common.{◌≡◌, ℕ, List, [], ◌++◌, Bool, true, Result, Ok, Err, sym, ap, ◌∙◌, append_assoc, append-nil}
use Rattle.std.specs.List.{flat_map}
use Rattle.shape_types.specs.declared.memory.OutOfMemory.{OutOfMemory}
use Rattle.semantics_lines.specs.Texts.{is_plain}
use Rattle.semantics_lines.specs.Lines.{escape}
use Rattle.tape_text.specs.Writer.{Adds}
use Rattle.laws_lines.proofs.Plain.{escape-plain}

-- one piece and then another
pub adds_more : (a b old mid new : List ℕ) (r : Result (Unit {0}) OutOfMemory) → mid ≡ old ++ a → Adds b mid new r → Adds (a ++ b) old new r
adds_more a b old mid new (Ok u) first then = then ∙ ap (λ x. x ++ b) first ∙ append_assoc old a b
adds_more a b old mid new (Err e) first then = (a ++ then.0, then.1 ∙ ap (λ x. x ++ then.0) first ∙ append_assoc old a then.0)

pub adds_nothing : (text old new : List ℕ) (e : OutOfMemory) → new ≡ old → Adds text old new (Err e)
adds_nothing text old new e h = ([], h ∙ sym (append-nil old))

-- A later piece found no memory.
pub adds_lost : (whole a old mid new : List ℕ) (e : OutOfMemory) → mid ≡ old ++ a → ((lost : List ℕ) × (new ≡ mid ++ lost)) → Adds whole old new (Err e)
adds_lost whole a old mid new e first then = (a ++ then.0, then.1 ∙ ap (λ x. x ++ then.0) first ∙ append_assoc old a then.0)

-- a text that needs no spelling
pub adds_plain : (text old new : List ℕ) (r : Result (Unit {0}) OutOfMemory) (plain : Bool) → plain ≡ is_plain text → plain ≡ true → Adds text old new r → Adds (flat_map escape text) old new r
adds_plain text old new r plain is holds h = rw (escape-plain text (sym is ∙ holds)) h
