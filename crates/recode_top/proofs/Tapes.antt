-- From the calls that were made to the tape.
use Rattle.std.proofs.Common.{◌≡◌, ℕ, List, ◌++◌, [], true, false, Ok, Err, refl, sym, ◌∙◌}
use Rattle.std.specs.Result.{MatchResult}
use Rattle.std.proofs.lemmas.Bool.{false≢true}
use Rattle.semantics_lines.specs.Trees.{Tree}
use Rattle.semantics_lines.specs.Documents.{Document}
use Rattle.semantics.specs.Writing.{Unwritten, Written, write}
use Rattle.semantics.specs.Calling.{Part, Writer, calls_of}
use Rattle.semantics_lines.specs.Calls.{Call}
use Rattle.semantics_lines.specs.Tapes.{document_tape, calls_tape}
use Rattle.laws.specs.Laws.{CallsWrite}
use Rattle.event_core.specs.declared.error.SerializeError.{SerializeError}
use Rattle.event_core.specs.declared.error.SerializeError.TheVariants.{Backend, Reflect, Unsupported, Internal, Alloc}
use Rattle.format_traits.specs.Writing.{Writing}
use Rattle.std.specs.declared.convert.Infallible.{Infallible}
use Rattle.format_write.specs.Wrote.{Fails}
use Rattle.recode_top.specs.Recode.{Unwrites}

-- the calls come to their end exactly where there is a form, and then their tape is its tape
abbrev Fits : Part → Written Document → Type 0
Fits p form = MatchResult form (λ d. (p.whole ≡ true) × (calls_tape p.calls ≡ document_tape d)) (λ why. p.whole ≡ false)

whole_form : (p : Part) (form : Written Document) → Fits p form → p.whole ≡ true → (out : List ℕ) → out ≡ [] ++ calls_tape p.calls → (d : Document) × (form ≡ Ok d) × (out ≡ document_tape d)
whole_form p (Ok d) fits whole out made = (d, refl, made ∙ fits.1)
whole_form p (Err why) fits whole out made = absurd (false≢true (sym fits ∙ whole))

no_form : (p : Part) (form : Written Document) → Fits p form → p.whole ≡ false → (why : Unwritten) × (form ≡ Err why)
no_form p (Ok d) fits none = absurd (false≢true (sym none ∙ fits.0))
no_form p (Err why) fits none = (why, refl)

-- the calls of the whole value were made
pub tape_written : CallsWrite → (w : Writer) (shape : ℕ) (value : Tree) (out : List ℕ) → (calls_of w shape value).whole ≡ true → out ≡ [] ++ calls_tape (calls_of w shape value).calls
    → (d : Document) × (write w.registry shape value ≡ Ok d) × (out ≡ document_tape d)
tape_written law w shape value out whole made = whole_form (calls_of w shape value) (write w.registry shape value) (law w shape value) whole out made

-- they weren't
pub tape_unwritten : CallsWrite → (w : Writer) (shape : ℕ) (value : Tree) (made : List Call → Type 0) (old new : Writing) (e : SerializeError Infallible) → Fails (calls_of w shape value) made old new e
    → Unwrites (write w.registry shape value) e
tape_unwritten law w shape value made old new (Backend e) f = elim e [ ]
tape_unwritten law w shape value made old new (Reflect e) f = f
tape_unwritten law w shape value made old new (Unsupported t) f = no_form (calls_of w shape value) (write w.registry shape value) (law w shape value) f.0
tape_unwritten law w shape value made old new (Internal t) f = f
tape_unwritten law w shape value made old new Alloc f = tt
