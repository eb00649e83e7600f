use Rattle.std.proofs.Common.{◌≡◌, true, false, Ok, Err, ap}
use Rattle.std.specs.Prelude.{MatchResult}
use Rattle.semantics_lines.specs.Documents.{Document}
use Rattle.semantics.specs.Writing.{Written, write}
use Rattle.semantics.specs.Calling.{Part, calls_of}
use Rattle.semantics_lines.specs.Tapes.{tape, document_tape, calls_tape}
use Rattle.laws.proofs.Called.{TellsForm, value_tells}
use Rattle.laws.proofs.calls_write.Goals as goal

spelled : (d : Written Document) (p : Part) → TellsForm d p
    → MatchResult d (λ form. (p.whole ≡ true) × (calls_tape p.calls ≡ document_tape form)) (λ why. p.whole ≡ false)
spelled (Ok d) p (whole, is) = (whole, ap tape is)
spelled (Err e) p broken = broken

pub returns : goal.returns
returns c w shape value = spelled (write w.registry shape value) (calls_of w shape value) (value_tells w shape value)
