-- Events of a valid input are read back.
use Rattle.std.proofs.Common.{◌≡◌, ℕ, List, [], ◌∷◌, ◌++◌, Option, Some, map, sym, ap, ◌∙◌}
use Rattle.std.proofs.lemmas.List.{append-nil}
use Rattle.semantics_lines.specs.Trees.{Tree}
use Rattle.semantics_lines.specs.Events.{Event, unplaced}
use Rattle.semantics.specs.Runs.{run_events}
use Rattle.semantics_lines.specs.Documents.{document_events}
use Rattle.semantics.specs.Writing.{write}
use Rattle.semantics.specs.Reading.{Setting, Source, from_events, read, Reads}
use Rattle.laws.specs.Laws.{Valid, ReadsBack}
use Rattle.laws.proofs.Whole.{unique}
use Rattle.laws.proofs.Spelled.{shown}
use Rattle.laws.proofs.Canonical.{law}
use Rattle.laws.proofs.Rewritten.{write_alike}

none_left : (es : List Event) → map unplaced es ≡ [] → es ≡ []
none_left [] e = e
none_left (x ∷ es) e = absurd cc

pub read_back : (g : Setting) (root budget : ℕ) (input : List Event) (v : Tree) → Valid g root budget input v → ReadsBack g root budget input v
read_back g root budget input v valid =
    let (run, rest, is, none, shows) = shown valid.permuted input [] (valid.listed ∙ sym (append-nil (document_events valid.permuted))) in
    let (w, found, alike) = law g valid.checked budget root valid.separable v valid.document run valid.deep valid.written (valid.permuted, valid.order, shows) in (
      w,
      record { run = run; cut = is ∙ ap (λ l. run_events run ++ l) (none_left rest none) ∙ append-nil (run_events run); is = found },
      alike,
      write_alike g.registry root v w alike,
    )

same_value : (o : Option Tree) (v w : Tree) → o ≡ Some v → o ≡ Some w → v ≡ w
same_value o v w e f = cc

-- events are read as one value
pub same_read : (g : Setting) (depth shape : ℕ) (source : Source) (events : List Event) (v w : Tree) → Reads g depth shape source events v → Reads g depth shape source events w → v ≡ w
same_read g depth shape source events v w first again =
    let (same, rest) = unique first.run again.run [] [] (append-nil (run_events first.run) ∙ sym first.cut ∙ again.cut ∙ sym (append-nil (run_events again.run))) in
    same_value (read g depth shape source first.run) v w first.is (ap (read g depth shape source) same ∙ again.is)

pub written_alike : (g : Setting) (root budget : ℕ) (input : List Event) (value v : Tree) → Valid g root budget input value → Reads g budget root from_events input v → write g.registry root v ≡ write g.registry root value
written_alike g root budget input value v valid reads =
    let (w, again, alike, same) = read_back g root budget input value valid in
    ap (write g.registry root) (same_read g budget root from_events input v w reads again) ∙ same
