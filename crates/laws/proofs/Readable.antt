-- A valid tape is read, and recoded to the tape of its value's document.
use Rattle.std.proofs.Common.{◌≡◌, ℕ, List, Ok, sym, ap, ◌∙◌, subst}
use Rattle.semantics_lines.specs.Trees.{Tree}
use Rattle.semantics_lines.specs.Shapes.{Registry}
use Rattle.semantics.specs.Registry.{IsRegistry}
use Rattle.semantics_lines.specs.Documents.{Document}
use Rattle.semantics.specs.Reading.{Reads, from_events}
use Rattle.semantics.specs.Writing.{Written, write}
use Rattle.semantics_lines.specs.Tapes.{document_tape, IsTape}
use Rattle.semantics.specs.Recoding.{tape_setting, Recodes, IsReadable, IsValid}
use Rattle.laws.proofs.Fitting.{permuted_fits, written_fits}
use Rattle.laws.proofs.Taped.{form_taped}
use Rattle.laws.proofs.Reread.{read_back, same_read}
use Rattle.laws_lines.proofs.OneTape.{one_tape}

pub readable : (g : Registry) → IsRegistry g → (root budget : ℕ) (input : List ℕ) (value : Tree) (document : Document) → IsValid g root budget input value document → IsReadable g root budget input document
readable g checked root budget input value document valid =
    let (events, taped, listed) = form_taped valid.permuted (permuted_fits document valid.permuted valid.order (written_fits g checked root value document valid.utf8 valid.written)) in
    let (w, reads, alike, same) = read_back (tape_setting g) root budget events value (record {
      checked = checked;
      separable = valid.separable;
      of_root = valid.of_root;
      utf8 = valid.utf8;
      clean = valid.clean;
      deep = valid.deep;
      document = document;
      written = valid.written;
      permuted = valid.permuted;
      order = valid.order;
      listed = listed;
    }) in
    record { events = events; taped = subst (IsTape events) (sym valid.taped) taped; value = w; reads = reads; written = same ∙ valid.written }

same_form : (o : Written Document) (d e : Document) → o ≡ Ok d → o ≡ Ok e → d ≡ e
same_form o d e p q = cc

pub recoded : (g : Registry) → IsRegistry g → (root budget : ℕ) (input out : List ℕ) (value : Tree) (document : Document)
    → IsValid g root budget input value document → Recodes g root budget input out → out ≡ document_tape document
recoded g checked root budget input out value document valid recodes =
    let found = readable g checked root budget input value document valid in
    let events = one_tape recodes.events found.events input recodes.taped found.taped in
    let reads = subst (λ l. Reads (tape_setting g) budget root from_events l recodes.value) events recodes.reads in
    let values = same_read (tape_setting g) budget root from_events found.events recodes.value found.value reads found.reads in
    let forms = same_form (write g root recodes.value) recodes.document document recodes.written (ap (write g root) values ∙ found.written) in
    recodes.is ∙ ap document_tape forms
