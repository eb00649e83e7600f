-- What came of a sequence or an object so far: its start, and whole items or entries.
use Rattle.std.proofs.Common.{◌≡◌, ℕ, suc, ◌<◌, List, [], ◌∷◌, ◌++◌, length, sym, ap, ◌∙◌, append_assoc, length-append, arith}
use Rattle.std.proofs.lemmas.List.{append-nil}
use Rattle.semantics_lines.specs.Events.{Span, Note, Key, key_note, key, of_struct, of_sequence, ContainerKind, Event, leaf, start}
use Rattle.semantics.specs.Runs.{Run, run_events, runs_events, Entry, entries_events}
use Rattle.semantics.specs.Seen.{last_span}
use Rattle.laws_reading.proofs.Objects.{entry}
use Rattle.laws_reading.proofs.Sequences.{run_long}
use Rattle.laws_causes.proofs.Open.{entries_events-append, runs_events-append}
use Rattle.laws_reading.proofs.Lifting.{last_span-append}

abbrev pub items_so_far : ContainerKind → Note → List Run → List Event
items_so_far k m rs = start of_sequence k m ∷ runs_events rs

abbrev pub entries_so_far : ContainerKind → Note → List Entry → List Event
entries_so_far k m es = start of_struct k m ∷ entries_events es

-- fewer events are left behind a run
pub fewer : (r : Run) (l tail : List Event) (turns : ℕ) → l ≡ run_events r ++ tail → length l < suc turns → length tail < turns
fewer r l tail turns cut less =
    let long = ap length cut in
    let sum = length-append (run_events r) tail in
    let some = run_long r in
    omega (arith, less, long, sum, some)

pub item_comes : (k : ContainerKind) (m : Note) (rs : List Run) (r : Run) (l tail : List Event) → l ≡ run_events r ++ tail → items_so_far k m rs ++ l ≡ items_so_far k m (rs ++ (r ∷ [])) ++ tail
item_comes k m rs r l tail cut =
    ap (λ z. start of_sequence k m ∷ z)
    (ap (λ z. runs_events rs ++ z) (cut ∙ ap (λ z. z ++ tail) (sym (append-nil (run_events r))))
    ∙ sym (append_assoc (runs_events rs) (run_events r ++ []) tail) ∙ ap (λ z. z ++ tail) (sym (runs_events-append rs (r ∷ []))))

pub item_last : (k : ContainerKind) (m : Note) (rs : List Run) (r : Run) (first last after : Span) → last ≡ last_span first (items_so_far k m rs) → after ≡ last_span last (run_events r)
    → after ≡ last_span first (items_so_far k m (rs ++ (r ∷ [])))
item_last k m rs r first last after before is =
    is ∙ ap (λ z. last_span z (run_events r)) before ∙ sym (last_span-append first (items_so_far k m rs) (run_events r))
    ∙ ap (last_span first) (item_comes k m rs r (run_events r) [] (sym (append-nil (run_events r))) ∙ append-nil (items_so_far k m (rs ++ (r ∷ []))))

pub entry_comes : (k : ContainerKind) (m : Note) (es : List Entry) (q : Key) (r : Run) (l tail : List Event) → l ≡ run_events r ++ tail
    → entries_so_far k m es ++ (leaf (key q) ∷ l) ≡ entries_so_far k m (es ++ (entry q r ∷ [])) ++ tail
entry_comes k m es q r l tail cut =
    ap (λ z. start of_struct k m ∷ z)
    (ap (λ z. entries_events es ++ (leaf (key q) ∷ z)) (cut ∙ ap (λ z. z ++ tail) (sym (append-nil (run_events r))))
    ∙ sym (append_assoc (entries_events es) (leaf (key q) ∷ (run_events r ++ [])) tail) ∙ ap (λ z. z ++ tail) (sym (entries_events-append es (entry q r ∷ []))))

pub entry_last : (k : ContainerKind) (m : Note) (es : List Entry) (q : Key) (r : Run) (first after : Span) → after ≡ last_span (key_note q).span (run_events r)
    → after ≡ last_span first (entries_so_far k m (es ++ (entry q r ∷ [])))
entry_last k m es q r first after is =
    is ∙ sym (last_span-append first (entries_so_far k m es) (leaf (key q) ∷ run_events r))
    ∙ ap (last_span first) (entry_comes k m es q r (run_events r) [] (sym (append-nil (run_events r))) ∙ append-nil (entries_so_far k m (es ++ (entry q r ∷ []))))
