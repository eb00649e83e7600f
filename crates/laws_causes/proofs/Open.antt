-- Events that begin a run and go on.
use Rattle.std.proofs.Common.{◌≡◌, List, [], ◌∷◌, ◌++◌, refl, sym, ap, ◌∙◌, append_assoc}
use Rattle.semantics_lines.specs.Events.{Note, no_note, unit, Key, scalar, key, of_struct, of_sequence, ContainerKind, Event, leaf, start, stop}
use Rattle.semantics.specs.Runs.{Inside, close, Run, one, group, inside_events, run_events, runs_events, Entry, entries_events}
use Rattle.semantics.specs.Seen.{IsOpen}
use Rattle.laws_reading.proofs.Streams.{put_run, put_run_events, inside_of, inside_of_events}

-- nothing has come yet
pub nothing_open : IsOpen []
nothing_open = record { run = one unit no_note; next = leaf (scalar unit no_note); rest = []; goes_on = refl }

-- whole entries, and no end
pub entries_open : (k : ContainerKind) (n : Note) (es : List Entry) → IsOpen (start of_struct k n ∷ entries_events es)
entries_open k n es = record {
  run = group of_struct k n (inside_of es no_note);
  next = stop of_struct no_note;
  rest = [];
  goes_on = ap (λ l. start of_struct k n ∷ l) (inside_of_events es no_note);
}

pub entries_events-append : (es more : List Entry) → entries_events (es ++ more) ≡ entries_events es ++ entries_events more
entries_events-append [] more = refl
entries_events-append (e ∷ es) more =
    ap (λ l. (leaf (key e.key) ∷ run_events e.run) ++ l) (entries_events-append es more)
    ∙ sym (append_assoc (leaf (key e.key) ∷ run_events e.run) (entries_events es) (entries_events more))

-- whole entries, and a key whose value is open
pub entry_open : (k : ContainerKind) (n : Note) (es : List Entry) (q : Key) (inside : List Event) → IsOpen inside
    → IsOpen ((start of_struct k n ∷ entries_events es) ++ (leaf (key q) ∷ inside))
entry_open k n es q inside open_part =
    let e : Entry = record { key = q; run = open_part.run } in
    let i = inside_of (es ++ (e ∷ [])) no_note in
    record {
      run = group of_struct k n i;
      next = open_part.next;
      rest = open_part.rest ++ (stop of_struct no_note ∷ []);
      goes_on =
          ap (λ l. start of_struct k n ∷ l)
          (inside_of_events (es ++ (e ∷ [])) no_note
          ∙ ap (λ l. l ++ (stop of_struct no_note ∷ [])) (entries_events-append es (e ∷ []))
          ∙ regroup (entries_events es) (leaf (key q)) (run_events open_part.run) inside (open_part.next ∷ open_part.rest) (stop of_struct no_note ∷ []) open_part.goes_on);
    }
  where
    regroup : (a : List Event) (x : Event) (r b c d : List Event) → r ≡ b ++ c → (a ++ ((x ∷ r) ++ [])) ++ d ≡ (a ++ (x ∷ b)) ++ (c ++ d)
    regroup a x r b c d is =
        append_assoc a ((x ∷ r) ++ []) d
        ∙ ap (λ l. a ++ (x ∷ l)) (ap (λ l. (l ++ []) ++ d) is ∙ append_assoc (b ++ c) [] d ∙ append_assoc b c d)
        ∙ sym (append_assoc a (x ∷ b) (c ++ d))

-- what is inside a sequence of these runs
abbrev pub inside_of_runs : List Run → Note → Inside
inside_of_runs [] n = close n
inside_of_runs (r ∷ rs) n = put_run r (inside_of_runs rs n)

pub inside_of_runs_events : (rs : List Run) (n : Note) → inside_events of_sequence (inside_of_runs rs n) ≡ runs_events rs ++ (stop of_sequence n ∷ [])
inside_of_runs_events [] n = refl
inside_of_runs_events (r ∷ rs) n =
    put_run_events of_sequence r (inside_of_runs rs n) ∙ ap (λ l. run_events r ++ l) (inside_of_runs_events rs n)
    ∙ sym (append_assoc (run_events r) (runs_events rs) (stop of_sequence n ∷ []))

-- whole items, and no end
pub runs_open : (k : ContainerKind) (n : Note) (rs : List Run) → IsOpen (start of_sequence k n ∷ runs_events rs)
runs_open k n rs = record {
  run = group of_sequence k n (inside_of_runs rs no_note);
  next = stop of_sequence no_note;
  rest = [];
  goes_on = ap (λ l. start of_sequence k n ∷ l) (inside_of_runs_events rs no_note);
}

pub runs_events-append : (rs more : List Run) → runs_events (rs ++ more) ≡ runs_events rs ++ runs_events more
runs_events-append [] more = refl
runs_events-append (r ∷ rs) more = ap (λ l. run_events r ++ l) (runs_events-append rs more) ∙ sym (append_assoc (run_events r) (runs_events rs) (runs_events more))

-- whole items, and one that is open
pub run_open : (k : ContainerKind) (n : Note) (rs : List Run) (inside : List Event) → IsOpen inside → IsOpen ((start of_sequence k n ∷ runs_events rs) ++ inside)
run_open k n rs inside open_part =
    let i = inside_of_runs (rs ++ (open_part.run ∷ [])) no_note in
    record {
      run = group of_sequence k n i;
      next = open_part.next;
      rest = open_part.rest ++ (stop of_sequence no_note ∷ []);
      goes_on =
          ap (λ l. start of_sequence k n ∷ l)
          (inside_of_runs_events (rs ++ (open_part.run ∷ [])) no_note
          ∙ ap (λ l. l ++ (stop of_sequence no_note ∷ [])) (runs_events-append rs (open_part.run ∷ []))
          ∙ regroup (runs_events rs) (run_events open_part.run) inside (open_part.next ∷ open_part.rest) (stop of_sequence no_note ∷ []) open_part.goes_on);
    }
  where
    regroup : (a r b c d : List Event) → r ≡ b ++ c → (a ++ (r ++ [])) ++ d ≡ (a ++ b) ++ (c ++ d)
    regroup a r b c d is =
        append_assoc a (r ++ []) d ∙ ap (λ l. a ++ l) (ap (λ l. (l ++ []) ++ d) is ∙ append_assoc (b ++ c) [] d ∙ append_assoc b c d) ∙ sym (append_assoc a b (c ++ d))
