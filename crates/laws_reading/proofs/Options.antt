-- The reader of options, and the meaning, in both directions.
use Rattle.std.proofs.Common.{◌≡◌, List, [], ◌∷◌, ◌++◌, Option, Some, None, Ok, Bool, true, false, cond, option_map, refl, sym, ap, ◌∙◌}
use Rattle.semantics_lines.specs.Trees.{Tree, none, some}
use Rattle.semantics_lines.specs.Events.{Span, Note, Scalar, scalar, key, tag, Event, leaf, start, stop}
use Rattle.semantics_lines.specs.Faults.{Step, Ending}
use Rattle.semantics.specs.Runs.{Run, one, group, tagged, run_events}
use Rattle.semantics.specs.Reading.{is_nothing, holds_nothing, read_option}
use Rattle.semantics.specs.Seen.{is_nothing_event, last_span}
use Rattle.laws_reading.specs.Input.{Input, feed, ◌>>=◌, Reads}
use Rattle.laws_reading.specs.Options.{with_some, option_of, option_at}
use Rattle.laws_reading.specs.Laws.{Sound, Complete}
use Rattle.laws_reading.proofs.Steps.{bind_ok, ok_is}

-- whether a run holds nothing is told by its first event
first_tells : (r : Run) (x : Event) (es rest : List Event) → x ∷ es ≡ run_events r ++ rest → is_nothing_event x ≡ holds_nothing r
first_tells (one s n) x es rest cut = let same : x ≡ leaf (scalar s n) = cc in ap is_nothing_event same
first_tells (group b k n i) x es rest cut = let same : x ≡ start b k n = cc in ap is_nothing_event same
first_tells (tagged t n r) x es rest cut = let same : x ≡ leaf (tag t n) = cc in ap is_nothing_event same

module _ (rd : Run → Option Tree) (read : Reads Tree) where
  abbrev Found : List Event → Ending → Span → Tree → Input → Type 0
  Found es ending last w after = (r : Run) × (es ≡ run_events r ++ after.events) × (after.ending ≡ ending) × (after.last ≡ last_span last (run_events r)) × (read_option rd r ≡ Some w)

  -- an event for nothing, which is the whole run
  nothing_sound : (path : List Step) (x : Scalar) (n : Note) (es : List Event) (ending : Ending) (last : Span) (w : Tree) (after : Input) → is_nothing x ≡ true
      → option_of true read path (feed (leaf (scalar x n) ∷ es) ending last) ≡ Ok (w, after) → Found (leaf (scalar x n) ∷ es) ending last w after
  nothing_sound path x n es ending last w after is e =
      let p = ok_is (none, feed es ending n.span) (w, after) e in (
        one x n,
        ap (λ (y : Tree × Input). leaf (scalar x n) ∷ y.1.events) p,
        sym (ap (λ (y : Tree × Input). y.1.ending) p),
        sym (ap (λ (y : Tree × Input). y.1.last) p),
        ap (λ b. cond b (Some none) (option_map some (rd (one x n)))) is ∙ ap (λ (y : Tree × Input). Some y.0) p,
      )

  -- what the option holds, behind an event for something
  some_sound : Sound rd read → (path : List Step) (x : Event) (es : List Event) (ending : Ending) (last : Span) (w : Tree) (after : Input) → is_nothing_event x ≡ false
      → option_of false read path (feed (x ∷ es) ending last) ≡ Ok (w, after) → Found (x ∷ es) ending last w after
  some_sound sound path x es ending last w after is e =
      let (v, told, made) = bind_ok (read path (feed (x ∷ es) ending last)) with_some (w, after) e in
      let p = ok_is (some v.0, v.1) (w, after) made in
      let (r, cut, same, end, reads) = sound path (x ∷ es) ending last v.0 v.1 told in (
        r,
        cut ∙ ap (λ (y : Tree × Input). run_events r ++ y.1.events) p,
        sym (ap (λ (y : Tree × Input). y.1.ending) p) ∙ same,
        sym (ap (λ (y : Tree × Input). y.1.last) p) ∙ end,
        ap (λ b. cond b (Some none) (option_map some (rd r))) (sym (first_tells r x es v.1.events cut) ∙ is) ∙ ap (option_map some) reads ∙ ap (λ (y : Tree × Input). Some y.0) p,
      )

  pub option_sound : Sound rd read → Sound (read_option rd) (option_at read)
  option_sound sound path [] ending last w after e = absurd cc
  option_sound sound path (leaf (scalar x n) ∷ es) ending last w after e = by_test (is_nothing x) refl e
    where
      by_test : (b : Bool) → is_nothing x ≡ b → option_of b read path (feed (leaf (scalar x n) ∷ es) ending last) ≡ Ok (w, after) → Found (leaf (scalar x n) ∷ es) ending last w after
      by_test true is e = nothing_sound path x n es ending last w after is e
      by_test false is e = some_sound sound path (leaf (scalar x n)) es ending last w after is e
  option_sound sound path (leaf (key q) ∷ es) ending last w after e = some_sound sound path (leaf (key q)) es ending last w after refl e
  option_sound sound path (leaf (tag t n) ∷ es) ending last w after e = some_sound sound path (leaf (tag t n)) es ending last w after refl e
  option_sound sound path (start b k n ∷ es) ending last w after e = some_sound sound path (start b k n) es ending last w after refl e
  option_sound sound path (stop b n ∷ es) ending last w after e = some_sound sound path (stop b n) es ending last w after refl e

  -- what a run of something is read as
  some_complete : Complete rd read → (path : List Step) (r : Run) (w : Tree) (rest : List Event) (ending : Ending) (last : Span) → option_map some (rd r) ≡ Some w
      → option_of false read path (feed (run_events r ++ rest) ending last) ≡ Ok (w, feed rest ending (last_span last (run_events r)))
  some_complete complete path r w rest ending last e = by_value (rd r) refl e
    where
      by_value : (o : Option Tree) → rd r ≡ o → option_map some o ≡ Some w → option_of false read path (feed (run_events r ++ rest) ending last) ≡ Ok (w, feed rest ending (last_span last (run_events r)))
      by_value None reads e = absurd cc
      by_value (Some v) reads e =
          let same : some v ≡ w = cc in
          ap (λ z. z >>= with_some) (complete path r v rest ending last reads) ∙ ap (λ y. Ok (y, feed rest ending (last_span last (run_events r)))) same

  pub option_complete : Complete rd read → Complete (read_option rd) (option_at read)
  option_complete complete path (one x n) w rest ending last e = by_test (is_nothing x) refl e
    where
      by_test : (b : Bool) → is_nothing x ≡ b → cond b (Some none) (option_map some (rd (one x n))) ≡ Some w
          → option_of b read path (feed (leaf (scalar x n) ∷ rest) ending last) ≡ Ok (w, feed rest ending n.span)
      by_test true is e = let same : none ≡ w = cc in ap (λ y. Ok (y, feed rest ending n.span)) same
      by_test false is e = some_complete complete path (one x n) w rest ending last e
  option_complete complete path (group b k n i) w rest ending last e = some_complete complete path (group b k n i) w rest ending last e
  option_complete complete path (tagged t n r) w rest ending last e = some_complete complete path (tagged t n r) w rest ending last e
