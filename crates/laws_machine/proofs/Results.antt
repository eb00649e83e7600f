-- Options and results.
use Rattle.std.proofs.Common.{◌≡◌, ℕ, List, [], ◌∷◌, ◌++◌, Option, Some, None, Result, Ok, Err, Bool, true, false, refl, sym, ◌∙◌}
use Rattle.semantics_lines.specs.Trees.{Tree}
use Rattle.semantics_lines.specs.Events.{Span, of_struct, of_sequence, Event, leaf, start, stop, span_of}
use Rattle.semantics_lines.specs.Faults.{variant_step, Fault, Ending}
use Rattle.semantics.specs.Reading.{from_events}
use Rattle.semantics.specs.Seen.{is_nothing_event}
use Rattle.laws_reading.specs.Input.{Input, feed, ◌>>=◌}
use Rattle.laws_reading.specs.Options.{with_some, option_of, option_at, Sides, side_of, side_in, result_closed, result_side, result_inside, result_at}
use Rattle.laws_reading.specs.Values.{Terms, reading}
use Rattle.laws_machine.specs.Frames.{option, outcome_key, outcome_side, outcome_end, Frames, path}
use Rattle.laws_machine.specs.Begins.{begin_option, begin_result, new_result, begin}
use Rattle.laws_machine.specs.Steps.{side_step}
use Rattle.laws_machine.specs.Machine.{run, on}
use Rattle.laws_machine.proofs.Turns.{bind_bind, resume, Meets, first}

module _ (t : Terms) (n : ℕ) (meets : Meets t n) where
  by_nothing : (i : ℕ) (b : Bool) (fs : Frames) (e : Event) (es : List Event) (ending : Ending) (last : Span)
      → (begin_option b (begin t n i from_events) fs last e >>= on t (feed es ending (span_of e))) ≡ (option_of b (reading t n i from_events) (path t fs) (feed (e ∷ es) ending last) >>= resume t fs)
  by_nothing i true fs e es ending last = refl
  by_nothing i false fs e es ending last =
      first t n i from_events (option ∷ fs) e es ending last ∙ meets i from_events (option ∷ fs) (feed (e ∷ es) ending last)
      ∙ sym (bind_bind (reading t n i from_events (path t fs) (feed (e ∷ es) ending last)) with_some (resume t fs))

  pub option_meets : (i : ℕ) (fs : Frames) (e : Event) (es : List Event) (ending : Ending) (last : Span)
      → (begin_option (is_nothing_event e) (begin t n i from_events) fs last e >>= on t (feed es ending (span_of e))) ≡ (option_at (reading t n i from_events) (path t fs) (feed (e ∷ es) ending last) >>= resume t fs)
  option_meets i fs e es ending last = by_nothing i (is_nothing_event e) fs e es ending last

  close_meets : (b : Bool) (v : Tree) (fs : Frames) (es : List Event) (ending : Ending) (last : Span)
      → run t (outcome_end b v ∷ fs) (feed es ending last) ≡ (result_closed b (path t fs) (v, feed es ending last) >>= resume t fs)
  close_meets b v fs [] ending last = refl
  close_meets b v fs (stop of_struct m ∷ es) ending last = refl
  close_meets b v fs (stop of_sequence m ∷ es) ending last = refl
  close_meets b v fs (start c k m ∷ es) ending last = refl
  close_meets b v fs (leaf l ∷ es) ending last = refl

  module _ (i j : ℕ) where
    abbrev sides : Sides
    sides = record { ok_shape = i; err_shape = j }

    by_value : (b : Bool) (fs : Frames) (r : Result (Tree × Input) Fault) → (r >>= resume t (outcome_side (new_result i j n) b ∷ fs)) ≡ ((r >>= result_closed b (path t fs)) >>= resume t fs)
    by_value b fs (Ok x) = close_meets b x.0 fs x.1.events x.1.ending x.1.last
    by_value b fs (Err f) = refl

    by_side : (o : Option Bool) (fs : Frames) (rest : Input) → (side_step o t (new_result i j n) fs rest.last >>= on t rest) ≡ (result_side o (reading t n) sides (path t fs) rest >>= resume t fs)
    by_side None fs rest = refl
    by_side (Some b) fs rest =
        meets (side_of sides b).shape from_events (outcome_side (new_result i j n) b ∷ fs) rest
        ∙ by_value b fs (reading t n (side_of sides b).shape from_events (path t fs ++ (variant_step (side_of sides b).name ∷ [])) rest)

    inside_meets : (fs : Frames) (es : List Event) (ending : Ending) (last : Span)
        → run t (outcome_key (new_result i j n) ∷ fs) (feed es ending last) ≡ (result_inside (reading t n) sides (path t fs) (feed es ending last) >>= resume t fs)
    inside_meets fs [] ending last = refl
    inside_meets fs (e ∷ es) ending last = by_side (side_in e) fs (feed es ending (span_of e))

    pub result_meets : (fs : Frames) (e : Event) (es : List Event) (ending : Ending) (last : Span)
        → (begin_result t (new_result i j n) fs e >>= on t (feed es ending (span_of e))) ≡ (result_at (reading t n) sides (path t fs) (feed (e ∷ es) ending last) >>= resume t fs)
    result_meets fs (start of_struct k m) es ending last = inside_meets fs es ending m.span
    result_meets fs (start of_sequence k m) es ending last = refl
    result_meets fs (leaf l) es ending last = refl
    result_meets fs (stop b m) es ending last = refl
