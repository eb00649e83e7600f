-- Tuples, as sequences and as objects.
use Rattle.std.proofs.Common.{◌≡◌, ℕ, zero, suc, ◌+◌, ◌<◌, List, [], ◌∷◌, ◌++◌, length, drop, slice_get, Option, Some, None, Result, Ok, Err, Bool, true, false, not, ◌&&◌, refl, sym, ◌∙◌, ap, arith}
use Rattle.semantics_lines.specs.Trees.{Tree}
use Rattle.semantics_lines.specs.Shapes.{Field, StructShape, Registry}
use Rattle.semantics_lines.specs.Events.{Span, key_note, scalar, key, tag, of_struct, of_sequence, object_kind, array_kind, Event, leaf, start, stop, span_of}
use Rattle.semantics.specs.Labels.{label_at}
use Rattle.semantics_lines.specs.Faults.{index_step, Fault, Ending}
use Rattle.semantics.specs.Registry.{has_some}
use Rattle.semantics.specs.Reading.{from_events, is_nothing}
use Rattle.semantics.specs.Seen.{ends_sequence}
use Rattle.laws_reading.specs.Input.{Input, feed, ◌>>=◌, turned, turning}
use Rattle.laws_reading.specs.Sequences.{with_item}
use Rattle.laws_reading.specs.Tuples.{Elements, element_at, element_of, element_turn, keyed_of, keyed_turn, filled_from, tuple_end, empty_tuple, tuple_at}
use Rattle.laws_reading.specs.Tuples as tuples
use Rattle.laws_reading.specs.Values.{Terms, reading}
use Rattle.laws_machine.specs.Frames.{elements, keyed, keyed_item, Frames, TuplePart, path}
use Rattle.laws_machine.specs.Delivery.{here, handed}
use Rattle.laws_machine.specs.Begins.{begin_tuple, new_tuple}
use Rattle.laws_machine.specs.Steps.{as_tuple, tuple_step, element_in, element_step, keyed_in, keyed_step}
use Rattle.laws_machine.specs.Machine.{run, on}
use Rattle.laws_machine.proofs.Turns.{resume, Meets, first}
use Rattle.laws_machine.proofs.Falls.{reading_falls}
use Rattle.laws_machine.proofs.Spans.{filled_here}

module _ (t : Terms) (n : ℕ) (meets : Meets t n) (s : ℕ) (d : StructShape) where
  abbrev registry : Registry
  registry = t.setting.registry

  abbrev tuple : Elements
  tuple = record { shape = label_at registry s; fields = d.fields }

  abbrev part : List Tree → TuplePart
  part front = record { elements = tuple; depth = n; front = front }

  by_list : (r : Result (List Tree) Fault) (fs : Frames) (rest : Input) → ((r >>= as_tuple fs) >>= on t rest) ≡ ((r >>= tuples.as_tuple rest) >>= resume t fs)
  by_list (Ok vs) fs rest = refl
  by_list (Err f) fs rest = refl

  end_meets : (front : List Tree) (fs : Frames) (rest : Input) → (tuple_step t (part front) fs rest.last >>= on t rest) ≡ (tuple_end registry tuple (path t fs) (front, rest) >>= resume t fs)
  end_meets front fs rest =
      by_list (filled_from registry (label_at registry s) (drop (length front) d.fields) front (path t fs) (here rest.last)) fs rest
      ∙ ap (λ r. (r >>= tuples.as_tuple rest) >>= resume t fs) (sym (filled_here registry (label_at registry s) (drop (length front) d.fields) front (path t fs) rest))

  elements_meet : (k : ℕ) (front : List Tree) (fs : Frames) (es : List Event) (ending : Ending) (last : Span) → length es < k
      → run t (elements (part front) ∷ fs) (feed es ending last) ≡ ((turning (element_turn tuple (reading t n)) k front (path t fs) (feed es ending last) >>= tuple_end registry tuple (path t fs)) >>= resume t fs)
  elements_meet zero front fs es ending last lt = absurd (omega (arith, lt))
  elements_meet (suc k) front fs [] ending last lt = refl
  elements_meet (suc k) front fs (e ∷ es) ending last lt = by_end (ends_sequence e)
      (λ v rest less. elements_meet k (front ++ (v ∷ [])) fs rest.events rest.ending rest.last (omega (arith, lt, less)))
    where
      behind : Result ((Bool × List Tree) × Input) Fault → Result (Tree × Input) Fault
      behind r = ((r >>= λ x. turned (turning (element_turn tuple (reading t n)) k) x.0.0 x.0.1 (path t fs) x.1) >>= tuple_end registry tuple (path t fs)) >>= resume t fs

      Again : Type 0
      Again = (v : Tree) (rest : Input) → length rest.events < length (e ∷ es)
          → run t (elements (part (front ++ (v ∷ []))) ∷ fs) rest ≡ ((turning (element_turn tuple (reading t n)) k (front ++ (v ∷ [])) (path t fs) rest >>= tuple_end registry tuple (path t fs)) >>= resume t fs)

      by_value : (i : ℕ) (r : Result (Tree × Input) Fault) → reading t n i from_events (path t fs ++ (index_step (length front) ∷ [])) (feed (e ∷ es) ending last) ≡ r → Again
          → (r >>= resume t (elements (part front) ∷ fs)) ≡ behind (r >>= with_item front)
      by_value i (Ok x) is again = again x.0 x.1 (reading_falls t n i from_events _ _ x is)
      by_value i (Err f) is again = refl

      by_field : (o : Option Field) → Again → (element_in o t (part front) fs last e >>= on t (feed es ending (span_of e))) ≡ behind (element_at o tuple (reading t n) front (path t fs) (feed (e ∷ es) ending last))
      by_field None again = refl
      by_field (Some f) again =
          first t n f.shape from_events (elements (part front) ∷ fs) e es ending last ∙ meets f.shape from_events (elements (part front) ∷ fs) (feed (e ∷ es) ending last)
          ∙ by_value f.shape (reading t n f.shape from_events (path t fs ++ (index_step (length front) ∷ [])) (feed (e ∷ es) ending last)) refl again

      by_end : (b : Bool) → Again → (element_step b t (part front) fs last e >>= on t (feed es ending (span_of e))) ≡ behind (element_of b tuple (reading t n) front (path t fs) (feed (e ∷ es) ending last))
      by_end true again = end_meets front fs (feed es ending (span_of e))
      by_end false again = by_field (slice_get d.fields (length front)) again

  keyed_meet : (k : ℕ) (front : List Tree) (fs : Frames) (es : List Event) (ending : Ending) (last : Span) → length es < k
      → run t (keyed (part front) ∷ fs) (feed es ending last) ≡ ((turning (keyed_turn tuple (reading t n)) k front (path t fs) (feed es ending last) >>= tuple_end registry tuple (path t fs)) >>= resume t fs)
  keyed_meet zero front fs es ending last lt = absurd (omega (arith, lt))
  keyed_meet (suc k) front fs [] ending last lt = refl
  keyed_meet (suc k) front fs (e ∷ es) ending last lt = by_event e
      (λ v rest less. keyed_meet k (front ++ (v ∷ [])) fs rest.events rest.ending rest.last (omega (arith, lt, less)))
    where
      behind : Result ((Bool × List Tree) × Input) Fault → Result (Tree × Input) Fault
      behind r = ((r >>= λ x. turned (turning (keyed_turn tuple (reading t n)) k) x.0.0 x.0.1 (path t fs) x.1) >>= tuple_end registry tuple (path t fs)) >>= resume t fs

      Again : Type 0
      Again = (v : Tree) (rest : Input) → length rest.events < length es
          → run t (keyed (part (front ++ (v ∷ []))) ∷ fs) rest ≡ ((turning (keyed_turn tuple (reading t n)) k (front ++ (v ∷ [])) (path t fs) rest >>= tuple_end registry tuple (path t fs)) >>= resume t fs)

      by_value : (span : Span) (i : ℕ) (r : Result (Tree × Input) Fault) → reading t n i from_events (path t fs ++ (index_step (length front) ∷ [])) (feed es ending span) ≡ r → Again
          → (r >>= resume t (keyed_item (part front) ∷ fs)) ≡ behind (r >>= with_item front)
      by_value span i (Ok x) is again = again x.0 x.1 (reading_falls t n i from_events _ _ x is)
      by_value span i (Err f) is again = refl

      by_field : (span : Span) (o : Option Field) → Again → (keyed_in o t (part front) fs span >>= on t (feed es ending span)) ≡ behind (element_at o tuple (reading t n) front (path t fs) (feed es ending span))
      by_field span None again = refl
      by_field span (Some f) again =
          meets f.shape from_events (keyed_item (part front) ∷ fs) (feed es ending span)
          ∙ by_value span f.shape (reading t n f.shape from_events (path t fs ++ (index_step (length front) ∷ [])) (feed es ending span)) refl again

      by_event : (e : Event) → Again → (keyed_step e t (part front) fs >>= on t (feed es ending (span_of e))) ≡ behind (keyed_of e tuple (reading t n) front (path t fs) (feed es ending (span_of e)))
      by_event (leaf (key q)) again = by_field (key_note q).span (slice_get d.fields (length front)) again
      by_event (stop of_struct m) again = end_meets front fs (feed es ending m.span)
      by_event (stop of_sequence m) again = refl
      by_event (leaf (scalar x m)) again = refl
      by_event (leaf (tag v m)) again = refl
      by_event (start b c m) again = refl

  empty_meets : (b : Bool) (fs : Frames) (rest : Input) → ((empty_tuple b (path t fs) (here rest.last) >>= handed fs) >>= on t rest) ≡ (empty_tuple b (path t fs) rest >>= resume t fs)
  empty_meets true fs rest = refl
  empty_meets false fs rest = refl

  pub tuple_meets : (fs : Frames) (e : Event) (es : List Event) (ending : Ending) (last : Span)
      → (begin_tuple t (new_tuple (label_at registry s) d n) fs e >>= on t (feed es ending (span_of e))) ≡ (tuple_at t.setting tuple (reading t n) (path t fs) (feed (e ∷ es) ending last) >>= resume t fs)
  tuple_meets fs (start of_sequence c m) es ending last = elements_meet (length es + 1) [] fs es ending m.span (omega arith)
  tuple_meets fs (start of_struct object_kind m) es ending last = keyed_meet (length es + 1) [] fs es ending m.span (omega arith)
  tuple_meets fs (start of_struct array_kind m) es ending last = refl
  tuple_meets fs (leaf (scalar x m)) es ending last = empty_meets (not (has_some d.fields) && is_nothing x) fs (feed es ending m.span)
  tuple_meets fs (leaf (key q)) es ending last = refl
  tuple_meets fs (leaf (tag v m)) es ending last = refl
  tuple_meets fs (stop b m) es ending last = refl
