-- Lists and arrays.
use Rattle.std.proofs.Common.{◌≡◌, ℕ, zero, suc, ◌+◌, ◌<◌, List, [], ◌∷◌, ◌++◌, length, Option, Some, None, Result, Ok, Err, Bool, true, false, refl, ◌∙◌, arith}
use Rattle.semantics_lines.specs.Trees.{Tree}
use Rattle.semantics_lines.specs.Events.{Span, scalar, key, tag, of_struct, of_sequence, Event, leaf, start, stop, span_of}
use Rattle.semantics_lines.specs.Faults.{index_step, Fault, Ending}
use Rattle.semantics.specs.Reading.{from_events}
use Rattle.semantics.specs.Seen.{ends_sequence}
use Rattle.semantics.specs.Typed.{has_room}
use Rattle.semantics.specs.Typed.{has_length}
use Rattle.laws_reading.specs.Input.{Input, feed, ◌>>=◌, turned, turning}
use Rattle.laws_reading.specs.Sequences.{Items, items_end, items_whole, more_items, item_of, item_turn, sequence_at}
use Rattle.laws_reading.specs.Sequences as sequences
use Rattle.laws_reading.specs.Values.{Terms, reading}
use Rattle.laws_machine.specs.Frames.{items, Frames, ItemsPart, path}
use Rattle.laws_machine.specs.Delivery.{here, handed}
use Rattle.laws_machine.specs.Begins.{begin_items}
use Rattle.laws_machine.specs.Steps.{more_step, item_step}
use Rattle.laws_machine.specs.Machine.{run, on}
use Rattle.laws_machine.proofs.Turns.{resume, Meets, first}
use Rattle.laws_machine.proofs.Falls.{reading_falls}

module _ (t : Terms) (n : ℕ) (meets : Meets t n) (l : Items) (i : ℕ) where
  abbrev items_of : List Tree → ItemsPart
  items_of front = record { items = l; item = i; depth = n; front = front }

  end_meets : (b : Bool) (front : List Tree) (fs : Frames) (rest : Input) → ((items_end b l front (path t fs) (here rest.last) >>= handed fs) >>= on t rest) ≡ (items_end b l front (path t fs) rest >>= resume t fs)
  end_meets true front fs rest = refl
  end_meets false front fs rest = by_length l.len
    where
      by_length : (o : Option ℕ) → ((sequences.length_fault {A = Tree × Input} o l.shape (length front) (path t fs) (here rest.last) >>= handed fs) >>= on t rest) ≡ (sequences.length_fault {A = Tree × Input} o l.shape (length front) (path t fs) rest >>= resume t fs)
      by_length None = refl
      by_length (Some m) = refl

  items_meet : (k : ℕ) (front : List Tree) (fs : Frames) (es : List Event) (ending : Ending) (last : Span) → length es < k
      → run t (items (items_of front) ∷ fs) (feed es ending last) ≡ ((turning (item_turn l (reading t n i from_events)) k front (path t fs) (feed es ending last) >>= items_whole l (path t fs)) >>= resume t fs)
  items_meet zero front fs es ending last lt = absurd (omega (arith, lt))
  items_meet (suc k) front fs [] ending last lt = refl
  items_meet (suc k) front fs (e ∷ es) ending last lt = by_end (ends_sequence e)
      (λ v rest less. items_meet k (front ++ (v ∷ [])) fs rest.events rest.ending rest.last (omega (arith, lt, less)))
    where
      behind : Result ((Bool × List Tree) × Input) Fault → Result (Tree × Input) Fault
      behind r = ((r >>= λ x. turned (turning (item_turn l (reading t n i from_events)) k) x.0.0 x.0.1 (path t fs) x.1) >>= items_whole l (path t fs)) >>= resume t fs

      Again : Type 0
      Again = (v : Tree) (rest : Input) → length rest.events < length (e ∷ es)
          → run t (items (items_of (front ++ (v ∷ []))) ∷ fs) rest ≡ ((turning (item_turn l (reading t n i from_events)) k (front ++ (v ∷ [])) (path t fs) rest >>= items_whole l (path t fs)) >>= resume t fs)

      by_value : (r : Result (Tree × Input) Fault) → reading t n i from_events (path t fs ++ (index_step (length front) ∷ [])) (feed (e ∷ es) ending last) ≡ r → Again
          → (r >>= resume t (items (items_of front) ∷ fs)) ≡ behind (r >>= sequences.with_item front)
      by_value (Ok x) is again = again x.0 x.1 (reading_falls t n i from_events _ _ x is)
      by_value (Err f) is again = refl

      by_length : (o : Option ℕ) → (sequences.length_fault o l.shape (length front + 1) (path t fs) (here last) >>= on t (feed es ending (span_of e)))
          ≡ behind (sequences.length_fault o l.shape (length front + 1) (path t fs) (feed (e ∷ es) ending last))
      by_length None = refl
      by_length (Some m) = refl

      by_room : (b : Bool) → Again → (more_step b t (items_of front) fs last e >>= on t (feed es ending (span_of e))) ≡ behind (more_items b l (reading t n i from_events) front (path t fs) (feed (e ∷ es) ending last))
      by_room true again =
          first t n i from_events (items (items_of front) ∷ fs) e es ending last ∙ meets i from_events (items (items_of front) ∷ fs) (feed (e ∷ es) ending last)
          ∙ by_value (reading t n i from_events (path t fs ++ (index_step (length front) ∷ [])) (feed (e ∷ es) ending last)) refl again
      by_room false again = by_length l.len

      by_end : (b : Bool) → Again → (item_step b t (items_of front) fs last e >>= on t (feed es ending (span_of e))) ≡ behind (item_of b l (reading t n i from_events) front (path t fs) (feed (e ∷ es) ending last))
      by_end true again = end_meets (has_length l.len (length front)) front fs (feed es ending (span_of e))
      by_end false again = by_room (has_room l.len (length front)) again

  pub items_meets : (fs : Frames) (e : Event) (es : List Event) (ending : Ending) (last : Span)
      → (begin_items t (items_of []) fs e >>= on t (feed es ending (span_of e))) ≡ (sequence_at l (reading t n i from_events) (path t fs) (feed (e ∷ es) ending last) >>= resume t fs)
  items_meets fs (start of_sequence c m) es ending last = items_meet (length es + 1) [] fs es ending m.span (omega arith)
  items_meets fs (start of_struct c m) es ending last = refl
  items_meets fs (leaf (scalar x m)) es ending last = refl
  items_meets fs (leaf (key q)) es ending last = refl
  items_meets fs (leaf (tag v m)) es ending last = refl
  items_meets fs (stop b m) es ending last = refl
