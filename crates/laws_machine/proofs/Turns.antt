-- What the machine does when a value is whole, and what it does with the entries of objects.
use Rattle.std.proofs.Common.{◌≡◌, ℕ, zero, suc, ◌+◌, ◌<◌, ◌≤◌, List, [], ◌∷◌, length, Option, Some, None, Result, Ok, Err, Bool, true, false, refl, sym, ◌∙◌, ap, arith}
use Rattle.semantics_lines.specs.Trees.{Tree}
use Rattle.semantics_lines.specs.Shapes.{Definition, scalar_shape, option_shape, result_shape, list_shape, array_shape, set_shape, map_shape, struct_shape, enum_shape, transparent_shape, definition_at}
use Rattle.semantics_lines.specs.Events.{Span, Key, key_note, scalar, key, tag, of_struct, of_sequence, Event, leaf, start, stop, span_of}
use Rattle.semantics_lines.specs.Faults.{Fault, Ending}
use Rattle.semantics.specs.Reading.{Source, from_events}
use Rattle.laws_reading.specs.Input.{Input, feed, ◌>>=◌, turned, turning}
use Rattle.laws_reading.specs.Skips.{Opened, skip_of, skip_turn, skip_at}
use Rattle.laws_reading.specs.Objects.{Takes, Finish, goes_with, entry_at, with_rest, finished}
use Rattle.laws_reading.specs.Values.{Terms, reading}
use Rattle.laws_machine.specs.Frames.{Frame, passing, Frames, path}
use Rattle.laws_machine.specs.Delivery.{Steps, here, deliver}
use Rattle.laws_machine.specs.Begins.{begin_as, begin, await_as, await}
use Rattle.laws_machine.specs.Steps.{entry_step, pass_on, pass_behind, step_at}
use Rattle.laws_machine.specs.Machine.{run, on}
use Rattle.laws_machine.proofs.Spans.{onto, skip_here}

pub bind_bind : {A B C : Type 0} (r : Result A Fault) (f : A → Result B Fault) (g : B → Result C Fault) → ((r >>= f) >>= g) ≡ (r >>= λ x. f x >>= g)
bind_bind (Ok x) f g = refl
bind_bind (Err e) f g = refl

module _ (t : Terms) where
  -- goes on behind a whole value
  abbrev pub resume : Frames → Tree × Input → Result (Tree × Input) Fault
  resume fs x = deliver fs x.0 >>= on t x.1

  -- a value comes here
  abbrev pub awaited : ℕ → ℕ → Source → Frames → Input → Result (Tree × Input) Fault
  awaited n s source fs input = await t n s source fs input.last >>= on t input

  abbrev pub Meets : ℕ → Type 0
  Meets n = (s : ℕ) (source : Source) (fs : Frames) (input : Input) → awaited n s source fs input ≡ (reading t n s source (path t fs) input >>= resume fs)

  -- the same, with its first event at hand
  pub first : (n s : ℕ) (source : Source) (fs : Frames) (e : Event) (es : List Event) (ending : Ending) (last : Span)
      → (begin t n s source fs last e >>= on t (feed es ending (span_of e))) ≡ awaited n s source fs (feed (e ∷ es) ending last)
  first zero s source fs e es ending last = refl
  first (suc n) s source fs e es ending last = by_definition (definition_at t.setting.registry s) refl (λ i. first n i source fs e es ending last)
    where
      told : Option Definition → Result (Tree × Input) Fault
      told o = begin_as t (begin t n) n s source o fs last e >>= on t (feed es ending (span_of e))

      told_alike : Option Definition → Result (Tree × Input) Fault
      told_alike o = begin_as t (begin t n) n s from_events o fs last e >>= on t (feed es ending (span_of e))

      by_definition : (o : Option Definition) → definition_at t.setting.registry s ≡ o
          → ((i : ℕ) → (begin t n i source fs last e >>= on t (feed es ending (span_of e))) ≡ awaited n i source fs (feed (e ∷ es) ending last))
          → told o ≡ (await_as (await t n) n s source o fs last >>= on t (feed (e ∷ es) ending last))
      by_definition None is again = ap told_alike (sym is)
      by_definition (Some (scalar_shape x)) is again = ap told_alike (sym is)
      by_definition (Some (option_shape i)) is again = ap told_alike (sym is)
      by_definition (Some (result_shape i j)) is again = ap told_alike (sym is)
      by_definition (Some (list_shape i)) is again = ap told_alike (sym is)
      by_definition (Some (array_shape i len)) is again = ap told_alike (sym is)
      by_definition (Some (set_shape i)) is again = ap told_alike (sym is)
      by_definition (Some (map_shape i j)) is again = ap told_alike (sym is)
      by_definition (Some (struct_shape d)) is again = ap told_alike (sym is)
      by_definition (Some (enum_shape form vs)) is again = ap told_alike (sym is)
      by_definition (Some (transparent_shape i)) is again = again i

  pub tree_meets : (r : Result Tree Fault) (fs : Frames) (rest : Input) → ((r >>= deliver fs) >>= on t rest) ≡ ((r >>= with_rest rest) >>= resume fs)
  tree_meets (Ok v) fs rest = refl
  tree_meets (Err f) fs rest = refl

  -- a value that is passed over
  pub pass_meets : (k : ℕ) (os : Opened) (fs : Frames) (es : List Event) (ending : Ending) (last : Span) → length es < k
      → run t (passing os ∷ fs) (feed es ending last) ≡ (turning skip_turn k os (path t fs) (feed es ending last) >>= λ x. run t fs x.1)
  pass_meets zero os fs es ending last lt = absurd (omega (arith, lt))
  pass_meets (suc k) os fs [] ending last lt = refl
  pass_meets (suc k) os fs (e ∷ es) ending last lt =
      by_turn (skip_of e os (path t fs) (here (span_of e))) (λ os. pass_meets k os fs es ending (span_of e) (omega (arith, lt)))
      ∙ ap (λ r. (r >>= λ x. turned (turning skip_turn k) x.0.0 x.0.1 (path t fs) x.1) >>= λ x. run t fs x.1) (sym (skip_here e os (path t fs) (feed es ending (span_of e))))
    where
      Again : Opened → Type 0
      Again os = run t (passing os ∷ fs) (feed es ending (span_of e)) ≡ (turning skip_turn k os (path t fs) (feed es ending (span_of e)) >>= λ x. run t fs x.1)

      by_more : (b : Bool) (os : Opened) → Again os
          → (pass_on b os fs >>= on t (feed es ending (span_of e))) ≡ (turned (turning skip_turn k) b os (path t fs) (feed es ending (span_of e)) >>= λ x. run t fs x.1)
      by_more true os again = again
      by_more false os again = refl

      by_turn : (r : Result ((Bool × Opened) × Input) Fault) → ((os : Opened) → Again os)
          → ((r >>= pass_behind fs) >>= on t (feed es ending (span_of e)))
          ≡ (((r >>= onto (feed es ending (span_of e))) >>= λ x. turned (turning skip_turn k) x.0.0 x.0.1 (path t fs) x.1) >>= λ x. run t fs x.1)
      by_turn (Ok x) again = by_more x.0.0 x.0.1 (again x.0.1)
      by_turn (Err f) again = refl

  -- a whole value that is passed over, and what is done behind it
  pub skip_meets : (fs : Frames) (input : Input) → run t (passing [] ∷ fs) input ≡ (skip_at (path t fs) input >>= λ x. run t fs x.1)
  skip_meets fs input = pass_meets (length input.events + 1) [] fs input.events input.ending input.last (omega arith)

  -- Objects, whatever their entries do.
  module _ {S : Type 0} (takes : Takes S) (finish : Finish S Tree) (frame : S → Frame) (enters : S → Frames → Key → Steps) (whole : S → Frames → Span → Result Tree Fault)
      (stepping : (s : S) (fs : Frames) (last : Span) (e : Event) → step_at t (frame s ∷ fs) last e ≡ entry_step e (enters s fs) (whole s fs) t fs)
      (finishing : (s : S) (fs : Frames) (input : Input) → finish s (path t fs) input ≡ whole s fs input.last)
      (entering : (s : S) (fs : Frames) (q : Key) (es : List Event) (ending : Ending) (then : S → Input → Result (Tree × Input) Fault)
      → ((s' : S) (rest : Input) → length rest.events ≤ length es → run t (frame s' ∷ fs) rest ≡ then s' rest)
      → (enters s fs q >>= on t (feed es ending (key_note q).span)) ≡ (takes q s (path t fs) (feed es ending (key_note q).span) >>= λ x. then x.0 x.1)) where
    pub entries_meet : (k : ℕ) (s : S) (fs : Frames) (es : List Event) (ending : Ending) (last : Span) → length es < k
        → run t (frame s ∷ fs) (feed es ending last) ≡ ((turning (entry_at takes) k s (path t fs) (feed es ending last) >>= finished finish (path t fs)) >>= resume fs)
    entries_meet zero s fs es ending last lt = absurd (omega (arith, lt))
    entries_meet (suc k) s fs [] ending last lt = refl
    entries_meet (suc k) s fs (e ∷ es) ending last lt =
        ap (λ r. r >>= on t (feed es ending (span_of e))) (stepping s fs last e)
        ∙ by_event e (λ s' rest le. entries_meet k s' fs rest.events rest.ending rest.last (omega (arith, lt, le)))
      where
        others : S → Input → Result (Tree × Input) Fault
        others s' rest = (turning (entry_at takes) k s' (path t fs) rest >>= finished finish (path t fs)) >>= resume fs

        behind : Result ((Bool × S) × Input) Fault → Result (Tree × Input) Fault
        behind r = ((r >>= λ x. turned (turning (entry_at takes) k) x.0.0 x.0.1 (path t fs) x.1) >>= finished finish (path t fs)) >>= resume fs

        by_taken : (r : Result (S × Input) Fault) → (r >>= λ x. others x.0 x.1) ≡ behind (r >>= goes_with)
        by_taken (Ok x) = refl
        by_taken (Err f) = refl

        by_event : (e : Event) → ((s' : S) (rest : Input) → length rest.events ≤ length es → run t (frame s' ∷ fs) rest ≡ others s' rest)
            → (entry_step e (enters s fs) (whole s fs) t fs >>= on t (feed es ending (span_of e)))
            ≡ ((turning (entry_at takes) (suc k) s (path t fs) (feed (e ∷ es) ending last) >>= finished finish (path t fs)) >>= resume fs)
        by_event (leaf (key q)) again = entering s fs q es ending others again ∙ by_taken (takes q s (path t fs) (feed es ending (key_note q).span))
        by_event (stop of_struct n) again =
            tree_meets (whole s fs n.span) fs (feed es ending n.span)
            ∙ ap (λ r. (r >>= with_rest (feed es ending n.span)) >>= resume fs) (sym (finishing s fs (feed es ending n.span)))
        by_event (leaf (scalar x n)) again = refl
        by_event (leaf (tag v n)) again = refl
        by_event (start b c n) again = refl
        by_event (stop of_sequence n) again = refl
