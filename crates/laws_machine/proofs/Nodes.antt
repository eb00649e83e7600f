-- Scalars, and nodes.
use Rattle.std.proofs.Common.{◌≡◌, ◌+◌, ◌≤◌, List, [], ◌∷◌, length, Option, Some, None, Result, Ok, Err, Bool, true, false, cond, refl, ◌∙◌, arith}
use Rattle.semantics_lines.specs.Trees.{Tree}
use Rattle.semantics_lines.specs.Events.{Span, Key, key_note, scalar, key, tag, of_struct, of_sequence, Event, leaf, start, stop, span_of}
use Rattle.semantics_lines.specs.Faults.{Fault, Ending}
use Rattle.semantics.specs.Setters.{Outcome, set_scalar}
use Rattle.semantics.specs.Reading.{is_argument, is_key}
use Rattle.laws_reading.specs.Input.{Input, feed, ◌>>=◌, unexpected}
use Rattle.laws_reading.specs.Skips.{Opened, skip_at}
use Rattle.laws_reading.specs.Nodes.{Target, or_refused, Node, bare_node, argument_at, unchanged, node_entry, node_value, scalar_at}
use Rattle.laws_reading.specs.Nodes as nodes
use Rattle.laws_reading.specs.Values.{Terms}
use Rattle.laws_machine.specs.Frames.{Frame, node, passing, Frames, NodePart, path}
use Rattle.laws_machine.specs.Delivery.{going, here, handed, with_argument}
use Rattle.laws_machine.specs.Begins.{begin_scalar}
use Rattle.laws_machine.specs.Steps.{argument_step, node_step, set_in}
use Rattle.laws_machine.specs.Machine.{run, on}
use Rattle.laws_machine.proofs.Turns.{resume, skip_meets, entries_meet}
use Rattle.laws_machine.proofs.Falls.{skip_falls}
use Rattle.laws_machine.proofs.Spans.{node_here}

module _ (t : Terms) (target : Target) where
  abbrev part : Node → NodePart
  part s = record { target = target; node = s }

  abbrev frame : Node → Frame
  frame s = node (part s)

  set_meets : (o : Outcome) (fs : Frames) (rest : Input) → ((or_refused o (path t fs) (here rest.last) >>= handed fs) >>= on t rest) ≡ (or_refused o (path t fs) rest >>= resume t fs)
  set_meets (Ok v) fs rest = refl
  set_meets (Err kind) fs rest = refl

  module _ (s : Node) (fs : Frames) (q : Key) (es : List Event) (ending : Ending) (then : Node → Input → Result (Tree × Input) Fault)
      (again : (s' : Node) (rest : Input) → length rest.events ≤ length es → run t (frame s' ∷ fs) rest ≡ then s' rest) where
    abbrev here_on : Input
    here_on = feed es ending (key_note q).span

    by_skip : (r : Result (Opened × Input) Fault) → skip_at (path t fs) here_on ≡ r → (r >>= λ x. run t (frame s ∷ fs) x.1) ≡ ((r >>= unchanged s) >>= λ x. then x.0 x.1)
    by_skip (Ok x) is = again s x.1 (omega (arith, skip_falls (path t fs) here_on x is))
    by_skip (Err f) is = refl

    by_passed : (r : Result (Opened × Input) Fault) → skip_at (path t fs) here_on ≡ r → (r >>= λ x. run t (node (with_argument (part s) (key_note q).span None) ∷ fs) x.1) ≡ ((r >>= nodes.without_argument q) >>= λ x. then x.0 x.1)
    by_passed (Ok x) is = again _ x.1 (omega (arith, skip_falls (path t fs) here_on x is))
    by_passed (Err f) is = refl

    by_set : (o : Outcome) (rest : Input) → length rest.events ≤ length es → ((or_refused o (path t fs) (here rest.last) >>= set_in (part s) (key_note q).span fs) >>= on t rest) ≡ ((or_refused o (path t fs) rest >>= nodes.with_argument q) >>= λ x. then x.0 x.1)
    by_set (Ok v) rest le = again _ rest le
    by_set (Err kind) rest le = refl

    -- anything but a scalar is passed over
    passed_argument : run t (passing [] ∷ node (with_argument (part s) (key_note q).span None) ∷ fs) here_on ≡ ((skip_at (path t fs) here_on >>= nodes.without_argument q) >>= λ x. then x.0 x.1)
    passed_argument = skip_meets t (node (with_argument (part s) (key_note q).span None) ∷ fs) here_on ∙ by_passed (skip_at (path t fs) here_on) refl

  abbrev Again : Frames → List Event → (Node → Input → Result (Tree × Input) Fault) → Type 0
  Again fs es then = (s' : Node) (rest : Input) → length rest.events ≤ length es → run t (frame s' ∷ fs) rest ≡ then s' rest

  by_first : (s : Node) (fs : Frames) (q : Key) (es : List Event) (ending : Ending) (then : Node → Input → Result (Tree × Input) Fault) → Again fs es then → (o : Option Span)
      → (argument_step o t (part s) fs q >>= on t (feed es ending (key_note q).span)) ≡ (argument_at o target q (path t fs) (feed es ending (key_note q).span) >>= λ x. then x.0 x.1)
  by_first s fs q es ending then again (Some first) = refl
  by_first s fs q [] ending then again None = refl
  by_first s fs q (leaf (scalar x m) ∷ es) ending then again None =
      by_set s fs q (leaf (scalar x m) ∷ es) ending then again (set_scalar target.borrow target.shape target.type x) (feed es ending m.span) (omega arith)
  by_first s fs q (leaf (key k) ∷ es) ending then again None = passed_argument s fs q (leaf (key k) ∷ es) ending then again
  by_first s fs q (leaf (tag v m) ∷ es) ending then again None = passed_argument s fs q (leaf (tag v m) ∷ es) ending then again
  by_first s fs q (start b c m ∷ es) ending then again None = passed_argument s fs q (start b c m ∷ es) ending then again
  by_first s fs q (stop b m ∷ es) ending then again None = passed_argument s fs q (stop b m ∷ es) ending then again

  node_meets : (s : Node) (fs : Frames) (q : Key) (es : List Event) (ending : Ending) (then : Node → Input → Result (Tree × Input) Fault) → Again fs es then
      → (node_step t (part s) fs q >>= on t (feed es ending (key_note q).span)) ≡ (node_entry target q s (path t fs) (feed es ending (key_note q).span) >>= λ x. then x.0 x.1)
  node_meets s fs q es ending then again = by_argument (is_argument q)
    where
      rest : Input
      rest = feed es ending (key_note q).span

      by_key : (b : Bool) → (cond b (Ok (going (passing [] ∷ frame s ∷ fs))) (unexpected (path t fs) rest) >>= on t rest) ≡ (cond b (skip_at (path t fs) rest >>= unchanged s) (unexpected (path t fs) rest) >>= λ x. then x.0 x.1)
      by_key true = skip_meets t (frame s ∷ fs) rest ∙ by_skip s fs q es ending then again (skip_at (path t fs) rest) refl
      by_key false = refl

      by_argument : (b : Bool) → (cond b (argument_step s.first t (part s) fs q) (cond (is_key q) (Ok (going (passing [] ∷ frame s ∷ fs))) (unexpected (path t fs) rest)) >>= on t rest)
          ≡ (cond b (argument_at s.first target q (path t fs) rest) (cond (is_key q) (skip_at (path t fs) rest >>= unchanged s) (unexpected (path t fs) rest)) >>= λ x. then x.0 x.1)
      by_argument true = by_first s fs q es ending then again s.first
      by_argument false = by_key (is_key q)

  pub scalar_meets : (fs : Frames) (e : Event) (es : List Event) (ending : Ending) (last : Span)
      → (begin_scalar t target fs e >>= on t (feed es ending (span_of e))) ≡ (scalar_at target (path t fs) (feed (e ∷ es) ending last) >>= resume t fs)
  scalar_meets fs (leaf (scalar x m)) es ending last = set_meets (set_scalar target.borrow target.shape target.type x) fs (feed es ending m.span)
  scalar_meets fs (start of_struct c m) es ending last =
      entries_meet t (node_entry target) node_value frame (λ s fs q. node_step t (part s) fs q) (λ s fs span. node_value s (path t fs) (here span))
      (λ s fs last e. refl) (λ s fs input. node_here s (path t fs) input) node_meets (length es + 1) bare_node fs es ending m.span (omega arith)
  scalar_meets fs (start of_sequence c m) es ending last = refl
  scalar_meets fs (leaf (key q)) es ending last = refl
  scalar_meets fs (leaf (tag v m)) es ending last = refl
  scalar_meets fs (stop b m) es ending last = refl
