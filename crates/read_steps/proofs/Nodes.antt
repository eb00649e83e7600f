-- Nodes, as the code steps through them.
use Rattle.std.proofs.Common.{◌≡◌, ℕ, List, [], ◌∷◌, Option, Some, None, Ok, Bool, true, false, cond, bytes_eq, refl, ap}
use Rattle.std.specs.Prelude.{codes}
use Rattle.std.proofs.lemmas.Slice.Eq.{bytes_eq-Decides}
use Rattle.semantics_lines.specs.Texts.{Phrase}
use Rattle.semantics_lines.specs.Trees.{Tree}
use Rattle.semantics_lines.specs.Events.{Span, Metadata, Note, named, nameless, ordered, scalar, key, tag, of_struct, of_sequence, Event, leaf, start, stop, span_of}
use Rattle.semantics_lines.specs.Faults.{duplicate_field}
use Rattle.laws_reading.specs.Input.{◌>>=◌, refused}
use Rattle.laws_reading.specs.Nodes.{or_unexpected}
use Rattle.laws_reading.specs.Values.{Terms}
use Rattle.laws_machine.specs.Frames.{NodePart, node, argument, passing, Frames, path}
use Rattle.laws_machine.specs.Delivery.{going, here, deliver}
use Rattle.laws_machine.specs.Steps.{argument_step, pass_step, set_step, step_at}
use Rattle.event_core.specs.Metadata.{span_view}
use Rattle.read_steps.specs.declared.frames.Frame.{Frame}
use Rattle.read_steps.specs.declared.kind.FrameKind.TheVariants as kind
use Rattle.read_steps.specs.Fits.{is_scalar, begun_of, mark_of}
use Rattle.read_steps.specs.Kinds.{kind_of}
use Rattle.read_steps.specs.Views.{node_of, with_frame}
use Rattle.read_steps.proofs.Tops.{node_top, argument_top}
use Rattle.read_steps.specs.Stepping.{argument_by, argument_set, node_ended, node_marked, set_begun}

module _ (t : Terms) (p : NodePart) (fs : Frames) where
  ended_is : (o : Option Tree) (span : Span) → (or_unexpected o (path t fs) (here span) >>= deliver fs) ≡ node_ended o t fs span
  ended_is None span = refl
  ended_is (Some v) span = refl

  module _ (x : Phrase) (m : Option Metadata) (n : Note) where
    by_first : (o : Option Span) → bytes_eq x.bytes (codes "_arg") ≡ true → argument_step o t p fs (named x m n) ≡ argument_by o t p fs n.span
    by_first (Some first) is = ap (λ (name : List ℕ). refused (duplicate_field name (Some first)) (path t fs) (here n.span)) ((bytes_eq-Decides x.bytes (codes "_arg")).0 is)
    by_first None is = refl

    named_is : (b : Bool) → bytes_eq x.bytes (codes "_arg") ≡ b
        → cond b (argument_step p.node.first t p fs (named x m n)) (Ok (going (passing [] ∷ node p ∷ fs))) ≡ cond b (argument_by p.node.first t p fs n.span) (Ok (going (passing [] ∷ node p ∷ fs)))
    named_is true is = by_first p.node.first is
    named_is false is = refl

  node_steps : (before : Span) (e : Event) → step_at t (node p ∷ fs) before e ≡ node_marked (mark_of e) t (node p ∷ fs) (span_of e)
  node_steps before (leaf (key (named x m n))) = named_is x m n (bytes_eq x.bytes (codes "_arg")) refl
  node_steps before (leaf (key (nameless m n))) = refl
  node_steps before (leaf (key (ordered n))) = refl
  node_steps before (leaf (scalar x n)) = refl
  node_steps before (leaf (tag v n)) = refl
  node_steps before (start b k n) = refl
  node_steps before (stop of_struct n) = ended_is p.node.value n.span
  node_steps before (stop of_sequence n) = refl

  sets : (first : Span) (e : Event) → is_scalar e ≡ true → set_step e t p first fs ≡ set_begun (begun_of e) t (argument p first ∷ fs) (span_of e)
  sets first (leaf (scalar x n)) is = refl
  sets first (leaf (key q)) is = absurd cc
  sets first (leaf (tag v n)) is = absurd cc
  sets first (start b k n) is = absurd cc
  sets first (stop b n) is = absurd cc

  passes : (first : Span) (e : Event) → is_scalar e ≡ false → set_step e t p first fs ≡ pass_step t [] (argument_set None (argument p first ∷ fs)) e
  passes first (leaf (scalar x n)) is = absurd cc
  passes first (leaf (key q)) is = refl
  passes first (leaf (tag v n)) is = refl
  passes first (start b k n) is = refl
  passes first (stop b n) is = refl

module _ (t : Terms) (f : Frame) (fs : Frames) (before : Span) (e : Event) where
  -- one event of the node that is innermost
  pub node_at : kind_of f ≡ kind.Node → step_at t (with_frame t f fs) before e ≡ node_marked (mark_of e) t (with_frame t f fs) (span_of e)
  node_at is = let (p, same) = node_top t fs f is in rw same (node_steps t (node_of t p) fs before e)

  -- a scalar after the key of its argument
  pub argument_sets : kind_of f ≡ kind.Argument → is_scalar e ≡ true → step_at t (with_frame t f fs) before e ≡ set_begun (begun_of e) t (with_frame t f fs) (span_of e)
  argument_sets is scalar_comes = let (p, first, same) = argument_top t fs f is in rw same (sets t (node_of t p) fs (span_view first) e scalar_comes)

  -- anything else
  pub argument_passes : kind_of f ≡ kind.Argument → is_scalar e ≡ false → step_at t (with_frame t f fs) before e ≡ pass_step t [] (argument_set None (with_frame t f fs)) e
  argument_passes is other = let (p, first, same) = argument_top t fs f is in rw same (passes t (node_of t p) fs (span_view first) e other)
