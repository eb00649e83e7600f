-- What is open, by the kind of the innermost frame.
use Rattle.std.proofs.Common.{◌≡◌, ◌∷◌, Option, Some, None, Bool, true, false, refl, ap}
use Rattle.laws_reading.specs.Values.{Terms}
use Rattle.laws_machine.specs.Frames.{keyed, object, node, argument, Frames}
use Rattle.event_core.specs.Metadata.{span_view}
use Rattle.event_core.specs.declared.span.Span.{Span}
use Rattle.read_steps.specs.declared.key.KeyAt.{KeyAt}
use Rattle.read_steps.specs.declared.frames.TuplePart.{TuplePart}
use Rattle.read_steps.specs.declared.frames.StructPart.{StructPart}
use Rattle.read_steps.specs.declared.frames.ArgumentKey.{ArgumentKey}
use Rattle.read_steps.specs.declared.frames.ArgumentKey.TheVariants as argument_key
use Rattle.read_steps.specs.declared.frames.NodePart.{NodePart}
use Rattle.read_steps.specs.declared.frames.Frame.{Frame}
use Rattle.read_steps.specs.declared.frames.Frame.TheVariants as frame
use Rattle.read_steps.specs.declared.kind.FrameKind.TheVariants as kind
use Rattle.read_steps.specs.Kinds.{keyed_kind, object_kind, node_kind, kind_of}
use Rattle.read_steps.specs.Views.{keyed_frame, object_frame, node_frame, tuple_of, struct_of, node_of, with_frame}

module _ (t : Terms) (fs : Frames) where
  -- a tuple before a key
  abbrev pub KeyedTop : Frame → Type 0
  KeyedTop f = (p : TuplePart) × (with_frame t f fs ≡ keyed (tuple_of t p) ∷ fs)

  -- a struct before a key
  abbrev pub ObjectTop : Frame → Type 0
  ObjectTop f = (p : StructPart) × (with_frame t f fs ≡ object (struct_of t p) ∷ fs)

  -- a node before a key
  abbrev pub NodeTop : Frame → Type 0
  NodeTop f = (p : NodePart) × (with_frame t f fs ≡ node (node_of t p) ∷ fs)

  -- a node after the key of its argument
  abbrev pub ArgumentTop : Frame → Type 0
  ArgumentTop f = (p : NodePart) × (first : Span) × (with_frame t f fs ≡ argument (node_of t p) (span_view first) ∷ fs)

  pub keyed_top : (f : Frame) → kind_of f ≡ kind.Keyed → KeyedTop f
  keyed_top (frame.Keyed p) is = (p, by_key p.after_key is)
    where
      by_key : (b : Bool) → keyed_kind b ≡ kind.Keyed → keyed_frame (tuple_of t p) b ∷ fs ≡ keyed (tuple_of t p) ∷ fs
      by_key false is = refl
      by_key true is = absurd cc
  keyed_top frame.Bottom is = absurd cc
  keyed_top frame.Option is = absurd cc
  keyed_top (frame.Items p) is = absurd cc
  keyed_top (frame.Elements p) is = absurd cc
  keyed_top (frame.Object p) is = by_key p.key is
    where
      by_key : (o : Option KeyAt) → object_kind o ≡ kind.Keyed → KeyedTop (frame.Object p)
      by_key None is = absurd cc
      by_key (Some k) is = absurd cc
  keyed_top (frame.ResultKey p) is = absurd cc
  keyed_top (frame.ResultSide p ok) is = absurd cc
  keyed_top (frame.ResultEnd ok v) is = absurd cc
  keyed_top (frame.Node p) is = by_key p.key is
    where
      by_key : (k : ArgumentKey) → node_kind k ≡ kind.Keyed → KeyedTop (frame.Node p)
      by_key argument_key.Absent is = absurd cc
      by_key (argument_key.Open s) is = absurd cc
      by_key (argument_key.Past s) is = absurd cc

  pub object_top : (f : Frame) → kind_of f ≡ kind.Object → ObjectTop f
  object_top (frame.Object p) is = (p, by_key p.key is)
    where
      by_key : (o : Option KeyAt) → object_kind o ≡ kind.Object → object_frame (struct_of t p) o ∷ fs ≡ object (struct_of t p) ∷ fs
      by_key None is = refl
      by_key (Some k) is = absurd cc
  object_top frame.Bottom is = absurd cc
  object_top frame.Option is = absurd cc
  object_top (frame.Items p) is = absurd cc
  object_top (frame.Elements p) is = absurd cc
  object_top (frame.Keyed p) is = by_key p.after_key is
    where
      by_key : (b : Bool) → keyed_kind b ≡ kind.Object → ObjectTop (frame.Keyed p)
      by_key false is = absurd cc
      by_key true is = absurd cc
  object_top (frame.ResultKey p) is = absurd cc
  object_top (frame.ResultSide p ok) is = absurd cc
  object_top (frame.ResultEnd ok v) is = absurd cc
  object_top (frame.Node p) is = by_key p.key is
    where
      by_key : (k : ArgumentKey) → node_kind k ≡ kind.Object → ObjectTop (frame.Node p)
      by_key argument_key.Absent is = absurd cc
      by_key (argument_key.Open s) is = absurd cc
      by_key (argument_key.Past s) is = absurd cc

  pub node_top : (f : Frame) → kind_of f ≡ kind.Node → NodeTop f
  node_top (frame.Node p) is = (p, by_key p.key is)
    where
      by_key : (k : ArgumentKey) → node_kind k ≡ kind.Node → node_frame (node_of t p) k ∷ fs ≡ node (node_of t p) ∷ fs
      by_key argument_key.Absent is = refl
      by_key (argument_key.Open s) is = absurd cc
      by_key (argument_key.Past s) is = refl
  node_top frame.Bottom is = absurd cc
  node_top frame.Option is = absurd cc
  node_top (frame.Items p) is = absurd cc
  node_top (frame.Elements p) is = absurd cc
  node_top (frame.Keyed p) is = by_key p.after_key is
    where
      by_key : (b : Bool) → keyed_kind b ≡ kind.Node → NodeTop (frame.Keyed p)
      by_key false is = absurd cc
      by_key true is = absurd cc
  node_top (frame.Object p) is = by_key p.key is
    where
      by_key : (o : Option KeyAt) → object_kind o ≡ kind.Node → NodeTop (frame.Object p)
      by_key None is = absurd cc
      by_key (Some k) is = absurd cc
  node_top (frame.ResultKey p) is = absurd cc
  node_top (frame.ResultSide p ok) is = absurd cc
  node_top (frame.ResultEnd ok v) is = absurd cc

  pub argument_top : (f : Frame) → kind_of f ≡ kind.Argument → ArgumentTop f
  argument_top (frame.Node p) is = by_key p.key refl is
    where
      by_key : (k : ArgumentKey) → p.key ≡ k → node_kind k ≡ kind.Argument → ArgumentTop (frame.Node p)
      by_key argument_key.Absent same is = absurd cc
      by_key (argument_key.Open s) same is = (p, s, ap (λ (k : ArgumentKey). node_frame (node_of t p) k ∷ fs) same)
      by_key (argument_key.Past s) same is = absurd cc
  argument_top frame.Bottom is = absurd cc
  argument_top frame.Option is = absurd cc
  argument_top (frame.Items p) is = absurd cc
  argument_top (frame.Elements p) is = absurd cc
  argument_top (frame.Keyed p) is = by_key p.after_key is
    where
      by_key : (b : Bool) → keyed_kind b ≡ kind.Argument → ArgumentTop (frame.Keyed p)
      by_key false is = absurd cc
      by_key true is = absurd cc
  argument_top (frame.Object p) is = by_key p.key is
    where
      by_key : (o : Option KeyAt) → object_kind o ≡ kind.Argument → ArgumentTop (frame.Object p)
      by_key None is = absurd cc
      by_key (Some k) is = absurd cc
  argument_top (frame.ResultKey p) is = absurd cc
  argument_top (frame.ResultSide p ok) is = absurd cc
  argument_top (frame.ResultEnd ok v) is = absurd cc
