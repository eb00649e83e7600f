-- Which frame is innermost.
use Rattle.std.specs.Prelude.{Option, Some, None, Bool, true, false}
use Rattle.read_steps.specs.declared.key.KeyAt.{KeyAt}
use Rattle.read_steps.specs.declared.frames.ArgumentKey.{ArgumentKey}
use Rattle.read_steps.specs.declared.frames.ArgumentKey.TheVariants as argument_key
use Rattle.read_steps.specs.declared.frames.Frame.{Frame}
use Rattle.read_steps.specs.declared.frames.Frame.TheVariants as frame
use Rattle.read_steps.specs.declared.kind.FrameKind.{FrameKind}
use Rattle.read_steps.specs.declared.kind.FrameKind.TheVariants as kind

-- a tuple that stands as an object, before a key or after it
abbrev pub keyed_kind : Bool → FrameKind
keyed_kind false = kind.Keyed
keyed_kind true = kind.KeyedItem

-- a struct before a key, or after one
abbrev pub object_kind : Option KeyAt → FrameKind
object_kind None = kind.Object
object_kind (Some k) = kind.Field

-- the node of a scalar before a key, or after that of its argument
abbrev pub node_kind : ArgumentKey → FrameKind
node_kind (argument_key.Open first) = kind.Argument
node_kind _ = kind.Node

-- which it is, without what it holds
abbrev pub kind_of : Frame → FrameKind
kind_of frame.Bottom = kind.Bottom
kind_of frame.Option = kind.Option
kind_of (frame.Items p) = kind.Items
kind_of (frame.Elements p) = kind.Elements
kind_of (frame.Keyed p) = keyed_kind p.after_key
kind_of (frame.Object p) = object_kind p.key
kind_of (frame.ResultKey p) = kind.ResultKey
kind_of (frame.ResultSide p ok) = kind.ResultSide
kind_of (frame.ResultEnd ok v) = kind.ResultEnd
kind_of (frame.Node p) = node_kind p.key

-- it is an option
abbrev pub is_option : FrameKind → Bool
is_option kind.Option = true
is_option _ = false

-- a value can go into it
abbrev pub takes_value : FrameKind → Bool
takes_value kind.Items = true
takes_value kind.Elements = true
takes_value kind.KeyedItem = true
takes_value kind.Field = true
takes_value kind.ResultSide = true
takes_value _ = false
