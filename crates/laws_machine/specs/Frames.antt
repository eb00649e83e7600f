-- What is open while a value is read, one frame in another.
use Rattle.std.specs.Prelude.{ℕ, List, [], ◌∷◌, ◌++◌, length, Bool}
use Rattle.semantics_lines.specs.Trees.{Tree}
use Rattle.semantics_lines.specs.Events.{Span}
use Rattle.semantics_lines.specs.Faults.{Step, index_step, variant_step}
use Rattle.semantics.specs.Places.{Path, Choice}
use Rattle.semantics.specs.Keys.{Layout}
use Rattle.laws_reading.specs.Skips.{Opened}
use Rattle.semantics.specs.Ends.{steps_at}
use Rattle.laws_reading.specs.Structs.{Got}
use Rattle.laws_reading.specs.Nodes.{Target, Node}
use Rattle.laws_reading.specs.Options.{Sides, side_of}
use Rattle.laws_reading.specs.Sequences.{Items}
use Rattle.laws_reading.specs.Tuples.{Elements}
use Rattle.laws_reading.specs.Values.{Terms}

-- A value that has to come; its parts have this depth. Where its metadata comes from makes no difference yet.
pub record Awaited : Type 0 where
  pub shape : ℕ
  pub depth : ℕ

-- the items of a list or an array so far
pub record ItemsPart : Type 0 where
  pub items : Items
  pub item : ℕ
  pub depth : ℕ
  pub front : List Tree

-- the items of a tuple so far
pub record TuplePart : Type 0 where
  pub elements : Elements
  pub depth : ℕ
  pub front : List Tree

-- what was read of a struct so far
pub record StructPart : Type 0 where
  pub shape : ℕ
  pub deny : Bool
  pub layout : Layout
  -- the variants that are chosen for its flattened enums
  pub choice : Choice
  pub depth : ℕ
  pub got : Got

-- the path that a key leads to whose value comes, and where the key stands
pub record Entered : Type 0 where
  pub path : Path
  pub span : Span

-- what was told of a result so far
pub record ResultPart : Type 0 where
  pub sides : Sides
  pub depth : ℕ

-- what was read of the node of a scalar so far
pub record NodePart : Type 0 where
  pub target : Target
  pub node : Node

-- what is open
pub data Frame : Type 0 where
  awaits : Awaited → Frame
  option : Frame
  items : ItemsPart → Frame
  -- a tuple as a sequence, and as an object: before a key, and behind it
  elements : TuplePart → Frame
  keyed : TuplePart → Frame
  keyed_item : TuplePart → Frame
  -- a struct before a key, and behind it
  object : StructPart → Frame
  field : StructPart → Entered → Frame
  -- a result before its key, behind it, and before its end
  outcome_key : ResultPart → Frame
  outcome_side : ResultPart → Bool → Frame
  outcome_end : Bool → Tree → Frame
  -- the node of a scalar before a key, and behind that of the argument, which stands there
  node : NodePart → Frame
  argument : NodePart → Span → Frame
  -- a value that is passed over
  passing : Opened → Frame

-- the innermost one is in front
abbrev pub Frames : Type 0
Frames = List Frame

-- the step into a frame, behind the path of the frames below
abbrev pub path_in : Terms → Frame → List Step → List Step
path_in t (items l) p = p ++ (index_step (length l.front) ∷ [])
path_in t (elements l) p = p ++ (index_step (length l.front) ∷ [])
path_in t (keyed_item l) p = p ++ (index_step (length l.front) ∷ [])
path_in t (field s e) p = p ++ steps_at t.setting.registry s.choice s.layout e.path
path_in t (outcome_side r b) p = p ++ (variant_step (side_of r.sides b).name ∷ [])
path_in t _ p = p

-- the way to what is being read
abbrev pub path : Terms → Frames → List Step
path t [] = []
path t (f ∷ fs) = path_in t f (path t fs)
