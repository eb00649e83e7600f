-- What a call that writes a value does to its serializer.
use Rattle.std.specs.Prelude.{◌≡◌, ◌++◌, List, true, false, Result, Ok, Err}
use Rattle.semantics_lines.specs.Calls.{Call, Settings}
use Rattle.semantics.specs.Calling.{Part, Writer}
use Rattle.shape_types.specs.Shapes.{registry}
use Rattle.shape_types.specs.declared.shape.Shape.{Shape}
use Rattle.event_core.specs.declared.error.SerializeError.{SerializeError}
use Rattle.event_core.specs.declared.error.SerializeError.TheVariants.{Backend, Reflect, Unsupported, Internal, Alloc}
use Rattle.format_traits.specs.Parsing.{Rose}
use Rattle.format_traits.specs.Writing.{Writing, Kept}

-- these settings and these shapes
abbrev pub writer : Settings → List Shape → Writer
writer settings shapes = record { settings = settings; registry = registry shapes }

-- the first of these calls were made
pub record MadeFront (calls : List Call) (made : List Call → Type 0) : Type 0 where
  pub front : List Call
  pub rest : List Call
  pub is : calls ≡ front ++ rest
  pub made_front : made front

-- Which calls were made before an error: some of them where memory ran out or the format refused, and all of
-- them where a part without a written form comes next. The other two errors never come.
abbrev pub Fails : {E : Type 0} → Part → (List Call → Type 0) → Writing → Writing → SerializeError E → Type 0
Fails part made old new (Backend e) = MadeFront part.calls made × Rose old.faults new.faults
Fails part made old new (Reflect e) = ⊥
Fails part made old new (Unsupported message) = (part.whole ≡ false) × made part.calls
Fails part made old new (Internal message) = ⊥
Fails part made old new Alloc = MadeFront part.calls made

-- A part was written, and it was whole and its calls were made; or it wasn't, for this reason.
abbrev pub Wrote : {E : Type 0} → Part → (List Call → Type 0) → Writing → Writing → Result (Unit {0}) (SerializeError E) → Type 0
Wrote part made old new (Ok _) = (part.whole ≡ true) × made part.calls × Kept old new
Wrote part made old new (Err error) = Fails part made old new error × Kept old new
