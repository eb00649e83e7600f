-- Values of every shape.
use Rattle.std.specs.Prelude.{ℕ, zero, suc, [], Option, Some, None, Bool, true, false}
use Rattle.semantics_lines.specs.Trees.{Tree}
use Rattle.semantics_lines.specs.Shapes.{ScalarType, is_tuple, StructShape, Definition, scalar_shape, option_shape, result_shape, list_shape, array_shape, struct_shape, transparent_shape, definition_at}
use Rattle.semantics_lines.specs.Faults.{too_deep}
use Rattle.semantics.specs.Labels.{label_at}
use Rattle.semantics.specs.Reading.{Setting, Source, from_events, plain_layout}
use Rattle.laws_reading.specs.Input.{Reads, refused, refused_at}
use Rattle.laws_reading.specs.Structs.{ReadsPart, end_at, struct_at}
use Rattle.laws_reading.specs.Nodes.{Target, scalar_at}
use Rattle.laws_reading.specs.Options.{option_at, result_at}
use Rattle.laws_reading.specs.Sequences.{sequence_at}
use Rattle.laws_reading.specs.Tuples.{tuple_at}

-- what holds for all parts: how is read, and the depth that was handed in
pub record Terms : Type 0 where
  pub setting : Setting
  pub limit : ℕ

abbrev pub target_of : Terms → ℕ → ScalarType → Target
target_of terms s t = record { borrow = terms.setting.borrow; shape = label_at terms.setting.registry s; type = t }

-- a struct: a tuple, or an object
abbrev pub struct_as : Terms → ReadsPart → ℕ → StructShape → Bool → Reads Tree
struct_as terms read s d true path input = tuple_at terms.setting (record { shape = label_at terms.setting.registry s; fields = d.fields }) read path input
struct_as terms read s d false path input = struct_at terms.setting.registry (end_at read) [] d.deny (plain_layout d) s path input

-- One step of reading, where the parts are read so. Sets, maps and enums aren't built yet.
abbrev pub value_as : Terms → ReadsPart → ℕ → Source → Definition → Reads Tree
value_as terms read s source (scalar_shape t) path input = scalar_at (target_of terms s t) path input
value_as terms read s source (option_shape i) path input = option_at (read i from_events) path input
value_as terms read s source (result_shape i j) path input = result_at read (record { ok_shape = i; err_shape = j }) path input
value_as terms read s source (list_shape i) path input = sequence_at (record { shape = label_at terms.setting.registry s; len = None }) (read i from_events) path input
value_as terms read s source (array_shape i len) path input = sequence_at (record { shape = label_at terms.setting.registry s; len = Some len }) (read i from_events) path input
value_as terms read s source (struct_shape d) path input = struct_as terms read s d (is_tuple d.kind) path input
value_as terms read s source (transparent_shape i) path input = read i source path input
value_as terms read s source _ path input = refused_at path input

abbrev pub value_at : Terms → ReadsPart → ℕ → Source → Option Definition → Reads Tree
value_at terms read s source None path input = refused_at path input
value_at terms read s source (Some d) path input = value_as terms read s source d path input

-- a value of the shape of this number, within a depth
abbrev pub reading : Terms → ℕ → ReadsPart
reading terms zero s source path input = refused (too_deep terms.limit) path input
reading terms (suc n) s source path input = value_at terms (reading terms n) s source (definition_at terms.setting.registry s) path input
