-- What events, scalars and containers are called.
use Rattle.std.specs.Prelude.{ℕ, List, codes}
use Rattle.event_core.specs.declared.event.ContainerKind.{ContainerKind}
use Rattle.event_core.specs.declared.event.ContainerKind.TheVariants.{Object, Array}
use Rattle.event_core.specs.declared.event.ParseEventKind.{ParseEventKind}
use Rattle.event_core.specs.declared.event.ParseEventKind.TheVariants as events
use Rattle.event_core.specs.declared.scalar.ScalarValue.{ScalarValue}
use Rattle.event_core.specs.declared.scalar.ScalarValue.TheVariants as scalars

-- what a start says that it opens, in a word
abbrev pub container_name : ContainerKind → List ℕ
container_name Object = codes "object"
container_name Array = codes "array"

-- what a scalar is, in a word
abbrev pub scalar_name : ScalarValue → List ℕ
scalar_name scalars.Unit = codes "unit"
scalar_name scalars.Null = codes "null"
scalar_name (scalars.Bool b) = codes "bool"
scalar_name (scalars.Char c) = codes "char"
scalar_name (scalars.I64 z) = codes "i64"
scalar_name (scalars.U64 n) = codes "u64"
scalar_name (scalars.I128 z) = codes "i128"
scalar_name (scalars.U128 n) = codes "u128"
scalar_name (scalars.Str t) = codes "string"
scalar_name (scalars.Bytes b) = codes "bytes"

-- what an event is, in a word or two
abbrev pub kind_text : ParseEventKind → List ℕ
kind_text (events.StructStart k) = codes "struct start"
kind_text events.StructEnd = codes "struct end"
kind_text (events.FieldKey k) = codes "field key"
kind_text events.OrderedField = codes "ordered field"
kind_text (events.SequenceStart k) = codes "sequence start"
kind_text events.SequenceEnd = codes "sequence end"
kind_text (events.Scalar v) = codes "scalar"
kind_text (events.VariantTag t) = codes "variant tag"
