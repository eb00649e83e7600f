-- What is wrong with a line, as the definitions see it.
use Rattle.semantics_lines.specs.ShapeText as mirror
use Rattle.shape_types.specs.Faults.{shape_fault_of}
use Rattle.shape_lines.specs.declared.shape_fault.ShapeTextKind.{ShapeTextKind}
use Rattle.shape_lines.specs.declared.shape_fault.ShapeTextKind.TheVariants as kind

-- the kind of a fault
abbrev pub text_kind : ShapeTextKind → mirror.ShapeTextKind
text_kind kind.NotUtf8 = mirror.not_utf8
text_kind kind.BadLine = mirror.bad_line
text_kind kind.OutOfPlace = mirror.out_of_place
text_kind kind.UnknownRef = mirror.unknown_ref
text_kind kind.TooMany = mirror.too_many
text_kind (kind.Check fault) = mirror.check (shape_fault_of fault)
