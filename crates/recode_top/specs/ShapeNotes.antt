-- What is said of a refused shape text.
use Rattle.std.specs.Prelude.{ℕ, List, ◌++◌, codes}
use Rattle.std.specs.Fmt.{decimal}
use Rattle.semantics_lines.specs.ShapeFaults as registry
use Rattle.semantics_lines.specs.ShapeText as text

-- the name of a rule of the registry
abbrev pub rule_name : registry.ShapeFaultKind → List ℕ
rule_name registry.undefined = codes "Undefined"
rule_name registry.repeated_shape_name = codes "RepeatedShapeName"
rule_name registry.repeated_name = codes "RepeatedName"
rule_name registry.bad_default = codes "BadDefault"
rule_name registry.bad_skip = codes "BadSkip"
rule_name registry.bad_flatten = codes "BadFlatten"
rule_name registry.step_cycle = codes "StepCycle"
rule_name registry.bad_container = codes "BadContainer"
rule_name registry.bad_enum = codes "BadEnum"
rule_name registry.too_many_choices = codes "TooManyChoices"
rule_name registry.too_many = codes "TooMany"
rule_name registry.not_built = codes "NotBuilt"

-- the name of a fault: the rule's, where one is broken
abbrev pub kind_name : text.ShapeTextKind → List ℕ
kind_name text.not_utf8 = codes "NotUtf8"
kind_name text.bad_line = codes "BadLine"
kind_name text.out_of_place = codes "OutOfPlace"
kind_name text.unknown_ref = codes "UnknownRef"
kind_name text.too_many = codes "TooMany"
kind_name (text.check fault) = rule_name fault.kind

-- the line and the kind of the fault
abbrev pub shapes_note : ℕ → text.ShapeTextKind → List ℕ
shapes_note line kind = decimal line ++ (codes ": " ++ kind_name kind)
