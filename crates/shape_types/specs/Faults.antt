-- The faults of the check, as the definitions see them.
use Rattle.semantics_lines.specs.ShapeFaults as mirror
use Rattle.shape_types.specs.declared.fault.ShapeFault.{ShapeFault}
use Rattle.shape_types.specs.declared.fault.ShapeFaultKind.{ShapeFaultKind}
use Rattle.shape_types.specs.declared.fault.ShapeFaultKind.TheVariants.{Undefined, RepeatedShapeName, RepeatedName, BadDefault, BadSkip, BadFlatten, StepCycle, BadContainer, BadEnum, TooManyChoices, TooMany, NotBuilt}

-- the rule that is broken
abbrev pub fault_kind_of : ShapeFaultKind → mirror.ShapeFaultKind
fault_kind_of Undefined = mirror.undefined
fault_kind_of RepeatedShapeName = mirror.repeated_shape_name
fault_kind_of RepeatedName = mirror.repeated_name
fault_kind_of BadDefault = mirror.bad_default
fault_kind_of BadSkip = mirror.bad_skip
fault_kind_of BadFlatten = mirror.bad_flatten
fault_kind_of StepCycle = mirror.step_cycle
fault_kind_of BadContainer = mirror.bad_container
fault_kind_of BadEnum = mirror.bad_enum
fault_kind_of TooManyChoices = mirror.too_many_choices
fault_kind_of TooMany = mirror.too_many
fault_kind_of NotBuilt = mirror.not_built

-- the shape, by its number, and the rule
abbrev pub shape_fault_of : ShapeFault → mirror.ShapeFault
shape_fault_of f = record { shape = f.shape.0; kind = fault_kind_of f.kind }
