-- What a builder holds, and why its calls refuse.
use Rattle.std.specs.Prelude.{List, Bool, true, Option, Some, None, option_map, ◌&&◌}
use Rattle.std.specs.Str.{is_utf8}
use Rattle.semantics_lines.specs.Shapes as mirror
use Rattle.semantics.specs.Registry.{IsFirstFault, definition_is_utf8}
use Rattle.shape_types.specs.Faults.{shape_fault_of}
use Rattle.shape_types.specs.declared.fault.CheckFault.{CheckFault}
use Rattle.shape_types.specs.declared.fault.CheckFault.TheVariants as check_fault

-- the shape that a draft becomes, where it has a definition
abbrev pub finished : mirror.Draft → Option mirror.Shape
finished d = option_map (λ definition. record { name = d.name; definition = definition; proxy = d.proxy }) d.definition

-- why a registry isn't made: it is the first fault, or memory ran out
abbrev pub IsCheckFault : List mirror.Draft → CheckFault → Type 0
IsCheckFault ds (check_fault.Fault f) = IsFirstFault ds (shape_fault_of f)
IsCheckFault ds check_fault.Alloc = Unit {0}

-- the names in a definition that may be missing are texts
abbrev pub defined_is_utf8 : Option mirror.Definition → Bool
defined_is_utf8 None = true
defined_is_utf8 (Some d) = definition_is_utf8 d

-- the names of a shape that is being built are texts
abbrev pub draft_is_utf8 : mirror.Draft → Bool
draft_is_utf8 d = is_utf8 d.name && defined_is_utf8 d.definition
