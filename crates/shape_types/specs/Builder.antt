-- What a builder of drafts holds, and why a shape is not named.
use Rattle.std.specs.Prelude.{ℕ, ◌≡◌, ◌≤◌, List, length, take, Some, None}
use Rattle.semantics_lines.specs.Shapes as mirror
use Rattle.semantics_lines.specs.Scalars.{scalar_drafts}
use Rattle.semantics_lines.specs.ShapeFaults.{shape_limit}
use Rattle.shape_types.specs.Shapes.{drafts_of}
use Rattle.shape_types.specs.declared.draft.Draft.{Draft}
use Rattle.shape_types.specs.declared.fault.NameFault.{NameFault}
use Rattle.shape_types.specs.declared.fault.NameFault.TheVariants as name_fault

-- a shape that has a name and no definition
abbrev pub named : List ℕ → mirror.Draft
named name = record { name = name; definition = None; proxy = None }

-- the same shape with this definition
abbrev pub redefined : mirror.Draft → mirror.Definition → mirror.Draft
redefined d definition = record { name = d.name; definition = Some definition; proxy = d.proxy }

-- The scalars come first, and the numbers are within the limit.
pub record IsDraftList (ds : List Draft) : Type 0 where
  pub scalars : take 17 (drafts_of ds) ≡ scalar_drafts
  pub enough : 17 ≤ length ds
  pub few : length ds ≤ shape_limit

-- why a shape isn't named: there are as many as there may be, or memory ran out
abbrev pub IsNameFault : List mirror.Draft → NameFault → Type 0
IsNameFault ds name_fault.TooMany = length ds ≡ shape_limit
IsNameFault ds name_fault.Alloc = Unit {0}
