-- The fields of a checked registry's structs: none is flattened, and none declares a default.
use Rattle.std.proofs.Common.{◌≡◌, ℕ, zero, suc, List, [], ◌∷◌, slice_get, Option, Some, None, false, refl, sym, ap, ◌∙◌}
use Rattle.std.specs.List.{AllByRecursion as Every}
use Rattle.semantics_lines.specs.Shapes.{Field, Definition, struct_shape, Registry, definition_at}
use Rattle.semantics.specs.Registry.{is_unbuilt, IsRegistry}
use Rattle.laws.proofs.Built.{BuiltField, struct_built, built}
use Rattle.read_steps.specs.Tasks.{fields_in, fields_at}

-- a field of its own, which declares no default
abbrev pub IsBuilt : Field → Type 0
IsBuilt f = (f.flattened ≡ false) × (f.default ≡ None)

every_built : (d : Definition) → is_unbuilt d ≡ false → Every BuiltField (fields_in (Some d))
every_built (struct_shape d) fine = (struct_built d fine).fields
every_built _ fine = tt

all_in : (o : Option Definition) → ((d : Definition) → o ≡ Some d → is_unbuilt d ≡ false) → Every BuiltField (fields_in o)
all_in None fine = tt
all_in (Some d) fine = every_built d (fine d refl)

-- all of them
pub all_built : (g : Registry) → IsRegistry g → (s : ℕ) → Every BuiltField (fields_at g s)
all_built g checked s = all_in (definition_at g s) (built g checked s)

one_of : (fields : List Field) → Every BuiltField fields → (k : ℕ) (f : Field) → slice_get fields k ≡ Some f → IsBuilt f
one_of [] all k f is = absurd cc
one_of (h ∷ fields) (b, all) zero f is = let same : h ≡ f = cc in (sym (ap (λ (x : Field). x.flattened) same) ∙ b.flattened, sym (ap (λ (x : Field). x.default) same) ∙ b.default)
one_of (h ∷ fields) (b, all) (suc k) f is = one_of fields all k f is

-- the one at a place
pub built_at : (g : Registry) → IsRegistry g → (s k : ℕ) (f : Field) → slice_get (fields_at g s) k ≡ Some f → IsBuilt f
built_at g checked s k f is = one_of (fields_at g s) (all_built g checked s) k f is
