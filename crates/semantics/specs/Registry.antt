-- The checked registry: the rules that its shapes keep, each with the name of the fault where it is broken.
use Rattle.std.specs.Prelude.{◌≡◌, ℕ, zero, suc, ◌<◌, ◌≤◌, ◌==◌, nat_lt, List, [], ◌∷◌, length, map, take, Bool, true, false, ◌||◌, ◌&&◌, not, if◌then◌else◌, Option, Some, None, option_and_then, is_some, unwrap_or, slice_get, bytes_eq, IsTrue}
use Rattle.std.specs.List.{list_any, list_all, cons_option}
use Rattle.std.specs.Option.{option_map_or}
use Rattle.std.specs.Fmt.{decimal}
use Rattle.std.specs.Str.{is_utf8}
use Rattle.semantics_lines.specs.Shapes.{StructKind, is_tuple, is_unit, SkipRule, skip_never, Field, effective_name, StructShape, Variant, EnumForm, internal, adjacent, Definition, scalar_shape, option_shape, result_shape, list_shape, array_shape, set_shape, map_shape, struct_shape, enum_shape, transparent_shape, Shape, Draft, Registry}
use Rattle.semantics_lines.specs.Scalars.{scalar_drafts}
use Rattle.semantics_lines.specs.ShapeFaults.{ShapeFaultKind, undefined, repeated_shape_name, repeated_name, bad_flatten, step_cycle, bad_enum, too_many, not_built, ShapeFault, shape_limit}

-- a test of the definition, where there is one
abbrev pub on_definition : Option Definition → (Definition → Bool) → Bool
on_definition None p = false
on_definition (Some d) p = p d

-- a test of the fields of a struct, and of those of each variant of an enum
abbrev pub on_fields : (List Field → Bool) → Definition → Bool
on_fields p (struct_shape s) = p s.fields
on_fields p (enum_shape form vs) = list_any (λ v. p v.fields) vs
on_fields p _ = false

-- the same, of those alone that are of such a kind
abbrev pub on_fields_of : (StructKind → Bool) → (List Field → Bool) → Definition → Bool
on_fields_of kind p (struct_shape s) = kind s.kind && p s.fields
on_fields_of kind p (enum_shape form vs) = list_any (λ v. kind v.kind && p v.fields) vs
on_fields_of kind p _ = false

-- a test of some pair, the earlier one first
abbrev pub has_pair : {A : Type 0} → (A → A → Bool) → List A → Bool
has_pair p [] = false
has_pair p (x ∷ xs) = list_any (p x) xs || has_pair p xs

-- Undefined: there is no definition, or it refers to a number that isn't there.
abbrev pub is_missing : ℕ → ℕ → Bool
is_missing count s = not (nat_lt s count)

-- a definition refers to a number that is not there
abbrev pub dangles : ℕ → Definition → Bool
dangles count (scalar_shape type) = false
dangles count (option_shape s) = is_missing count s
dangles count (result_shape s t) = is_missing count s || is_missing count t
dangles count (list_shape s) = is_missing count s
dangles count (array_shape s len) = is_missing count s
dangles count (set_shape s) = is_missing count s
dangles count (map_shape s t) = is_missing count s || is_missing count t
dangles count (struct_shape s) = list_any (λ f. is_missing count f.shape) s.fields
dangles count (enum_shape form vs) = list_any (λ v. list_any (λ f. is_missing count f.shape) v.fields) vs
dangles count (transparent_shape s) = is_missing count s

-- a draft has no definition, or one that dangles
abbrev pub is_undefined : ℕ → Option Definition → Bool
is_undefined count None = true
is_undefined count (Some d) = dangles count d

-- RepeatedShapeName: an earlier shape has this name.
abbrev pub repeats_shape_name : List Draft → ℕ → Draft → Bool
repeats_shape_name ds i d = list_any (λ e. bytes_eq e.name d.name) (take i ds)

-- the texts of the keys of these fields: of each its effective name, and then its alias
abbrev pub key_texts : List Field → List (List ℕ)
key_texts [] = []
key_texts (f ∷ fs) = effective_name f ∷ cons_option f.alias (key_texts fs)

-- RepeatedName: two fields of one struct or variant have one name, or two of their keys one text, or two variants of one
-- enum have one name.
abbrev pub repeats_field : List Field → Bool
repeats_field fs = has_pair (λ f e. bytes_eq f.name e.name) fs || has_pair bytes_eq (key_texts fs)

-- two variants of one enum have one name
abbrev pub repeats_variant : Definition → Bool
repeats_variant (enum_shape form vs) = has_pair (λ v w. bytes_eq v.name w.name) vs
repeats_variant _ = false

-- two fields or two variants of one definition have one name, or two fields one key
abbrev pub repeats_name : Definition → Bool
repeats_name d = on_fields repeats_field d || repeats_variant d

-- Attributes of fields that aren't built yet: a declared default, a skip rule, flattening, metadata, a proxy.
abbrev pub never_skips : SkipRule → Bool
never_skips skip_never = true
never_skips _ = false

-- a field has an attribute that isn't built yet
abbrev pub has_unbuilt_attribute : Field → Bool
has_unbuilt_attribute f = is_some f.default || (not (never_skips f.skip) || (f.flattened || (is_some f.metadata || is_some f.proxy)))

-- a field has some attribute beside its name and its shape
abbrev pub has_attribute : Field → Bool
has_attribute f = is_some f.rename || (is_some f.alias || has_unbuilt_attribute f)

-- BadFlatten: an item of a tuple has another name than its place, in decimal, or has an attribute. That nothing is
-- flattened that can't be is a rule of forms that aren't built.
abbrev pub misplaces : ℕ → List Field → Bool
misplaces k [] = false
misplaces k (f ∷ fs) = (not (bytes_eq f.name (decimal k)) || has_attribute f) || misplaces (suc k) fs

-- an item of a tuple is misplaced or has an attribute, in a struct or in a variant
abbrev pub has_bad_item : Definition → Bool
has_bad_item d = on_fields_of is_tuple (misplaces 0) d

-- StepCycle: a shape is reached from itself by steps alone, which are those to a part that stands where the shape
-- itself does. Steps lead from an option and from a transparent shape to the inner one.
abbrev pub step_shapes : Definition → List ℕ
step_shapes (option_shape s) = s ∷ []
step_shapes (transparent_shape s) = s ∷ []
step_shapes _ = []

-- the steps from a draft, and none where its definition is missing
abbrev pub draft_steps : Draft → List ℕ
draft_steps d = option_map_or step_shapes d.definition []

-- the steps from the shape of a number
abbrev pub steps_from : List Draft → ℕ → List ℕ
steps_from ds s = option_map_or draft_steps (slice_get ds s) []

-- one comes from s to t by one step or more, and by no more than so many
abbrev pub steps_to : List Draft → ℕ → ℕ → ℕ → Bool
steps_to ds zero t s = false
steps_to ds (suc n) t s = list_any (λ u. u == t || steps_to ds n t u) (steps_from ds s)

-- The shape lies on a cycle of steps. One that passes no shape twice has no more steps than there are shapes.
abbrev pub lies_on_cycle : List Draft → ℕ → Bool
lies_on_cycle ds i = steps_to ds (length ds) i i

-- BadEnum: what is of a unit kind has fields. The rules on variants are those of forms that aren't built.
abbrev pub has_some : {A : Type 0} → List A → Bool
has_some [] = false
has_some (x ∷ xs) = true

-- something of a unit kind has fields
abbrev pub has_bad_unit : Definition → Bool
has_bad_unit d = on_fields_of is_unit has_some d

-- TooMany: more than 65,535 fields of one struct or variant, or variants of one enum.
abbrev pub is_long : {A : Type 0} → List A → Bool
is_long xs = nat_lt shape_limit (length xs)

-- an enum has too many variants
abbrev pub has_many_variants : Definition → Bool
has_many_variants (enum_shape form vs) = is_long vs
has_many_variants _ = false

-- a definition has too many fields or variants
abbrev pub has_too_many : Definition → Bool
has_too_many d = on_fields is_long d || has_many_variants d

-- NotBuilt: the shape uses a form that isn't built yet, whatever the shapes are that it refers to. Not built are sets,
-- maps and enums, and each attribute of a field but renames and aliases, of a struct but that unknown keys are refused,
-- and of a shape.
-- a struct, or one of its fields, has an attribute that isn't built yet
abbrev pub is_unbuilt_struct : StructShape → Bool
is_unbuilt_struct s = is_some s.default || (s.container || list_any has_unbuilt_attribute s.fields)

-- a definition is of a form that is not built yet
abbrev pub is_unbuilt : Definition → Bool
is_unbuilt (set_shape s) = true
is_unbuilt (map_shape s t) = true
is_unbuilt (struct_shape s) = is_unbuilt_struct s
is_unbuilt (enum_shape form vs) = true
is_unbuilt _ = false

-- a draft uses a form that is not built yet
abbrev pub is_not_built : Draft → Bool
is_not_built d = is_some d.proxy || on_definition d.definition is_unbuilt

-- The first fault of the list that holds.
pub record Rule : Type 0 where
  pub kind : ShapeFaultKind
  pub broken : Bool

-- a rule, and whether it is broken
abbrev pub rule : ShapeFaultKind → Bool → Rule
rule kind broken = record { kind = kind; broken = broken }

-- the first rule of the list that is broken
abbrev pub first_broken : List Rule → Option ShapeFaultKind
first_broken [] = None
first_broken (r ∷ rs) = if r.broken then Some r.kind else first_broken rs

-- the rules in their order, for the shape of number i
abbrev pub rules_of : List Draft → ℕ → Draft → List Rule
rules_of ds i d =
    rule undefined (is_undefined (length ds) d.definition)
    ∷ rule repeated_shape_name (repeats_shape_name ds i d)
    ∷ rule repeated_name (on_definition d.definition repeats_name)
    ∷ rule bad_flatten (on_definition d.definition has_bad_item)
    ∷ rule step_cycle (lies_on_cycle ds i)
    ∷ rule bad_enum (on_definition d.definition has_bad_unit)
    ∷ rule too_many (on_definition d.definition has_too_many)
    ∷ []

-- a shape that uses a form that isn't built has that fault alone
abbrev pub fault_of : List Draft → ℕ → Draft → Option ShapeFaultKind
fault_of ds i d = if is_not_built d then Some not_built else first_broken (rules_of ds i d)

-- the fault of the shape of a number
abbrev pub fault_at : List Draft → ℕ → Option ShapeFaultKind
fault_at ds i = option_and_then (fault_of ds i) (slice_get ds i)

-- no shape of a lower number has a fault
abbrev pub NoFaultBelow : List Draft → ℕ → Type 0
NoFaultBelow ds n = (i : ℕ) → i < n → fault_at ds i ≡ None

-- no shape breaks a rule
abbrev pub NoFault : List Draft → Type 0
NoFault ds = NoFaultBelow ds (length ds)

-- the least shape with a fault, and the least of its faults
pub record IsFirstFault (ds : List Draft) (f : ShapeFault) : Type 0 where
  pub before : NoFaultBelow ds f.shape
  pub here : fault_at ds f.shape ≡ Some f.kind

-- Names are texts, and so are UTF-8.
abbrev pub name_is_utf8 : Option (List ℕ) → Bool
name_is_utf8 None = true
name_is_utf8 (Some name) = is_utf8 name

-- the names of a field are UTF-8
abbrev pub field_is_utf8 : Field → Bool
field_is_utf8 f = is_utf8 f.name && (name_is_utf8 f.rename && name_is_utf8 f.alias)

-- the names of a variant and of its fields are UTF-8
abbrev pub variant_is_utf8 : Variant → Bool
variant_is_utf8 v = is_utf8 v.name && (name_is_utf8 v.rename && list_all field_is_utf8 v.fields)

-- the tags of an enum are UTF-8
abbrev pub form_is_utf8 : EnumForm → Bool
form_is_utf8 (internal tag by) = is_utf8 tag
form_is_utf8 (adjacent tag content by) = is_utf8 tag && is_utf8 content
form_is_utf8 _ = true

-- all names of a definition are UTF-8
abbrev pub definition_is_utf8 : Definition → Bool
definition_is_utf8 (struct_shape s) = list_all field_is_utf8 s.fields
definition_is_utf8 (enum_shape form vs) = form_is_utf8 form && list_all variant_is_utf8 vs
definition_is_utf8 _ = true

-- all names of a shape are UTF-8
abbrev pub shape_is_utf8 : Shape → Bool
shape_is_utf8 s = is_utf8 s.name && definition_is_utf8 s.definition

-- the shape as a draft whose definition is there
abbrev pub drafted : Shape → Draft
drafted s = record { name = s.name; definition = Some s.definition; proxy = s.proxy }

-- A draft as a shape. One without a definition leads to a number that isn't there, so no value is of it.
abbrev pub completed : ℕ → Draft → Shape
completed count d = record { name = d.name; definition = unwrap_or d.definition (transparent_shape count); proxy = d.proxy }

-- The drafts as shapes, by which values are typed before the registry is checked: those that fields and structs declare.
abbrev pub completed_shapes : List Draft → Registry
completed_shapes ds = map (completed (length ds)) ds

-- A checked registry: it begins with the scalars, keeps each rule, and its names are texts.
pub record IsRegistry (g : Registry) : Type 0 where
  pub scalars : take 17 (map drafted g) ≡ scalar_drafts
  pub few : length g ≤ shape_limit
  pub sound : NoFault (map drafted g)
  pub utf8 : IsTrue (list_all shape_is_utf8 g)
