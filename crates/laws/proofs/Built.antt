-- What the definitions of a checked registry are.
use Rattle.std.proofs.Common.{◌≡◌, ℕ, zero, suc, ◌<◌, List, [], ◌∷◌, length, map, Option, Some, None, Bool, true, false, not, ◌||◌, if◌then◌else◌, is_some, option_and_then, option_map, refl, sym, ap, ◌∙◌, subst}
use Rattle.std.proofs.lemmas.List.{length-map}
use Rattle.std.proofs.lemmas.Option.{slice_get-map, slice_get_within}
use Rattle.std.specs.Prelude.{slice_get}
use Rattle.std.specs.List.{list_any, AllByRecursion as Every}
use Rattle.semantics_lines.specs.Shapes.{Field, StructShape, Definition, struct_shape, transparent_shape, Shape, Draft, Registry, definition_of, definition_at}
use Rattle.semantics_lines.specs.ShapeFaults.{not_built}
use Rattle.semantics.specs.Registry.{never_skips, has_unbuilt_attribute, is_unbuilt, is_not_built, Rule, rules_of, first_broken, fault_of, lies_on_cycle, drafted, completed, completed_shapes, IsRegistry}
use Rattle.semantics.specs.Typed.{through, base_within, base, struct_of, struct_at}

-- a field that can be read and written
pub record BuiltField (f : Field) : Type 0 where
  pub default : f.default ≡ None
  pub flattened : f.flattened ≡ false

completed_each : (n : ℕ) (g : Registry) → map (completed n) (map drafted g) ≡ g
completed_each n [] = refl
completed_each n (x ∷ g) = ap (λ l. x ∷ l) (completed_each n g)

-- the shapes of a registry, as drafts, are typed by themselves
pub completed_same : (g : Registry) → completed_shapes (map drafted g) ≡ g
completed_same g = completed_each (length (map drafted g)) g

-- a struct that can be read and written
pub record BuiltStruct (s : StructShape) : Type 0 where
  pub fields : Every BuiltField s.fields

neither : (b c : Bool) → b || c ≡ false → (b ≡ false) × (c ≡ false)
neither true c e = absurd cc
neither false c e = (refl, e)

is_none_at : {A : Type 0} (o : Option A) → is_some o ≡ false → o ≡ None
is_none_at None e = refl
is_none_at (Some x) e = absurd cc

field_built : (f : Field) → has_unbuilt_attribute f ≡ false → BuiltField f
field_built f e =
    let (default, others) = neither (is_some f.default) (not (never_skips f.skip) || (f.flattened || (is_some f.metadata || is_some f.proxy))) e in
    let (skip, others) = neither (not (never_skips f.skip)) (f.flattened || (is_some f.metadata || is_some f.proxy)) others in
    let (flattened, others) = neither f.flattened (is_some f.metadata || is_some f.proxy) others in
    record {
      default = is_none_at f.default default;
      flattened = flattened;
    }

fields_built : (fs : List Field) → list_any has_unbuilt_attribute fs ≡ false → Every BuiltField fs
fields_built [] e = tt
fields_built (f ∷ fs) e =
    let (here, rest) = neither (has_unbuilt_attribute f) (list_any has_unbuilt_attribute fs) e in
    (field_built f here, fields_built fs rest)

pub struct_built : (s : StructShape) → is_unbuilt (struct_shape s) ≡ false → BuiltStruct s
struct_built s e =
    let (default, others) = neither (is_some s.default) (s.container || list_any has_unbuilt_attribute s.fields) e in
    let (container, fields) = neither s.container (list_any has_unbuilt_attribute s.fields) others in
    record { fields = fields_built s.fields fields }

-- a struct that is built declares no default
pub struct_declares_none : (s : StructShape) → is_unbuilt (struct_shape s) ≡ false → s.default ≡ None
struct_declares_none s e = is_none_at s.default (neither (is_some s.default) (s.container || list_any has_unbuilt_attribute s.fields) e).0

pub found_shape : (o : Option Shape) (d : Definition) → option_and_then definition_of o ≡ Some d → (x : Shape) × (o ≡ Some x) × (x.definition ≡ d)
found_shape None d e = absurd cc
found_shape (Some x) d e = (x, refl, cc)

no_fault_built : (ds : List Draft) (i : ℕ) (d : Draft) (b : Bool) → is_not_built d ≡ b → (if b then Some not_built else first_broken (rules_of ds i d)) ≡ None
    → (b ≡ false) × (first_broken (rules_of ds i d) ≡ None)
no_fault_built ds i d true is e = absurd cc
no_fault_built ds i d false is e = (refl, e)

-- a shape of a checked registry, which is of a form that is built and breaks no rule
pub record Checked (g : Registry) (s : ℕ) (d : Definition) : Type 0 where
  pub shape : Shape
  pub found : slice_get g s ≡ Some shape
  pub is : shape.definition ≡ d
  pub built : is_unbuilt shape.definition ≡ false
  pub rules : first_broken (rules_of (map drafted g) s (drafted shape)) ≡ None

pub checked_at : (g : Registry) → IsRegistry g → (s : ℕ) (d : Definition) → definition_at g s ≡ Some d → Checked g s d
checked_at g checked s d e =
    let (x, found, is) = found_shape (slice_get g s) d e in
    let within : s < length (map drafted g) = subst (λ n. s < n) (sym (length-map g drafted)) (slice_get_within g s x found) in
    let draft : slice_get (map drafted g) s ≡ Some (drafted x) = slice_get-map drafted g s ∙ ap (option_map drafted) found in
    let none : fault_of (map drafted g) s (drafted x) ≡ None = ap (option_and_then (fault_of (map drafted g) s)) (sym draft) ∙ checked.sound s within in
    let (fine, rules) = no_fault_built (map drafted g) s (drafted x) (is_not_built (drafted x)) refl none in
    record { shape = x; found = found; is = is; built = (neither (is_some x.proxy) (is_unbuilt x.definition) fine).1; rules = rules }

-- each shape of a checked registry is of a form that is built
pub built : (g : Registry) → IsRegistry g → (s : ℕ) (d : Definition) → definition_at g s ≡ Some d → is_unbuilt d ≡ false
built g checked s d e =
    let c = checked_at g checked s d e in
    ap is_unbuilt (sym c.is) ∙ c.built

-- no rule of the list is broken
none_broken : (rs : List Rule) → first_broken rs ≡ None → Every (λ r. r.broken ≡ false) rs
none_broken [] e = tt
none_broken (r ∷ rs) e = by_test r.broken e (none_broken rs)
  where
    by_test : (b : Bool) → (if b then Some r.kind else first_broken rs) ≡ None → (first_broken rs ≡ None → Every (λ r. r.broken ≡ false) rs)
        → (b ≡ false) × Every (λ r. r.broken ≡ false) rs
    by_test true e rest = absurd cc
    by_test false e rest = (refl, rest e)

-- no shape of a checked registry is reached from itself by steps alone
pub on_no_cycle : (g : Registry) → IsRegistry g → (s : ℕ) (d : Definition) → definition_at g s ≡ Some d → lies_on_cycle (map drafted g) s ≡ false
on_no_cycle g checked s d e =
    let c = checked_at g checked s d e in
    (none_broken (rules_of (map drafted g) s (drafted c.shape)) c.rules).1.1.1.1.0

-- a definition that isn't transparent
abbrev pub is_opaque : Definition → Bool
is_opaque (transparent_shape s) = false
is_opaque _ = true

seen_through : (inner : ℕ → Option Definition) (d : Definition) → is_opaque d ≡ true → through inner d ≡ Some d
seen_through inner (transparent_shape s) e = absurd cc
seen_through inner _ e = refl

-- such a definition stands for itself
pub base_is : (g : Registry) (s : ℕ) (d : Definition) → definition_at g s ≡ Some d → is_opaque d ≡ true → base g s ≡ Some d
base_is [] s d e opaque = absurd cc
base_is (x ∷ g) s d e opaque = ap (option_and_then (through (base_within (x ∷ g) (length g)))) e ∙ seen_through (base_within (x ∷ g) (length g)) d opaque

pub no_base : (g : Registry) (s : ℕ) → definition_at g s ≡ None → base g s ≡ None
no_base [] s e = refl
no_base (x ∷ g) s e = ap (option_and_then (through (base_within (x ∷ g) (length g)))) e

-- what is looked up through transparent shapes is the definition of some shape
through_defined : (g : Registry) (n : ℕ) (d e : Definition) → ((s : ℕ) → base_within g n s ≡ Some e → (t : ℕ) × (definition_at g t ≡ Some e)) → (s : ℕ) → definition_at g s ≡ Some d
    → through (base_within g n) d ≡ Some e → (t : ℕ) × (definition_at g t ≡ Some e)
through_defined g n (transparent_shape u) e inner s at is = inner u is
through_defined g n d e inner s at is = (s, at ∙ is)

found_defined : (g : Registry) (n s : ℕ) (e : Definition) → ((u : ℕ) → base_within g n u ≡ Some e → (t : ℕ) × (definition_at g t ≡ Some e)) → (o : Option Definition) → definition_at g s ≡ o
    → option_and_then (through (base_within g n)) o ≡ Some e → (t : ℕ) × (definition_at g t ≡ Some e)
found_defined g n s e inner None at is = absurd cc
found_defined g n s e inner (Some d) at is = through_defined g n d e inner s at is

within_defined : (g : Registry) (n s : ℕ) (e : Definition) → base_within g n s ≡ Some e → (t : ℕ) × (definition_at g t ≡ Some e)
within_defined g zero s e is = absurd cc
within_defined g (suc n) s e is = found_defined g n s e (λ u. within_defined g n u e) (definition_at g s) refl is

pub base_defined : (g : Registry) (s : ℕ) (d : Definition) → base g s ≡ Some d → (t : ℕ) × (definition_at g t ≡ Some d)
base_defined g s d e = within_defined g (length g) s d e

struct_of_some : (o : Option Definition) (q : StructShape) → option_and_then struct_of o ≡ Some q → o ≡ Some (struct_shape q)
struct_of_some None q e = absurd cc
struct_of_some (Some (struct_shape x)) q e = cc
struct_of_some (Some _) q e = absurd cc

-- a struct is defined at some shape
pub struct_defined : (g : Registry) (s : ℕ) (q : StructShape) → struct_at g s ≡ Some q → (t : ℕ) × (definition_at g t ≡ Some (struct_shape q))
struct_defined g s q e = base_defined g s (struct_shape q) (struct_of_some (base g s) q e)
