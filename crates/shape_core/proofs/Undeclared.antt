-- No struct of a checked registry declares a default.
use Rattle.std.proofs.Common.{◌≡◌, ℕ, zero, suc, ◌<◌, length, map, List, Option, Some, None, Bool, true, false, ◌||◌, if◌then◌else◌, is_some, option_and_then, option_map, refl, sym, ap, ◌∙◌, subst}
use Rattle.std.proofs.lemmas.List.{length-map}
use Rattle.std.proofs.lemmas.Option.{slice_get-map, slice_get_within}
use Rattle.std.specs.Prelude.{slice_get}
use Rattle.std.specs.List.{list_any}
use Rattle.semantics_lines.specs.Trees.{Tree}
use Rattle.semantics_lines.specs.Shapes.{Definition, struct_shape, transparent_shape, Shape, Draft, Registry, definition_of, definition_at}
use Rattle.semantics_lines.specs.ShapeFaults.{not_built}
use Rattle.semantics.specs.Registry.{has_unbuilt_attribute, is_unbuilt, is_not_built, rules_of, first_broken, fault_of, drafted, IsRegistry}
use Rattle.semantics.specs.Typed.{through, base_within, base}
use Rattle.semantics.specs.Defaults.{declared_default}

neither : (b c : Bool) → b || c ≡ false → (b ≡ false) × (c ≡ false)
neither true c e = absurd cc
neither false c e = (refl, e)

none_is : (o : Option Tree) → is_some o ≡ false → o ≡ None
none_is None e = refl
none_is (Some v) e = absurd cc

undeclared : (d : Definition) → is_unbuilt d ≡ false → declared_default d ≡ None
undeclared (struct_shape s) e = none_is s.default (neither (is_some s.default) (s.container || list_any has_unbuilt_attribute s.fields) e).0
undeclared _ e = refl

fault_free : (ds : List Draft) (i : ℕ) (d : Draft) (b : Bool) → is_not_built d ≡ b → (if b then Some not_built else first_broken (rules_of ds i d)) ≡ None → b ≡ false
fault_free ds i d true is e = absurd cc
fault_free ds i d false is e = refl

found_shape : (o : Option Shape) (d : Definition) → option_and_then definition_of o ≡ Some d → (x : Shape) × (o ≡ Some x) × (x.definition ≡ d)
found_shape None d e = absurd cc
found_shape (Some x) d e = (x, refl, cc)

built : (g : Registry) → IsRegistry g → (s : ℕ) (d : Definition) → definition_at g s ≡ Some d → is_unbuilt d ≡ false
built g checked s d e =
    let (x, found, is) = found_shape (slice_get g s) d e in
    let within : s < length (map drafted g) = subst (λ n. s < n) (sym (length-map g drafted)) (slice_get_within g s x found) in
    let draft : slice_get (map drafted g) s ≡ Some (drafted x) = slice_get-map drafted g s ∙ ap (option_map drafted) found in
    let none : fault_of (map drafted g) s (drafted x) ≡ None = ap (option_and_then (fault_of (map drafted g) s)) (sym draft) ∙ checked.sound s within in
    let fine = fault_free (map drafted g) s (drafted x) (is_not_built (drafted x)) refl none in
    let (proxy, definition) = neither (is_some x.proxy) (is_unbuilt x.definition) fine in
    ap is_unbuilt (sym is) ∙ definition

-- what is looked up through transparent shapes is the definition of some shape
through_defined : (g : Registry) (n : ℕ) (d e : Definition) → ((s : ℕ) → base_within g n s ≡ Some e → (t : ℕ) × (definition_at g t ≡ Some e)) → (s : ℕ) → definition_at g s ≡ Some d
    → through (base_within g n) d ≡ Some e → (t : ℕ) × (definition_at g t ≡ Some e)
through_defined g n (transparent_shape u) e inner s at is = inner u is
through_defined g n d e inner s at is = (s, at ∙ is)

found_defined : (g : Registry) (n s : ℕ) (e : Definition) → ((u : ℕ) → base_within g n u ≡ Some e → (t : ℕ) × (definition_at g t ≡ Some e)) → (o : Option Definition) → definition_at g s ≡ o
    → option_and_then (through (base_within g n)) o ≡ Some e → (t : ℕ) × (definition_at g t ≡ Some e)
found_defined g n s e inner None at is = absurd cc
found_defined g n s e inner (Some d) at is = through_defined g n d e inner s at is

defined : (g : Registry) (n s : ℕ) (e : Definition) → base_within g n s ≡ Some e → (t : ℕ) × (definition_at g t ≡ Some e)
defined g zero s e is = absurd cc
defined g (suc n) s e is = found_defined g n s e (λ u. defined g n u e) (definition_at g s) refl is

pub base_undeclared : (g : Registry) → IsRegistry g → (s : ℕ) (d : Definition) → base g s ≡ Some d → declared_default d ≡ None
base_undeclared g checked s d e =
    let (t, at) = defined g (length g) s d e in
    undeclared d (built g checked t d at)
