-- Why a scalar sets no value: for one of four reasons, each of which has its cause.
use Rattle.std.proofs.Common.{◌≡◌, ℕ, ℤ, pos, negsuc, List, [], Option, Some, None, Ok, Err, Bool, true, false, cond, ◌&&◌, sym, subst}
use Rattle.std.specs.Fmt.{signed_decimal}
use Rattle.semantics_lines.specs.Texts.{Phrase}
use Rattle.semantics_lines.specs.Trees.{Tree, unsigned, signed, text}
use Rattle.semantics_lines.specs.Shapes.{ScalarType, unit_type, bool_type, char_type, unsigned_type, signed_type, string_type, str_type}
use Rattle.semantics_lines.specs.Scalars.{fits_unsigned, fits_signed}
use Rattle.semantics_lines.specs.Events.{Span, Scalar, unit, null, bool, char, i64, u64, i128, u128, str, bytes, Event}
use Rattle.semantics_lines.specs.Faults.{ShapeLabel, Step, FaultKind, number_out_of_range, cannot_borrow, reflect, parse_failed, wrong_kind}
use Rattle.semantics.specs.Labels.{label_at}
use Rattle.semantics.specs.Setters.{type_name, not_lent, of_wrong_kind, out_of_range, set_bool, set_char, set_number, set_number_or_text, lent, parsed, read_text, set_text, set_scalar}
use Rattle.semantics_causes.specs.Due.{Part}
use Rattle.semantics_causes.specs.Causes.{IsUnset}
use Rattle.laws_reading.specs.Input.{fault_at}
use Rattle.laws_reading.specs.Values.{Terms}
use Rattle.laws_machine.specs.Delivery.{here}
use Rattle.laws_causes.proofs.Keeping.{Caused}

-- the kinds of the setters' faults
pub data OfSetter (kind : FaultKind) : Type 0 where
  of_range : (number type : List ℕ) → kind ≡ number_out_of_range number type → OfSetter kind
  of_borrow : (reason : List ℕ) → kind ≡ cannot_borrow reason → OfSetter kind
  of_parse : (shape : ShapeLabel) (b context : List ℕ) → kind ≡ reflect (parse_failed shape b) context → OfSetter kind
  of_kind : (shape : ShapeLabel) (context : List ℕ) → kind ≡ reflect (wrong_kind shape) context → OfSetter kind

module _ (s : ShapeLabel) (kind : FaultKind) where
  wrong : of_wrong_kind s ≡ Err kind → OfSetter kind
  wrong e = of_kind s [] cc

  beyond : (t : ScalarType) (z : ℤ) → out_of_range t z ≡ Err kind → OfSetter kind
  beyond t z e = of_range (signed_decimal z) (type_name t) cc

  unset_bool : (t : ScalarType) (b : Bool) → set_bool s t b ≡ Err kind → OfSetter kind
  unset_bool bool_type b e = absurd cc
  unset_bool unit_type b e = wrong e
  unset_bool char_type b e = wrong e
  unset_bool (unsigned_type w) b e = wrong e
  unset_bool (signed_type w) b e = wrong e
  unset_bool string_type b e = wrong e
  unset_bool str_type b e = wrong e

  unset_char : (t : ScalarType) (c : ℕ) → set_char s t c ≡ Err kind → OfSetter kind
  unset_char char_type c e = absurd cc
  unset_char unit_type c e = wrong e
  unset_char bool_type c e = wrong e
  unset_char (unsigned_type w) c e = wrong e
  unset_char (signed_type w) c e = wrong e
  unset_char string_type c e = wrong e
  unset_char str_type c e = wrong e

  in_range : (t : ScalarType) (v : Tree) (z : ℤ) (b : Bool) → cond b (Ok v) (out_of_range t z) ≡ Err kind → OfSetter kind
  in_range t v z true e = absurd cc
  in_range t v z false e = beyond t z e

  unset_number : (t : ScalarType) (z : ℤ) → set_number s t z ≡ Err kind → OfSetter kind
  unset_number (unsigned_type w) (pos n) e = in_range (unsigned_type w) (unsigned n) (pos n) (fits_unsigned w n) e
  unset_number (unsigned_type w) (negsuc n) e = beyond (unsigned_type w) (negsuc n) e
  unset_number (signed_type w) z e = in_range (signed_type w) (signed z) z (fits_signed w z) e
  unset_number unit_type z e = wrong e
  unset_number bool_type z e = wrong e
  unset_number char_type z e = wrong e
  unset_number string_type z e = wrong e
  unset_number str_type z e = wrong e

  unset_number_or_text : (t : ScalarType) (z : ℤ) → set_number_or_text s t z ≡ Err kind → OfSetter kind
  unset_number_or_text string_type z e = absurd cc
  unset_number_or_text unit_type z e = unset_number unit_type z e
  unset_number_or_text bool_type z e = unset_number bool_type z e
  unset_number_or_text char_type z e = unset_number char_type z e
  unset_number_or_text (unsigned_type w) z e = unset_number (unsigned_type w) z e
  unset_number_or_text (signed_type w) z e = unset_number (signed_type w) z e
  unset_number_or_text str_type z e = unset_number str_type z e

  unparsed : (b : List ℕ) (o : Option Tree) → parsed s b o ≡ Err kind → OfSetter kind
  unparsed b None e = of_parse s b [] cc
  unparsed b (Some v) e = absurd cc

  unlent : (borrow : Bool) (p : Phrase) → lent borrow p ≡ Err kind → OfSetter kind
  unlent borrow p e = by_test (borrow && p.borrowed) e
    where
      by_test : (b : Bool) → cond b (Ok (text p)) (Err (cannot_borrow not_lent)) ≡ Err kind → OfSetter kind
      by_test true e = absurd cc
      by_test false e = of_borrow not_lent cc

  unset_text : (borrow : Bool) (t : ScalarType) (p : Phrase) → set_text borrow s t p ≡ Err kind → OfSetter kind
  unset_text borrow unit_type p e = wrong e
  unset_text borrow string_type p e = absurd cc
  unset_text borrow str_type p e = unlent borrow p e
  unset_text borrow bool_type p e = unparsed p.bytes (read_text bool_type p.bytes) e
  unset_text borrow char_type p e = unparsed p.bytes (read_text char_type p.bytes) e
  unset_text borrow (unsigned_type w) p e = unparsed p.bytes (read_text (unsigned_type w) p.bytes) e
  unset_text borrow (signed_type w) p e = unparsed p.bytes (read_text (signed_type w) p.bytes) e

  pub of_setter : (borrow : Bool) (t : ScalarType) (x : Scalar) → set_scalar borrow s t x ≡ Err kind → OfSetter kind
  of_setter borrow t unit e = absurd cc
  of_setter borrow t null e = absurd cc
  of_setter borrow t (bool b) e = unset_bool t b e
  of_setter borrow t (char c) e = unset_char t c e
  of_setter borrow t (i64 z) e = unset_number_or_text t z e
  of_setter borrow t (u64 n) e = unset_number_or_text t (pos n) e
  of_setter borrow t (i128 z) e = unset_number t z e
  of_setter borrow t (u128 n) e = unset_number t (pos n) e
  of_setter borrow t (str p) e = unset_text borrow t p e
  of_setter borrow t (bytes p) e = wrong e

module _ (t : Terms) (root : Part) (taken looked : List Event) (span : Span) (path : List Step) where
  abbrev Unset : FaultKind → Type 0
  Unset kind = IsUnset t.setting root taken looked kind path

  abbrev Own : FaultKind → Type 0
  Own kind = Caused t root taken looked (fault_at kind path (here span))

  by_kind : (kind : FaultKind) → OfSetter kind → Unset kind → Own kind
  by_kind kind (of_range number type is) x = subst (λ k. Unset k → Own k) (sym is) (λ y. y) x
  by_kind kind (of_borrow reason is) x = subst (λ k. Unset k → Own k) (sym is) (λ y. y) x
  by_kind kind (of_parse shape b context is) x = subst (λ k. Unset k → Own k) (sym is) (λ y. y) x
  by_kind kind (of_kind shape context is) x = subst (λ k. Unset k → Own k) (sym is) (λ y. y) x

-- a scalar that doesn't set what is due is the cause of its fault
pub unset_caused : (t : Terms) (root : Part) (taken looked : List Event) (kind : FaultKind) (span : Span) (path : List Step) → IsUnset t.setting root taken looked kind path
    → Caused t root taken looked (fault_at kind path (here span))
unset_caused t root taken looked kind span path x = by_kind t root taken looked span path kind (of_setter (label_at t.setting.registry x.shape) kind t.setting.borrow x.type x.value x.unset) x
