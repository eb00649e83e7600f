-- Values whose first event is at hand, as the code begins them.
use Rattle.std.proofs.Common.{◌≡◌, ℕ, zero, suc, ◌<◌, ◌-◌, List, [], ◌∷◌, slice_get, Option, Some, None, Err, Ok, Bool, true, false, cond, not, ◌&&◌, refl, sym, ap, ◌∙◌, arith}
use Rattle.semantics_lines.specs.Trees.{none}
use Rattle.semantics_lines.specs.Shapes.{Field, StructShape, is_tuple, Definition, option_shape, struct_shape, transparent_shape, definition_at}
use Rattle.semantics_lines.specs.Events.{Span, scalar, key, tag, of_struct, of_sequence, object_kind, array_kind, Event, leaf, start, stop, span_of}
use Rattle.semantics_lines.specs.Faults.{too_deep}
use Rattle.semantics.specs.Labels.{label_at}
use Rattle.semantics.specs.Registry.{has_some}
use Rattle.semantics.specs.Reading.{from_events, is_nothing}
use Rattle.semantics.specs.Seen.{is_nothing_event}
use Rattle.laws_reading.specs.Input.{◌>>=◌}
use Rattle.laws_reading.specs.Nodes.{Target}
use Rattle.laws_reading.specs.Tuples.{empty_tuple}
use Rattle.laws_reading.specs.Values.{Terms}
use Rattle.laws_machine.specs.Frames.{ItemsPart, TuplePart, StructPart, ResultPart, option, items, object, outcome_key, Frames, path}
use Rattle.laws_machine.specs.Delivery.{going, here, deliver, handed}
use Rattle.laws_machine.specs.Begins.{begin, begin_scalar, begin_option, begin_result, begin_items, begin_tuple, begin_object, begin_struct, begin_as}
use Rattle.shape_types.specs.declared.shape.ShapeId.{ShapeId}
use Rattle.read_steps.specs.Fits.{begins_sequence, begins_struct, tuple_form, if_empty, begun_of}
use Rattle.read_steps.specs.Leaving.{inner_in}
use Rattle.read_steps.specs.Refusals.{fault_in}
use Rattle.read_steps.specs.Stepping.{when, scalar_begun, tuple_begun}
use Rattle.read_steps.specs.Tasks.{fields_in, denies_in}
use Rattle.read_steps.specs.Views.{tuple_begun_at, struct_begun_at}

module _ (t : Terms) (e : Event) (s i : ℕ) (fs : Frames) (before : Span) where
  -- an option that holds something is its inner value inside one frame more
  option_on : (n : ℕ) (o : Option Definition) (b : Bool) → is_nothing_event e ≡ b → o ≡ Some (option_shape i) → b ≡ false → begin_as t (begin t n) n s from_events o fs before e ≡ begin t n i from_events (option ∷ fs) before e
  option_on n o b nothing is held = rw (is, nothing, held) refl

  transparent_on : (n : ℕ) (o : Option Definition) → o ≡ Some (transparent_shape i) → begin_as t (begin t n) n s from_events o fs before e ≡ begin t n i from_events fs before e
  transparent_on n o is = rw is refl

  pub descend_option : (n : ℕ) → definition_at t.setting.registry s ≡ Some (option_shape i) → is_nothing_event e ≡ false → 0 < n
      → begin t (suc n) s from_events fs before e ≡ begin t (suc (n - 1)) i from_events (option ∷ fs) before e
  descend_option zero is held some = absurd (omega (arith, some))
  descend_option (suc m) is held some =
      let same : suc m - 1 ≡ m = omega arith in
      option_on (suc m) (definition_at t.setting.registry s) (is_nothing_event e) refl is held ∙ ap (λ (k : ℕ). begin t (suc k) i from_events (option ∷ fs) before e) (sym same)

  pub descend_transparent : (n : ℕ) → definition_at t.setting.registry s ≡ Some (transparent_shape i) → 0 < n
      → begin t (suc n) s from_events fs before e ≡ begin t (suc (n - 1)) i from_events fs before e
  descend_transparent zero is some = absurd (omega (arith, some))
  descend_transparent (suc m) is some =
      let same : suc m - 1 ≡ m = omega arith in
      transparent_on (suc m) (definition_at t.setting.registry s) is ∙ ap (λ (k : ℕ). begin t (suc k) i from_events fs before e) (sym same)

  pub option_too_deep : (n : ℕ) → definition_at t.setting.registry s ≡ Some (option_shape i) → is_nothing_event e ≡ false → n ≡ 0
      → begin t (suc n) s from_events fs before e ≡ Err (fault_in t fs (too_deep t.limit) before)
  option_too_deep zero is held ends = option_on zero (definition_at t.setting.registry s) (is_nothing_event e) refl is held
  option_too_deep (suc m) is held ends = absurd (omega (arith, ends))

  pub transparent_too_deep : (n : ℕ) → definition_at t.setting.registry s ≡ Some (transparent_shape i) → n ≡ 0
      → begin t (suc n) s from_events fs before e ≡ Err (fault_in t fs (too_deep t.limit) before)
  transparent_too_deep zero is ends = transparent_on zero (definition_at t.setting.registry s) is
  transparent_too_deep (suc m) is ends = absurd (omega (arith, ends))

  -- an option of which nothing is read from the event holds nothing
  pub nothing_begins : (n : ℕ) → definition_at t.setting.registry s ≡ Some (option_shape i) → inner_in (definition_at t.setting.registry s) e ≡ None
      → begin t (suc n) s from_events fs before e ≡ deliver fs none
  nothing_begins n is here = by_definition (definition_at t.setting.registry s) is here
    where
      by_nothing : (b : Bool) → cond b None (Some i) ≡ None → begin_option b (begin t n i from_events) fs before e ≡ deliver fs none
      by_nothing true h = refl
      by_nothing false h = absurd cc

      by_definition : (o : Option Definition) → o ≡ Some (option_shape i) → inner_in o e ≡ None → begin_as t (begin t n) n s from_events o fs before e ≡ deliver fs none
      by_definition None same h = absurd cc
      by_definition (Some (option_shape j)) same h = let eq : j ≡ i = cc in by_shape j eq h
        where
          by_shape : (j : ℕ) → j ≡ i → cond (is_nothing_event e) None (Some j) ≡ None → begin_option (is_nothing_event e) (begin t n j from_events) fs before e ≡ deliver fs none
          by_shape j eq h = rw eq (by_nothing (is_nothing_event e) (sym (ap (λ (k : ℕ). cond (is_nothing_event e) None (Some k)) eq) ∙ h))
      by_definition (Some d) same h = absurd cc

  -- a transparent shape's inner one is always read from the event
  pub transparent_never : (n : ℕ) → definition_at t.setting.registry s ≡ Some (transparent_shape i) → inner_in (definition_at t.setting.registry s) e ≡ None
      → begin t (suc n) s from_events fs before e ≡ Err (fault_in t fs (too_deep t.limit) before)
  transparent_never n is here = absurd (let lost : Some i ≡ None = sym (ap (λ (o : Option Definition). inner_in o e) is) ∙ here in cc)

module _ (t : Terms) (fs : Frames) where
  pub scalar_begins : (target : Target) (e : Event) → begin_scalar t target fs e ≡ scalar_begun (begun_of e) t target fs (span_of e)
  scalar_begins target (leaf (scalar x n)) = refl
  scalar_begins target (leaf (key q)) = refl
  scalar_begins target (leaf (tag v n)) = refl
  scalar_begins target (start of_struct k n) = refl
  scalar_begins target (start of_sequence k n) = refl
  scalar_begins target (stop b n) = refl

  pub result_begins : (r : ResultPart) (e : Event) → begin_result t r fs e ≡ when (begins_struct e) (Ok (going (outcome_key r ∷ fs))) (path t fs) (span_of e)
  result_begins r (leaf l) = refl
  result_begins r (start of_struct k n) = refl
  result_begins r (start of_sequence k n) = refl
  result_begins r (stop b n) = refl

  pub items_begin : (l : ItemsPart) (e : Event) → begin_items t l fs e ≡ when (begins_sequence e) (Ok (going (items l ∷ fs))) (path t fs) (span_of e)
  items_begin l (leaf x) = refl
  items_begin l (start of_struct k n) = refl
  items_begin l (start of_sequence k n) = refl
  items_begin l (stop b n) = refl

  pub object_begins : (s : StructPart) (e : Event) → begin_object t s fs e ≡ when (begins_struct e) (Ok (going (object s ∷ fs))) (path t fs) (span_of e)
  object_begins s (leaf l) = refl
  object_begins s (start of_struct k n) = refl
  object_begins s (start of_sequence k n) = refl
  object_begins s (stop b n) = refl

  pub tuple_begins : (l : TuplePart) (e : Event) → begin_tuple t l fs e ≡ tuple_begun (tuple_form (not (has_some l.elements.fields)) e) t l fs (span_of e)
  tuple_begins l (leaf (scalar x n)) = by_empty (not (has_some l.elements.fields) && is_nothing x)
    where
      by_empty : (b : Bool) → (empty_tuple b (path t fs) (here n.span) >>= handed fs) ≡ tuple_begun (if_empty b) t l fs n.span
      by_empty true = refl
      by_empty false = refl
  tuple_begins l (leaf (key q)) = refl
  tuple_begins l (leaf (tag v n)) = refl
  tuple_begins l (start of_sequence k n) = refl
  tuple_begins l (start of_struct object_kind n) = refl
  tuple_begins l (start of_struct array_kind n) = refl
  tuple_begins l (stop b n) = refl

-- a struct is read as a tuple, or as an object
module _ (t : Terms) (e : Event) (s : ShapeId) (d : StructShape) (fs : Frames) (before : Span) (n : ℕ) where
  pub tuple_is : definition_at t.setting.registry s.0 ≡ Some (struct_shape d) → is_tuple d.kind ≡ true → begin t (suc n) s.0 from_events fs before e ≡ begin_tuple t (tuple_begun_at t s n) fs e
  tuple_is is kind = by_definition (definition_at t.setting.registry s.0) is
    where
      by_kind : (b : Bool) → b ≡ true → begin_struct t s.0 d n b fs e ≡ begin_tuple t (record { elements = record { shape = label_at t.setting.registry s.0; fields = d.fields }; depth = n; front = [] }) fs e
      by_kind true same = refl
      by_kind false same = absurd cc

      by_definition : (o : Option Definition) → o ≡ Some (struct_shape d)
          → begin_as t (begin t n) n s.0 from_events o fs before e ≡ begin_tuple t (record { elements = record { shape = label_at t.setting.registry s.0; fields = fields_in o }; depth = n; front = [] }) fs e
      by_definition o same = rw same (by_kind (is_tuple d.kind) kind)

  pub struct_is : definition_at t.setting.registry s.0 ≡ Some (struct_shape d) → is_tuple d.kind ≡ false → begin t (suc n) s.0 from_events fs before e ≡ begin_object t (struct_begun_at t s n) fs e
  struct_is is kind = by_definition (definition_at t.setting.registry s.0) is
    where
      by_kind : (b : Bool) → b ≡ false → begin_struct t s.0 d n b fs e ≡ begin_object t (record { shape = s.0; deny = d.deny; layout = record { fields = d.fields; whole = false }; choice = []; depth = n; got = record { count = 0; values = [] } }) fs e
      by_kind true same = absurd cc
      by_kind false same = refl

      by_definition : (o : Option Definition) → o ≡ Some (struct_shape d)
          → begin_as t (begin t n) n s.0 from_events o fs before e ≡ begin_object t (record { shape = s.0; deny = denies_in o; layout = record { fields = fields_in o; whole = false }; choice = []; depth = n; got = record { count = 0; values = [] } }) fs e
      by_definition o same = rw same (by_kind (is_tuple d.kind) kind)

-- whether there are fields, by the first of them
pub none_first : (fields : List Field) → slice_get fields 0 ≡ None → not (has_some fields) ≡ true
none_first [] is = refl
none_first (f ∷ fields) is = absurd cc

pub some_first : (fields : List Field) (f : Field) → slice_get fields 0 ≡ Some f → not (has_some fields) ≡ false
some_first [] f is = absurd cc
some_first (g ∷ fields) f is = refl
