-- Events that are left, and why.
use Rattle.std.proofs.Common.{◌≡◌, ℕ, zero, suc, ◌+◌, ◌∷◌, length, slice_get, Option, Some, None, Err, Bool, true, false, refl, sym, ap, ◌∙◌}
use Rattle.semantics_lines.specs.Shapes.{Field, Definition, scalar_shape, option_shape, result_shape, list_shape, array_shape, set_shape, map_shape, struct_shape, enum_shape, transparent_shape, definition_at}
use Rattle.semantics_lines.specs.Events.{Span, Event}
use Rattle.semantics_lines.specs.Faults.{too_deep}
use Rattle.semantics.specs.Reading.{Source, from_events}
use Rattle.semantics.specs.Seen.{is_nothing_event, ends_sequence}
use Rattle.semantics.specs.Typed.{has_room}
use Rattle.laws_reading.specs.Values.{Terms}
use Rattle.laws_machine.specs.Frames.{ItemsPart, TuplePart, option, items, elements, Frames}
use Rattle.laws_machine.specs.Begins.{begin_option, begin_as, begin}
use Rattle.laws_machine.specs.Leaves.{unless, leaves_as, begin_leaves, or_past, element_leaves}
use Rattle.laws_machine.specs.Steps.{more_step, too_many, item_step, element_in, element_step}
use Rattle.read_steps.specs.Leaving.{items_leave, tuple_leaves}
use Rattle.read_steps.specs.Refusals.{fault_in, length_fault_in}
use Rattle.read_steps.proofs.Lengths.{length_is}

module _ (t : Terms) (e : Event) (before : Span) where
  -- a value that leaves its first event is too deep
  begin_left : (n s : ℕ) (source : Source) (fs : Frames) → begin_leaves t e n s ≡ true → begin t n s source fs before e ≡ Err (fault_in t fs (too_deep t.limit) before)
  begin_left zero s source fs is = refl
  begin_left (suc n) s source fs is = by_definition (definition_at t.setting.registry s) (λ i source gs h. begin_left n i source gs h) is
    where
      by_nothing : (b : Bool) (i : ℕ) → (begin_leaves t e n i ≡ true → begin t n i from_events (option ∷ fs) before e ≡ Err (fault_in t (option ∷ fs) (too_deep t.limit) before)) → unless b (begin_leaves t e n i) ≡ true
          → begin_option b (begin t n i from_events) fs before e ≡ Err (fault_in t fs (too_deep t.limit) before)
      by_nothing true i deeper h = absurd cc
      by_nothing false i deeper h = deeper h

      by_definition : (o : Option Definition) → ((i : ℕ) (from : Source) (gs : Frames) → begin_leaves t e n i ≡ true → begin t n i from gs before e ≡ Err (fault_in t gs (too_deep t.limit) before)) → leaves_as (begin_leaves t e n) o e ≡ true
          → begin_as t (begin t n) n s source o fs before e ≡ Err (fault_in t fs (too_deep t.limit) before)
      by_definition None deeper h = absurd cc
      by_definition (Some (option_shape i)) deeper h = by_nothing (is_nothing_event e) i (deeper i from_events (option ∷ fs)) h
      by_definition (Some (transparent_shape i)) deeper h = deeper i source fs h
      by_definition (Some (scalar_shape x)) deeper h = absurd cc
      by_definition (Some (result_shape i j)) deeper h = absurd cc
      by_definition (Some (list_shape i)) deeper h = absurd cc
      by_definition (Some (array_shape i len)) deeper h = absurd cc
      by_definition (Some (set_shape i)) deeper h = absurd cc
      by_definition (Some (map_shape i j)) deeper h = absurd cc
      by_definition (Some (struct_shape d)) deeper h = absurd cc
      by_definition (Some (enum_shape form vs)) deeper h = absurd cc

  -- the value that has to come
  pub part_left : (n s : ℕ) (fs : Frames) → begin_leaves t e (suc n) s ≡ true → begin t (suc n) s from_events fs before e ≡ Err (fault_in t fs (too_deep t.limit) before)
  part_left n s fs is = begin_left (suc n) s from_events fs is

  module _ (l : ItemsPart) (fs : Frames) where
    abbrev room : Bool
    room = has_room l.items.len (length l.front)

    ends_not : (b r : Bool) → unless b (or_past r (begin_leaves t e l.depth l.item)) ≡ true → b ≡ false
    ends_not true r h = absurd cc
    ends_not false r h = refl

    deep_too : (b r : Bool) → r ≡ true → unless b (or_past r (begin_leaves t e l.depth l.item)) ≡ true → begin_leaves t e l.depth l.item ≡ true
    deep_too true r is h = absurd cc
    deep_too false true is h = h
    deep_too false false is h = absurd cc

    pub item_left : items_leave t e l ≡ true → has_room l.items.len (length l.front) ≡ true → item_step (ends_sequence e) t l fs before e ≡ Err (fault_in t (items l ∷ fs) (too_deep t.limit) before)
    item_left is has =
        ap (λ b. item_step b t l fs before e) (ends_not (ends_sequence e) room is)
        ∙ ap (λ r. more_step r t l fs before e) has
        ∙ begin_left l.depth l.item from_events (items l ∷ fs) (deep_too (ends_sequence e) room has is)

    pub item_past : items_leave t e l ≡ true → has_room l.items.len (length l.front) ≡ false → item_step (ends_sequence e) t l fs before e ≡ Err (length_fault_in t fs l.items.len l.items.shape (length l.front + 1) before)
    item_past is full =
        ap (λ b. item_step b t l fs before e) (ends_not (ends_sequence e) room is)
        ∙ ap (λ r. more_step r t l fs before e) full
        ∙ length_is t fs l.items (length l.front + 1) before

  module _ (l : TuplePart) (fs : Frames) where
    abbrev at : Option Field
    at = slice_get l.elements.fields (length l.front)

    no_end : (b : Bool) (o : Option Field) → unless b (element_leaves o (begin_leaves t e l.depth)) ≡ true → b ≡ false
    no_end true o h = absurd cc
    no_end false o h = refl

    deeper : (b : Bool) (o : Option Field) (f : Field) → o ≡ Some f → unless b (element_leaves o (begin_leaves t e l.depth)) ≡ true → begin_leaves t e l.depth f.shape ≡ true
    deeper true o f is h = absurd cc
    deeper false None f is h = absurd cc
    deeper false (Some k) f is h = let same : k ≡ f = cc in sym (ap (λ (x : Field). begin_leaves t e l.depth x.shape) same) ∙ h

    pub element_left : (f : Field) → tuple_leaves t e l ≡ true → slice_get l.elements.fields (length l.front) ≡ Some f → element_step (ends_sequence e) t l fs before e ≡ Err (fault_in t (elements l ∷ fs) (too_deep t.limit) before)
    element_left f is there =
        ap (λ b. element_step b t l fs before e) (no_end (ends_sequence e) at is)
        ∙ ap (λ o. element_in o t l fs before e) there
        ∙ begin_left l.depth f.shape from_events (elements l ∷ fs) (deeper (ends_sequence e) at f there is)

    pub element_past : tuple_leaves t e l ≡ true → slice_get l.elements.fields (length l.front) ≡ None → element_step (ends_sequence e) t l fs before e ≡ too_many t l fs before
    element_past is none =
        ap (λ b. element_step b t l fs before e) (no_end (ends_sequence e) at is)
        ∙ ap (λ o. element_in o t l fs before e) none
