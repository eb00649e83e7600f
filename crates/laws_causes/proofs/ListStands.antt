-- Lists and tuples that are open: what they are, and how they stand behind what came of them.
use Rattle.std.proofs.Common.{◌≡◌, ℕ, List, [], length, Some, None, option_and_then, cond, refl, sym, ap, ◌∙◌, subst}
use Rattle.std.proofs.lemmas.List.{length-map}
use Rattle.semantics_lines.specs.Trees.{trees_of}
use Rattle.semantics_lines.specs.Shapes.{StructShape, definition_at}
use Rattle.semantics_lines.specs.Events.{object_kind, Event}
use Rattle.semantics.specs.Typed.{item_of, length_of, tuple_of}
use Rattle.semantics.specs.Reading.{from_events, entry_runs, read}
use Rattle.semantics_causes.specs.Taken.{in_object, in_sequence, TookTuple, TookObject, Took}
use Rattle.semantics_causes.specs.Due.{Part, defined_at, IsListOf, IsTuple, length_in, Stands}
use Rattle.laws_reading.specs.Values.{Terms}
use Rattle.laws_machine.specs.Frames.{ItemsPart, TuplePart}
use Rattle.laws_causes.proofs.ItemReads.{each_count, elements_count}
use Rattle.laws_causes.proofs.Holding.{ListDefined, a_list, an_array, TupleDefined, HoldsItems, HoldsElements, HoldsKeyed}

module _ (t : Terms) where
  -- what a list is by its definition
  pub list_item : (l : ItemsPart) (part : Part) (n : ℕ) (own : List Event) (h : HoldsItems t l part n own) → IsListOf t.setting.registry part.what l.item
  list_item l part n own h = ap (λ w. option_and_then item_of (defined_at t.setting.registry w)) h.what ∙ by_defined h.defined
    where
      by_defined : ListDefined t l.items.shape.number l → option_and_then item_of (definition_at t.setting.registry l.items.shape.number) ≡ Some l.item
      by_defined (a_list is none) = ap (option_and_then item_of) is
      by_defined (an_array len is some) = ap (option_and_then item_of) is

  pub list_length : (l : ItemsPart) (part : Part) (n : ℕ) (own : List Event) (h : HoldsItems t l part n own) → length_in t.setting.registry part.what ≡ l.items.len
  list_length l part n own h = ap (λ w. option_and_then length_of (defined_at t.setting.registry w)) h.what ∙ by_defined h.defined
    where
      by_defined : ListDefined t l.items.shape.number l → option_and_then length_of (definition_at t.setting.registry l.items.shape.number) ≡ l.items.len
      by_defined (a_list is none) = ap (option_and_then length_of) is ∙ sym none
      by_defined (an_array len is some) = ap (option_and_then length_of) is ∙ sym some

  -- the list stands behind its items
  pub list_stands : (l : ItemsPart) (part : Part) (n : ℕ) (own seen : List Event) (h : HoldsItems t l part n own) → Stands t.setting part n own seen (in_sequence h.runs)
  list_stands l part n own seen h = record {
    shape = l.items.shape.number;
    is_shape = h.what;
    choice = [];
    chosen = refl;
    reaches = (h.kind, h.note, h.is);
    took = by_defined h.defined;
  }
    where
      by_defined : ListDefined t l.items.shape.number l → Took t.setting n [] l.items.shape.number (definition_at t.setting.registry l.items.shape.number) (in_sequence h.runs)
      by_defined (a_list is none) = subst (λ o. Took t.setting n [] l.items.shape.number o (in_sequence h.runs)) (sym is) (trees_of l.front, h.reads)
      by_defined (an_array len is some) = subst (λ o. Took t.setting n [] l.items.shape.number o (in_sequence h.runs)) (sym is) ((trees_of l.front, h.reads), h.fits len some)

  -- a tuple by its definition
  pub tuple_struct : (l : TuplePart) (part : Part) (n : ℕ) (d : StructShape) → TupleDefined t l part n d → IsTuple t.setting.registry part.what d
  tuple_struct l part n d h =
      ap (λ w. option_and_then tuple_of (defined_at t.setting.registry w)) h.of.what ∙ ap (option_and_then tuple_of) h.of.defined ∙ ap (λ b. cond b (Some d) None) h.tuple

  pub elements_stand : (l : TuplePart) (part : Part) (n : ℕ) (own seen : List Event) (h : HoldsElements t l part n own) → Stands t.setting part n own seen (in_sequence h.runs)
  elements_stand l part n own seen h = record {
    shape = l.elements.shape.number;
    is_shape = h.defined.of.what;
    choice = [];
    chosen = refl;
    reaches = (h.kind, h.note, h.is);
    took = subst (λ o. Took t.setting n [] l.elements.shape.number o (in_sequence h.runs)) (sym h.defined.of.defined)
        (subst (λ b. cond b (TookTuple t.setting n h.struct (in_sequence h.runs)) (TookObject t.setting n [] h.struct (in_sequence h.runs))) (sym h.defined.tuple) (trees_of l.front, h.reads));
  }

  pub keyed_stands : (l : TuplePart) (part : Part) (n : ℕ) (own seen : List Event) (h : HoldsKeyed t l part n own) → Stands t.setting part n own seen (in_object object_kind h.entries)
  keyed_stands l part n own seen h = record {
    shape = l.elements.shape.number;
    is_shape = h.defined.of.what;
    choice = [];
    chosen = refl;
    reaches = (h.note, h.is);
    took = subst (λ o. Took t.setting n [] l.elements.shape.number o (in_object object_kind h.entries)) (sym h.defined.of.defined)
        (subst (λ b. cond b (TookTuple t.setting n h.struct (in_object object_kind h.entries)) (TookObject t.setting n [] h.struct (in_object object_kind h.entries)))
        (sym h.defined.tuple) (trees_of l.front, h.reads));
  }

  -- as many items came as there are values
  pub items_counted : (l : ItemsPart) (part : Part) (n : ℕ) (own : List Event) (h : HoldsItems t l part n own) → length h.runs ≡ length l.front
  items_counted l part n own h = each_count (read t.setting n l.item from_events) h.runs l.front h.reads

  pub elements_counted : (l : TuplePart) (part : Part) (n : ℕ) (own : List Event) (h : HoldsElements t l part n own) → length h.runs ≡ length l.front
  elements_counted l part n own h = elements_count t.setting.registry (read t.setting n) h.struct.fields h.runs l.front h.reads

  pub keyed_counted : (l : TuplePart) (part : Part) (n : ℕ) (own : List Event) (h : HoldsKeyed t l part n own) → length h.entries ≡ length l.front
  keyed_counted l part n own h =
      sym (length-map h.entries (λ e. e.run)) ∙ elements_count t.setting.registry (read t.setting n) h.struct.fields (entry_runs h.entries) l.front h.reads
