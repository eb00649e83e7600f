-- The parts that begin with a start.
use Rattle.std.proofs.Common.{◌≡◌, ℕ, [], ◌∷◌, Some, true, false, refl, sym, ap, arith}
use Rattle.semantics_lines.specs.Trees.{trees_of}
use Rattle.semantics_lines.specs.Shapes.{ScalarType, StructShape, scalar_shape, result_shape, struct_shape, is_tuple}
use Rattle.semantics_lines.specs.Events.{Note, ContainerKind, object_kind, of_struct, of_sequence, start}
use Rattle.semantics.specs.Labels.{label_at}
use Rattle.semantics.specs.Reading.{of_shape, plain_layout}
use Rattle.semantics.specs.Ends.{leaf_at}
use Rattle.semantics_causes.specs.Due.{Part}
use Rattle.laws_reading.specs.Nodes.{bare_node}
use Rattle.laws_reading.specs.Structs.{Told}
use Rattle.laws_reading.specs.Values.{Terms, target_of}
use Rattle.laws_machine.specs.Frames.{ItemsPart}
use Rattle.laws_machine.specs.Begins.{new_tuple, new_object, new_result}
use Rattle.laws_causes.proofs.Apart.{none_apart}
use Rattle.laws_causes.proofs.Holding.{IsOf, ListDefined, HoldsItems, HoldsElements, HoldsKeyed, HoldsObject, HoldsNode, HoldsResult, no_argument}

module _ (t : Terms) where
  -- the start of a list
  pub items_start : (l : ItemsPart) (part : Part) (n : ℕ) (k : ContainerKind) (m : Note) → l.front ≡ [] → part.what ≡ of_shape l.items.shape.number → l.items.shape ≡ label_at t.setting.registry l.items.shape.number → ListDefined t l.items.shape.number l → l.depth ≡ n
      → HoldsItems t l part n (start of_sequence k m ∷ [])
  items_start l part n k m none what named defined depth = record {
    what = what;
    named = named;
    defined = defined;
    depth = depth;
    kind = k;
    note = m;
    runs = [];
    is = refl;
    reads = ap (λ vs. Some (trees_of vs)) (sym none);
    fits = λ len is. omega arith;
  }

  -- the start of a tuple, as a sequence and as an object
  pub elements_start : (s : ℕ) (d : StructShape) (part : Part) (n : ℕ) (k : ContainerKind) (m : Note) → IsOf t part s (struct_shape d) → is_tuple d.kind ≡ true
      → HoldsElements t (new_tuple (label_at t.setting.registry s) d n) part n (start of_sequence k m ∷ [])
  elements_start s d part n k m of tuple = record {
    struct = d;
    defined = record { of = of; named = refl; tuple = tuple; fields = refl; depth = refl };
    kind = k;
    note = m;
    runs = [];
    is = refl;
    reads = refl;
  }

  pub keyed_start : (s : ℕ) (d : StructShape) (part : Part) (n : ℕ) (m : Note) → IsOf t part s (struct_shape d) → is_tuple d.kind ≡ true
      → HoldsKeyed t (new_tuple (label_at t.setting.registry s) d n) part n (start of_struct object_kind m ∷ [])
  keyed_start s d part n m of tuple = record {
    struct = d;
    defined = record { of = of; named = refl; tuple = tuple; fields = refl; depth = refl };
    note = m;
    entries = [];
    is = refl;
    reads = refl;
  }

  -- the start of a struct
  pub object_start : (s : ℕ) (d : StructShape) (part : Part) (n : ℕ) (k : ContainerKind) (m : Note) → IsOf t part s (struct_shape d) → is_tuple d.kind ≡ false
      → HoldsObject t (new_object s d n) part n (start of_struct k m ∷ [])
  object_start s d part n k m of plain = record {
    struct = d;
    defined = record { of = of; plain = plain; layout = refl; deny = refl; choice = refl; depth = refl };
    kind = k;
    note = m;
    entries = [];
    is = refl;
    took = tt;
    keeps = record { count = refl; kept = tt; spanned = tt; apart = none_apart Told (leaf_at t.setting.registry [] (plain_layout d)) };
  }

  -- the start of a node
  pub node_start : (s : ℕ) (x : ScalarType) (part : Part) (n : ℕ) (k : ContainerKind) (m : Note) → IsOf t part s (scalar_shape x)
      → HoldsNode t (record { target = target_of t s x; node = bare_node }) part n (start of_struct k m ∷ [])
  node_start s x part n k m of = record {
    shape = s;
    type = x;
    of = of;
    target = refl;
    kind = k;
    note = m;
    entries = [];
    is = refl;
    took = tt;
    keeps = no_argument refl refl refl;
  }

  -- the start of a result
  pub result_start : (s i j : ℕ) (part : Part) (n : ℕ) (k : ContainerKind) (m : Note) → IsOf t part s (result_shape i j) → HoldsResult t (new_result i j n) part n (start of_struct k m ∷ [])
  result_start s i j part n k m of = record { shape = s; of = of; depth = refl; kind = k; note = m; is = refl }
