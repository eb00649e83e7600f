-- Of the input at the end of a value, only the span counts that was taken last.
use Rattle.std.proofs.Common.{◌≡◌, ℕ, zero, suc, List, [], ◌∷◌, ◌++◌, length, Option, Some, None, Result, Ok, Err, Bool, true, false, cond, refl, ◌∙◌, ap}
use Rattle.semantics_lines.specs.Trees.{Tree, Trees}
use Rattle.semantics_lines.specs.Shapes.{Field, Definition, Registry, definition_at}
use Rattle.semantics_lines.specs.Events.{scalar, key, tag, Event, leaf, start, stop}
use Rattle.semantics_lines.specs.Faults.{ShapeLabel, Step, Fault}
use Rattle.semantics.specs.Places.{At, below, has_whole, Choice}
use Rattle.semantics.specs.Keys.{Layout}
use Rattle.semantics.specs.Reading.{fill, in_parts}
use Rattle.laws_reading.specs.Input.{Input, ◌>>=◌}
use Rattle.laws_reading.specs.Skips.{Opened, same_bracket, stopped, skip_of}
use Rattle.laws_reading.specs.Structs.{Got, Told, Spot, gather_own, gather_field, gather_fields, gather_flat, inner_spot, with_tree, as_structure, gathered}
use Rattle.laws_reading.specs.Structs as structs
use Rattle.laws_reading.specs.Nodes.{Node, node_value, or_unexpected}
use Rattle.laws_reading.specs.Tuples.{filled_from}
use Rattle.laws_reading.specs.Tuples as tuples
use Rattle.laws_machine.specs.Delivery.{here}

-- with this rest
abbrev pub onto : Input → (Bool × Opened) × Input → Result ((Bool × Opened) × Input) Fault
onto rest x = Ok (x.0, rest)

pub skip_here : (e : Event) (os : Opened) (p : List Step) (input : Input) → skip_of e os p input ≡ (skip_of e os p (here input.last) >>= onto input)
skip_here (leaf (scalar x n)) os p input = refl
skip_here (leaf (tag t n)) os p input = refl
skip_here (leaf (key q)) [] p input = refl
skip_here (leaf (key q)) (b ∷ os) p input = refl
skip_here (start b k n) os p input = refl
skip_here (stop b n) [] p input = refl
skip_here (stop b n) (c ∷ os) p input = by_same (same_bracket b c)
  where
    by_same : (same : Bool) → stopped same os p input ≡ (stopped same os p (here input.last) >>= onto input)
    by_same true = refl
    by_same false = refl

pub filled_here : (g : Registry) (shape : ShapeLabel) (fs : List Field) (front : List Tree) (p : List Step) (input : Input) → filled_from g shape fs front p input ≡ filled_from g shape fs front p (here input.last)
filled_here g shape [] front p input = refl
filled_here g shape (f ∷ fs) front p input = by_fill (fill g f) (λ v. filled_here g shape fs (front ++ (v ∷ [])) p input)
  where
    by_fill : (o : Option Tree) → ((v : Tree) → filled_from g shape fs (front ++ (v ∷ [])) p input ≡ filled_from g shape fs (front ++ (v ∷ [])) p (here input.last)) → (tuples.or_missing f shape o p input >>= λ v. filled_from g shape fs (front ++ (v ∷ [])) p input) ≡ (tuples.or_missing f shape o p (here input.last) >>= λ v. filled_from g shape fs (front ++ (v ∷ [])) p (here input.last))
    by_fill None again = refl
    by_fill (Some v) again = again v

pub node_here : (s : Node) (p : List Step) (input : Input) → node_value s p input ≡ node_value s p (here input.last)
node_here s p input = by_value s.value
  where
    by_value : (o : Option Tree) → or_unexpected o p input ≡ or_unexpected o p (here input.last)
    by_value None = refl
    by_value (Some v) = refl

module _ (g : Registry) (shape : ℕ) (p : List Step) (input : Input) where
  abbrev there : Input → Spot
  there i = record { shape = shape; path = p; input = i }

  flat_here : (whole : Bool) (n : ℕ) (d : Option Definition) (c : Choice) (f : Field) (xs : List (At Told)) → gather_flat g whole n d c (inner_spot f (there input)) xs ≡ gather_flat g whole n d c (inner_spot f (there (here input.last))) xs
  flat_here whole zero d c f xs = refl
  flat_here whole (suc n) d c f xs = refl

  own_here : (f : Field) (xs : List (At Told)) → gather_own g f (there input) xs ≡ gather_own g f (there (here input.last)) xs
  own_here f [] = by_fill (fill g f)
    where
      by_fill : (o : Option Tree) → structs.or_missing g f (there input) o ≡ structs.or_missing g f (there (here input.last)) o
      by_fill None = refl
      by_fill (Some v) = refl
  own_here f (x ∷ []) = refl
  own_here f (x ∷ y ∷ xs) = refl

  field_here : (whole : Bool) (c : Choice) (f : Field) (xs : List (At Told)) → gather_field (gather_flat g whole (length g)) g whole c f (there input) xs ≡ gather_field (gather_flat g whole (length g)) g whole c f (there (here input.last)) xs
  field_here whole c f xs = by_parts (in_parts whole f (has_whole xs))
    where
      by_parts : (b : Bool) → cond b (gather_flat g whole (length g) (definition_at g f.shape) c (inner_spot f (there input)) xs) (gather_own g f (there input) xs)
          ≡ cond b (gather_flat g whole (length g) (definition_at g f.shape) c (inner_spot f (there (here input.last))) xs) (gather_own g f (there (here input.last)) xs)
      by_parts true = flat_here whole (length g) (definition_at g f.shape) c f xs
      by_parts false = own_here f xs

  fields_here : (whole : Bool) (c : Choice) (k : ℕ) (fs : List Field) (xs : List (At Told))
      → gather_fields (gather_flat g whole (length g)) g whole c (there input) k fs xs ≡ gather_fields (gather_flat g whole (length g)) g whole c (there (here input.last)) k fs xs
  fields_here whole c k [] xs = refl
  fields_here whole c k (f ∷ fs) xs =
      ap (λ r. r >>= λ v. gather_fields (gather_flat g whole (length g)) g whole c (there input) (suc k) fs xs >>= with_tree v) (field_here whole (below k c) f (below k xs))
      ∙ by_first (gather_field (gather_flat g whole (length g)) g whole (below k c) f (there (here input.last)) (below k xs)) (fields_here whole c (suc k) fs xs)
    where
      by_first : {a b : Result Trees Fault} (r : Result Tree Fault) → a ≡ b → (r >>= λ v. a >>= with_tree v) ≡ (r >>= λ v. b >>= with_tree v)
      by_first (Ok v) same = ap (λ z. z >>= with_tree v) same
      by_first (Err f) same = refl

pub gathered_here : (g : Registry) (c : Choice) (l : Layout) (shape : ℕ) (s : Got) (p : List Step) (input : Input) → gathered g c l shape s p input ≡ gathered g c l shape s p (here input.last)
gathered_here g c l shape s p input = ap (λ r. r >>= as_structure) (fields_here g shape p input l.whole c 0 l.fields s.values)
