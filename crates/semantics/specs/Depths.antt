-- How deep a value is.
use Rattle.std.specs.Prelude.{ℕ, zero, suc, ◌+◌, max, length, List, ◌∷◌, Option, Some, None}
use Rattle.semantics_lines.specs.Trees.{Tree, some, ok, err, list, structure, Trees, no_trees, tree}
use Rattle.semantics_lines.specs.Shapes.{Field, Definition, transparent_shape, Registry, definition_at}
use Rattle.semantics.specs.Typed.{option_at, ok_at, err_at, item_at, struct_at}

-- a depth of the part that is there, and 0 where none is
abbrev pub of_part : {A : Type 0} → Option A → (A → ℕ) → ℕ
of_part None f = 0
of_part (Some x) f = f x

-- one layer for a transparent shape, and those of its inner one
abbrev pub layer : (ℕ → ℕ) → Option Definition → ℕ
layer inner (Some (transparent_shape s)) = suc (inner s)
layer inner _ = 0

-- how many transparent shapes stand before what its values are made of, counted up to so many
abbrev pub layers_within : Registry → ℕ → ℕ → ℕ
layers_within g zero s = 0
layers_within g (suc n) s = layer (layers_within g n) (definition_at g s)

-- how many transparent shapes stand before what the values of the shape are made of
abbrev pub layers : Registry → ℕ → ℕ
layers g s = layers_within g (length g) s

-- One more than the greatest depth of the parts that are written, or 1 without parts. A transparent shape counts too.
abbrev mutual
  pub depth : Registry → ℕ → Tree → ℕ
  depth g s (some v) = layers g s + suc (of_part (option_at g s) (λ i. depth g i v))
  depth g s (ok v) = layers g s + suc (of_part (ok_at g s) (λ i. depth g i v))
  depth g s (err v) = layers g s + suc (of_part (err_at g s) (λ i. depth g i v))
  depth g s (list vs) = layers g s + suc (of_part (item_at g s) (λ i. deepest g i vs))
  depth g s (structure vs) = layers g s + suc (of_part (struct_at g s) (λ d. deepest_field g d.fields vs))
  depth g s _ = layers g s + 1

  pub deepest : Registry → ℕ → Trees → ℕ
  deepest g s no_trees = 0
  deepest g s (tree v vs) = max (depth g s v) (deepest g s vs)

  pub deepest_field : Registry → List Field → Trees → ℕ
  deepest_field g (f ∷ fs) (tree v vs) = max (depth g f.shape v) (deepest_field g fs vs)
  deepest_field g _ _ = 0
