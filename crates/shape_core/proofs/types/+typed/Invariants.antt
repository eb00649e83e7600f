use Rattle.std.proofs.Common.{◌≡◌, ◌≤◌, length, drop, map}
use Rattle.semantics_lines.specs.Trees.{trees_of}
use Rattle.semantics.specs.Typed.{each_typed, fields_typed, trees_are_utf8}
use Rattle.shape_types.specs.Shapes.{field_of, registry}
use Rattle.shape_types.specs.Trees.{tree_of}
use Rattle.shape_core.proofs.types.+typed.Given as goal

abbrev pub invariant-each_typed-loop-value : goal.invariant-each_typed-loop-value
invariant-each_typed-loop-value l = record {
  rest : each_typed (registry l.shapes) l.id.0 (trees_of (map tree_of (drop l.value-index l.values))) ≡ each_typed (registry l.shapes) l.id.0 (trees_of (map tree_of l.values));
  utf8 : trees_are_utf8 (trees_of (map tree_of (drop l.value-index l.values))) ≡ trees_are_utf8 (trees_of (map tree_of l.values));
}

abbrev pub invariant-fields_typed-loop-at : goal.invariant-fields_typed-loop-at
invariant-fields_typed-loop-at l = record {
  within : l.at ≤ length l.fields;
  rest : fields_typed (registry l.shapes) (map field_of (drop l.at l.fields)) (trees_of (map tree_of (drop l.at l.values))) ≡ fields_typed (registry l.shapes) (map field_of l.fields) (trees_of (map tree_of l.values));
  utf8 : trees_are_utf8 (trees_of (map tree_of (drop l.at l.values))) ≡ trees_are_utf8 (trees_of (map tree_of l.values));
}
