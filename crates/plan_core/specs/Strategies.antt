-- How the values of a shape are read, as its definition decides.
use Rattle.std.specs.Prelude.{ℕ, length, List, map, Bool, true, false, cond, Option, Some}
use Rattle.std.specs.List.{list_any}
use Rattle.semantics_lines.specs.Shapes.{ScalarType, unsigned_type, bits8, StructKind, tuple_kind, tuple_struct_kind, StructShape, Definition, scalar_shape, option_shape, result_shape, list_shape, array_shape, set_shape, map_shape, struct_shape, enum_shape, transparent_shape, Registry, definition_at}
use Rattle.shape_types.specs.Scalars.{scalar_type_of}
use Rattle.plan_core.specs.declared.strategy.DeserStrategy.{DeserStrategy}
use Rattle.plan_core.specs.declared.strategy.DeserStrategy.TheVariants as declared

pub data Strategy : Type 0 where
  by_scalar : ScalarType → Strategy
  by_fields : Strategy
  -- fields, among them some whose own entries stand in the same object
  by_flattened_fields : Strategy
  -- so many items, each of a shape of its own
  by_items : ℕ → Strategy
  by_variant : Strategy
  by_option : Strategy
  by_result : Strategy
  -- items, and whether they are bytes
  by_list : Bool → Strategy
  by_array : ℕ → Strategy
  by_set : Strategy
  by_map : Strategy
  by_inner : Strategy
  -- the one value of a container, and what is told of it
  by_container : Strategy

-- the scalar u8
abbrev pub is_byte : Option Definition → Bool
is_byte (Some (scalar_shape (unsigned_type bits8))) = true
is_byte _ = false

-- fields by their places
abbrev pub is_tuple : StructKind → Bool
is_tuple tuple_kind = true
is_tuple tuple_struct_kind = true
is_tuple _ = false

abbrev pub struct_strategy : StructShape → Strategy
struct_strategy s = cond s.container by_container (cond (is_tuple s.kind) (by_items (length s.fields)) (cond (list_any (λ f. f.flattened) s.fields) by_flattened_fields by_fields))

-- how values of this definition are read
abbrev pub strategy_in : Registry → Definition → Strategy
strategy_in g (scalar_shape t) = by_scalar t
strategy_in g (option_shape s) = by_option
strategy_in g (result_shape s t) = by_result
strategy_in g (list_shape s) = by_list (is_byte (definition_at g s))
strategy_in g (array_shape s len) = by_array len
strategy_in g (set_shape s) = by_set
strategy_in g (map_shape s t) = by_map
strategy_in g (struct_shape s) = struct_strategy s
strategy_in g (enum_shape form vs) = by_variant
strategy_in g (transparent_shape s) = by_inner

-- the strategy that is answered
abbrev pub strategy_view : DeserStrategy → Strategy
strategy_view (declared.Scalar t) = by_scalar (scalar_type_of t)
strategy_view declared.Struct = by_fields
strategy_view declared.StructWithFlatten = by_flattened_fields
strategy_view (declared.Tuple n) = by_items n
strategy_view declared.Enum = by_variant
strategy_view declared.Option = by_option
strategy_view declared.Result = by_result
strategy_view (declared.List b) = by_list b
strategy_view (declared.Array n) = by_array n
strategy_view declared.Set = by_set
strategy_view declared.Map = by_map
strategy_view declared.TransparentConvert = by_inner
strategy_view declared.MetadataContainer = by_container
