use Rattle.std.proofs.Common.{refl}
use Rattle.std.specs.Fmt.{digits}
use Rattle.laws.proofs.forms_example.Goals as goal

pub returns : goal.returns
unfolding digits
returns c = record {
  unit_written = refl;
  bool_written = refl;
  char_written = refl;
  number_written = refl;
  too_large = refl;
  signed_written = refl;
  too_small = refl;
  wide_written = refl;
  minus_written = refl;
  text_written = refl;
  none_written = refl;
  some_written = refl;
  ok_written = refl;
  err_written = refl;
  list_written = refl;
  array_written = refl;
  short_array = refl;
  transparent_written = refl;
  tuple_written = refl;
  unit_struct_written = refl;
  other_form = refl;
  none_read = refl;
  some_read = refl;
  ok_read = refl;
  err_read = refl;
  other_outcome = refl;
  list_read = refl;
  short_read = refl;
  wide_read = refl;
  tuple_read = refl;
  tuple_too_deep = refl;
  item_missing = refl;
  node_read = refl;
  layer_counts = refl;
  tuple_depth = refl;
  through_layers = refl;
  null_over_null = refl;
  null_over_number = refl;
}
