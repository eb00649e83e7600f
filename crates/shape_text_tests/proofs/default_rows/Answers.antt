use Rattle.std.proofs.Common.{refl}
use Rattle.shape_text_tests.proofs.default_rows.Goals as goal

pub returns : goal.returns
returns c = record {
  unit_default = refl;
  true_default = refl;
  false_default = refl;
  none_default = refl;
  own_default = refl;
  empty_list = refl;
  empty_map = refl;
  char_default = refl;
  unsigned_default = refl;
  signed_default = refl;
  text_default = refl;
}
