use Rattle.std.proofs.Common.{refl}
use Rattle.std.specs.Fmt.{digits}
use Rattle.std.specs.Char.{encode_utf8}
use Rattle.shape_text_tests.proofs.line_rows.Goals as goal

pub returns : goal.returns
unfolding digits encode_utf8
returns c = record {
  no_words = refl;
  denies = refl;
  has_default = refl;
  is_container = refl;
  two_words = refl;
  all_words = refl;
  external_tag = refl;
  number_tag = refl;
  no_tag = refl;
  borrowed_or_owned = refl;
  internal_tag = refl;
  spelled_tag = refl;
  signed_tag = refl;
  adjacent_tag = refl;
  unsigned_tag = refl;
  empty_tag = refl;
  no_attributes = refl;
  renames = refl;
  has_alias = refl;
  all_attributes = refl;
  skips_always = refl;
  skips_none = refl;
  skips_empty = refl;
  flattens = refl;
  holds_span = refl;
  holds_doc = refl;
  unit_default = refl;
  true_default = refl;
  false_default = refl;
  none_default = refl;
  own_default = refl;
  empty_default = refl;
  char_default = refl;
  line_feed = refl;
  wide_char = refl;
  zero_default = refl;
  below_zero = refl;
  least = refl;
  greatest = refl;
  no_number = refl;
  widest = refl;
  text_default = refl;
}
