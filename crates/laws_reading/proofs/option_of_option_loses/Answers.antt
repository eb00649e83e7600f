-- The example of what an option of an option loses.
use Rattle.std.proofs.Common.{◌≡◌, [], true, false, refl}
use Rattle.semantics.specs.Validity.{option_over_null}
use Rattle.laws_reading.specs.LostOption.{outer}
use Rattle.laws_reading.proofs.option_of_option_loses.Goals as goal

pub returns : goal.returns
returns c = record {
  of_shape = refl;
  written = refl;
  read_back = refl;
  not_separable = λ separable. let clash : true ≡ false = separable outer ([], refl) option_over_null refl in cc;
}
