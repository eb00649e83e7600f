-- An option of an option: what one of its values loses.
use Rattle.std.specs.Prelude.{◌≡◌, ℕ, true, [], ◌∷◌, ◌++◌, Some, Ok, codes}
use Rattle.semantics_lines.specs.Trees.{none, some}
use Rattle.semantics_lines.specs.Shapes.{option_shape, Registry}
use Rattle.semantics_lines.specs.Events.{null}
use Rattle.semantics_lines.specs.Calls.{null_literal}
use Rattle.semantics_lines.specs.Documents.{plain}
use Rattle.semantics.specs.Typed.{typed}
use Rattle.semantics.specs.Writing.{write}
use Rattle.semantics.specs.Reading.{Setting, from_events, read}
use Rattle.semantics.specs.Validity.{every_clash, Separable}
use Rattle.laws.specs.FormsExample.{forms, maybe, row, a_scalar}

-- the shapes of the other examples, and behind them an option of `Maybe`, which is an option itself
abbrev pub with_outer : Registry
with_outer = forms ++ (row (codes "Outer") (option_shape maybe) ∷ [])

abbrev pub outer : ℕ
outer = 25

abbrev pub outer_setting : Setting
outer_setting = record { registry = with_outer; borrow = true; describes_itself = true }

-- Some(None) is of the shape and is written as null, which is read as None: so the shape isn't separable.
pub record LosesOption : Type 0 where
  pub of_shape : typed with_outer outer (some none) ≡ true
  pub written : write with_outer outer (some none) ≡ Ok (plain null_literal)
  pub read_back : read outer_setting 3 outer from_events (a_scalar null) ≡ Some none
  pub not_separable : Separable every_clash with_outer outer → ⊥
