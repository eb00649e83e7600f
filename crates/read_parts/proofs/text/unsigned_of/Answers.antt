use Rattle.std.proofs.Common.{ap, ◌∙◌}
use Rattle.semantics.specs.Typed.{takes_unsigned}
use Rattle.semantics.specs.Numerals.{passing, whole_number}
use Rattle.shape_types.specs.Scalars.{scalar_type_of}
use Rattle.read_parts.proofs.Ranges.{unsigned_narrowed}
use Rattle.read_parts.proofs.text.unsigned_of.Goals as goal

pub returns : goal.returns
returns c =
    let type = scalar_type_of c.args.scalar in
    c.in_range.ensures ∙ (ap (passing (λ n. takes_unsigned n type)) c.whole_number.ensures ∙ unsigned_narrowed type (whole_number c.args.text.now))
