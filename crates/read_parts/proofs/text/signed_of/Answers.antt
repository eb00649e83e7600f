use Rattle.std.proofs.Common.{ap, ◌∙◌}
use Rattle.semantics.specs.Typed.{takes_signed}
use Rattle.semantics.specs.Numerals.{passing, signed_whole_number}
use Rattle.shape_types.specs.Scalars.{scalar_type_of}
use Rattle.read_parts.proofs.Ranges.{signed_narrowed}
use Rattle.read_parts.proofs.text.signed_of.Goals as goal

pub returns : goal.returns
returns c =
    let type = scalar_type_of c.args.scalar in
    c.in_signed_range.ensures ∙ (ap (passing (λ z. takes_signed z type)) c.signed_whole_number.ensures ∙ signed_narrowed type (signed_whole_number c.args.text.now))
