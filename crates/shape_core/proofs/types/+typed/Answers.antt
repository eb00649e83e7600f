use Rattle.std.proofs.Common.{arith, ◌∙◌}
use Rattle.shape_core.proofs.Typing.{fields_end}
use Rattle.shape_core.proofs.types.+typed.Goals as goal

pub fields_typed-returns-clause-typed : goal.fields_typed-returns-clause-typed
fields_typed-returns-clause-typed t c =
    fields_end _ c.args.fields.now c.args.values.now c.loop-at.at c.loop-at.invariant.within (omega arith) ∙ c.loop-at.invariant.rest
