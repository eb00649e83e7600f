use Rattle.std.proofs.Common.{◌<◌, ◌∙◌, length, sym, ap, arith}
use Rattle.shape_types.specs.Shapes.{registry, shape_of}
use Rattle.shape_core.proofs.Lists.{length_map}
use Rattle.shape_core.proofs.Typing.{base_step}
use Rattle.shape_core.proofs.shapes.Shapes.base.Goals as goal

pub returns-in-None : goal.returns-in-None
returns-in-None c =
    let g = registry c.args.self.now in
    let lt : c.loop-step._step < length g = omega (arith, length_map shape_of c.args.self.now, ap length c.as_slice-step-end.ensures) in
    sym (base_step g (length g) c.loop-step._step c.loop-step.at.0 _ _ lt (sym c.in-Some.ensures) (sym c.in-None.ensures)) ∙ c.loop-step.invariant

pub loop-step-preserved : goal.loop-step-preserved
loop-step-preserved c =
    let g = registry c.args.self.now in
    let lt : c.loop-step._step < length g = omega (arith, length_map shape_of c.args.self.now, ap length c.as_slice-step-end.ensures) in
    sym (base_step g (length g) c.loop-step._step c.loop-step.at.0 _ _ lt (sym c.in-Some.ensures) (sym c.in-Some-transparent_of.ensures)) ∙ c.loop-step.invariant
