use Rattle.std.proofs.Common.{◌≡◌, ◌∙◌, refl, suc, true, sym, ap}
use Rattle.event_core.specs.Events.{event_of}
use Rattle.event_core.specs.Metadata.{span_view}
use Rattle.laws_machine.specs.Leaves.{leaves, begin_leaves}
use Rattle.laws_machine.specs.Steps.{step_at}
use Rattle.read_steps.specs.declared.frames.Next.{Next}
use Rattle.read_steps.specs.Stops.{told_stop}
use Rattle.read_steps.specs.Tasks.{terms_of}
use Rattle.read_steps.specs.Views.{open_of, next_in}
use Rattle.read_steps.proofs.LeftParts.{part_left}
use Rattle.read_steps.proofs.Telling.{fault_told}
use Rattle.read_steps.proofs.left.refuse_left.Goals as goal

pub returns-in-Value-clause-exact : goal.returns-in-Value-clause-exact
returns-in-Value-clause-exact c =
    let t = terms_of c.args.task.now in
    let e = event_of c.args.event.now in
    let before = span_view c.args.before in
    let fs = open_of t c.args.frames.now.stack in
    let deep : begin_leaves t e (suc c.in-Value.depth) c.in-Value.shape.0 ≡ true = sym (ap (λ (n : Next). leaves t (next_in n fs) e) c.in-Value.is) ∙ c.requires in
    fault_told (told_stop c.too_deep.result) _ _ _ c.too_deep.ensures.is
    refl
    (ap (λ (n : Next). step_at t (next_in n fs) before e) c.in-Value.is ∙ part_left t e before c.in-Value.depth c.in-Value.shape.0 fs deep)
