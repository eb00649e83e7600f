use Rattle.std.proofs.Common.{ℕ, ◌<◌, sym, ap, ◌∙◌, subst}
use Rattle.std.specs.Option.{option_copied}
use Rattle.shape_types.specs.Shapes.{draft_of, drafts_of}
use Rattle.shape_core.specs.Walks.{AreWalks}
use Rattle.shape_core.proofs.Cycles.{own_least}
use Rattle.shape_core.proofs.Lists.{length_map}
use Rattle.shape_core.proofs.steps.lies_on_cycle.Goals as goal

pub returns-in-Some : goal.returns-in-Some
returns-in-Some c =
    let ds = drafts_of c.args._drafts.now in
    let many = sym (length_map draft_of c.args._drafts.now) in
    let walks = subst (λ (n : ℕ). AreWalks ds n c.args.walks.now) many c.requires.walks in
    own_least ds c.args.walks.now c.args.at c.in-Some.walk.now walks c.requires.before (subst (λ (n : ℕ). c.args.at < n) many c.requires.there) (sym c.get.ensures ∙ ap option_copied c.in-Some.is)
