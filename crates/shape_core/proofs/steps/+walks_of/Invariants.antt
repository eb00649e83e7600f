use Rattle.shape_core.proofs.steps.+walks_of.Given as goal

abbrev pub decreases-walks_of : goal.decreases-walks_of
decreases-walks_of l = l.steps
