use Rattle.shape_types.proofs.Drafts.{set_kept, redefined_at}
use Rattle.shape_types.proofs.builder.DraftsBuilder.define.Goals as goal

pub invariant_of-self : goal.invariant_of-self
invariant_of-self c = set_kept _ _ _ c.requires.scalars c.self.invariant

pub returns : goal.returns
returns c = rw (← c.self.view_is) (redefined_at _ _ _ _ _ (rw (← c.self.view_is) at c.requires.named) c.index_mut.ensures.value c.redefine.ensures)
