use Rattle.std.proofs.Common.{sym, subst}
use Rattle.semantics.specs.Registry.{NoFault}
use Rattle.shape_types.specs.Builder.{IsDraftList}
use Rattle.shape_types.specs.Shapes.{drafts_of}
use Rattle.shape_core.proofs.Drafts.{registry_from, finished_shapes}
use Rattle.shape_core.proofs.shapes.Shapes.from_drafts.Goals as goal

pub from_items-requires : goal.from_items-requires
from_items-requires c =
    let none : NoFault (drafts_of c.deref.result.now) = rw c.in_default.is at c.in_ok-fault.ensures in
    rw c.in_ok-shapes.ensures (registry_from _ (subst IsDraftList (sym c.into_vec-drafts.ensures.items) c.into_vec-drafts.ensures.rules) (rw c.deref.ensures.value at none) (rw c.deref-2.ensures.value at c.drafts_utf8.ensures))

pub returns-clause-shapes : goal.returns-clause-shapes
returns-clause-shapes c =
    let none : NoFault (drafts_of c.deref.result.now) = rw c.in_default.is at c.in_ok-fault.ensures in
    rw (c.in_ok-from_items.ensures, c.in_ok-shapes.ensures, ← c.into_vec-drafts.ensures.items) (finished_shapes _ (rw c.deref.ensures.value at none))
