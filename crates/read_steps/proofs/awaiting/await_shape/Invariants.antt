use Rattle.std.proofs.Common.{◌≡◌}
use Rattle.semantics.specs.Reading.{from_events}
use Rattle.event_core.specs.Metadata.{span_view}
use Rattle.laws_machine.specs.Begins.{await}
use Rattle.read_steps.specs.Tasks.{terms_of}
use Rattle.read_steps.specs.Views.{open_of}
use Rattle.read_steps.proofs.awaiting.await_shape.Given as goal

abbrev pub invariant-parts : goal.invariant-parts
invariant-parts l =
    await (terms_of l.task) l.wanted.depth l.wanted.shape.0 from_events (open_of (terms_of l.task) l.stack) (span_view l.last)
    ≡ await (terms_of l.task) l.fn.depth l.fn.shape.0 from_events (open_of (terms_of l.task) l.stack) (span_view l.last)

abbrev pub decreases-parts : goal.decreases-parts
decreases-parts l = l.wanted.depth
