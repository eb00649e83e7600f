use Rattle.std.proofs.Common.{◌≡◌, suc}
use Rattle.semantics.specs.Reading.{from_events}
use Rattle.event_core.specs.Events.{event_of}
use Rattle.event_core.specs.Metadata.{span_view}
use Rattle.laws_machine.specs.Begins.{begin}
use Rattle.read_steps.specs.Tasks.{terms_of}
use Rattle.read_steps.specs.Views.{open_of}
use Rattle.read_steps.proofs.begin.begin.Given as goal

abbrev pub invariant-parts : goal.invariant-parts
invariant-parts l =
    begin (terms_of l.task) (suc l.wanted.depth) l.wanted.shape.0 from_events (open_of (terms_of l.task) l.stack) (span_view l.before) (event_of l.event)
    ≡ begin (terms_of l.task) (suc l.fn.depth) l.fn.shape.0 from_events (open_of (terms_of l.task) l.fn.stack) (span_view l.before) (event_of l.event)

abbrev pub decreases-parts : goal.decreases-parts
decreases-parts l = l.wanted.depth
