use Rattle.std.proofs.Common.{◌∙◌, sym}
use Rattle.event_core.specs.Events.{event_of as view_of}
use Rattle.event_core.specs.Metadata.{span_view}
use Rattle.tape_text.specs.Views.{body_of}
use Rattle.tape_text.proofs.Bare.{no_bytes, bare_completes}
use Rattle.tape_text.proofs.event.completed.Goals as goal

pub returns-in-Ok : goal.returns-in-Ok
returns-in-Ok c =
    bare_completes (span_view c.args.span) (body_of c.args.body) c.args.rest.now (view_of c.in-Ok.event) (no_bytes c.args.rest.now (sym c.is_empty.ensures ∙ c.if-is_empty.true)) c.in-Ok.ensures
