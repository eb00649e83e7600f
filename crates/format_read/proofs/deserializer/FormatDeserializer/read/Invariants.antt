-- What the loop over the events keeps.
use Rattle.std.proofs.Common.{◌≡◌, None}
use Rattle.std.specs.Prelude.{IsTrue}
use Rattle.semantics.specs.Reading.{from_events}
use Rattle.laws_causes.specs.Stopping.{stopping}
use Rattle.read_steps.specs.Tasks.{terms_of}
use Rattle.read_steps.specs.Views.{frames_of}
use Rattle.format_read.specs.Deserializers.{seat_in}
use Rattle.format_read.specs.Seats.{IsLeft}
use Rattle.format_read.specs.Turning.{stopping_from}
use Rattle.format_read.proofs.deserializer.FormatDeserializer.read.Given as goal

abbrev pub invariant-events : goal.invariant-events
invariant-events g l =
    let seat = seat_in g.P.FormatParser.parsing in
    let terms = terms_of l.task in record {
      told : IsTrue g.P.FormatParser.tells → stopping_from terms (frames_of terms l.reading.frames) (seat l.self).input ≡ stopping terms l.fn.self.depth l.fn.root.0 from_events (seat l.fn.self).input;
      going : l.reading.value ≡ None;
      left : IsLeft (seat l.fn.self) (seat l.self);
    }

-- each turn takes an event
abbrev pub decreases-events : goal.decreases-events
decreases-events g l = (seat_in g.P.FormatParser.parsing l.self).left
