-- Where the last of some events stands.
use Rattle.std.proofs.Common.{◌≡◌, List, [], ◌∷◌, ◌++◌, refl}
use Rattle.semantics_lines.specs.Events.{Span, Event, span_of}
use Rattle.semantics.specs.Seen.{last_span}

-- the last of some events and of those behind them
pub last_span-append : (last : Span) (a b : List Event) → last_span last (a ++ b) ≡ last_span (last_span last a) b
last_span-append last [] b = refl
last_span-append last (e ∷ a) b = last_span-append (span_of e) a b
