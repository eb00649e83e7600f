use Rattle.std.proofs.Common.{◌-◌, ◌≤◌}
use Rattle.format_traits.specs.Batches.{Put}
use Rattle.terse_text.specs.Parser.{parsing_of}
use Rattle.terse_text.proofs.parser.TerseParserFormatParser.next_events.Given as goal

abbrev pub invariant-events : goal.invariant-events
invariant-events l = record {
  put : Put l.count (parsing_of l.fn.self) (parsing_of l.self) l.fn.buf.items l.buf.items;
  later : l.fn.self.faults ≤ l.self.faults;
  within : l.count ≤ l.limit;
}

abbrev pub decreases-events : goal.decreases-events
decreases-events l = l.limit - l.count
