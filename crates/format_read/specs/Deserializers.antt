-- A deserializer as its callers see it.
use Rattle.std.specs.Prelude.{ℕ, Bool}
use Rattle.shape_types.specs.Shapes.{registry}
use Rattle.format_traits.specs.Parsing.{Parsing}
use Rattle.format_read.specs.declared.deserializer.FormatDeserializer.{FormatDeserializer}
use Rattle.format_read.specs.Seats.{Owner, Seat, seat_of}

-- what it was made with
abbrev pub owner_of : {P : Type 0} {borrow : ℕ} → FormatDeserializer P borrow → Owner
owner_of d = record { parser = d.parser.ghost_name; registry = registry d.plans.now.shapes.now; depth = d.depth }

-- the same of a deserializer over a parser that is seen so
abbrev pub seat_in : {P : Type 0} {borrow : ℕ} → (P → Parsing) → FormatDeserializer P borrow → Seat
seat_in parsing d = seat_of (parsing d.parser.now) (owner_of d) d.queue d.last

-- the same over another parser, in the place of the one that it was made with
abbrev pub with_parser : {P : Type 0} {borrow : ℕ} → FormatDeserializer P borrow → P → FormatDeserializer P borrow
with_parser d p = record d { parser = record d.parser { now = p } }

-- whether that parser tells what its values are
abbrev pub describes_in : {P : Type 0} {borrow : ℕ} → (P → Parsing) → FormatDeserializer P borrow → Bool
describes_in parsing d = (parsing d.parser.now).describes_itself
