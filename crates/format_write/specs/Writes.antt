-- What a function of the writer does to its serializer.
use Rattle.std.specs.Prelude.{◌≡◌, ℕ, ℤ, pos, negsuc, nat_lt, Bool, List, true, false, Result, Ok, Err}
use Rattle.semantics_lines.specs.Calls.{Call}
use Rattle.semantics.specs.Calling.{Part}
use Rattle.format_traits.specs.Writing.{Writing, Kept, Stops}
use Rattle.format_write.specs.Wrote.{MadeFront}
use Rattle.format_write.specs.declared.stop.Stop.{Stop}
use Rattle.format_write.specs.declared.stop.Stop.TheVariants.{Refused, NoForm}

-- Which calls were made before the writing stopped: some of them where a call was refused, and all of them where a part
-- without a written form comes next.
abbrev pub Halts : {E : Type 0} → Part → (List Call → Type 0) → Writing → Writing → Stop E → Type 0
Halts part made old new (Refused why) = MadeFront part.calls made × Stops old new why
Halts part made old new NoForm = (part.whole ≡ false) × made part.calls

-- A part was written, and it was whole and its calls were made; or the writing stopped, for this reason.
abbrev pub Writes : {E : Type 0} → Part → (List Call → Type 0) → Writing → Writing → Result (Unit {0}) (Stop E) → Type 0
Writes part made old new (Ok _) = (part.whole ≡ true) × made part.calls × Kept old new
Writes part made old new (Err stop) = Halts part made old new stop × Kept old new

-- the number is below the limit, and not below its negative
abbrev pub is_within : ℕ → ℤ → Bool
is_within limit (pos n) = nat_lt n limit
is_within limit (negsuc n) = nat_lt n limit
