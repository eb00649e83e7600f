-- The table of setters at work: rows whose answers are known.
use Rattle.std.proofs.Common.{◌≡◌, ℕ, List, negsuc, true, false, Ok, Err, refl, [], Some, None}
use Rattle.std.specs.Prelude.{codes}
use Rattle.std.specs.Fmt.{digits}
use Rattle.semantics_lines.specs.Trees.{unsigned, signed, bool_value, text}
use Rattle.semantics_lines.specs.Shapes.{bits8, bits64, bits128, unsigned_type, signed_type, bool_type, string_type, str_type}
use Rattle.semantics_lines.specs.Events.{u64, i64, bool, null, str}
use Rattle.semantics_lines.specs.Faults.{ShapeLabel, number_out_of_range, cannot_borrow, reflect, wrong_kind}
use Rattle.semantics.specs.Numerals.{unsigned_text, signed_text}
use Rattle.semantics.specs.Setters.{set_scalar}

-- a shape, by its number and its name
abbrev named : ℕ → List ℕ → ShapeLabel
named number name = record { number = number; name = name }

too_great : set_scalar true (named 3 (codes "u8")) (unsigned_type bits8) (u64 300) ≡ Err (number_out_of_range (codes "300") (codes "u8"))
unfolding digits
too_great = refl

negative : set_scalar true (named 3 (codes "u8")) (unsigned_type bits8) (i64 (negsuc 0)) ≡ Err (number_out_of_range (codes "-1") (codes "u8"))
unfolding digits
negative = refl

signed_one : set_scalar true (named 9 (codes "i8")) (signed_type bits8) (i64 (negsuc 0)) ≡ Ok (signed (negsuc 0))
signed_one = refl

nothing : set_scalar true (named 3 (codes "u8")) (unsigned_type bits8) null ≡ Ok (unsigned 0)
nothing = refl

other_kind : set_scalar true (named 3 (codes "u8")) (unsigned_type bits8) (bool true) ≡ Err (reflect (wrong_kind (named 3 (codes "u8"))) [])
other_kind = refl

lent_text : set_scalar true (named 16 (codes "Str")) str_type (str (record { bytes = codes "ab"; borrowed = true })) ≡ Ok (text (record { bytes = codes "ab"; borrowed = true }))
lent_text = refl

own_text : set_scalar true (named 16 (codes "Str")) str_type (str (record { bytes = codes "ab"; borrowed = false })) ≡ Err (cannot_borrow (codes "text is not borrowed from the input"))
own_text = refl

decimal_text : set_scalar true (named 15 (codes "String")) string_type (i64 (negsuc 4)) ≡ Ok (text (record { bytes = codes "-5"; borrowed = false }))
unfolding digits
decimal_text = refl

truth : set_scalar true (named 1 (codes "bool")) bool_type (str (record { bytes = codes "true"; borrowed = true })) ≡ Ok (bool_value true)
truth = refl

plus : unsigned_text bits64 (codes "+05") ≡ Some 5
plus = refl

no_minus : unsigned_text bits64 (codes "-0") ≡ None
no_minus = refl

no_digit : unsigned_text bits64 (codes "+") ≡ None
no_digit = refl

greatest : unsigned_text bits128 (codes "340282366920938463463374607431768211455") ≡ Some 340282366920938463463374607431768211455
greatest = refl

past_greatest : unsigned_text bits128 (codes "340282366920938463463374607431768211456") ≡ None
past_greatest = refl

least : signed_text bits8 (codes "-128") ≡ Some (negsuc 127)
least = refl

below_least : signed_text bits8 (codes "-129") ≡ None
below_least = refl
