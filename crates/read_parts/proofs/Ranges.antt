-- The ranges of whole number types lie within 128 bits.
use Rattle.std.proofs.Common.{◌≡◌, ℕ, ℤ, pos, negsuc, ◌^◌, ◌<◌, ◌≤◌, Bool, true, false, cond, Option, Some, None, refl, arith}
use Rattle.std.specs.Prelude.{nat_lt}
use Rattle.std.proofs.lemmas.Bool.{ltb-true, lt-ltb}
use Rattle.semantics_lines.specs.Shapes.{Width, bits8, bits16, bits32, bits64, bits128, address, ScalarType, unit_type, bool_type, char_type, unsigned_type, signed_type, string_type, str_type}
use Rattle.semantics_lines.specs.Scalars.{bits, half_bits, fits_unsigned, fits_signed}
use Rattle.semantics.specs.Typed.{takes_unsigned, takes_signed}
use Rattle.semantics.specs.Numerals.{passing}

within : (n k m : ℕ) → k ≤ m → nat_lt n k ≡ true → nat_lt n m ≡ true
within n k m le h = let below = ltb-true n k h in lt-ltb n m (omega arith)

unsigned_within : (w : Width) (n : ℕ) → fits_unsigned w n ≡ true → fits_unsigned bits128 n ≡ true
unsigned_within bits8 n h = within n (2 ^ 8) (2 ^ 128) (omega arith) h
unsigned_within bits16 n h = within n (2 ^ 16) (2 ^ 128) (omega arith) h
unsigned_within bits32 n h = within n (2 ^ 32) (2 ^ 128) (omega arith) h
unsigned_within bits64 n h = within n (2 ^ 64) (2 ^ 128) (omega arith) h
unsigned_within bits128 n h = h
unsigned_within address n h = within n (2 ^ 64) (2 ^ 128) (omega arith) h

half_within : (w : Width) (n : ℕ) → nat_lt n (2 ^ half_bits w) ≡ true → nat_lt n (2 ^ 127) ≡ true
half_within bits8 n h = within n (2 ^ 7) (2 ^ 127) (omega arith) h
half_within bits16 n h = within n (2 ^ 15) (2 ^ 127) (omega arith) h
half_within bits32 n h = within n (2 ^ 31) (2 ^ 127) (omega arith) h
half_within bits64 n h = within n (2 ^ 63) (2 ^ 127) (omega arith) h
half_within bits128 n h = h
half_within address n h = within n (2 ^ 63) (2 ^ 127) (omega arith) h

signed_within : (w : Width) (z : ℤ) → fits_signed w z ≡ true → fits_signed bits128 z ≡ true
signed_within w (pos n) h = half_within w n h
signed_within w (negsuc n) h = half_within w n h

none_passes : {A : Type 0} (c : Bool) (x : A) → (c ≡ true → ⊥) → None ≡ cond c (Some x) None
none_passes true x n = absurd (n refl)
none_passes false x n = refl

narrowed_at : {A : Type 0} (p : A → Bool) (x : A) (q : Bool) → (p x ≡ true → q ≡ true) → passing p (cond q (Some x) None) ≡ cond (p x) (Some x) None
narrowed_at p x true f = refl
narrowed_at p x false f = none_passes (p x) x (λ h. let k = f h in absurd cc)

-- what passes the narrower test passes the wider one
narrowed : {A : Type 0} (p q : A → Bool) → ((x : A) → p x ≡ true → q x ≡ true) → (o : Option A) → passing p (passing q o) ≡ passing p o
narrowed p q f None = refl
narrowed p q f (Some x) = narrowed_at p x (q x) (f x)

takes_unsigned_within : (t : ScalarType) (n : ℕ) → takes_unsigned n t ≡ true → fits_unsigned bits128 n ≡ true
takes_unsigned_within (unsigned_type w) n h = unsigned_within w n h
takes_unsigned_within unit_type n h = absurd cc
takes_unsigned_within bool_type n h = absurd cc
takes_unsigned_within char_type n h = absurd cc
takes_unsigned_within (signed_type w) n h = absurd cc
takes_unsigned_within string_type n h = absurd cc
takes_unsigned_within str_type n h = absurd cc

takes_signed_within : (t : ScalarType) (z : ℤ) → takes_signed z t ≡ true → fits_signed bits128 z ≡ true
takes_signed_within (signed_type w) z h = signed_within w z h
takes_signed_within unit_type z h = absurd cc
takes_signed_within bool_type z h = absurd cc
takes_signed_within char_type z h = absurd cc
takes_signed_within (unsigned_type w) z h = absurd cc
takes_signed_within string_type z h = absurd cc
takes_signed_within str_type z h = absurd cc

-- a type's own range decides, behind 128 bits or not
pub unsigned_narrowed : (t : ScalarType) (o : Option ℕ) → passing (λ n. takes_unsigned n t) (passing (fits_unsigned bits128) o) ≡ passing (λ n. takes_unsigned n t) o
unsigned_narrowed t o = narrowed (λ n. takes_unsigned n t) (fits_unsigned bits128) (takes_unsigned_within t) o

pub signed_narrowed : (t : ScalarType) (o : Option ℤ) → passing (λ z. takes_signed z t) (passing (fits_signed bits128) o) ≡ passing (λ z. takes_signed z t) o
signed_narrowed t o = narrowed (λ z. takes_signed z t) (fits_signed bits128) (takes_signed_within t) o
