-- The seventeen scalars that every registry begins with, and the numbers that each can hold.
use Rattle.std.specs.Prelude.{ℕ, ℤ, pos, negsuc, Bool, List, [], ◌∷◌, Some, None, nat_lt, ◌^◌, codes, false}
use Rattle.semantics_lines.specs.Shapes.{Width, bits8, bits16, bits32, bits64, bits128, address, ScalarType, unit_type, bool_type, char_type, unsigned_type, signed_type, string_type, str_type, scalar_shape, Draft}
use Rattle.semantics_lines.specs.Trees.{Tree, unit_value, bool_value, char_value, unsigned, signed, text}

-- how many bits an unsigned number has
abbrev pub bits : Width → ℕ
bits bits8 = 8
bits bits16 = 16
bits bits32 = 32
bits bits64 = 64
bits bits128 = 128
bits address = 64

-- one bit less, for the sign
abbrev pub half_bits : Width → ℕ
half_bits bits8 = 7
half_bits bits16 = 15
half_bits bits32 = 31
half_bits bits64 = 63
half_bits bits128 = 127
half_bits address = 63

-- the whole number fits an unsigned type of this width
abbrev pub fits_unsigned : Width → ℕ → Bool
fits_unsigned w n = nat_lt n (2 ^ bits w)

-- the whole number fits a signed type of this width
abbrev pub fits_signed : Width → ℤ → Bool
fits_signed w (pos n) = nat_lt n (2 ^ half_bits w)
fits_signed w (negsuc n) = nat_lt n (2 ^ half_bits w)

-- the shape of a scalar, by its name
abbrev pub named_scalar : List ℕ → ScalarType → Draft
named_scalar name type = record { name = name; definition = Some (scalar_shape type); proxy = None }

-- the shapes from number 0 to number 16
unfoldable pub scalar_drafts : List Draft
scalar_drafts =
    named_scalar (codes "unit") unit_type
    ∷ named_scalar (codes "bool") bool_type
    ∷ named_scalar (codes "char") char_type
    ∷ named_scalar (codes "u8") (unsigned_type bits8)
    ∷ named_scalar (codes "u16") (unsigned_type bits16)
    ∷ named_scalar (codes "u32") (unsigned_type bits32)
    ∷ named_scalar (codes "u64") (unsigned_type bits64)
    ∷ named_scalar (codes "u128") (unsigned_type bits128)
    ∷ named_scalar (codes "usize") (unsigned_type address)
    ∷ named_scalar (codes "i8") (signed_type bits8)
    ∷ named_scalar (codes "i16") (signed_type bits16)
    ∷ named_scalar (codes "i32") (signed_type bits32)
    ∷ named_scalar (codes "i64") (signed_type bits64)
    ∷ named_scalar (codes "i128") (signed_type bits128)
    ∷ named_scalar (codes "isize") (signed_type address)
    ∷ named_scalar (codes "String") string_type
    ∷ named_scalar (codes "Str") str_type
    ∷ []

-- the number of u64
abbrev pub u64_number : ℕ
u64_number = 6

-- false, 0, the character of number 0, and a text of no bytes, which no input lends
abbrev pub scalar_default : ScalarType → Tree
scalar_default unit_type = unit_value
scalar_default bool_type = bool_value false
scalar_default char_type = char_value 0
scalar_default (unsigned_type w) = unsigned 0
scalar_default (signed_type w) = signed (pos 0)
scalar_default string_type = text (record { bytes = []; borrowed = false })
scalar_default str_type = text (record { bytes = []; borrowed = false })
