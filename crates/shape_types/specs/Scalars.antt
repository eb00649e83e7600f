-- Scalars, as the definitions see them, and their names.
use Rattle.std.specs.Prelude.{ℕ, List, [], ◌∷◌, codes, Some, None}
use Rattle.semantics_lines.specs.Shapes as mirror
use Rattle.semantics_lines.specs.Shapes.{bits8, bits16, bits32, bits64, bits128, address}
use Rattle.shape_types.specs.declared.scalar.ScalarType.{ScalarType}
use Rattle.shape_types.specs.declared.scalar.ScalarType.TheVariants.{Unit, Bool, Char, U8, U16, U32, U64, U128, USize, I8, I16, I32, I64, I128, ISize, String, Str}

-- the scalar
abbrev pub scalar_type_of : ScalarType → mirror.ScalarType
scalar_type_of Unit = mirror.unit_type
scalar_type_of Bool = mirror.bool_type
scalar_type_of Char = mirror.char_type
scalar_type_of U8 = mirror.unsigned_type bits8
scalar_type_of U16 = mirror.unsigned_type bits16
scalar_type_of U32 = mirror.unsigned_type bits32
scalar_type_of U64 = mirror.unsigned_type bits64
scalar_type_of U128 = mirror.unsigned_type bits128
scalar_type_of USize = mirror.unsigned_type address
scalar_type_of I8 = mirror.signed_type bits8
scalar_type_of I16 = mirror.signed_type bits16
scalar_type_of I32 = mirror.signed_type bits32
scalar_type_of I64 = mirror.signed_type bits64
scalar_type_of I128 = mirror.signed_type bits128
scalar_type_of ISize = mirror.signed_type address
scalar_type_of String = mirror.string_type
scalar_type_of Str = mirror.str_type

-- the name of its shape
abbrev pub scalar_name : ScalarType → List ℕ
scalar_name Unit = codes "unit"
scalar_name Bool = codes "bool"
scalar_name Char = codes "char"
scalar_name U8 = codes "u8"
scalar_name U16 = codes "u16"
scalar_name U32 = codes "u32"
scalar_name U64 = codes "u64"
scalar_name U128 = codes "u128"
scalar_name USize = codes "usize"
scalar_name I8 = codes "i8"
scalar_name I16 = codes "i16"
scalar_name I32 = codes "i32"
scalar_name I64 = codes "i64"
scalar_name I128 = codes "i128"
scalar_name ISize = codes "isize"
scalar_name String = codes "String"
scalar_name Str = codes "Str"

-- the scalars in the order of their numbers
abbrev pub all_scalars : List ScalarType
all_scalars = Unit ∷ Bool ∷ Char ∷ U8 ∷ U16 ∷ U32 ∷ U64 ∷ U128 ∷ USize ∷ I8 ∷ I16 ∷ I32 ∷ I64 ∷ I128 ∷ ISize ∷ String ∷ Str ∷ []

-- the shape that a registry begins with for it
abbrev pub scalar_draft : ScalarType → mirror.Draft
scalar_draft t = record { name = scalar_name t; definition = Some (mirror.scalar_shape (scalar_type_of t)); proxy = None }
