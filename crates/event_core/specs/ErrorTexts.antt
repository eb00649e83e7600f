-- What paths and errors print. None stands where the text isn't known, as of a character past ASCII.
use Rattle.std.specs.Prelude.{ℕ, List, [], ◌∷◌, ◌++◌, take, Option, Some, None, codes}
use Rattle.std.specs.List.{flat_map}
use Rattle.std.specs.Fmt.{decimal, signed_decimal, debug_char, debug_list, ◌++?◌}
use Rattle.shape_types.specs.Texts.{text_bytes}
use Rattle.event_core.specs.Texts.{span_text}
use Rattle.event_core.specs.declared.path.PathSegment.{PathSegment}
use Rattle.event_core.specs.declared.path.PathSegment.TheVariants as steps
use Rattle.event_core.specs.declared.reflect.ReflectError.{ReflectError}
use Rattle.event_core.specs.declared.reflect.ReflectErrorKind.{ReflectErrorKind}
use Rattle.event_core.specs.declared.reflect.ReflectErrorKind.TheVariants as refusals
use Rattle.event_core.specs.declared.error.DeserializeErrorKind.{DeserializeErrorKind}
use Rattle.event_core.specs.declared.error.DeserializeErrorKind.TheVariants as kinds
use Rattle.event_core.specs.declared.error.DeserializeError.{DeserializeError}
use Rattle.event_core.specs.declared.error.ParseError.{ParseError}
use Rattle.event_core.specs.declared.error.SerializeError.{SerializeError}
use Rattle.event_core.specs.declared.error.SerializeError.TheVariants as unwritten

-- a field as .NAME, an item as [AT], a variant as ::NAME
abbrev pub step_text : PathSegment → List ℕ
step_text (steps.Field name) = codes "." ++ text_bytes name
step_text (steps.Index at) = codes "[" ++ (decimal at ++ codes "]")
step_text (steps.Variant name) = codes "::" ++ text_bytes name

-- the steps in turn, or that there are none
abbrev pub path_text : List PathSegment → List ℕ
path_text [] = codes "<root>"
path_text (s ∷ ss) = flat_map step_text (s ∷ ss)

-- why a value can't be built
abbrev pub refusal_text : ReflectErrorKind → List ℕ
refusal_text (refusals.UninitializedField shape field) = codes "field `" ++ (field ++ (codes "` of " ++ (shape.name ++ codes " not set")))
refusal_text (refusals.ParseFailed shape text) = codes "failed to parse `" ++ (text ++ (codes "` as " ++ shape.name))
refusal_text (refusals.NoSuchVariant shape name) = codes "no variant `" ++ (name ++ (codes "` in " ++ shape.name))
refusal_text (refusals.NoSuchDiscriminant shape discriminant) = codes "no variant with discriminant " ++ (signed_decimal discriminant ++ (codes " in " ++ shape.name))
refusal_text (refusals.WrongKind shape got) = codes "wrong kind: got " ++ (got.now ++ (codes ", expected " ++ shape.name))
refusal_text (refusals.NoDefault shape) = shape.name ++ codes " has no default"
refusal_text (refusals.ArrayLength shape expected got) = codes "array " ++ (shape.name ++ (codes " of " ++ (decimal expected ++ (codes " items got " ++ decimal got))))
refusal_text (refusals.TooManyElements shape count) = codes "more than " ++ (decimal count ++ (codes " elements for " ++ shape.name))
refusal_text (refusals.KeyForm shape) = shape.name ++ codes " can't be a map key"
refusal_text refusals.Alloc = codes "out of memory"

-- an event that can't stand there
abbrev pub token_text : List ℕ → List ℕ → List ℕ
token_text got expected = codes "unexpected token: got " ++ (got ++ (codes ", expected " ++ expected))

-- a number that its type doesn't have
abbrev pub number_text : List ℕ → List ℕ → List ℕ
number_text number target = codes "number `" ++ (number ++ (codes "` out of range for " ++ target))

-- a key that names no field, and a name like it in round brackets
abbrev pub unknown_text : List ℕ → Option (List ℕ) → List ℕ
unknown_text field None = codes "unknown field `" ++ (field ++ codes "`")
unknown_text field (Some name) = codes "unknown field `" ++ (field ++ (codes "` (did you mean `" ++ (name ++ codes "`?)")))

-- and what was done then, where that is told
abbrev pub with_context : List ℕ → List ℕ → List ℕ
with_context text [] = text
with_context text (b ∷ bs) = text ++ (codes " (while " ++ ((b ∷ bs) ++ codes ")"))

-- a byte in a list
abbrev pub byte_text : ℕ → Option (List ℕ)
byte_text b = Some (decimal b)

-- the bytes that aren't UTF-8, where there are some
abbrev pub utf8_text : List ℕ → Option (List ℕ)
utf8_text [] = Some (codes "invalid UTF-8")
utf8_text (b ∷ bs) = Some (codes "invalid UTF-8 near: ") ++? debug_list byte_text (b ∷ bs)

-- what is wrong
abbrev pub fault_text : DeserializeErrorKind → Option (List ℕ)
fault_text (kinds.UnexpectedChar ch expected) = Some (codes "unexpected character ") ++? (debug_char ch ++? Some (codes ", expected " ++ expected.now))
fault_text (kinds.UnexpectedEof expected) = Some (codes "unexpected end of input, expected " ++ expected.now)
fault_text (kinds.InvalidUtf8 context context_len) = utf8_text (take context_len context)
fault_text (kinds.UnexpectedToken got expected) = Some (token_text (text_bytes got) expected.now)
fault_text (kinds.TypeMismatch expected got) = Some (codes "type mismatch: expected " ++ (expected.name ++ (codes ", got " ++ text_bytes got)))
fault_text (kinds.ShapeMismatch expected got) = Some (codes "shape mismatch: expected " ++ (expected.name ++ (codes ", got " ++ got.name)))
fault_text (kinds.UnknownField field suggestion) = Some (unknown_text (text_bytes field) suggestion)
fault_text (kinds.UnknownVariant variant enum_shape) = Some (codes "unknown variant `" ++ (text_bytes variant ++ (codes "` for enum `" ++ (enum_shape.name ++ codes "`"))))
fault_text (kinds.NoMatchingVariant enum_shape input_kind) = Some (codes "no matching variant found for enum `" ++ (enum_shape.name ++ (codes "` with " ++ (input_kind.now ++ codes " input"))))
fault_text (kinds.MissingField field container_shape) = Some (codes "missing field `" ++ (field ++ (codes "` in type `" ++ (container_shape.name ++ codes "`"))))
fault_text (kinds.DuplicateField field first_span) = Some (codes "duplicate field `" ++ (text_bytes field ++ codes "`"))
fault_text (kinds.NumberOutOfRange value target_type) = Some (number_text (text_bytes value) target_type.now)
fault_text (kinds.InvalidValue message) = Some (codes "invalid value: " ++ text_bytes message)
fault_text (kinds.CannotBorrow reason) = Some (text_bytes reason)
fault_text (kinds.Reflect kind context) = Some (with_context (refusal_text kind) context.now)
fault_text (kinds.Unsupported message) = Some (codes "unsupported: " ++ text_bytes message)
fault_text (kinds.Io message) = Some (codes "I/O error: " ++ text_bytes message)
fault_text (kinds.Solver message) = Some (codes "solver error: " ++ text_bytes message)
fault_text (kinds.Validation field message) = Some (codes "validation failed for field `" ++ (field ++ (codes "`: " ++ text_bytes message)))
fault_text (kinds.Bug error context) = Some (codes "internal error: " ++ (text_bytes error ++ (codes " while " ++ context.now)))
fault_text (kinds.Alloc operation) = Some (codes "allocation failed: " ++ operation.now)
fault_text (kinds.Materialize expected actual) = Some (codes "shape mismatch when materializing: expected " ++ (expected.name ++ (codes ", got " ++ actual.name)))
fault_text (kinds.RawCaptureNotSupported shape) = Some (codes "raw capture not supported: type `" ++ (shape.name ++ codes "` requires raw capture, but the parser does not support it (e.g., streaming mode without buffering)"))
fault_text (kinds.TooDeep limit) = Some (codes "nesting deeper than " ++ decimal limit)

-- and at which part of the value, where that is told
abbrev pub with_path_text : Option (List ℕ) → Option (List PathSegment) → Option (List ℕ)
with_path_text text None = text
with_path_text text (Some path) = text ++? (Some (codes " at ") ++? Some (path_text path))

-- what is wrong, and at which part of the value
abbrev pub error_text : DeserializeError → Option (List ℕ)
error_text e = with_path_text (fault_text e.kind) e.path

-- what is wrong, and where
abbrev pub parse_error_text : ParseError → Option (List ℕ)
parse_error_text e = fault_text e.kind ++? (Some (codes " at ") ++? Some (span_text e.span))

-- why a value can't be built, and at which part
abbrev pub reflect_error_text : ReflectError → List ℕ
reflect_error_text e = refusal_text e.kind ++ (codes " at " ++ path_text e.path)

-- why a value wasn't written; what a format says itself is no part of it
abbrev pub unwritten_text : {E : Type 0} → SerializeError E → List ℕ
unwritten_text (unwritten.Backend error) = codes "format serializer error"
unwritten_text (unwritten.Reflect error) = reflect_error_text error
unwritten_text (unwritten.Unsupported message) = text_bytes message
unwritten_text (unwritten.Internal message) = text_bytes message
unwritten_text unwritten.Alloc = codes "out of memory"
