-- Errors, as the definitions see them: what is wrong, where, and at which part of the value.
use Rattle.std.specs.Prelude.{List, map, take, Some, None}
use Rattle.std.specs.Option.{option_map}
use Rattle.semantics_lines.specs.Faults.{ShapeLabel, Step, field_step, index_step, variant_step, Refusal, uninitialized_field, parse_failed, no_such_variant, no_such_discriminant, wrong_kind, no_default, array_length, too_many_elements, key_form, refused_memory, FaultKind, unexpected_char, unexpected_eof, invalid_utf8, unexpected_token, type_mismatch, shape_mismatch, unknown_field, unknown_variant, no_matching_variant, missing_field, duplicate_field, number_out_of_range, invalid_value, cannot_borrow, reflect, unsupported, io_fault, solver_fault, validation, bug, out_of_memory, materialize, raw_capture, too_deep, Fault}
use Rattle.shape_types.specs.Texts.{text_bytes}
use Rattle.shape_types.specs.declared.shape.ShapeName.{ShapeName}
use Rattle.event_core.specs.Metadata.{span_view}
use Rattle.event_core.specs.declared.path.PathSegment.{PathSegment}
use Rattle.event_core.specs.declared.path.PathSegment.TheVariants as steps
use Rattle.event_core.specs.declared.reflect.ReflectErrorKind.{ReflectErrorKind}
use Rattle.event_core.specs.declared.reflect.ReflectErrorKind.TheVariants as refusals
use Rattle.event_core.specs.declared.error.DeserializeErrorKind.{DeserializeErrorKind}
use Rattle.event_core.specs.declared.error.DeserializeErrorKind.TheVariants as kinds
use Rattle.event_core.specs.declared.error.DeserializeError.{DeserializeError}
use Rattle.event_core.specs.declared.error.ParseError.{ParseError}

-- a step of a path
abbrev pub step_of : PathSegment → Step
step_of (steps.Field name) = field_step (text_bytes name)
step_of (steps.Index at) = index_step at
step_of (steps.Variant name) = variant_step (text_bytes name)

-- a path, which contracts see as its steps
abbrev pub path_of : List PathSegment → List Step
path_of path = map step_of path

-- how a shape is named
abbrev pub label_of : ShapeName → ShapeLabel
label_of shape = record { number = shape.id.0; name = shape.name }

-- why a value can't be built
abbrev pub refusal_of : ReflectErrorKind → Refusal
refusal_of (refusals.UninitializedField shape field) = uninitialized_field (label_of shape) field
refusal_of (refusals.ParseFailed shape text) = parse_failed (label_of shape) text
refusal_of (refusals.NoSuchVariant shape name) = no_such_variant (label_of shape) name
refusal_of (refusals.NoSuchDiscriminant shape discriminant) = no_such_discriminant (label_of shape) discriminant
refusal_of (refusals.WrongKind shape got) = wrong_kind (label_of shape)
refusal_of (refusals.NoDefault shape) = no_default (label_of shape)
refusal_of (refusals.ArrayLength shape expected got) = array_length (label_of shape) expected got
refusal_of (refusals.TooManyElements shape count) = too_many_elements (label_of shape) count
refusal_of (refusals.KeyForm shape) = key_form (label_of shape)
refusal_of refusals.Alloc = refused_memory

-- what is wrong
abbrev pub fault_kind_of : DeserializeErrorKind → FaultKind
fault_kind_of (kinds.UnexpectedChar ch expected) = unexpected_char ch
fault_kind_of (kinds.UnexpectedEof expected) = unexpected_eof
fault_kind_of (kinds.InvalidUtf8 context context_len) = invalid_utf8 (take context_len context)
fault_kind_of (kinds.UnexpectedToken got expected) = unexpected_token
fault_kind_of (kinds.TypeMismatch expected got) = type_mismatch (label_of expected)
fault_kind_of (kinds.ShapeMismatch expected got) = shape_mismatch (label_of expected) (label_of got)
fault_kind_of (kinds.UnknownField field suggestion) = unknown_field (text_bytes field)
fault_kind_of (kinds.UnknownVariant variant enum_shape) = unknown_variant (text_bytes variant) (label_of enum_shape)
fault_kind_of (kinds.NoMatchingVariant enum_shape input_kind) = no_matching_variant (label_of enum_shape)
fault_kind_of (kinds.MissingField field container_shape) = missing_field field (label_of container_shape)
fault_kind_of (kinds.DuplicateField field first_span) = duplicate_field (text_bytes field) (option_map span_view first_span)
fault_kind_of (kinds.NumberOutOfRange value target_type) = number_out_of_range (text_bytes value) target_type.now
fault_kind_of (kinds.InvalidValue message) = invalid_value
fault_kind_of (kinds.CannotBorrow reason) = cannot_borrow (text_bytes reason)
fault_kind_of (kinds.Reflect kind context) = reflect (refusal_of kind) context.now
fault_kind_of (kinds.Unsupported message) = unsupported
fault_kind_of (kinds.Io message) = io_fault
fault_kind_of (kinds.Solver message) = solver_fault
fault_kind_of (kinds.Validation field message) = validation
fault_kind_of (kinds.Bug error context) = bug
fault_kind_of (kinds.Alloc operation) = out_of_memory
fault_kind_of (kinds.Materialize expected actual) = materialize
fault_kind_of (kinds.RawCaptureNotSupported shape) = raw_capture (label_of shape)
fault_kind_of (kinds.TooDeep limit) = too_deep limit

-- what a reader answers
abbrev pub fault_of : DeserializeError → Fault
fault_of e = record { kind = fault_kind_of e.kind; span = option_map span_view e.span; path = option_map path_of e.path }

-- what a parser answers: it knows no part of a value
abbrev pub parse_fault : ParseError → Fault
parse_fault e = record { kind = fault_kind_of e.kind; span = Some (span_view e.span); path = None }
