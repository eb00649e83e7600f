-- What is made of parts that are handed in.
use Rattle.std.specs.Prelude.{◌≡◌, ℕ, List, [], Bool, true, false, Option, Some, None}
use Rattle.std.specs.Option.{option_map}
use Rattle.semantics_lines.specs.Events.{Metadata}
use Rattle.event_core.specs.Metadata.{metadata_of, no_metadata}
use Rattle.event_core.specs.declared.span.Span.{Span}
use Rattle.event_core.specs.declared.path.PathSegment.{PathSegment}
use Rattle.event_core.specs.declared.reflect.ReflectErrorKind.{ReflectErrorKind}
use Rattle.event_core.specs.declared.reflect.ReflectErrorKind.TheVariants as refusals
use Rattle.event_core.specs.declared.error.DeserializeErrorKind.{DeserializeErrorKind}
use Rattle.event_core.specs.declared.error.DeserializeErrorKind.TheVariants as kinds
use Rattle.event_core.specs.declared.event.ParseEvent.{ParseEvent}

-- the text that goes with a refusal, where the error holds this refusal
abbrev pub context_with : DeserializeErrorKind → Option (ReflectErrorKind × List ℕ)
context_with (kinds.Reflect kind context) = Some (kind, context.now)
context_with _ = None

-- whether the error is want of memory
abbrev pub is_memory : DeserializeErrorKind → Bool
is_memory (kinds.Alloc operation) = true
is_memory _ = false

-- The error of a refused builder: a field that isn't set is a missing field, and want of memory stays itself.
abbrev pub IsRefusedAs : ReflectErrorKind → DeserializeErrorKind → Type 0
IsRefusedAs (refusals.UninitializedField shape field) kind = kind ≡ kinds.MissingField field shape
IsRefusedAs refusals.Alloc kind = is_memory kind ≡ true
IsRefusedAs refused kind = context_with kind ≡ Some (refused, [])

-- want of memory has no place
abbrev pub refused_span : ReflectErrorKind → Span → Option Span
refused_span refusals.Alloc span = None
refused_span _ span = Some span

-- and is at no part of the value
abbrev pub refused_path : ReflectErrorKind → List PathSegment → Option (List PathSegment)
refused_path refusals.Alloc path = None
refused_path _ path = Some path

-- The event has this metadata now. Metadata that tells nothing leaves the event as it was.
pub record HasTold (told : Metadata) (old new : ParseEvent) : Type 0 where
  pub nothing : told ≡ no_metadata → new ≡ old
  pub something : (told ≡ no_metadata → ⊥) → option_map metadata_of new.meta ≡ Some told
  pub kind : new.kind ≡ old.kind
  pub span : new.span ≡ old.span
