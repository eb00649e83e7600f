-- What recoding's errors print. None stands where the text isn't known: an unexpected character past ASCII, which is
-- printed as `{:?}` prints it.
use Rattle.std.specs.Prelude.{ℕ, List, ◌++◌, Option, Some, None, codes}
use Rattle.std.specs.Fmt.{◌++?◌}
use Rattle.event_core.specs.Texts.{span_text}
use Rattle.event_core.specs.ErrorTexts.{error_text, unwritten_text}
use Rattle.event_core.specs.declared.span.Span.{Span}
use Rattle.recode_top.specs.declared.error.RecodeError.{RecodeError}
use Rattle.recode_top.specs.declared.error.RecodeError.TheVariants as errors

-- and where, if that is told
abbrev pub with_span_text : Option (List ℕ) → Option Span → Option (List ℕ)
with_span_text text None = text
with_span_text text (Some span) = text ++? (Some (codes " ") ++? Some (span_text span))

-- what is wrong, and where
abbrev pub recode_error_text : RecodeError → Option (List ℕ)
recode_error_text (errors.Deserialize e) = with_span_text (error_text e) e.span
recode_error_text (errors.Trailing kind span) = Some (codes "trailing event: " ++ (kind.now ++ (codes " " ++ span_text span)))
recode_error_text (errors.Serialize e) = Some (unwritten_text e)
recode_error_text errors.Alloc = Some (codes "out of memory")
