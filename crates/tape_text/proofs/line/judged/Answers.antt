use Rattle.std.proofs.Common.{◌≡◌, Some, None, sym, ap, ◌∙◌, take}
use Rattle.std.specs.Str.{is_utf8, chars}
use Rattle.std.proofs.lemmas.Str.{IsUtf8-from_is_utf8, is_utf8-from_IsUtf8}
use Rattle.semantics_lines.specs.Faults.{unexpected_char, invalid_utf8}
use Rattle.semantics_lines.specs.Tapes.{at_line, first_or_end, line_span}
use Rattle.event_core.specs.Events.{event_of as view_of}
use Rattle.tape_text.specs.Reading.{event_of}
use Rattle.tape_text.specs.Coming.{bad}
use Rattle.tape_text.proofs.TapeLaws.{text_judged, bytes_judged, not_true}
use Rattle.tape_text.proofs.Stands.{fault_there}
use Rattle.tape_text.proofs.line.judged.Goals as goal

pub returns-in_default : goal.returns-in_default
returns-in_default c =
    let line = c.args.line.now in
    bytes_judged c.args.at line (not_true (is_utf8 line) (λ h. c.in_default.ensures.cases.0 (IsUtf8-from_is_utf8 line h)))
    ∙ ap bad (sym (fault_there c.args.at line c.new.result c.not_utf8.result (invalid_utf8 (take 16 line)) c.new.ensures c.not_utf8.ensures))

pub returns-in-Ok-Some : goal.returns-in-Ok-Some
returns-in-Ok-Some c =
    let line = c.args.line.now in
    let found : event_of (line_span c.args.at line) c.in-Ok.text.now ≡ Some (view_of c.in-Ok-Some.event) = sym (rw c.in-Ok-Some.field-0-is at c.in-Ok-Some.ensures) in
    let read : event_of (line_span c.args.at line) line ≡ Some (view_of c.in-Ok-Some.event) = ap (event_of (line_span c.args.at line)) (sym c.in-Ok.ensures.cases.0) ∙ found in
    text_judged c.args.at line (Some (view_of c.in-Ok-Some.event)) (is_utf8-from_IsUtf8 line c.in-Ok.ensures.cases.1) read

pub returns-in-Ok-None : goal.returns-in-Ok-None
returns-in-Ok-None c =
    let line = c.args.line.now in
    let found : event_of (line_span c.args.at line) c.in-Ok.text.now ≡ None = sym (rw c.in-Ok-None.field-0-is at c.in-Ok-None.ensures) in
    let read : event_of (line_span c.args.at line) line ≡ None = ap (event_of (line_span c.args.at line)) (sym c.in-Ok.ensures.cases.0) ∙ found in
    text_judged c.args.at line None (is_utf8-from_IsUtf8 line c.in-Ok.ensures.cases.1) read
    ∙ ap (λ x. bad (at_line (unexpected_char (first_or_end (chars x))) c.args.at line)) (sym c.in-Ok.ensures.cases.0)
    ∙ ap bad (sym c.no_line.ensures)
