use Rattle.std.proofs.Common.{ℕ, List, Bor, sym, ap, ◌∙◌, ◌≡◌, [], ◌∷◌, Some, None}
use Rattle.std.specs.Prelude.{option_map}
use Rattle.std.specs.Str.Iter.{chars_rest}
use Rattle.laws_lines.specs.Fronts.{strip}
use Rattle.line_text.proofs.FirstChars.{char-cut, char-none, char_is_scalar, char_whole, char_more}
use Rattle.line_text.proofs.characters.char_at.Goals as goal

-- the character, and what stands after it
abbrev found : ℕ × Bor (List ℕ) → ℕ × List ℕ
found p = (p.0, p.1.now)

pub returns-in_err-after : goal.returns-in_err-after
returns-in_err-after c = ap (option_map found) c.from_residual.ensures ∙ sym (char-none c.args.text.now (sym c.in_err-after.ensures))

pub returns-in_err-c : goal.returns-in_err-c
returns-in_err-c c =
    let old = chars_rest c.chars-chars.result in
    let from : Some old ≡ strip (34 ∷ []) c.args.text.now = ap Some c.chars-chars.ensures.rest ∙ c.in_ok-after.ensures in
    ap (option_map found) c.from_residual-in_err-c.ensures ∙ sym (char-cut c.args.text.now old (sym from) ∙ c.in_err-c.ensures)

pub returns-in_err-after-2 : goal.returns-in_err-after-2
returns-in_err-after-2 c =
    let old = chars_rest c.chars-chars.result in
    let new = chars_rest c.first_char.new.chars in
    let from : Some old ≡ strip (34 ∷ []) c.args.text.now = ap Some c.chars-chars.ensures.rest ∙ c.in_ok-after.ensures in
    let none : strip (34 ∷ []) new ≡ None = ap (strip (34 ∷ [])) (sym c.as_str.ensures) ∙ sym c.in_err-after-2.ensures in
    ap (option_map found) c.from_residual-in_err-after-2.ensures ∙ sym (char-cut c.args.text.now old (sym from) ∙ char_more old new c.in_ok-c.c c.in_ok-c.ensures none)

pub returns : goal.returns
returns c =
    let old = chars_rest c.chars-chars.result in
    let new = chars_rest c.first_char.new.chars in
    let from : Some old ≡ strip (34 ∷ []) c.args.text.now = ap Some c.chars-chars.ensures.rest ∙ c.in_ok-after.ensures in
    let quote : strip (34 ∷ []) new ≡ Some c.in_ok-after-2.field-0.now = ap (strip (34 ∷ [])) (sym c.as_str.ensures) ∙ sym c.in_ok-after-2.ensures in
    let scalar = char_is_scalar c.args.text.now old c.in_ok-c.c new c.utf8.text (sym from) c.in_ok-c.ensures in
    sym (char-cut c.args.text.now old (sym from) ∙ char_whole old new c.in_ok-after-2.field-0.now c.in_ok-c.c c.in_ok-c.ensures scalar quote)
