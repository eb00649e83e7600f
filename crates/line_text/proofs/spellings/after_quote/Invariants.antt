use Rattle.std.proofs.Common.{◌≡◌, length}
use Rattle.std.specs.Str.Iter.{chars_rest}
use Rattle.laws_lines.specs.Quoted.{after_quote}
use Rattle.line_text.proofs.spellings.after_quote.Given as goal

abbrev pub invariant-chars : goal.invariant-chars
invariant-chars l = after_quote (chars_rest l.chars) ≡ after_quote l.text

abbrev pub decreases-chars : goal.decreases-chars
decreases-chars l = length (chars_rest l.chars)
