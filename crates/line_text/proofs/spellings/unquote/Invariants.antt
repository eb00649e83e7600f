use Rattle.std.proofs.Common.{◌≡◌, length, false}
use Rattle.std.specs.Str.Iter.{chars_rest}
use Rattle.std.specs.String.{string_bytes}
use Rattle.laws_lines.specs.Quoted.{unquote, with_front}
use Rattle.line_text.proofs.spellings.unquote.Given as goal

abbrev pub invariant-chars : goal.invariant-chars
invariant-chars l = with_front (string_bytes l.out) (unquote false (chars_rest l.chars)) ≡ unquote false l.text

abbrev pub decreases-chars : goal.decreases-chars
decreases-chars l = length (chars_rest l.chars)
