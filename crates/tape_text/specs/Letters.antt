-- The body of a line by its first letter. A law says that this is what the tables of words give.
use Rattle.std.specs.Prelude.{ℕ, ◌==◌, List, cond, true, false, None, Some, option_and_then, codes}
use Rattle.std.specs.Option.{option_or}
use Rattle.semantics_lines.specs.Events.{unit, null, bool, of_struct, of_sequence}
use Rattle.laws_lines.specs.Fronts.{strip}
use Rattle.tape_text.specs.Bodies.{opens, closes, next_field, names, tags, holds, Reader, fixed, key_at, str_at, letter_at, hex_at, variant_at, small_at, small_signed_at, large_at, large_signed_at}

-- what is read after some words
abbrev pub worded : List ℕ → Reader → Reader
worded words read text = option_and_then read (strip words text)

-- after a `u`: the rest of `unit`, or a number
abbrev pub unit_or_number : Reader
unit_or_number text = option_or (fixed (codes "nit") (holds unit) text) (worded (codes " ") small_at text)

-- after a `v`: no tag, or its name
abbrev pub tag_after : Reader
tag_after text = option_or (fixed (codes " -") (tags None) text) (worded (codes " \"") variant_at text)

-- after the first letter of a body that owns no text
abbrev pub plain_after : ℕ → Reader
plain_after c text =
    cond (c == 123) (Some (opens of_struct, text)) (cond (c == 125) (Some (closes of_struct, text))
    (cond (c == 91) (Some (opens of_sequence, text)) (cond (c == 93) (Some (closes of_sequence, text))
    (cond (c == 111) (Some (next_field, text)) (cond (c == 117) (unit_or_number text)
    (cond (c == 116) (fixed (codes "rue") (holds (bool true)) text) (cond (c == 102) (fixed (codes "alse") (holds (bool false)) text)
    (cond (c == 110) (fixed (codes "ull") (holds null) text) (cond (c == 118) (tag_after text)
    (cond (c == 99) (worded (codes " ") letter_at text) (cond (c == 105) (worded (codes " ") small_signed_at text)
    (cond (c == 85) (worded (codes " ") large_at text) (cond (c == 73) (worded (codes " ") large_signed_at text) None)))))))))))))

-- after a `k`: no name, or a name
abbrev pub key_after : Reader
key_after text = option_or (fixed (codes " -") (names None) text) (worded (codes " ") key_at text)

-- after the first letter of a body
abbrev pub body_after : ℕ → Reader
body_after c text =
    cond (c == 107) (key_after text) (cond (c == 115) (worded (codes " ") str_at text)
    (cond (c == 98) (worded (codes " ") hex_at text) (plain_after c text)))
