-- A line of a shape text, read from the left: code that reads one is proved to give what this gives, and a law says that
-- this is what the line says.
use Rattle.std.specs.Prelude.{ℕ, ℤ, ◌^◌, nat_lt, List, [], Bool, true, false, cond, Option, None, Some, option_map, option_and_then, unwrap_or, codes, bytes_eq}
use Rattle.semantics_lines.specs.Shapes.{SkipRule, skip_never, skip_always, skip_none, skip_empty, skip_default, MetaKind, span_meta, doc_meta, tag_meta, TagKind, by_name, by_unsigned, by_signed, EnumForm, external, internal, adjacent, numeric, untagged, cow}
use Rattle.semantics_lines.specs.ShapeLines.{is_name, Head, option_head, list_head, set_head, transparent_head, result_head, map_head, array_head, unit_head, tuple_head, struct_head, enum_head, Literal, unit_literal, bool_literal, char_literal, unsigned_literal, signed_literal, text_literal, none_literal, empty_literal, own_literal, FieldLine, Body, no_body, item_body, field_body, VariantLine, ShapeLine, head_line, item_line, field_line, variant_line}
use Rattle.laws_lines.specs.Fronts.{strip, until_space, number_at, signed_at}
use Rattle.laws_lines.specs.Quoted.{quoted_at, char_at}

-- the first of two answers that is there
abbrev pub or_else : {A : Type 0} → Option A → Option A → Option A
or_else None other = other
or_else (Some x) other = Some x

-- what was found, where nothing stands behind it
abbrev pub ended : {A : Type 0} → A × List ℕ → Option A
ended p = cond (bytes_eq p.1 []) (Some p.0) None

-- a word that means this, and what stands behind it
abbrev pub word_at : {A : Type 0} → List ℕ → A → List ℕ → Option (A × List ℕ)
word_at word meant text = option_map (λ rest. (meant, rest)) (strip word text)

-- some words and what is read behind them
abbrev pub behind : {A : Type 0} → List ℕ → (List ℕ → Option (A × List ℕ)) → List ℕ → Option (A × List ℕ)
behind words inner text = option_and_then inner (strip words text)

-- the same, where nothing stands behind that
abbrev pub whole : {A : Type 0} → List ℕ → (List ℕ → Option (A × List ℕ)) → List ℕ → Option A
whole words inner text = option_and_then ended (behind words inner text)

-- what was found, or nothing of the text
abbrev pub or_nothing : {A : Type 0} → List ℕ → Option (A × List ℕ) → Option A × List ℕ
or_nothing text None = (None, text)
or_nothing text (Some p) = (Some p.0, p.1)

-- what stands behind some words, where they stand and it can be read
unfoldable pub attribute : {A : Type 0} → List ℕ → (List ℕ → Option (A × List ℕ)) → List ℕ → Option A × List ℕ
attribute words inner text = or_nothing text (behind words inner text)

abbrev pub or_false : List ℕ → Option (List ℕ) → Bool × List ℕ
or_false text None = (false, text)
or_false text (Some rest) = (true, rest)

-- whether some words stand there, and what stands behind them
unfoldable pub flag_at : List ℕ → List ℕ → Bool × List ℕ
flag_at words text = or_false text (strip words text)

-- a name up to the end of the word
unfoldable pub name_at : List ℕ → Option (List ℕ × List ℕ)
name_at text = cond (is_name (until_space text).0) (Some (until_space text)) None

-- two names, a space between them
unfoldable pub names_at : List ℕ → Option ((List ℕ × List ℕ) × List ℕ)
names_at text = option_and_then (λ p. option_map (λ q. ((p.0, q.0), q.1)) (behind (codes " ") name_at p.1)) (name_at text)

-- a number of so many bits, where it fits
abbrev pub below : ℕ → ℕ → Option ℕ
below bits n = cond (nat_lt n (2 ^ bits)) (Some n) None

-- two texts between quotes, a space between them
unfoldable pub quotes_at : List ℕ → Option ((List ℕ × List ℕ) × List ℕ)
quotes_at text = option_and_then (λ p. option_map (λ q. ((p.0, q.0), q.1)) (behind (codes " ") quoted_at p.1)) (quoted_at text)

-- how a tag names its variant, up to the end
unfoldable pub tag_kind_of : List ℕ → Option TagKind
tag_kind_of text = cond (bytes_eq text []) (Some by_name) (cond (bytes_eq text (codes " unsigned")) (Some by_unsigned) (cond (bytes_eq text (codes " signed")) (Some by_signed) None))

-- a shape over another one
unfoldable pub over_one : List ℕ → Option Head
over_one text = or_else (option_map option_head (whole (codes " option ") name_at text)) (or_else (option_map list_head (whole (codes " list ") name_at text)) (or_else (option_map set_head (whole (codes " set ") name_at text)) (option_map transparent_head (whole (codes " transparent ") name_at text))))

-- a shape over two others
unfoldable pub over_two : List ℕ → Option Head
over_two text = or_else (option_map (λ p. result_head p.0 p.1) (whole (codes " result ") names_at text)) (option_map (λ p. map_head p.0 p.1) (whole (codes " map ") names_at text))

abbrev pub array_behind : ℕ × List ℕ → Option Head
array_behind p = option_and_then (λ len. option_map (array_head len) (whole (codes " ") name_at p.1)) (below 32 p.0)

unfoldable pub array_of : List ℕ → Option Head
array_of text = option_and_then array_behind (behind (codes " array ") (number_at 128) text)

-- a struct without names
unfoldable pub bare_of : List ℕ → Option Head
bare_of text = cond (bytes_eq text (codes " unit")) (Some unit_head) (cond (bytes_eq text (codes " tuple")) (Some tuple_head) None)

abbrev pub struct_by : Bool × List ℕ → Bool × List ℕ → Bool × List ℕ → Option Head
struct_by deny default container = ended (struct_head deny.0 default.0 container.0, container.1)

abbrev pub struct_behind : List ℕ → Option Head
struct_behind text = struct_by (flag_at (codes " deny") text) (flag_at (codes " default") (flag_at (codes " deny") text).1) (flag_at (codes " container") (flag_at (codes " default") (flag_at (codes " deny") text).1).1)

unfoldable pub struct_of : List ℕ → Option Head
struct_of text = option_and_then struct_behind (strip (codes " struct") text)

-- an enum without a tag of its own
unfoldable pub untagged_form : List ℕ → Option EnumForm
untagged_form text = cond (bytes_eq text (codes " external")) (Some external) (cond (bytes_eq text (codes " numeric")) (Some numeric) (cond (bytes_eq text (codes " untagged")) (Some untagged) (cond (bytes_eq text (codes " cow")) (Some cow) None)))

unfoldable pub internal_form : List ℕ → Option EnumForm
internal_form text = option_and_then (λ p. option_map (internal p.0) (tag_kind_of p.1)) (behind (codes " internal ") quoted_at text)

unfoldable pub adjacent_form : List ℕ → Option EnumForm
adjacent_form text = option_and_then (λ p. option_map (adjacent p.0.0 p.0.1) (tag_kind_of p.1)) (behind (codes " adjacent ") quotes_at text)

unfoldable pub form_of : List ℕ → Option EnumForm
form_of text = or_else (untagged_form text) (or_else (internal_form text) (adjacent_form text))

unfoldable pub enum_of : List ℕ → Option Head
enum_of text = option_and_then (λ rest. option_map enum_head (form_of rest)) (strip (codes " enum") text)

-- what is said of a shape behind its name
unfoldable pub head_of : List ℕ → Option Head
head_of text = or_else (over_one text) (or_else (over_two text) (or_else (array_of text) (or_else (bare_of text) (or_else (struct_of text) (enum_of text)))))

-- a default that is a word by itself
unfoldable pub plain_literal : List ℕ → Option (Literal × List ℕ)
plain_literal text = or_else (word_at (codes "unit") unit_literal text) (or_else (word_at (codes "true") (bool_literal true) text) (or_else (word_at (codes "false") (bool_literal false) text) (or_else (word_at (codes "none") none_literal text) (or_else (word_at (codes "empty") empty_literal text) (word_at (codes "own") own_literal text)))))

-- a word and a default behind it
abbrev pub told_literal : {A : Type 0} → (A → Literal) → Option (A × List ℕ) → Option (Literal × List ℕ)
told_literal make found = option_map (λ p. (make p.0, p.1)) found

unfoldable pub worded_literal : List ℕ → Option (Literal × List ℕ)
worded_literal text = or_else (told_literal char_literal (behind (codes "c ") char_at text)) (or_else (told_literal unsigned_literal (behind (codes "u ") (number_at 128) text)) (or_else (told_literal signed_literal (behind (codes "i ") (signed_at 127 128) text)) (told_literal text_literal (behind (codes "s ") quoted_at text))))

unfoldable pub literal_at : List ℕ → Option (Literal × List ℕ)
literal_at text = or_else (plain_literal text) (worded_literal text)

unfoldable pub skip_at : List ℕ → Option (SkipRule × List ℕ)
skip_at text = or_else (word_at (codes "always") skip_always text) (or_else (word_at (codes "none") skip_none text) (or_else (word_at (codes "empty") skip_empty text) (word_at (codes "default") skip_default text)))

unfoldable pub meta_at : List ℕ → Option (MetaKind × List ℕ)
meta_at text = or_else (word_at (codes "span") span_meta text) (or_else (word_at (codes "doc") doc_meta text) (word_at (codes "tag") tag_meta text))

-- a field of this name and shape, with the attributes that stand there
unfoldable pub attributed : List ℕ → List ℕ → List ℕ → Option FieldLine
attributed name shape text =
    let rename = attribute (codes " rename ") quoted_at text in
    let alias = attribute (codes " alias ") quoted_at rename.1 in
    let default = attribute (codes " default ") literal_at alias.1 in
    let skip = attribute (codes " skip ") skip_at default.1 in
    let flattened = flag_at (codes " flatten") skip.1 in
    let metadata = attribute (codes " meta ") meta_at flattened.1 in
    ended (record { name = name; shape = shape; rename = rename.0; alias = alias.0; default = default.0; skip = unwrap_or skip.0 skip_never; flattened = flattened.0; metadata = metadata.0 }, metadata.1)

unfoldable pub field_of : List ℕ → Option FieldLine
field_of text = option_and_then (λ p. attributed p.0.0 p.0.1 p.1) (names_at text)

unfoldable pub body_at : List ℕ → Option (Body × List ℕ)
body_at text = or_else (word_at (codes " unit") no_body text) (or_else (word_at (codes " tuple") item_body text) (word_at (codes " struct") field_body text))

abbrev pub variant_by : List ℕ → Body → Option (List ℕ) × List ℕ → Option ℤ × List ℕ → Option VariantLine
variant_by name body rename discriminant = ended (record { name = name; body = body; rename = rename.0; discriminant = discriminant.0 }, discriminant.1)

unfoldable pub variant_behind : List ℕ → Body → List ℕ → Option VariantLine
variant_behind name body text =
    let rename = attribute (codes " rename ") quoted_at text in
    variant_by name body rename (attribute (codes " disc ") (signed_at 63 64) rename.1)

unfoldable pub variant_of : List ℕ → Option VariantLine
variant_of text = option_and_then (λ p. option_and_then (λ q. variant_behind p.0 q.0 q.1) (body_at p.1)) (name_at text)

unfoldable pub head_line_of : List ℕ → Option ShapeLine
head_line_of text = option_and_then (λ p. option_map (head_line p.0) (head_of p.1)) (behind (codes "shape ") name_at text)

unfoldable pub item_line_of : List ℕ → Option ShapeLine
item_line_of text = option_map item_line (whole (codes "item ") name_at text)

unfoldable pub field_line_of : List ℕ → Option ShapeLine
field_line_of text = option_map field_line (option_and_then field_of (strip (codes "field ") text))

unfoldable pub variant_line_of : List ℕ → Option ShapeLine
variant_line_of text = option_map variant_line (option_and_then variant_of (strip (codes "variant ") text))

-- what a line without its line feed says
unfoldable pub line_of : List ℕ → Option ShapeLine
line_of text = or_else (head_line_of text) (or_else (item_line_of text) (or_else (field_line_of text) (variant_line_of text)))
