-- Lines of a shape text, as the definitions see them.
use Rattle.std.specs.Prelude.{◌≡◌, ℕ, List, [], map, false, Option, None, Some, option_map, IsTrue}
use Rattle.std.specs.Borrow.{Bor}
use Rattle.semantics_lines.specs.Shapes as shapes
use Rattle.semantics_lines.specs.Scalars.{scalar_drafts}
use Rattle.semantics_lines.specs.ShapeLines as mirror
use Rattle.laws_lines.specs.Quoted.{unquote}
use Rattle.semantics_lines.specs.ShapeText as text
use Rattle.shape_types.specs.Shapes.{skip_rule_of, meta_kind_of, tag_kind_of}
use Rattle.shape_lines.specs.declared.shape_quoted.Quoted.{Quoted}
use Rattle.shape_lines.specs.declared.shape_line.ShapeLine.{ShapeLine}
use Rattle.shape_lines.specs.declared.shape_line.ShapeLine.TheVariants as line
use Rattle.shape_lines.specs.declared.shape_line.Head.{Head}
use Rattle.shape_lines.specs.declared.shape_line.Head.TheVariants as head
use Rattle.shape_lines.specs.declared.shape_line.FormLine.{FormLine}
use Rattle.shape_lines.specs.declared.shape_line.FormLine.TheVariants as form
use Rattle.shape_lines.specs.declared.shape_line.Literal.{Literal}
use Rattle.shape_lines.specs.declared.shape_line.Literal.TheVariants as literal
use Rattle.shape_lines.specs.declared.shape_line.FieldLine.{FieldLine}
use Rattle.shape_lines.specs.declared.shape_line.Body.{Body}
use Rattle.shape_lines.specs.declared.shape_line.Body.TheVariants as body
use Rattle.shape_lines.specs.declared.shape_line.VariantLine.{VariantLine}

-- two texts
abbrev pub one_piece : Bor (List ℕ) × Bor (List ℕ) → List ℕ × List ℕ
one_piece p = (p.0.now, p.1.now)

-- two texts, and a third behind them
abbrev pub two_pieces : (Bor (List ℕ) × Bor (List ℕ)) × Bor (List ℕ) → (List ℕ × List ℕ) × List ℕ
two_pieces p = ((p.0.0.now, p.0.1.now), p.1.now)

-- a number, and what stands behind it
abbrev pub told_number : ℕ × Bor (List ℕ) → ℕ × List ℕ
told_number p = (p.0, p.1.now)

-- the text, where there is one
abbrev pub text_or_none : Option (List ℕ × List ℕ) → List ℕ
text_or_none None = []
text_or_none (Some p) = p.0

-- the text that is meant
abbrev pub told : Quoted → List ℕ
told q = text_or_none (unquote false q.from.now)

abbrev pub told_piece : Quoted × Bor (List ℕ) → List ℕ × List ℕ
told_piece p = (told p.0, p.1.now)

abbrev pub told_pieces : (Quoted × Quoted) × Bor (List ℕ) → (List ℕ × List ℕ) × List ℕ
told_pieces p = ((told p.0.0, told p.0.1), p.1.now)

abbrev pub form_view : FormLine → shapes.EnumForm
form_view form.External = shapes.external
form_view (form.Internal tag by) = shapes.internal (told tag) (tag_kind_of by)
form_view (form.Adjacent tag content by) = shapes.adjacent (told tag) (told content) (tag_kind_of by)
form_view form.Numeric = shapes.numeric
form_view form.Untagged = shapes.untagged
form_view form.Cow = shapes.cow

abbrev pub head_view : Head → mirror.Head
head_view (head.Option shape) = mirror.option_head shape.now
head_view (head.List shape) = mirror.list_head shape.now
head_view (head.Set shape) = mirror.set_head shape.now
head_view (head.Transparent shape) = mirror.transparent_head shape.now
head_view (head.Result shape other) = mirror.result_head shape.now other.now
head_view (head.Map key value) = mirror.map_head key.now value.now
head_view (head.Array len shape) = mirror.array_head len shape.now
head_view head.Unit = mirror.unit_head
head_view head.Tuple = mirror.tuple_head
head_view (head.Struct deny default container) = mirror.struct_head deny default container
head_view (head.Enum form) = mirror.enum_head (form_view form)

abbrev pub literal_view : Literal → mirror.Literal
literal_view literal.Unit = mirror.unit_literal
literal_view (literal.Bool b) = mirror.bool_literal b
literal_view (literal.Char c) = mirror.char_literal c
literal_view (literal.Unsigned n) = mirror.unsigned_literal n
literal_view (literal.Signed z) = mirror.signed_literal z
literal_view (literal.Text quoted) = mirror.text_literal (told quoted)
literal_view literal.None = mirror.none_literal
literal_view literal.Empty = mirror.empty_literal
literal_view literal.Own = mirror.own_literal

abbrev pub field_view : FieldLine → mirror.FieldLine
field_view f = record {
  name = f.name.now;
  shape = f.shape.now;
  rename = option_map told f.rename;
  alias = option_map told f.alias;
  default = option_map literal_view f.default;
  skip = skip_rule_of f.skip;
  flattened = f.flatten;
  metadata = option_map meta_kind_of f.metadata;
}

abbrev pub body_view : Body → mirror.Body
body_view body.Nothing = mirror.no_body
body_view body.Items = mirror.item_body
body_view body.Fields = mirror.field_body

abbrev pub variant_view : VariantLine → mirror.VariantLine
variant_view v = record {
  name = v.name.now;
  body = body_view v.body;
  rename = option_map told v.rename;
  discriminant = v.discriminant;
}

-- what the line says
abbrev pub shape_line : ShapeLine → mirror.ShapeLine
shape_line (line.Head name head) = mirror.head_line name.now (head_view head)
shape_line (line.Item shape) = mirror.item_line shape.now
shape_line (line.Field f) = mirror.field_line (field_view f)
shape_line (line.Variant v) = mirror.variant_line (variant_view v)

-- the line stands at the front, and the rest behind it
abbrev pub StandsAt : List ℕ → mirror.ShapeLine → List ℕ → Type 0
StandsAt t l rest = IsTrue (mirror.is_line l) × (t ≡ text.spelled_before l rest)

-- the first line can't stand there, whatever stands before
abbrev pub IsRefused : List ℕ → text.ShapeTextKind → Type 0
IsRefused t kind = (before : List mirror.ShapeLine) → text.IsRefusedBehind before t kind

-- some texts, in bytes
abbrev pub texts : List (Bor (List ℕ)) → List (List ℕ)
texts rs = map (λ r. r.now) rs

-- the names of the scalars
abbrev pub scalar_texts : List (List ℕ)
scalar_texts = map text.name_of scalar_drafts
