-- Shapes, as the definitions see them.
use Rattle.std.specs.Prelude.{List, map, option_map}
use Rattle.semantics_lines.specs.Shapes as mirror
use Rattle.shape_types.specs.Scalars.{scalar_type_of}
use Rattle.shape_types.specs.Trees.{tree_of}
use Rattle.shape_types.specs.declared.field.StructKind.{StructKind}
use Rattle.shape_types.specs.declared.field.StructKind.TheVariants as struct_kind
use Rattle.shape_types.specs.declared.field.SkipRule.{SkipRule}
use Rattle.shape_types.specs.declared.field.SkipRule.TheVariants as skip
use Rattle.shape_types.specs.declared.field.MetaKind.{MetaKind}
use Rattle.shape_types.specs.declared.field.MetaKind.TheVariants as meta
use Rattle.shape_types.specs.declared.field.Field.{Field}
use Rattle.shape_types.specs.declared.field.StructDef.{StructDef}
use Rattle.shape_types.specs.declared.enums.VariantMode.{VariantMode}
use Rattle.shape_types.specs.declared.enums.VariantMode.TheVariants as mode
use Rattle.shape_types.specs.declared.enums.TagKind.{TagKind}
use Rattle.shape_types.specs.declared.enums.TagKind.TheVariants as by
use Rattle.shape_types.specs.declared.enums.Variant.{Variant}
use Rattle.shape_types.specs.declared.enums.EnumForm.{EnumForm}
use Rattle.shape_types.specs.declared.enums.EnumForm.TheVariants as form
use Rattle.shape_types.specs.declared.definition.Def.{Def}
use Rattle.shape_types.specs.declared.definition.Def.TheVariants as def
use Rattle.shape_types.specs.declared.shape.Shape.{Shape}
use Rattle.shape_types.specs.declared.draft.Draft.{Draft}

-- the form of a struct
abbrev pub struct_kind_of : StructKind → mirror.StructKind
struct_kind_of struct_kind.Unit = mirror.unit_kind
struct_kind_of struct_kind.Tuple = mirror.tuple_kind
struct_kind_of struct_kind.TupleStruct = mirror.tuple_struct_kind
struct_kind_of struct_kind.Struct = mirror.named_kind

-- when a field isn't written
abbrev pub skip_rule_of : SkipRule → mirror.SkipRule
skip_rule_of skip.Never = mirror.skip_never
skip_rule_of skip.Always = mirror.skip_always
skip_rule_of skip.None = mirror.skip_none
skip_rule_of skip.Empty = mirror.skip_empty
skip_rule_of skip.Default = mirror.skip_default

-- what a metadata field holds
abbrev pub meta_kind_of : MetaKind → mirror.MetaKind
meta_kind_of meta.Span = mirror.span_meta
meta_kind_of meta.Doc = mirror.doc_meta
meta_kind_of meta.Tag = mirror.tag_meta

-- how a variant is chosen
abbrev pub variant_mode_of : VariantMode → mirror.VariantMode
variant_mode_of mode.Tagged = mirror.tagged_mode
variant_mode_of mode.Other = mirror.other_mode
variant_mode_of mode.Untagged = mirror.untagged_mode

-- how a tag names its variant
abbrev pub tag_kind_of : TagKind → mirror.TagKind
tag_kind_of by.Name = mirror.by_name
tag_kind_of by.Unsigned = mirror.by_unsigned
tag_kind_of by.Signed = mirror.by_signed

-- a field, with its shape by number
abbrev pub field_of : Field → mirror.Field
field_of f = record {
  name = f.name;
  rename = f.rename;
  alias = f.alias;
  shape = f.shape.0;
  default = option_map tree_of f.default;
  skip = skip_rule_of f.skip;
  flattened = f.flatten;
  metadata = option_map meta_kind_of f.metadata;
  proxy = f.proxy;
}

-- what a struct is made of
abbrev pub struct_shape_of : StructDef → mirror.StructShape
struct_shape_of d = record {
  kind = struct_kind_of d.kind;
  fields = map field_of d.fields;
  deny = d.deny_unknown_fields;
  default = option_map tree_of d.default;
  container = d.container;
}

-- a variant of an enum
abbrev pub variant_of : Variant → mirror.Variant
variant_of v = record {
  name = v.name;
  rename = v.rename;
  kind = struct_kind_of v.kind;
  fields = map field_of v.fields;
  discriminant = v.discriminant;
  mode = variant_mode_of v.mode;
}

-- how the variants of an enum are told apart
abbrev pub enum_form_of : EnumForm → mirror.EnumForm
enum_form_of form.External = mirror.external
enum_form_of (form.Internal tag by) = mirror.internal tag (tag_kind_of by)
enum_form_of (form.Adjacent tag content by) = mirror.adjacent tag content (tag_kind_of by)
enum_form_of form.Numeric = mirror.numeric
enum_form_of form.Untagged = mirror.untagged
enum_form_of form.Cow = mirror.cow

-- what a shape is made of
abbrev pub definition_of : Def → mirror.Definition
definition_of (def.Scalar t) = mirror.scalar_shape (scalar_type_of t)
definition_of (def.Option s) = mirror.option_shape s.0
definition_of (def.Result s t) = mirror.result_shape s.0 t.0
definition_of (def.List s) = mirror.list_shape s.0
definition_of (def.Array s len) = mirror.array_shape s.0 len
definition_of (def.Set s) = mirror.set_shape s.0
definition_of (def.Map s t) = mirror.map_shape s.0 t.0
definition_of (def.Struct d) = mirror.struct_shape (struct_shape_of d)
definition_of (def.Enum d) = mirror.enum_shape (enum_form_of d.form) (map variant_of d.variants)
definition_of (def.Transparent s) = mirror.transparent_shape s.0

-- a shape
abbrev pub shape_of : Shape → mirror.Shape
shape_of s = record { name = s.name; definition = definition_of s.def; proxy = s.proxy }

-- a shape that is being built
abbrev pub draft_of : Draft → mirror.Draft
draft_of d = record { name = d.name; definition = option_map definition_of d.def; proxy = d.proxy }

-- the shapes, by their numbers
abbrev pub registry : List Shape → mirror.Registry
registry shapes = map shape_of shapes

-- the shapes that are being built, by their numbers
abbrev pub drafts_of : List Draft → List mirror.Draft
drafts_of drafts = map draft_of drafts
