-- Shape texts: lines that describe the shapes behind the scalars, and the faults of a text that is none.
use Rattle.std.specs.Prelude.{◌≡◌, ◌≢◌, ℕ, ◌+◌, ◌≤◌, ◌==◌, List, [], ◌∷◌, ◌++◌, length, map, Bool, true, false, ◌&&◌, if◌then◌else◌, Option, None, Some, option_map, unwrap_or, is_some, slice_get, bytes_eq, IsTrue}
use Rattle.std.specs.List.{list_all, position}
use Rattle.std.specs.Fmt.{decimal}
use Rattle.std.specs.Str.{is_utf8}
use Rattle.semantics_lines.specs.Trees as value
use Rattle.semantics_lines.specs.Shapes.{StructKind, unit_kind, tuple_struct_kind, named_kind, skip_never, tagged_mode, Field, Variant, Definition, option_shape, result_shape, list_shape, array_shape, set_shape, map_shape, struct_shape, enum_shape, transparent_shape, Draft}
use Rattle.semantics_lines.specs.Scalars.{scalar_drafts}
use Rattle.semantics_lines.specs.ShapeFaults.{ShapeFault, shape_limit}
use Rattle.semantics_lines.specs.ShapeLines.{Head, option_head, list_head, set_head, transparent_head, result_head, map_head, array_head, unit_head, tuple_head, struct_head, enum_head, Literal, unit_literal, bool_literal, char_literal, unsigned_literal, signed_literal, text_literal, none_literal, empty_literal, own_literal, FieldLine, Body, no_body, item_body, field_body, VariantLine, ShapeLine, head_line, item_line, field_line, variant_line, spelling, references, is_line}

-- the line and its line feed, and what stands behind
abbrev pub spelled_before : ShapeLine → List ℕ → List ℕ
spelled_before l rest = spelling l ++ (10 ∷ rest)

-- some lines, and what stands behind
abbrev pub lines_before : List ShapeLine → List ℕ → List ℕ
lines_before [] rest = rest
lines_before (l ∷ ls) rest = spelled_before l (lines_before ls rest)

-- the text of some lines
abbrev pub shape_text : List ShapeLine → List ℕ
shape_text ls = lines_before ls []

-- the name of the shape that begins with a line
abbrev pub head_names : ShapeLine → List (List ℕ)
head_names (head_line name head) = name ∷ []
head_names _ = []

-- whether a shape begins with the line
abbrev pub is_head : ShapeLine → Bool
is_head (head_line name head) = true
is_head _ = false

-- the names of the shapes that begin there
abbrev pub shape_names : List ShapeLine → List (List ℕ)
shape_names [] = []
shape_names (l ∷ ls) = head_names l ++ shape_names ls

-- how many shapes there are, with the scalars
abbrev pub shape_count : List ShapeLine → ℕ
shape_count ls = 17 + length (shape_names ls)

-- What may stand next, beside a line with which a shape begins: items or fields, and variants.
pub record Place : Type 0 where
  pub body : Body
  pub variants : Bool

-- what may stand after the line with which a shape begins
abbrev pub place_of : Head → Place
place_of tuple_head = record { body = item_body; variants = false }
place_of (struct_head deny default container) = record { body = field_body; variants = false }
place_of (enum_head form) = record { body = no_body; variants = true }
place_of _ = record { body = no_body; variants = false }

-- what may stand behind a line that stands at a place
abbrev pub place_behind : Place → ShapeLine → Place
place_behind p (head_line name head) = place_of head
place_behind p (variant_line v) = record { body = v.body; variants = true }
place_behind p _ = p

-- an item may stand there
abbrev pub takes_items : Body → Bool
takes_items item_body = true
takes_items _ = false

-- a field may stand there
abbrev pub takes_fields : Body → Bool
takes_fields field_body = true
takes_fields _ = false

-- the line may stand there
abbrev pub may_stand : Place → ShapeLine → Bool
may_stand p (head_line name head) = true
may_stand p (item_line shape) = takes_items p.body
may_stand p (field_line f) = takes_fields p.body
may_stand p (variant_line v) = p.variants

-- the place of the first line
abbrev pub first_place : Place
first_place = record { body = no_body; variants = false }

-- the place behind some lines, the first of which stands at a place
abbrev pub place_after : Place → List ShapeLine → Place
place_after p [] = p
place_after p (l ∷ ls) = place_after (place_behind p l) ls

-- each line may stand where it does
abbrev pub are_in_place : Place → List ShapeLine → Bool
are_in_place p [] = true
are_in_place p (l ∷ ls) = may_stand p l && are_in_place (place_behind p l) ls

-- lines that can stand in a text
pub record AreLines (ls : List ShapeLine) : Type 0 where
  pub good : IsTrue (list_all is_line ls)
  pub placed : IsTrue (are_in_place first_place ls)
  pub few : shape_count ls ≤ shape_limit

-- the name of a shape
abbrev pub name_of : Draft → List ℕ
name_of d = d.name

-- the names of all shapes by their numbers: those of the scalars, and then those of the text
abbrev pub all_names : List ShapeLine → List (List ℕ)
all_names ls = map name_of scalar_drafts ++ shape_names ls

-- A name refers to the first shape that has it.
abbrev pub number_of : List (List ℕ) → List ℕ → Option ℕ
number_of names name = position (λ other. bytes_eq other name) names

-- the shape of a name is there
abbrev pub is_there : List (List ℕ) → List ℕ → Bool
is_there names name = is_some (number_of names name)

-- the shapes that the line refers to are there
abbrev pub is_known : List (List ℕ) → ShapeLine → Bool
is_known names l = list_all (is_there names) (references l)

-- whether the shape that begins with the line is a map
abbrev pub head_maps : ShapeLine → List Bool
head_maps (head_line name (map_head key value)) = true ∷ []
head_maps (head_line name head) = false ∷ []
head_maps _ = []

-- the same for each shape of some lines, in turn
abbrev pub shape_maps : List ShapeLine → List Bool
shape_maps [] = []
shape_maps (l ∷ ls) = head_maps l ++ shape_maps ls

-- What is known of all shapes, by their numbers: the name, and whether it is a map by its own form.
pub record Scope : Type 0 where
  pub names : List (List ℕ)
  pub maps : List Bool

-- a scalar is no map
abbrev pub no_map : Draft → Bool
no_map d = false

-- what is known of all shapes that some lines begin, after the scalars
abbrev pub scope_of : List ShapeLine → Scope
scope_of ls = record { names = all_names ls; maps = map no_map scalar_drafts ++ shape_maps ls }

-- the number of a shape; a name that is not there would give the number 0
abbrev pub number_in : Scope → List ℕ → ℕ
number_in scope name = unwrap_or (number_of scope.names name) 0

-- the shape of a number is a map
abbrev pub is_map_at : Scope → ℕ → Bool
is_map_at scope number = unwrap_or (slice_get scope.maps number) false

-- The value of a default, where `over_map` says that its shape is a map. The default of a shape (`own`) isn't built
-- yet: a draft says only that there is one, by the unit value, and no value of it is made of that.
abbrev pub literal_tree : Bool → Literal → value.Tree
literal_tree over_map unit_literal = value.unit_value
literal_tree over_map (bool_literal b) = value.bool_value b
literal_tree over_map (char_literal c) = value.char_value c
literal_tree over_map (unsigned_literal n) = value.unsigned n
literal_tree over_map (signed_literal z) = value.signed z
literal_tree over_map (text_literal t) = value.text (record { bytes = t; borrowed = false })
literal_tree over_map none_literal = value.none
literal_tree over_map empty_literal = if over_map then value.mapping value.no_pairs else value.list value.no_trees
literal_tree over_map own_literal = value.unit_value

-- the field of a line
abbrev pub field_said : Scope → FieldLine → Field
field_said scope f = record {
  name = f.name;
  rename = f.rename;
  alias = f.alias;
  shape = number_in scope f.shape;
  default = option_map (literal_tree (is_map_at scope (number_in scope f.shape))) f.default;
  skip = f.skip;
  flattened = f.flattened;
  metadata = f.metadata;
  proxy = None;
}

-- an item: its name is its place
abbrev pub item_said : Scope → ℕ → List ℕ → Field
item_said scope at shape = record {
  name = decimal at;
  rename = None;
  alias = None;
  shape = number_in scope shape;
  default = None;
  skip = skip_never;
  flattened = false;
  metadata = None;
  proxy = None;
}

-- the items and fields at the front of some lines, the first of them at this place
abbrev pub members : Scope → ℕ → List ShapeLine → List Field
members scope at (item_line shape ∷ after) = item_said scope at shape ∷ members scope (at + 1) after
members scope at (field_line f ∷ after) = field_said scope f ∷ members scope (at + 1) after
members scope at _ = []

-- the form of a variant's fields
abbrev pub kind_of : Body → StructKind
kind_of no_body = unit_kind
kind_of item_body = tuple_struct_kind
kind_of field_body = named_kind

-- the variant that a line tells, with the fields after it
abbrev pub variant_said : VariantLine → List Field → Variant
variant_said v fields = record {
  name = v.name;
  rename = v.rename;
  kind = kind_of v.body;
  fields = fields;
  discriminant = v.discriminant;
  mode = tagged_mode;
}

-- the variants up to the next shape, each with the fields that stand behind it
abbrev pub variants : Scope → List ShapeLine → List Variant
variants scope [] = []
variants scope (head_line name head ∷ after) = []
variants scope (item_line shape ∷ after) = variants scope after
variants scope (field_line f ∷ after) = variants scope after
variants scope (variant_line v ∷ after) = variant_said v (members scope 0 after) ∷ variants scope after

-- The declared default of a struct is the struct of its fields' defaults. That isn't built yet: a draft says only that
-- there is one, by the unit value, and no value of it is made of that.
abbrev pub struct_default : Bool → Option value.Tree
struct_default true = Some value.unit_value
struct_default false = None

-- the shape of a head, with the lines behind it
abbrev pub definition_said : Scope → Head → List ShapeLine → Definition
definition_said scope (option_head shape) after = option_shape (number_in scope shape)
definition_said scope (list_head shape) after = list_shape (number_in scope shape)
definition_said scope (set_head shape) after = set_shape (number_in scope shape)
definition_said scope (transparent_head shape) after = transparent_shape (number_in scope shape)
definition_said scope (result_head shape other) after = result_shape (number_in scope shape) (number_in scope other)
definition_said scope (map_head key value) after = map_shape (number_in scope key) (number_in scope value)
definition_said scope (array_head len shape) after = array_shape (number_in scope shape) len
definition_said scope unit_head after = struct_shape (record { kind = unit_kind; fields = []; deny = false; default = None; container = false })
definition_said scope tuple_head after = struct_shape (record { kind = tuple_struct_kind; fields = members scope 0 after; deny = false; default = None; container = false })
definition_said scope (struct_head deny default container) after =
    struct_shape (record { kind = named_kind; fields = members scope 0 after; deny = deny; default = struct_default default; container = container })
definition_said scope (enum_head form) after = enum_shape form (variants scope after)

-- the shape that begins with a head, with the lines after it
abbrev pub draft_said : Scope → List ℕ → Head → List ShapeLine → Draft
draft_said scope name head after = record { name = name; definition = Some (definition_said scope head after); proxy = None }

-- each shape that begins in some lines
abbrev pub drafts_said : Scope → List ShapeLine → List Draft
drafts_said scope [] = []
drafts_said scope (head_line name head ∷ after) = draft_said scope name head after ∷ drafts_said scope after
drafts_said scope (item_line shape ∷ after) = drafts_said scope after
drafts_said scope (field_line f ∷ after) = drafts_said scope after
drafts_said scope (variant_line v ∷ after) = drafts_said scope after

-- the scalars, and then the shapes of the lines
abbrev pub shapes_of : List ShapeLine → List Draft
shapes_of ls = scalar_drafts ++ drafts_said (scope_of ls) ls

-- Why a text describes no shapes.
pub data ShapeTextKind : Type 0 where
  -- a line that is no text
  not_utf8 : ShapeTextKind
  -- a line that says nothing, or has no line feed
  bad_line : ShapeTextKind
  -- an item, a field or a variant where none may stand
  out_of_place : ShapeTextKind
  -- a line that refers to a shape which isn't there
  unknown_ref : ShapeTextKind
  -- more shapes than a registry takes
  too_many : ShapeTextKind
  -- a rule of the registry is broken
  check : ShapeFault → ShapeTextKind

-- the bytes before the first line feed, or all
abbrev pub first_line : List ℕ → List ℕ
first_line [] = []
first_line (b ∷ bs) = if b == 10 then [] else b ∷ first_line bs

-- no line stands at the front
abbrev pub BeginsWithNone : List ℕ → Type 0
BeginsWithNone text = (l : ShapeLine) (rest : List ℕ) → IsTrue (is_line l) → text ≢ spelled_before l rest

-- this line stands at the front
pub record BeginsWith (text : List ℕ) (l : ShapeLine) : Type 0 where
  pub rest : List ℕ
  pub good : IsTrue (is_line l)
  pub is : text ≡ spelled_before l rest

-- The first line of what is left can't stand behind these lines.
abbrev pub IsRefusedBehind : List ShapeLine → List ℕ → ShapeTextKind → Type 0
IsRefusedBehind ls left not_utf8 = is_utf8 (first_line left) ≡ false
IsRefusedBehind ls left bad_line = (left ≢ []) × IsTrue (is_utf8 (first_line left)) × BeginsWithNone left
IsRefusedBehind ls left out_of_place = (l : ShapeLine) × BeginsWith left l × (may_stand (place_after first_place ls) l ≡ false)
IsRefusedBehind ls left too_many = (l : ShapeLine) × BeginsWith left l × IsTrue (is_head l) × (shape_count ls ≡ shape_limit)
IsRefusedBehind ls left unknown_ref = ⊥
IsRefusedBehind ls left (check fault) = ⊥
