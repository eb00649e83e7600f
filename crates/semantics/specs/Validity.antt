-- Which shapes and values are read back as they were written.
use Rattle.std.specs.Prelude.{◌≡◌, ℕ, zero, suc, length, Bool, true, false, List, [], ◌∷◌, Option, Some, None, Contains}
use Rattle.semantics_lines.specs.Texts.{Phrase}
use Rattle.semantics_lines.specs.Trees.{Tree, text, some, ok, err, list, structure, Trees, no_trees, tree}
use Rattle.semantics_lines.specs.Shapes.{unit_type, str_type, is_tuple, Field, Definition, scalar_shape, option_shape, result_shape, list_shape, array_shape, struct_shape, transparent_shape, Registry, definition_at}
use Rattle.semantics.specs.Typed.{option_at, ok_at, err_at, item_at, struct_at, on_some, base}
use Rattle.semantics.specs.Places.{Choice}
use Rattle.semantics.specs.Keys.{Declared, path_of, keys}
use Rattle.semantics.specs.Reading.{plain_layout}

-- the shapes that a definition refers to
abbrev pub field_shapes : List Field → List ℕ
field_shapes [] = []
field_shapes (f ∷ fs) = f.shape ∷ field_shapes fs

-- the shapes that a definition refers to, of each form that is built
abbrev pub part_shapes : Definition → List ℕ
part_shapes (option_shape s) = s ∷ []
part_shapes (result_shape s t) = s ∷ t ∷ []
part_shapes (list_shape s) = s ∷ []
part_shapes (array_shape s n) = s ∷ []
part_shapes (struct_shape s) = field_shapes s.fields
part_shapes (transparent_shape s) = s ∷ []
part_shapes _ = []

-- the same of a shape that may be missing
abbrev pub parts_at : Option Definition → List ℕ
parts_at None = []
parts_at (Some d) = part_shapes d

-- t is a part of s
abbrev pub IsPart : Registry → ℕ → ℕ → Type 0
IsPart g s t = Contains (parts_at (definition_at g s)) t

-- from s one comes to t by these parts
abbrev pub Leads : Registry → ℕ → List ℕ → ℕ → Type 0
Leads g s [] t = t ≡ s
Leads g s (u ∷ us) t = IsPart g s u × Leads g u us t

-- t is the root or a part of what is reached
abbrev pub Reached : Registry → ℕ → ℕ → Type 0
Reached g root t = (us : List ℕ) × Leads g root us t

-- no two keys have one text
abbrev pub Distinct : List Declared → Type 0
Distinct [] = Unit {0}
Distinct (x ∷ xs) = (path_of xs x.item ≡ None) × Distinct xs

-- a value may be written as null, where `inner` tells it of the shapes that it may be written as itself
abbrev pub is_null_form : (ℕ → Bool) → Definition → Bool
is_null_form inner (scalar_shape unit_type) = true
is_null_form inner (option_shape s) = true
is_null_form inner _ = false

-- the same of the shape of a number, looked for through so many shapes
abbrev pub null_within : Registry → ℕ → ℕ → Bool
null_within g zero s = false
null_within g (suc n) s = on_some (base g s) (is_null_form (null_within g n))

-- a value of the shape of a number may be written as null
abbrev pub may_be_null : Registry → ℕ → Bool
may_be_null g s = null_within g (length g) s

-- Why the values of a shape can't all be read back from what they are written as.
pub data Clash : Type 0 where
  -- two keys of one text, under some choice of variants
  repeated_key : Clash
  -- an option of what may be written as null itself
  option_over_null : Clash
  -- a field isn't written whose value isn't its fill
  skip_loses_value : Clash
  -- a variant that has no form beside an internal tag
  no_written_form : Clash
  -- a flattened variant that is a tuple of another length than 1
  unreadable_form : Clash
  -- a map whose keys are no texts and no whole numbers
  other_map_key : Clash
  -- a set of items that are more than scalars
  other_set_item : Clash
  -- an enum whose variants are told apart by their content alone
  untagged_variants : Clash
  -- a text that has to be borrowed
  borrowed_text : Clash

-- no two keys of an object have one text, whatever the choice of variants
abbrev pub HasDistinctKeys : Registry → Definition → Type 0
HasDistinctKeys g (struct_shape s) = is_tuple s.kind ≡ false → (c : Choice) → Distinct (keys g (plain_layout s) c)
HasDistinctKeys g _ = Unit {0}

-- no option holds what may be written as null itself
abbrev pub HoldsNoNull : Registry → Definition → Type 0
HoldsNoNull g (option_shape s) = may_be_null g s ≡ false
HoldsNoNull g _ = Unit {0}

-- no text has to be borrowed
abbrev pub OwnsTexts : Definition → Type 0
OwnsTexts (scalar_shape str_type) = ⊥
OwnsTexts _ = Unit {0}

-- What a definition has to keep, that it has no such clash. The clashes of forms that aren't built ask for nothing yet.
abbrev pub IsFreeOf : Clash → Registry → Definition → Type 0
IsFreeOf repeated_key g d = HasDistinctKeys g d
IsFreeOf option_over_null g d = HoldsNoNull g d
IsFreeOf borrowed_text g d = OwnsTexts d
IsFreeOf _ g d = Unit {0}

-- which clashes are barred
abbrev pub Bars : Type 0
Bars = Clash → Bool

-- each of them
abbrev pub every_clash : Bars
every_clash k = true

-- a definition has none of the clashes that are barred
abbrev pub HasNoClash : Bars → Registry → Definition → Type 0
HasNoClash bars g d = (k : Clash) → bars k ≡ true → IsFreeOf k g d

-- a shape that is there has no clash
abbrev pub IsApart : Bars → Registry → Option Definition → Type 0
IsApart bars g None = Unit {0}
IsApart bars g (Some d) = HasNoClash bars g d

-- no shape that is reached from the root has a clash that is barred
abbrev pub Separable : Bars → Registry → ℕ → Type 0
Separable bars g root = (s : ℕ) → Reached g root s → IsApart bars g (definition_at g s)

-- A value is clean where each field that is never written holds its fill. No field is left out yet.
abbrev pub Clean : Registry → ℕ → Tree → Type 0
Clean g root v = Unit {0}

-- the same text, borrowed or not
abbrev pub AlikeText : Phrase → Tree → Type 0
AlikeText t w = (u : Phrase) × (w ≡ text u) × (u.bytes ≡ t.bytes)

-- the part is there, and has the property
abbrev pub OnPart : {A : Type 0} → Option A → (A → Type 0) → Type 0
OnPart None P = ⊥
OnPart (Some x) P = P x

-- One value, but for metadata, for what is borrowed, and for which variant of a cow enum stands.
abbrev mutual
  pub Alike : Registry → ℕ → Tree → Tree → Type 0
  Alike g s (text t) w = AlikeText t w
  Alike g s (some v) w = OnPart (option_at g s) (λ i. (w' : Tree) × (w ≡ some w') × Alike g i v w')
  Alike g s (ok v) w = OnPart (ok_at g s) (λ i. (w' : Tree) × (w ≡ ok w') × Alike g i v w')
  Alike g s (err v) w = OnPart (err_at g s) (λ i. (w' : Tree) × (w ≡ err w') × Alike g i v w')
  Alike g s (list vs) w = OnPart (item_at g s) (λ i. (ws : Trees) × (w ≡ list ws) × EachAlike g i vs ws)
  Alike g s (structure vs) w = OnPart (struct_at g s) (λ d. (ws : Trees) × (w ≡ structure ws) × FieldsAlike g d.fields vs ws)
  Alike g s v w = w ≡ v

  pub EachAlike : Registry → ℕ → Trees → Trees → Type 0
  EachAlike g s no_trees ws = ws ≡ no_trees
  EachAlike g s (tree v vs) ws = (w : Tree) × (ws' : Trees) × (ws ≡ tree w ws') × Alike g s v w × EachAlike g s vs ws'

  pub FieldsAlike : Registry → List Field → Trees → Trees → Type 0
  FieldsAlike g (f ∷ fs) (tree v vs) ws = (w : Tree) × (ws' : Trees) × (ws ≡ tree w ws') × Alike g f.shape v w × FieldsAlike g fs vs ws'
  FieldsAlike g _ vs ws = ws ≡ vs
