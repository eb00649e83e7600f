-- The definitions on a small example: a struct of two numbers.
use Rattle.std.specs.Prelude.{◌≡◌, ℕ, List, [], ◌∷◌, ◌++◌, true, false, Some, None, Ok, codes}
use Rattle.std.specs.List.{flat_map}
use Rattle.semantics_lines.specs.Trees.{Tree, unsigned, structure, no_trees, tree}
use Rattle.semantics_lines.specs.Shapes.{bits8, bits16, bits32, bits64, bits128, address, ScalarType, unit_type, bool_type, char_type, unsigned_type, signed_type, string_type, str_type, named_kind, skip_never, Field, scalar_shape, struct_shape, Shape, Registry}
use Rattle.semantics_lines.specs.Scalars.{u64_number}
use Rattle.semantics_lines.specs.Events.{Note, no_note, u64, named, scalar, key, of_struct, object_kind, Event, leaf, start, stop}
use Rattle.semantics.specs.Runs.{Inside, close, loose, Run, group}
use Rattle.semantics.specs.Registry.{IsRegistry}
use Rattle.semantics_lines.specs.Calls.{u64_literal}
use Rattle.semantics_lines.specs.Documents.{free, Document, plain, object, no_members, member, on_tape}
use Rattle.semantics.specs.Typed.{typed}
use Rattle.semantics.specs.Writing.{write}
use Rattle.semantics.specs.Reading.{Setting, from_events, read}
use Rattle.semantics.specs.Depths.{depth}
use Rattle.semantics_lines.specs.Tapes.{document_tape, IsTape}

abbrev pub scalar_row : List ℕ → ScalarType → Shape
scalar_row name type = record { name = name; definition = scalar_shape type; proxy = None }

abbrev pub number_field : List ℕ → Field
number_field name = record { name = name; rename = None; alias = None; shape = u64_number; default = None; skip = skip_never; flattened = false; metadata = None; proxy = None }

abbrev pub x : List ℕ
x = codes "x"

abbrev pub y : List ℕ
y = codes "y"

abbrev pub point_shape : Shape
point_shape = record {
  name = codes "Point";
  definition = struct_shape (record { kind = named_kind; fields = number_field x ∷ number_field y ∷ []; deny = false; default = None; container = false });
  proxy = None;
}

-- the scalars, and then a point
abbrev pub shapes : Registry
shapes =
    scalar_row (codes "unit") unit_type
    ∷ scalar_row (codes "bool") bool_type
    ∷ scalar_row (codes "char") char_type
    ∷ scalar_row (codes "u8") (unsigned_type bits8)
    ∷ scalar_row (codes "u16") (unsigned_type bits16)
    ∷ scalar_row (codes "u32") (unsigned_type bits32)
    ∷ scalar_row (codes "u64") (unsigned_type bits64)
    ∷ scalar_row (codes "u128") (unsigned_type bits128)
    ∷ scalar_row (codes "usize") (unsigned_type address)
    ∷ scalar_row (codes "i8") (signed_type bits8)
    ∷ scalar_row (codes "i16") (signed_type bits16)
    ∷ scalar_row (codes "i32") (signed_type bits32)
    ∷ scalar_row (codes "i64") (signed_type bits64)
    ∷ scalar_row (codes "i128") (signed_type bits128)
    ∷ scalar_row (codes "isize") (signed_type address)
    ∷ scalar_row (codes "String") string_type
    ∷ scalar_row (codes "Str") str_type
    ∷ point_shape
    ∷ []

-- the number of the point's shape
abbrev pub point : ℕ
point = 17

abbrev pub setting : Setting
setting = record { registry = shapes; borrow = true; describes_itself = true }

-- the point (1, 2)
abbrev pub value : Tree
value = structure (tree (unsigned 1) (tree (unsigned 2) no_trees))

abbrev pub form : Document
form = object (member free x (plain (u64_literal 1)) (member free y (plain (u64_literal 2)) no_members))

abbrev pub lines : List (List ℕ) → List ℕ
lines ls = flat_map (λ l. l ++ (10 ∷ [])) ls

abbrev pub form_tape : List ℕ
form_tape = lines (codes "{" ∷ codes "k \"x\"" ∷ codes "u 1" ∷ codes "k \"y\"" ∷ codes "u 2" ∷ codes "}" ∷ [])

-- an event whose line has so many bytes and begins at this one
abbrev pub at : ℕ → ℕ → Note
at offset len = record { span = record { offset = offset; len = len }; metadata = None }

-- a key and a number, and what stands behind them
abbrev pub entry : List ℕ → ℕ → Inside → Inside
entry name n rest = loose (key (named (on_tape name) None no_note)) (loose (scalar (u64 n) no_note) rest)

abbrev pub an_object : Inside → Run
an_object i = group of_struct object_kind no_note i

abbrev pub form_events : List Event
form_events =
    start of_struct object_kind (at 0 1)
    ∷ leaf (key (named (on_tape x) None (at 2 5)))
    ∷ leaf (scalar (u64 1) (at 8 3))
    ∷ leaf (key (named (on_tape y) None (at 12 5)))
    ∷ leaf (scalar (u64 2) (at 18 3))
    ∷ stop of_struct (at 22 1)
    ∷ []

-- What the definitions say of the example.
pub record Example : Type 0 where
  pub checked : IsRegistry shapes
  pub of_its_shape : typed shapes point value ≡ true
  pub other_value : typed shapes point (unsigned 1) ≡ false
  pub too_few : typed shapes point (structure (tree (unsigned 1) no_trees)) ≡ false
  pub too_large : typed shapes u64_number (unsigned 18446744073709551616) ≡ false
  pub deep : depth shapes point value ≡ 2
  pub written : write shapes point value ≡ Ok form
  pub tape : document_tape form ≡ form_tape
  pub events : IsTape form_events form_tape
  pub in_order : read setting 2 point from_events (an_object (entry x 1 (entry y 2 (close no_note)))) ≡ Some value
  pub other_order : read setting 2 point from_events (an_object (entry y 2 (entry x 1 (close no_note)))) ≡ Some value
  pub repeated_key : read setting 2 point from_events (an_object (entry x 1 (entry y 2 (entry x 1 (close no_note))))) ≡ None
  pub missing_field : read setting 2 point from_events (an_object (entry x 1 (close no_note))) ≡ None
  pub unknown_key : read setting 2 point from_events (an_object (entry x 1 (entry y 2 (entry (codes "z") 3 (close no_note))))) ≡ Some value
  pub too_deep : read setting 1 point from_events (an_object (entry x 1 (entry y 2 (close no_note)))) ≡ None
