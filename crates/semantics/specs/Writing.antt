-- What a value is written as.
use Rattle.std.specs.Prelude.{ℕ, ℤ, Bool, true, false, cond, List, [], ◌∷◌, Option, Some, None, Result, Ok, Err, codes}
use Rattle.std.specs.Fmt.{decimal, signed_decimal}
use Rattle.semantics_lines.specs.Trees.{Tree, unit_value, bool_value, char_value, unsigned, signed, text, none, some, ok, err, list, mapping, structure, variant, Trees, no_trees, tree, tree_count}
use Rattle.semantics_lines.specs.Shapes.{bits128, ScalarType, unsigned_type, signed_type, is_tuple, Field, effective_name, Definition, set_shape, map_shape, enum_shape, Registry}
use Rattle.semantics_lines.specs.Calls.{Literal, null_literal, bool_literal, char_literal, i64_literal, u64_literal, str_literal}
use Rattle.semantics_lines.specs.Documents.{Mark, free, Document, plain, sequence, object, Documents, no_documents, document, Members, no_members, member}
use Rattle.semantics.specs.Results.{on_ok}
use Rattle.semantics.specs.Typed.{base, scalar_at, option_at, ok_at, err_at, item_at, length_at, struct_at, takes_unit, takes_bool, takes_char, takes_unsigned, takes_signed, takes_text, has_length}

-- Why a value has no written form.
pub data Unwritten : Type 0 where
  -- the form of its shape isn't built yet
  form_not_built : Unwritten
  -- the value isn't of its shape
  not_typed : Unwritten
  -- a key of a map that is no text, no number and no truth value or character
  key_without_text : Unwritten
  -- under an internal tag: a payload that is no object, a tuple, and the same tag twice
  scalar_payload : Unwritten
  tuple_payload : Unwritten
  repeated_tag : Unwritten

-- what something is written as, or why it has no written form
abbrev pub Written : Type 0 → Type 0
Written A = Result A Unwritten

-- Why a value has no written form where its shape has other parts. Sets, maps and enums aren't built yet.
abbrev pub unfit : Option Definition → Unwritten
unfit (Some (set_shape s)) = form_not_built
unfit (Some (map_shape s t)) = form_not_built
unfit (Some (enum_shape form vs)) = form_not_built
unfit _ = not_typed

-- the same by the number of the shape
abbrev pub unfit_at : Registry → ℕ → Unwritten
unfit_at g s = unfit (base g s)

-- a part, where the shape has it
abbrev pub of_form : {A B : Type 0} → Unwritten → Option A → (A → Written B) → Written B
of_form why None f = Err why
of_form why (Some x) f = f x

-- where a test of the value allows it
abbrev pub where_fits : {A : Type 0} → Bool → Written A → Written A
where_fits true o = o
where_fits false o = Err not_typed

-- one scalar
abbrev pub written_plain : Bool → Literal → Written Document
written_plain fits l = where_fits fits (Ok (plain l))

-- a whole number of 128 bits is written as a text, in decimal
abbrev pub unsigned_literal : ScalarType → ℕ → Literal
unsigned_literal (unsigned_type bits128) n = str_literal (decimal n)
unsigned_literal _ n = u64_literal n

-- the same of a signed number
abbrev pub signed_literal : ScalarType → ℤ → Literal
signed_literal (signed_type bits128) z = str_literal (signed_decimal z)
signed_literal _ z = i64_literal z

-- a sequence of items that are written
abbrev pub written_sequence : Written Documents → Written Document
written_sequence o = on_ok o (λ ds. Ok (sequence ds))

-- an object of entries that are written
abbrev pub written_object : Written Members → Written Document
written_object o = on_ok o (λ ms. Ok (object ms))

-- an object of one entry
abbrev pub written_under : List ℕ → Written Document → Written Document
written_under name o = on_ok o (λ d. Ok (object (member free name d no_members)))

-- an item, and those behind it
abbrev pub put_document : Written Document → Written Documents → Written Documents
put_document d ds = on_ok d (λ x. on_ok ds (λ xs. Ok (document x xs)))

-- an entry with its mark, and those after it
abbrev pub put_member : Mark → List ℕ → Written Document → Written Members → Written Members
put_member m name d ms = on_ok d (λ x. on_ok ms (λ xs. Ok (member m name x xs)))

-- The document of a value. Unit and nothing are written as null, and what an option holds as itself. Of a result the key of
-- one entry says how it went. A list, an array and a tuple are the sequence of their items, and another struct is the object
-- of its fields, in the order in which they are declared.
abbrev mutual
  pub write : Registry → ℕ → Tree → Written Document
  write g s unit_value = of_form (unfit_at g s) (scalar_at g s) (λ t. written_plain (takes_unit t) null_literal)
  write g s (bool_value b) = of_form (unfit_at g s) (scalar_at g s) (λ t. written_plain (takes_bool t) (bool_literal b))
  write g s (char_value c) = of_form (unfit_at g s) (scalar_at g s) (λ t. written_plain (takes_char t) (char_literal c))
  write g s (unsigned n) = of_form (unfit_at g s) (scalar_at g s) (λ t. written_plain (takes_unsigned n t) (unsigned_literal t n))
  write g s (signed z) = of_form (unfit_at g s) (scalar_at g s) (λ t. written_plain (takes_signed z t) (signed_literal t z))
  write g s (text p) = of_form (unfit_at g s) (scalar_at g s) (λ t. written_plain (takes_text t) (str_literal p.bytes))
  write g s none = of_form (unfit_at g s) (option_at g s) (λ i. Ok (plain null_literal))
  write g s (some v) = of_form (unfit_at g s) (option_at g s) (λ i. write g i v)
  write g s (ok v) = of_form (unfit_at g s) (ok_at g s) (λ i. written_under (codes "Ok") (write g i v))
  write g s (err v) = of_form (unfit_at g s) (err_at g s) (λ i. written_under (codes "Err") (write g i v))
  write g s (list vs) = of_form (unfit_at g s) (item_at g s) (λ i. where_fits (has_length (length_at g s) (tree_count vs)) (written_sequence (write_each g i vs)))
  write g s (structure vs) = of_form (unfit_at g s) (struct_at g s) (λ d. cond (is_tuple d.kind) (written_sequence (write_items g d.fields vs)) (written_object (write_fields g d.fields vs)))
  write g s (mapping ps) = Err (unfit_at g s)
  write g s (variant i vs) = Err (unfit_at g s)

  -- values of one shape
  pub write_each : Registry → ℕ → Trees → Written Documents
  write_each g s no_trees = Ok no_documents
  write_each g s (tree v vs) = put_document (write g s v) (write_each g s vs)

  -- the fields of a tuple
  pub write_items : Registry → List Field → Trees → Written Documents
  write_items g [] no_trees = Ok no_documents
  write_items g (f ∷ fs) (tree v vs) = put_document (write g f.shape v) (write_items g fs vs)
  write_items g _ _ = Err not_typed

  -- the fields of another struct
  pub write_fields : Registry → List Field → Trees → Written Members
  write_fields g [] no_trees = Ok no_members
  write_fields g (f ∷ fs) (tree v vs) = put_member free (effective_name f) (write g f.shape v) (write_fields g fs vs)
  write_fields g _ _ = Err not_typed
