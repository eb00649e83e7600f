-- The definitions on a small value of each form.
use Rattle.std.specs.Prelude.{◌≡◌, ℕ, pos, negsuc, List, [], ◌∷◌, ◌++◌, true, false, Option, Some, None, Ok, Err, codes}
use Rattle.semantics_lines.specs.Trees.{Tree, unit_value, bool_value, char_value, unsigned, signed, text, none, some, ok, err, list, structure, no_trees, tree}
use Rattle.semantics_lines.specs.Shapes.{unit_kind, tuple_struct_kind, skip_never, Field, Definition, option_shape, result_shape, list_shape, array_shape, struct_shape, transparent_shape, Shape, Registry}
use Rattle.semantics_lines.specs.Events.{no_note, Scalar, null, bool, char, i64, u64, str, named, of_struct, of_sequence, object_kind, array_kind, scalar, key}
use Rattle.semantics.specs.Runs.{Inside, close, loose, Run, one, group}
use Rattle.semantics_lines.specs.Calls.{null_literal, bool_literal, char_literal, i64_literal, u64_literal, str_literal}
use Rattle.semantics_lines.specs.Documents.{free, plain, sequence, object, no_documents, document, no_members, member, on_tape}
use Rattle.semantics.specs.Typed.{typed}
use Rattle.semantics.specs.Writing.{not_typed, write}
use Rattle.semantics.specs.Reading.{Setting, from_events, read}
use Rattle.semantics.specs.Depths.{depth}
use Rattle.semantics.specs.Validity.{may_be_null}
use Rattle.laws.specs.Example.{shapes}

abbrev pub row : List ℕ → Definition → Shape
row name definition = record { name = name; definition = definition; proxy = None }

abbrev pub item : List ℕ → ℕ → Field
item name shape = record { name = name; rename = None; alias = None; shape = shape; default = None; skip = skip_never; flattened = false; metadata = None; proxy = None }

-- the scalars, a point, and then a shape of each form
abbrev pub forms : Registry
forms =
    shapes
    ++ (row (codes "Maybe") (option_shape 6)
    ∷ row (codes "Outcome") (result_shape 1 15)
    ∷ row (codes "Bytes") (list_shape 3)
    ∷ row (codes "Two") (array_shape 12 2)
    ∷ row (codes "Wide") (transparent_shape 7)
    ∷ row (codes "Both") (struct_shape (record { kind = tuple_struct_kind; fields = item (codes "0") 2 ∷ item (codes "1") 22 ∷ []; deny = false; default = None; container = false }))
    ∷ row (codes "Nothing") (struct_shape (record { kind = unit_kind; fields = []; deny = false; default = None; container = false }))
    ∷ [])

abbrev pub maybe : ℕ
maybe = 18

abbrev pub outcome : ℕ
outcome = 19

abbrev pub byte_list : ℕ
byte_list = 20

abbrev pub two : ℕ
two = 21

abbrev pub wide : ℕ
wide = 22

abbrev pub both : ℕ
both = 23

abbrev pub nothing : ℕ
nothing = 24

abbrev pub setting : Setting
setting = record { registry = forms; borrow = true; describes_itself = true }

-- what is read of a run within two steps
abbrev pub read_two : ℕ → Run → Option Tree
read_two s r = read setting 2 s from_events r

abbrev pub a_scalar : Scalar → Run
a_scalar x = one x no_note

abbrev pub then_scalar : Scalar → Inside → Inside
then_scalar x i = loose (scalar x no_note) i

abbrev pub a_sequence : Inside → Run
a_sequence i = group of_sequence array_kind no_note i

abbrev pub an_entry : List ℕ → Scalar → Run
an_entry name x = group of_struct object_kind no_note (loose (key (named (on_tape name) None no_note)) (then_scalar x (close no_note)))

abbrev pub a_text : List ℕ → Tree
a_text t = text (record { bytes = t; borrowed = true })

-- What the definitions say of these shapes.
pub record FormsExample : Type 0 where
  pub unit_written : write forms 0 unit_value ≡ Ok (plain null_literal)
  pub bool_written : write forms 1 (bool_value true) ≡ Ok (plain (bool_literal true))
  pub char_written : write forms 2 (char_value 97) ≡ Ok (plain (char_literal 97))
  pub number_written : write forms 3 (unsigned 255) ≡ Ok (plain (u64_literal 255))
  pub too_large : write forms 3 (unsigned 256) ≡ Err not_typed
  pub signed_written : write forms 9 (signed (negsuc 127)) ≡ Ok (plain (i64_literal (negsuc 127)))
  pub too_small : write forms 9 (signed (negsuc 128)) ≡ Err not_typed
  pub wide_written : write forms 7 (unsigned 18446744073709551616) ≡ Ok (plain (str_literal (codes "18446744073709551616")))
  pub minus_written : write forms 13 (signed (negsuc 6)) ≡ Ok (plain (str_literal (codes "-7")))
  pub text_written : write forms 15 (a_text (codes "a")) ≡ Ok (plain (str_literal (codes "a")))
  pub none_written : write forms maybe none ≡ Ok (plain null_literal)
  pub some_written : write forms maybe (some (unsigned 5)) ≡ Ok (plain (u64_literal 5))
  pub ok_written : write forms outcome (ok (bool_value true)) ≡ Ok (object (member free (codes "Ok") (plain (bool_literal true)) no_members))
  pub err_written : write forms outcome (err (a_text (codes "a"))) ≡ Ok (object (member free (codes "Err") (plain (str_literal (codes "a"))) no_members))
  pub list_written : write forms byte_list (list (tree (unsigned 1) (tree (unsigned 2) no_trees))) ≡ Ok (sequence (document (plain (u64_literal 1)) (document (plain (u64_literal 2)) no_documents)))
  pub array_written : write forms two (list (tree (signed (pos 1)) (tree (signed (pos 2)) no_trees))) ≡ Ok (sequence (document (plain (i64_literal (pos 1))) (document (plain (i64_literal (pos 2))) no_documents)))
  pub short_array : write forms two (list (tree (signed (pos 1)) no_trees)) ≡ Err not_typed
  pub transparent_written : write forms wide (unsigned 7) ≡ Ok (plain (str_literal (codes "7")))
  pub tuple_written : write forms both (structure (tree (char_value 97) (tree (unsigned 7) no_trees))) ≡ Ok (sequence (document (plain (char_literal 97)) (document (plain (str_literal (codes "7"))) no_documents)))
  pub unit_struct_written : write forms nothing (structure no_trees) ≡ Ok (object no_members)
  pub other_form : write forms maybe (unsigned 5) ≡ Err not_typed
  pub none_read : read_two maybe (a_scalar null) ≡ Some none
  pub some_read : read_two maybe (a_scalar (u64 5)) ≡ Some (some (unsigned 5))
  pub ok_read : read_two outcome (an_entry (codes "Ok") (bool true)) ≡ Some (ok (bool_value true))
  pub err_read : read_two outcome (an_entry (codes "Err") (str (on_tape (codes "a")))) ≡ Some (err (a_text (codes "a")))
  pub other_outcome : read_two outcome (an_entry (codes "Maybe") (bool true)) ≡ None
  pub list_read : read_two byte_list (a_sequence (then_scalar (u64 1) (then_scalar (u64 2) (close no_note)))) ≡ Some (list (tree (unsigned 1) (tree (unsigned 2) no_trees)))
  pub short_read : read_two two (a_sequence (then_scalar (i64 (pos 1)) (close no_note))) ≡ None
  pub wide_read : read_two wide (a_scalar (str (on_tape (codes "7")))) ≡ Some (unsigned 7)
  pub tuple_read : read setting 3 both from_events (a_sequence (then_scalar (char 97) (then_scalar (str (on_tape (codes "7"))) (close no_note)))) ≡ Some (structure (tree (char_value 97) (tree (unsigned 7) no_trees)))
  pub tuple_too_deep : read_two both (a_sequence (then_scalar (char 97) (then_scalar (str (on_tape (codes "7"))) (close no_note)))) ≡ None
  pub item_missing : read setting 3 both from_events (a_sequence (then_scalar (char 97) (close no_note))) ≡ None
  pub node_read : read_two 6 (an_entry (codes "_arg") (u64 5)) ≡ Some (unsigned 5)
  pub layer_counts : depth forms wide (unsigned 7) ≡ 2
  pub tuple_depth : depth forms both (structure (tree (char_value 97) (tree (unsigned 7) no_trees))) ≡ 3
  pub through_layers : typed forms wide (unsigned 7) ≡ true
  pub null_over_null : may_be_null forms maybe ≡ true
  pub null_over_number : may_be_null forms wide ≡ false
