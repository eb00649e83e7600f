-- The calls of a value stand for the events of its form.
use Rattle.std.proofs.Common.{◌≡◌, ℕ, List, [], ◌∷◌, ◌++◌, Option, Some, None, Bool, true, false, cond, Ok, Err, codes, refl, sym, ap, ap₂, ◌∙◌}
use Rattle.std.proofs.lemmas.Grind.{flat_map-append}
use Rattle.std.proofs.lemmas.List.{append-nil}
use Rattle.std.specs.List.{flat_map}
use Rattle.semantics_lines.specs.Trees.{Tree, unit_value, bool_value, char_value, unsigned, signed, text, none, some, ok, err, list, structure, Trees, no_trees, tree, tree_count}
use Rattle.semantics_lines.specs.Shapes.{is_tuple, Field, effective_name}
use Rattle.semantics_lines.specs.Events.{no_note, of_struct, of_sequence, object_kind, array_kind, Event, start, stop}
use Rattle.semantics_lines.specs.Calls.{Literal, null_literal, bool_literal, char_literal, str_literal, begin_struct, end_struct, begin_seq, end_seq}
use Rattle.semantics_lines.specs.Documents.{Mark, free, Document, Documents, Members, key_event, document_events, documents_events, members_events}
use Rattle.semantics.specs.Typed.{scalar_at, option_at, ok_at, err_at, item_at, length_at, struct_at, takes_unit, takes_bool, takes_char, takes_unsigned, takes_signed, takes_text, has_length}
use Rattle.semantics.specs.Writing.{Unwritten, Written, unfit_at, of_form, where_fits, written_plain, unsigned_literal, signed_literal, written_sequence, written_object, written_under, put_document, put_member, write, write_each, write_items, write_fields}
use Rattle.semantics.specs.Calling.{Part, one_call, then_if, then, part_if, part_of, Writer, scalar_calls, sequence_calls, object_calls, entry_calls, calls_of, calls_of_each, calls_of_items, calls_of_fields}
use Rattle.semantics_lines.specs.Tapes.{call_events}

abbrev pub told : Part → List Event
told p = flat_map call_events p.calls

-- the calls are whole exactly where there is a form, and stand for its events
abbrev pub Tells : {A : Type 0} → (A → List Event) → Written A → Part → Type 0
Tells events (Ok x) p = (p.whole ≡ true) × (told p ≡ events x)
Tells events (Err e) p = p.whole ≡ false

abbrev pub TellsForm : Written Document → Part → Type 0
TellsForm d p = Tells document_events d p

abbrev pub TellsDocuments : Written Documents → Part → Type 0
TellsDocuments ds p = Tells documents_events ds p

abbrev pub TellsMembers : Written Members → Part → Type 0
TellsMembers ms p = Tells members_events ms p

-- calls behind a whole part
then_whole : (p q : Part) → p.whole ≡ true → (then p q).whole ≡ q.whole
then_whole p q h = ap (λ b. (then_if b p.calls q).whole) h

then_told : (p q : Part) → p.whole ≡ true → told (then p q) ≡ told p ++ told q
then_told p q h = ap (λ b. told (then_if b p.calls q)) h ∙ flat_map-append call_events p.calls q.calls

then_broken : (p q : Part) → p.whole ≡ false → (then p q).whole ≡ false
then_broken p q h = ap (λ b. (then_if b p.calls q).whole) h

-- a part of the shape, where it has it
form_tells : {A : Type 0} (why : Unwritten) (o : Option A) (f : A → Written Document) (p : A → Part) → ((x : A) → TellsForm (f x) (p x)) → TellsForm (of_form why o f) (part_of o p)
form_tells why None f p tells = refl
form_tells why (Some x) f p tells = tells x

fitting_tells : (b : Bool) (d : Written Document) (p : Part) → TellsForm d p → TellsForm (where_fits b d) (part_if b p)
fitting_tells true d p tells = tells
fitting_tells false d p tells = refl

scalar_tells : (b : Bool) (l : Literal) → TellsForm (written_plain b l) (scalar_calls b l)
scalar_tells true l = (refl, refl)
scalar_tells false l = refl

document_tells : (d : Written Document) (ds : Written Documents) (p q : Part) → TellsForm d p → TellsDocuments ds q → TellsDocuments (put_document d ds) (then p q)
document_tells (Err e) ds p q broken rest = then_broken p q broken
document_tells (Ok d) (Err e) p q (whole, is) broken = then_whole p q whole ∙ broken
document_tells (Ok d) (Ok ds) p q (whole, is) (whole', is') = (then_whole p q whole ∙ whole', then_told p q whole ∙ ap₂ (λ a b. a ++ b) is is')

member_tells : (m : Mark) (name : List ℕ) (d : Written Document) (ms : Written Members) (p q : Part) → TellsForm d p → TellsMembers ms q
    → TellsMembers (put_member m name d ms) (then (entry_calls name p) q)
member_tells m name (Err e) ms p q broken rest = then_broken (entry_calls name p) q broken
member_tells m name (Ok d) (Err e) p q (whole, is) broken = then_whole (entry_calls name p) q whole ∙ broken
member_tells m name (Ok d) (Ok ms) p q (whole, is) (whole', is') =
    (then_whole (entry_calls name p) q whole ∙ whole', then_told (entry_calls name p) q whole ∙ ap₂ (λ a b. key_event name ∷ (a ++ b)) is is')

sequence_tells : (ds : Written Documents) (p : Part) → TellsDocuments ds p → TellsForm (written_sequence ds) (sequence_calls p)
sequence_tells (Err e) p broken = then_broken (then (one_call begin_seq) p) (one_call end_seq) broken
sequence_tells (Ok ds) p (whole, is) = (
  then_whole (then (one_call begin_seq) p) (one_call end_seq) whole,
  then_told (then (one_call begin_seq) p) (one_call end_seq) whole ∙ ap (λ a. start of_sequence array_kind no_note ∷ (a ++ (stop of_sequence no_note ∷ []))) is,
)

object_tells : (ms : Written Members) (p : Part) → TellsMembers ms p → TellsForm (written_object ms) (object_calls p)
object_tells (Err e) p broken = then_broken (then (one_call begin_struct) p) (one_call end_struct) broken
object_tells (Ok ms) p (whole, is) = (
  then_whole (then (one_call begin_struct) p) (one_call end_struct) whole,
  then_told (then (one_call begin_struct) p) (one_call end_struct) whole ∙ ap (λ a. start of_struct object_kind no_note ∷ (a ++ (stop of_struct no_note ∷ []))) is,
)

under_tells : (name : List ℕ) (d : Written Document) (p : Part) → TellsForm d p → TellsForm (written_under name d) (object_calls (entry_calls name p))
under_tells name (Err e) p broken = then_broken (then (one_call begin_struct) (entry_calls name p)) (one_call end_struct) broken
under_tells name (Ok d) p (whole, is) = (
  then_whole (then (one_call begin_struct) (entry_calls name p)) (one_call end_struct) whole,
  then_told (then (one_call begin_struct) (entry_calls name p)) (one_call end_struct) whole
      ∙ ap (λ a. start of_struct object_kind no_note ∷ key_event name ∷ (a ++ (stop of_struct no_note ∷ []))) (is ∙ sym (append-nil (document_events d))),
)

struct_tells : (b : Bool) (ds : Written Documents) (ms : Written Members) (p q : Part) → TellsDocuments ds p → TellsMembers ms q
    → TellsForm (cond b (written_sequence ds) (written_object ms)) (cond b (sequence_calls p) (object_calls q))
struct_tells true ds ms p q items fields = sequence_tells ds p items
struct_tells false ds ms p q items fields = object_tells ms q fields

module _ (w : Writer) where
  mutual
    pub value_tells : (s : ℕ) (v : Tree) → TellsForm (write w.registry s v) (calls_of w s v)
    value_tells s unit_value = form_tells (unfit_at w.registry s) (scalar_at w.registry s) _ _ (λ t. scalar_tells (takes_unit t) null_literal)
    value_tells s (bool_value b) = form_tells (unfit_at w.registry s) (scalar_at w.registry s) _ _ (λ t. scalar_tells (takes_bool t) (bool_literal b))
    value_tells s (char_value c) = form_tells (unfit_at w.registry s) (scalar_at w.registry s) _ _ (λ t. scalar_tells (takes_char t) (char_literal c))
    value_tells s (unsigned n) = form_tells (unfit_at w.registry s) (scalar_at w.registry s) _ _ (λ t. scalar_tells (takes_unsigned n t) (unsigned_literal t n))
    value_tells s (signed z) = form_tells (unfit_at w.registry s) (scalar_at w.registry s) _ _ (λ t. scalar_tells (takes_signed z t) (signed_literal t z))
    value_tells s (text p) = form_tells (unfit_at w.registry s) (scalar_at w.registry s) _ _ (λ t. scalar_tells (takes_text t) (str_literal p.bytes))
    value_tells s none = form_tells (unfit_at w.registry s) (option_at w.registry s) _ _ (λ i. (refl, refl))
    value_tells s (some v) = form_tells (unfit_at w.registry s) (option_at w.registry s) _ _ (λ i. value_tells i v)
    value_tells s (ok v) = form_tells (unfit_at w.registry s) (ok_at w.registry s) _ _ (λ i. under_tells (codes "Ok") (write w.registry i v) (calls_of w i v) (value_tells i v))
    value_tells s (err v) = form_tells (unfit_at w.registry s) (err_at w.registry s) _ _ (λ i. under_tells (codes "Err") (write w.registry i v) (calls_of w i v) (value_tells i v))
    value_tells s (list vs) =
        form_tells (unfit_at w.registry s) (item_at w.registry s) _ _ (λ i.
        fitting_tells (has_length (length_at w.registry s) (tree_count vs)) (written_sequence (write_each w.registry i vs)) (sequence_calls (calls_of_each w i vs))
        (sequence_tells (write_each w.registry i vs) (calls_of_each w i vs) (each_tells i vs)))
    value_tells s (structure vs) =
        form_tells (unfit_at w.registry s) (struct_at w.registry s) _ _ (λ d.
        struct_tells (is_tuple d.kind) (write_items w.registry d.fields vs) (write_fields w.registry d.fields vs) (calls_of_items w d.fields vs) (calls_of_fields w d.fields vs)
        (items_tell d.fields vs) (fields_tell d.fields vs))
    value_tells s _ = refl

    each_tells : (s : ℕ) (vs : Trees) → TellsDocuments (write_each w.registry s vs) (calls_of_each w s vs)
    each_tells s no_trees = (refl, refl)
    each_tells s (tree v vs) = document_tells (write w.registry s v) (write_each w.registry s vs) (calls_of w s v) (calls_of_each w s vs) (value_tells s v) (each_tells s vs)

    items_tell : (fs : List Field) (vs : Trees) → TellsDocuments (write_items w.registry fs vs) (calls_of_items w fs vs)
    items_tell [] no_trees = (refl, refl)
    items_tell [] (tree v vs) = refl
    items_tell (f ∷ fs) no_trees = refl
    items_tell (f ∷ fs) (tree v vs) =
        document_tells (write w.registry f.shape v) (write_items w.registry fs vs) (calls_of w f.shape v) (calls_of_items w fs vs) (value_tells f.shape v) (items_tell fs vs)

    fields_tell : (fs : List Field) (vs : Trees) → TellsMembers (write_fields w.registry fs vs) (calls_of_fields w fs vs)
    fields_tell [] no_trees = (refl, refl)
    fields_tell [] (tree v vs) = refl
    fields_tell (f ∷ fs) no_trees = refl
    fields_tell (f ∷ fs) (tree v vs) =
        member_tells free (effective_name f) (write w.registry f.shape v) (write_fields w.registry fs vs) (calls_of w f.shape v) (calls_of_fields w fs vs) (value_tells f.shape v) (fields_tell fs vs)
