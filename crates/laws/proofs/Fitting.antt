-- What a value of a checked registry is written as, permuted: numbers in their range, characters and texts, and keys that are texts.
use Rattle.std.proofs.Common.{◌≡◌, ℕ, ℤ, pos, negsuc, ◌^◌, List, [], ◌∷◌, ◌++◌, Option, Some, None, Bool, true, false, ◌&&◌, cond, Ok, codes, refl, sym, ap, ◌∙◌, subst, arith}
use Rattle.std.proofs.lemmas.Bool.Decides.{nat_tests}
use Rattle.std.specs.Prelude.{zero, suc, ◌≤◌, nat_lt, slice_get, unwrap_or}
use Rattle.std.specs.Char.{encode_utf8}
use Rattle.std.specs.List.{list_all, AllByRecursion as Every}
use Rattle.std.specs.Str.{chars, is_utf8, all_scalars}
use Rattle.semantics_lines.specs.Trees.{Tree, unit_value, bool_value, char_value, unsigned, signed, text, none, some, ok, err, list, structure, Trees, no_trees, tree, tree_count}
use Rattle.semantics_lines.specs.Shapes.{bits8, bits16, bits32, bits64, bits128, address, ScalarType, unsigned_type, signed_type, is_tuple, Field, effective_name, StructShape, struct_shape, Shape, Registry}
use Rattle.semantics_lines.specs.Scalars.{fits_unsigned, fits_signed}
use Rattle.semantics.specs.Registry.{name_is_utf8, field_is_utf8, definition_is_utf8, shape_is_utf8, IsRegistry}
use Rattle.semantics_lines.specs.Calls.{Literal, null_literal, bool_literal, char_literal, i64_literal, u64_literal, str_literal}
use Rattle.semantics_lines.specs.Documents.{free, Document, plain, sequence, object, Documents, no_documents, document, Members, no_members, member, Member, member_list, Permuted, EachPermuted, Reordered}
use Rattle.semantics.specs.Typed.{scalar_at, option_at, ok_at, err_at, item_at, length_at, struct_at, takes_unit, takes_bool, takes_char, takes_unsigned, takes_signed, takes_text, has_length, tree_is_utf8, trees_are_utf8}
use Rattle.semantics.specs.Writing.{unfit_at, Written, written_plain, unsigned_literal, signed_literal, written_sequence, written_object, written_under, write, write_each, write_items, write_fields}
use Rattle.laws.proofs.Built.{BuiltField, struct_built, built, found_shape, struct_defined}
use Rattle.laws_lines.proofs.Tests.{is_both}
use Rattle.laws.proofs.Decimals.{unsigned_is_text, signed_is_text}
use Rattle.laws.proofs.Mixes.{every_inserted}
use Rattle.laws.proofs.Writes.{form_inverted, fits_inverted, plain_inverted, sequence_inverted, object_inverted, under_inverted, document_inverted, put_inverted}

-- a key is a text
abbrev pub IsKeyText : List ℕ → Type 0
IsKeyText t = is_utf8 t ≡ true

abbrev pub FitsLiteral : Literal → Type 0
FitsLiteral null_literal = Unit {0}
FitsLiteral (bool_literal b) = Unit {0}
FitsLiteral (char_literal c) = all_scalars (c ∷ []) ≡ true
FitsLiteral (i64_literal z) = fits_signed bits64 z ≡ true
FitsLiteral (u64_literal n) = fits_unsigned bits64 n ≡ true
FitsLiteral (str_literal t) = is_utf8 t ≡ true
FitsLiteral _ = ⊥

abbrev mutual
  pub Fits : Document → Type 0
  Fits (plain l) = FitsLiteral l
  Fits (sequence ds) = DocumentsFit ds
  Fits (object ms) = MembersFit ms

  pub DocumentsFit : Documents → Type 0
  DocumentsFit no_documents = Unit {0}
  DocumentsFit (document d ds) = Fits d × DocumentsFit ds

  pub MembersFit : Members → Type 0
  MembersFit no_members = Unit {0}
  MembersFit (member m k d ms) = (IsKeyText k × Fits d) × MembersFit ms

abbrev pub MemberFits : Member → Type 0
MemberFits x = IsKeyText x.name × Fits x.document

of_list : (ms : Members) → Every MemberFits (member_list ms) → MembersFit ms
of_list no_members all = tt
of_list (member m k d ms) (fits, all) = (fits, of_list ms all)

mutual
  pub permuted_fits : (d d' : Document) → Permuted d d' → Fits d → Fits d'
  permuted_fits (plain l) d' p fits = subst Fits (sym p) fits
  permuted_fits (sequence ds) d' (es, is, each) fits = subst Fits (sym is) (each_fits ds es each fits)
  permuted_fits (object ms) d' (ns, is, order) fits = subst Fits (sym is) (of_list ns (reordered_fits ms (member_list ns) order fits))

  each_fits : (ds es : Documents) → EachPermuted ds es → DocumentsFit ds → DocumentsFit es
  each_fits no_documents es is fits = subst DocumentsFit (sym is) fits
  each_fits (document d ds) es (d', ds', is, p, each) (fits, rest) = subst DocumentsFit (sym is) (permuted_fits d d' p fits, each_fits ds ds' each rest)

  reordered_fits : (ms : Members) (xs : List Member) → Reordered ms xs → MembersFit ms → Every MemberFits xs
  reordered_fits no_members xs is fits = subst (Every MemberFits) (sym is) tt
  reordered_fits (member m k d ms) xs (before, after, d', is, in_order, p, more) ((key, fits), rest) =
      subst (Every MemberFits) (sym is)
      (every_inserted MemberFits before (record { mark = m; name = k; document = d' }) after (key, permuted_fits d d' p fits) (reordered_fits ms (before ++ after) more rest))

-- a number of a narrower type fits into 64 bits
narrower : (n k : ℕ) → k ≤ 2 ^ 64 → nat_lt n k ≡ true → fits_unsigned bits64 n ≡ true
narrower n k le fits = grind (arith, nat_tests)

narrower_half : (n k : ℕ) → k ≤ 2 ^ 63 → nat_lt n k ≡ true → nat_lt n (2 ^ 63) ≡ true
narrower_half n k le fits = grind (arith, nat_tests)

unsigned_fits : (t : ScalarType) (n : ℕ) → takes_unsigned n t ≡ true → FitsLiteral (unsigned_literal t n)
unsigned_fits (unsigned_type bits8) n fits = narrower n (2 ^ 8) (omega arith) fits
unsigned_fits (unsigned_type bits16) n fits = narrower n (2 ^ 16) (omega arith) fits
unsigned_fits (unsigned_type bits32) n fits = narrower n (2 ^ 32) (omega arith) fits
unsigned_fits (unsigned_type bits64) n fits = fits
unsigned_fits (unsigned_type bits128) n fits = unsigned_is_text n fits
unsigned_fits (unsigned_type address) n fits = fits
unsigned_fits _ n fits = absurd cc

signed_fits : (t : ScalarType) (z : ℤ) → takes_signed z t ≡ true → FitsLiteral (signed_literal t z)
signed_fits (signed_type bits8) (pos n) fits = narrower_half n (2 ^ 7) (omega arith) fits
signed_fits (signed_type bits8) (negsuc n) fits = narrower_half n (2 ^ 7) (omega arith) fits
signed_fits (signed_type bits16) (pos n) fits = narrower_half n (2 ^ 15) (omega arith) fits
signed_fits (signed_type bits16) (negsuc n) fits = narrower_half n (2 ^ 15) (omega arith) fits
signed_fits (signed_type bits32) (pos n) fits = narrower_half n (2 ^ 31) (omega arith) fits
signed_fits (signed_type bits32) (negsuc n) fits = narrower_half n (2 ^ 31) (omega arith) fits
signed_fits (signed_type bits64) (pos n) fits = fits
signed_fits (signed_type bits64) (negsuc n) fits = fits
signed_fits (signed_type bits128) z fits = signed_is_text z fits
signed_fits (signed_type address) (pos n) fits = fits
signed_fits (signed_type address) (negsuc n) fits = fits
signed_fits _ z fits = absurd cc

-- a scalar that is written
plain_fits : (b : Bool) (l : Literal) (d : Document) → (b ≡ true → FitsLiteral l) → written_plain b l ≡ Ok d → Fits d
plain_fits b l d fits e =
    let (test, is) = plain_inverted b l d e in
    subst Fits is (fits test)

ok_text : is_utf8 (codes "Ok") ≡ true
unfolding is_utf8 chars encode_utf8
ok_text = refl

err_text : is_utf8 (codes "Err") ≡ true
unfolding is_utf8 chars encode_utf8
err_text = refl

abbrev pub FieldFits : Field → Type 0
FieldFits f = IsKeyText (effective_name f)

shape_in : (g : Registry) (s : ℕ) (x : Shape) → list_all shape_is_utf8 g ≡ true → slice_get g s ≡ Some x → shape_is_utf8 x ≡ true
shape_in [] s x all e = absurd cc
shape_in (y ∷ g) zero x all e =
    let is : y ≡ x = cc in
    ap shape_is_utf8 (sym is) ∙ (is_both (shape_is_utf8 y) (list_all shape_is_utf8 g) all).0
shape_in (y ∷ g) (suc s) x all e = shape_in g s x (is_both (shape_is_utf8 y) (list_all shape_is_utf8 g) all).1 e

effective_utf8 : (name : List ℕ) (rename : Option (List ℕ)) → is_utf8 name ≡ true → name_is_utf8 rename ≡ true → is_utf8 (unwrap_or rename name) ≡ true
effective_utf8 name None own renamed = own
effective_utf8 name (Some r) own renamed = renamed

names_fit : (fs : List Field) → list_all field_is_utf8 fs ≡ true → Every FieldFits fs
names_fit [] texts = tt
names_fit (f ∷ fs) texts =
    let (here, rest) = is_both (field_is_utf8 f) (list_all field_is_utf8 fs) texts in
    let (name, others) = is_both (is_utf8 f.name) (name_is_utf8 f.rename && name_is_utf8 f.alias) here in
    let (rename, alias) = is_both (name_is_utf8 f.rename) (name_is_utf8 f.alias) others in
    (effective_utf8 f.name f.rename name rename, names_fit fs rest)

fields_fit : (g : Registry) → IsRegistry g → (s : ℕ) (q : StructShape) → struct_at g s ≡ Some q → Every FieldFits q.fields
fields_fit g checked s q e =
    let (t, at) = struct_defined g s q e in
    let (x, found, is) = found_shape (slice_get g t) (struct_shape q) at in
    let (name, texts) = is_both (is_utf8 x.name) (definition_is_utf8 x.definition) (shape_in g t x checked.utf8 found) in
    names_fit q.fields (ap definition_is_utf8 (sym is) ∙ texts)

module _ (g : Registry) (checked : IsRegistry g) where
  -- an object of one entry
  under_fits : (name : List ℕ) (o : Written Document) (d : Document) → IsKeyText name → ((x : Document) → o ≡ Ok x → Fits x) → written_under name o ≡ Ok d → Fits d
  under_fits name o d key inner e =
      let (x, is_x, is) = under_inverted name o d e in
      subst Fits is ((key, inner x is_x), tt)

  sequence_fits : (o : Written Documents) (d : Document) → ((ds : Documents) → o ≡ Ok ds → DocumentsFit ds) → written_sequence o ≡ Ok d → Fits d
  sequence_fits o d inner e =
      let (ds, is_ds, is) = sequence_inverted o d e in
      subst Fits is (inner ds is_ds)

  struct_fits : (b : Bool) (o : Written Documents) (p : Written Members) (d : Document) → ((ds : Documents) → o ≡ Ok ds → DocumentsFit ds) → ((ms : Members) → p ≡ Ok ms → MembersFit ms)
      → cond b (written_sequence o) (written_object p) ≡ Ok d → Fits d
  struct_fits true o p d items fields e = sequence_fits o d items e
  struct_fits false o p d items fields e =
      let (ms, is_ms, is) = object_inverted p d e in
      subst Fits is (fields ms is_ms)

  mutual
    pub written_fits : (s : ℕ) (v : Tree) (d : Document) → tree_is_utf8 v ≡ true → write g s v ≡ Ok d → Fits d
    written_fits s unit_value d texts e =
        let (t, at, is) = form_inverted (unfit_at g s) (scalar_at g s) _ d e in
        plain_fits (takes_unit t) null_literal d (λ test. tt) is
    written_fits s (bool_value b) d texts e =
        let (t, at, is) = form_inverted (unfit_at g s) (scalar_at g s) _ d e in
        plain_fits (takes_bool t) (bool_literal b) d (λ test. tt) is
    written_fits s (char_value c) d texts e =
        let (t, at, is) = form_inverted (unfit_at g s) (scalar_at g s) _ d e in
        plain_fits (takes_char t) (char_literal c) d (λ test. texts) is
    written_fits s (unsigned n) d texts e =
        let (t, at, is) = form_inverted (unfit_at g s) (scalar_at g s) _ d e in
        plain_fits (takes_unsigned n t) (unsigned_literal t n) d (unsigned_fits t n) is
    written_fits s (signed z) d texts e =
        let (t, at, is) = form_inverted (unfit_at g s) (scalar_at g s) _ d e in
        plain_fits (takes_signed z t) (signed_literal t z) d (signed_fits t z) is
    written_fits s (text p) d texts e =
        let (t, at, is) = form_inverted (unfit_at g s) (scalar_at g s) _ d e in
        plain_fits (takes_text t) (str_literal p.bytes) d (λ test. texts) is
    written_fits s none d texts e =
        let (i, at, is) = form_inverted (unfit_at g s) (option_at g s) _ d e in
        let same : plain null_literal ≡ d = cc in
        subst Fits same tt
    written_fits s (some v) d texts e =
        let (i, at, is) = form_inverted (unfit_at g s) (option_at g s) _ d e in
        written_fits i v d texts is
    written_fits s (ok v) d texts e =
        let (i, at, is) = form_inverted (unfit_at g s) (ok_at g s) _ d e in
        under_fits (codes "Ok") (write g i v) d ok_text (λ x is_x. written_fits i v x texts is_x) is
    written_fits s (err v) d texts e =
        let (i, at, is) = form_inverted (unfit_at g s) (err_at g s) _ d e in
        under_fits (codes "Err") (write g i v) d err_text (λ x is_x. written_fits i v x texts is_x) is
    written_fits s (list vs) d texts e =
        let (i, at, fitting) = form_inverted (unfit_at g s) (item_at g s) _ d e in
        let (test, is) = fits_inverted (has_length (length_at g s) (tree_count vs)) (written_sequence (write_each g i vs)) d fitting in
        sequence_fits (write_each g i vs) d (λ ds is_ds. each_written_fits i vs ds texts is_ds) is
    written_fits s (structure vs) d texts e =
        let (q, at, is) = form_inverted (unfit_at g s) (struct_at g s) _ d e in
        struct_fits (is_tuple q.kind) (write_items g q.fields vs) (write_fields g q.fields vs) d (λ ds is_ds. items_fit q.fields vs ds texts is_ds)
        (λ ms is_ms. members_fit q.fields vs ms (fields_fit g checked s q at) texts is_ms) is
    written_fits s _ d texts e = absurd cc

    each_written_fits : (s : ℕ) (vs : Trees) (ds : Documents) → trees_are_utf8 vs ≡ true → write_each g s vs ≡ Ok ds → DocumentsFit ds
    each_written_fits s no_trees ds texts e =
        let is : no_documents ≡ ds = cc in
        subst DocumentsFit is tt
    each_written_fits s (tree v vs) ds texts e =
        let (here, rest) = is_both (tree_is_utf8 v) (trees_are_utf8 vs) texts in
        let (x, xs, is_x, is_xs, is) = document_inverted (write g s v) (write_each g s vs) ds e in
        subst DocumentsFit (sym is) (written_fits s v x here is_x, each_written_fits s vs xs rest is_xs)

    items_fit : (fs : List Field) (vs : Trees) (ds : Documents) → trees_are_utf8 vs ≡ true → write_items g fs vs ≡ Ok ds → DocumentsFit ds
    items_fit [] no_trees ds texts e =
        let is : no_documents ≡ ds = cc in
        subst DocumentsFit is tt
    items_fit [] (tree v vs) ds texts e = absurd cc
    items_fit (f ∷ fs) no_trees ds texts e = absurd cc
    items_fit (f ∷ fs) (tree v vs) ds texts e =
        let (here, rest) = is_both (tree_is_utf8 v) (trees_are_utf8 vs) texts in
        let (x, xs, is_x, is_xs, is) = document_inverted (write g f.shape v) (write_items g fs vs) ds e in
        subst DocumentsFit (sym is) (written_fits f.shape v x here is_x, items_fit fs vs xs rest is_xs)

    members_fit : (fs : List Field) (vs : Trees) (ms : Members) → Every FieldFits fs → trees_are_utf8 vs ≡ true → write_fields g fs vs ≡ Ok ms → MembersFit ms
    members_fit [] no_trees ms names texts e =
        let is : no_members ≡ ms = cc in
        subst MembersFit is tt
    members_fit [] (tree v vs) ms names texts e = absurd cc
    members_fit (f ∷ fs) no_trees ms names texts e = absurd cc
    members_fit (f ∷ fs) (tree v vs) ms (name, names) texts e =
        let (here, rest) = is_both (tree_is_utf8 v) (trees_are_utf8 vs) texts in
        let (x, ns, is_x, is_ns, is) = put_inverted free (effective_name f) (write g f.shape v) (write_fields g fs vs) ms e in
        subst MembersFit (sym is) ((name, written_fits f.shape v x here is_x), members_fit fs vs ns names rest is_ns)
