-- What documents that are there were made of.
use Rattle.std.proofs.Common.{◌≡◌, List, Option, Some, None, Bool, true, false, Ok, Err, ℕ, refl}
use Rattle.semantics_lines.specs.Calls.{Literal}
use Rattle.semantics_lines.specs.Documents.{Mark, free, Document, plain, sequence, object, Documents, document, Members, no_members, member}
use Rattle.semantics.specs.Writing.{Unwritten, Written, of_form, where_fits, written_plain, written_sequence, written_object, written_under, put_document, put_member}

-- the shape has the part
pub form_inverted : {A B : Type 0} (why : Unwritten) (o : Option A) (f : A → Written B) (y : B) → of_form why o f ≡ Ok y → (x : A) × (o ≡ Some x) × (f x ≡ Ok y)
form_inverted why None f y e = absurd cc
form_inverted why (Some x) f y e = (x, refl, e)

pub fits_inverted : {A : Type 0} (b : Bool) (o : Written A) (y : A) → where_fits b o ≡ Ok y → (b ≡ true) × (o ≡ Ok y)
fits_inverted true o y e = (refl, e)
fits_inverted false o y e = absurd cc

pub plain_inverted : (b : Bool) (l : Literal) (d : Document) → written_plain b l ≡ Ok d → (b ≡ true) × (plain l ≡ d)
plain_inverted true l d e = (refl, cc)
plain_inverted false l d e = absurd cc

pub sequence_inverted : (o : Written Documents) (d : Document) → written_sequence o ≡ Ok d → (ds : Documents) × (o ≡ Ok ds) × (sequence ds ≡ d)
sequence_inverted (Err e) d is = absurd cc
sequence_inverted (Ok ds) d is = (ds, refl, cc)

pub object_inverted : (o : Written Members) (d : Document) → written_object o ≡ Ok d → (ms : Members) × (o ≡ Ok ms) × (object ms ≡ d)
object_inverted (Err e) d is = absurd cc
object_inverted (Ok ms) d is = (ms, refl, cc)

pub under_inverted : (name : List ℕ) (o : Written Document) (d : Document) → written_under name o ≡ Ok d → (x : Document) × (o ≡ Ok x) × (object (member free name x no_members) ≡ d)
under_inverted name (Err e) d is = absurd cc
under_inverted name (Ok x) d is = (x, refl, cc)

pub document_inverted : (d : Written Document) (o : Written Documents) (ds : Documents) → put_document d o ≡ Ok ds
    → (x : Document) × (xs : Documents) × (d ≡ Ok x) × (o ≡ Ok xs) × (ds ≡ document x xs)
document_inverted (Err e) o ds is = absurd cc
document_inverted (Ok x) (Err e) ds is = absurd cc
document_inverted (Ok x) (Ok xs) ds is = (x, xs, refl, refl, cc)

pub put_inverted : (m : Mark) (name : List ℕ) (d : Written Document) (o : Written Members) (ms : Members) → put_member m name d o ≡ Ok ms
    → (x : Document) × (ns : Members) × (d ≡ Ok x) × (o ≡ Ok ns) × (ms ≡ member m name x ns)
put_inverted m name (Err e) o ms is = absurd cc
put_inverted m name (Ok x) (Err e) ms is = absurd cc
put_inverted m name (Ok x) (Ok ns) ms is = (x, ns, refl, refl, cc)
