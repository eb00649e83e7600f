use Rattle.std.proofs.Common.{[], refl}
use Rattle.semantics_lines.specs.Documents.{Document, plain, sequence, object, Documents, no_documents, document, Members, no_members, member, member_list, Permuted, EachPermuted, Reordered}
use Rattle.laws.proofs.form_is_valid.Goals as goal

-- each in its own order
mutual
  same_order : (d : Document) → Permuted d d
  same_order (plain l) = refl
  same_order (sequence ds) = (ds, refl, each_same ds)
  same_order (object ms) = (ms, refl, members_same ms)

  each_same : (ds : Documents) → EachPermuted ds ds
  each_same no_documents = refl
  each_same (document d ds) = (d, ds, refl, same_order d, each_same ds)

  members_same : (ms : Members) → Reordered ms (member_list ms)
  members_same no_members = refl
  members_same (member m k d ms) = ([], member_list ms, d, refl, (λ in_order. tt), same_order d, members_same ms)

pub returns : goal.returns
returns c g root budget value d separable of_root utf8 clean deep written = record {
  separable = separable;
  of_root = of_root;
  utf8 = utf8;
  clean = clean;
  deep = deep;
  written = written;
  permuted = d;
  order = same_order d;
  taped = refl;
}
