use Rattle.std.proofs.Common.{◌<◌, ◌≡◌, ◌++◌, ◌∷◌, [], length, map, Some, None, sym, ap, ◌∙◌, subst, arith}
use Rattle.std.proofs.lemmas.Bool.Decides.{nat_tests}
use Rattle.std.proofs.lemmas.List.{map-append}
use Rattle.shape_types.specs.Texts.{phrase_of}
use Rattle.tape_text.specs.Suffixes.{doc_at}
use Rattle.tape_text.proofs.Suffixes.{ReadDocs, read_none, read_more, read_over, read_bad, doc_shorter}
use Rattle.tape_text.proofs.suffix.docs_at.Goals as goal

pub docs-init : goal.docs-init
docs-init c = rw c.new-docs.ensures (read_none c.args.text.now c.utf8.text)

pub docs-smaller : goal.docs-smaller
docs-smaller c =
    let read : doc_at c.docs.rest.now ≡ Some (phrase_of c.in-Ok-Some.doc, c.in-Ok-Some.later.now) = sym (rw c.in-Ok-Some.field-0-is at c.in-Ok-Some.ensures) in
    doc_shorter c.docs.rest.now c.in-Ok-Some.later.now (phrase_of c.in-Ok-Some.doc) read

pub docs-preserved : goal.docs-preserved
docs-preserved c =
    let t = phrase_of c.in-Ok-Some.doc in
    let read : doc_at c.docs.rest.now ≡ Some (t, c.in-Ok-Some.later.now) = sym (rw c.in-Ok-Some.field-0-is at c.in-Ok-Some.ensures) in
    let grown : map phrase_of c.push.new.self ≡ map phrase_of c.docs.docs ++ t ∷ [] = ap (map phrase_of) c.in_ok-push-in-Ok-Some.ensures.ok ∙ map-append phrase_of c.docs.docs (c.in-Ok-Some.doc ∷ []) in
    subst (ReadDocs c.args.text.now c.in-Ok-Some.later.now) (sym grown) (read_more c.args.text.now c.docs.rest.now c.in-Ok-Some.later.now (map phrase_of c.docs.docs) t c.docs.invariant read)

pub returns-in-Ok-None : goal.returns-in-Ok-None
returns-in-Ok-None c =
    let rest = c.docs.rest.now in
    let some : 0 < length rest = grind (arith, nat_tests) in
    let read : doc_at rest ≡ None = sym (rw c.in-Ok-None.field-0-is at c.in-Ok-None.ensures) in
    sym (read_bad c.args.text.now rest (map phrase_of c.docs.docs) c.docs.invariant some read)

pub returns : goal.returns
returns c =
    let rest = c.docs.rest.now in
    let over : length rest ≡ 0 = grind (arith, nat_tests) in
    sym (read_over c.args.text.now rest (map phrase_of c.docs.docs) c.docs.invariant over)
