-- What stands behind the body of a line.
use Rattle.std.proofs.Common.{ℕ, zero, suc, ◌+◌, ◌-◌, ◌<◌, ◌≤◌, ◌≡◌, List, [], ◌∷◌, ◌++◌, length, Option, Some, None, sym, refl, ap, ◌∙◌, subst, arith, append_assoc, append-nil, length-append, get_or, drop}
use Rattle.std.specs.Prelude.{codes, option_map, option_and_then}
use Rattle.std.specs.List.{flat_map}
use Rattle.std.specs.Str.{IsUtf8, IsCharBoundary}
use Rattle.std.proofs.lemmas.Str.{IsUtf8-drop, IsCharBoundary-after_ascii}
use Rattle.std.proofs.lemmas.List.{get_or_at, drop_at}
use Rattle.semantics_lines.specs.Texts.{Phrase}
use Rattle.semantics_lines.specs.Events.{Metadata}
use Rattle.semantics_lines.specs.Lines.{escape, quoted, tag_suffix, doc_suffix, suffix, IsTapeText, IsTapeTag, AreTapeTexts}
use Rattle.laws_lines.specs.Fronts.{strip}
use Rattle.laws_lines.specs.Quoted.{text_at}
use Rattle.tape_text.specs.Suffixes.{Tagged, tagged, tag_in, tag_at, doc_at, doc_first, docs_at, metadata, with_docs, metadata_at}
use Rattle.laws_lines.proofs.Tests.{mapped, bound}
use Rattle.laws_lines.proofs.Fronts.{strip-again, strip-takes, EndsWord}
use Rattle.laws_lines.proofs.Quotes.{text-again, text-takes}

pub doc-again : (t : Phrase) (rest : List ℕ) → IsTapeText t → doc_at (doc_suffix t ++ rest) ≡ Some (t, rest)
unfolding doc_at
doc-again t rest is =
    ap (λ x. option_and_then text_at (strip (codes " doc ") x)) (append_assoc (codes " doc ") (quoted t.bytes) rest)
    ∙ ap (option_and_then text_at) (strip-again (codes " doc ") (quoted t.bytes ++ rest)) ∙ text-again t rest is

pub doc-takes : (l : List ℕ) (p : Phrase × List ℕ) → doc_at l ≡ Some p → (l ≡ doc_suffix p.0 ++ p.1) × IsTapeText p.0
unfolding doc_at
doc-takes l p h =
    let a = bound text_at (strip (codes " doc ") l) p h in
    let w = text-takes a.0 p a.2 in
    (strip-takes (codes " doc ") l a.0 a.1 ∙ ap (λ x. codes " doc " ++ x) w.0 ∙ sym (append_assoc (codes " doc ") (quoted p.0.bytes) p.1), w.1)

-- so many lines at most
docs-more : (n b : ℕ) (bs : List ℕ) → docs_at (suc n) (b ∷ bs) ≡ doc_first (docs_at n) (doc_at (b ∷ bs))
unfolding docs_at
docs-more n b bs = refl

docs-again : (n : ℕ) (ts : List Phrase) → length ts ≤ n → AreTapeTexts ts → docs_at n (flat_map doc_suffix ts) ≡ Some ts
unfolding docs_at
docs-again n [] h all = refl
docs-again zero (t ∷ ts) h all = absurd (omega (arith, h))
docs-again (suc n) (t ∷ ts) h all =
    ap (doc_first (docs_at n)) (doc-again t (flat_map doc_suffix ts) all.0)
    ∙ ap (option_map (λ us. t ∷ us)) (docs-again n ts (omega (arith, h)) all.1)

docs-length : (ts : List Phrase) → length ts ≤ length (flat_map doc_suffix ts)
docs-length [] = omega arith
docs-length (t ∷ ts) = omega (arith, docs-length ts, length-append (doc_suffix t) (flat_map doc_suffix ts))

pub docs-whole : (ts : List Phrase) → AreTapeTexts ts → docs_at (length (flat_map doc_suffix ts)) (flat_map doc_suffix ts) ≡ Some ts
docs-whole ts all = docs-again (length (flat_map doc_suffix ts)) ts (docs-length ts) all

first-some : (docs : List ℕ → Option (List Phrase)) (o : Option (Phrase × List ℕ)) (ts : List Phrase) → doc_first docs o ≡ Some ts
    → (p : Phrase × List ℕ) × (us : List Phrase) × (o ≡ Some p) × (docs p.1 ≡ Some us) × (p.0 ∷ us ≡ ts)
first-some docs None ts h = absurd (let f : None ≡ Some ts = h in cc)
first-some docs (Some p) ts h = let m = mapped (λ us. p.0 ∷ us) (docs p.1) ts h in (p, m.0, refl, m.1, m.2)

pub docs-takes : (n : ℕ) (l : List ℕ) (ts : List Phrase) → docs_at n l ≡ Some ts → (l ≡ flat_map doc_suffix ts) × AreTapeTexts ts
unfolding docs_at
docs-takes n [] ts h =
    let is : [] ≡ ts = (let g : Some [] ≡ Some ts = h in cc) in
    subst (λ (us : List Phrase). ([] ≡ flat_map doc_suffix us) × AreTapeTexts us) is (refl, tt)
docs-takes zero (b ∷ bs) ts h = absurd (let f : None ≡ Some ts = h in cc)
docs-takes (suc n) (b ∷ bs) ts h =
    let s = first-some (docs_at n) (doc_at (b ∷ bs)) ts h in
    let d = doc-takes (b ∷ bs) s.0 s.2 in
    let more = docs-takes n s.0.1 s.1 s.3 in
    subst (λ (us : List Phrase). (b ∷ bs ≡ flat_map doc_suffix us) × AreTapeTexts us) s.4
    (d.0 ∙ ap (λ x. doc_suffix s.0.0 ++ x) more.0, (d.1, more.1))

-- reading the lines one by one

utf8_behind : (l xs next : List ℕ) → IsUtf8 l → l ≡ xs ++ (34 ∷ next) → IsUtf8 next
utf8_behind l xs next u e =
    let long : length l ≡ length xs + (length next + 1) = ap length e ∙ length-append xs (34 ∷ next) ∙ omega arith in
    let quote : get_or l (length xs) 0 ≡ 34 = ap (λ x. get_or x (length xs) 0) e ∙ get_or_at xs 34 next 0 (length xs) refl in
    let cut : IsCharBoundary l (length xs + 1) = IsCharBoundary-after_ascii l (length xs) u (omega arith) (omega arith) in
    let behind : drop (length xs + 1) l ≡ next = ap (drop (length xs + 1)) (e ∙ sym (append_assoc xs (34 ∷ []) next)) ∙ drop_at (xs ++ 34 ∷ []) next (length xs + 1) (length-append xs (34 ∷ [])) in
    subst (λ (x : List ℕ). IsUtf8 x) behind (IsUtf8-drop l (length xs + 1) u cut)

-- what stands behind a line of documentation is text
doc-utf8 : (l next : List ℕ) (t : Phrase) → IsUtf8 l → l ≡ doc_suffix t ++ next → IsUtf8 next
doc-utf8 l next t u e =
    let front : List ℕ = codes " doc " ++ (34 ∷ flat_map escape t.bytes) in
    utf8_behind l front next u (e ∙ ap (λ x. codes " doc " ++ 34 ∷ x) (append_assoc (flat_map escape t.bytes) (34 ∷ []) next))

-- these lines were read of the text, before the rest of it
pub record ReadDocs (text rest : List ℕ) (docs : List Phrase) : Type 0 where
  read : (k : ℕ) → docs_at (length docs + k) text ≡ option_map (λ us. docs ++ us) (docs_at k rest)
  short : length docs + length rest ≤ length text
  pub utf8 : IsUtf8 rest

nothing_before : (o : Option (List Phrase)) → o ≡ option_map (λ us. [] ++ us) o
nothing_before None = refl
nothing_before (Some us) = refl

one_before : (docs : List Phrase) (t : Phrase) (o : Option (List Phrase)) → option_map (λ us. docs ++ us) (option_map (λ us. t ∷ us) o) ≡ option_map (λ us. (docs ++ t ∷ []) ++ us) o
one_before docs t None = refl
one_before docs t (Some us) = ap Some (sym (append_assoc docs (t ∷ []) us))

no_doc : doc_at [] ≡ None
unfolding doc_at
no_doc = refl

docs_step : (k : ℕ) (rest : List ℕ) (t : Phrase) (next : List ℕ) → doc_at rest ≡ Some (t, next) → docs_at (suc k) rest ≡ option_map (λ us. t ∷ us) (docs_at k next)
docs_step k [] t next h = absurd (let f : None ≡ Some (t, next) = sym no_doc ∙ h in cc)
docs_step k (b ∷ bs) t next h = docs-more k b bs ∙ ap (doc_first (docs_at k)) h

docs_stop : (k : ℕ) (rest : List ℕ) → 0 < length rest → doc_at rest ≡ None → docs_at (suc k) rest ≡ None
docs_stop k [] some h = absurd (omega (arith, some))
docs_stop k (b ∷ bs) some h = docs-more k b bs ∙ ap (doc_first (docs_at k)) h

docs_over : (k : ℕ) (rest : List ℕ) → length rest ≡ 0 → docs_at k rest ≡ Some []
unfolding docs_at
docs_over k [] h = refl
docs_over k (b ∷ bs) h = absurd (omega (arith, h))

pub read_none : (text : List ℕ) → IsUtf8 text → ReadDocs text text []
read_none text u = record { read = λ k. ap (λ n. docs_at n text) (let e : 0 + k ≡ k = omega arith in e) ∙ nothing_before (docs_at k text); short = omega arith; utf8 = u }

pub doc_shorter : (rest next : List ℕ) (t : Phrase) → doc_at rest ≡ Some (t, next) → length next < length rest
doc_shorter rest next t h =
    let d = doc-takes rest (t, next) h in
    omega (arith, ap length d.0, length-append (doc_suffix t) next)

pub read_more : (text rest next : List ℕ) (docs : List Phrase) (t : Phrase) → ReadDocs text rest docs → doc_at rest ≡ Some (t, next) → ReadDocs text next (docs ++ t ∷ [])
read_more text rest next docs t r h =
    let d = doc-takes rest (t, next) h in
    let long = length-append docs (t ∷ []) in
    record {
      read = λ k. ap (λ n. docs_at n text) (let e : length (docs ++ t ∷ []) + k ≡ length docs + suc k = omega (arith, long) in e)
          ∙ r.read (suc k) ∙ ap (option_map (λ us. docs ++ us)) (docs_step k rest t next h) ∙ one_before docs t (docs_at k next);
      short = omega (arith, long, r.short, doc_shorter rest next t h);
      utf8 = doc-utf8 rest next t r.utf8 d.0;
    }

pub read_over : (text rest : List ℕ) (docs : List Phrase) → ReadDocs text rest docs → length rest ≡ 0 → docs_at (length text) text ≡ Some docs
read_over text rest docs r h =
    let k : ℕ = length text - length docs in
    ap (λ n. docs_at n text) (let e : length text ≡ length docs + k = omega (arith, r.short) in e)
    ∙ r.read k ∙ ap (option_map (λ us. docs ++ us)) (docs_over k rest h) ∙ ap Some (append-nil docs)

pub read_bad : (text rest : List ℕ) (docs : List Phrase) → ReadDocs text rest docs → 0 < length rest → doc_at rest ≡ None → docs_at (length text) text ≡ None
read_bad text rest docs r some h =
    let k : ℕ = length text - length docs - 1 in
    ap (λ n. docs_at n text) (let e : length text ≡ length docs + suc k = omega (arith, r.short, some) in e)
    ∙ r.read (suc k) ∙ ap (option_map (λ us. docs ++ us)) (docs_stop k rest some h)

-- a tag

no_tag : (ts : List Phrase) → strip (codes " tag ") (flat_map doc_suffix ts) ≡ None
no_tag [] = refl
no_tag (t ∷ ts) = refl

tag-again : (t : Option Phrase) (ts : List Phrase) → IsTapeTag t → tag_at (tag_suffix t ++ flat_map doc_suffix ts) ≡ Some (t, flat_map doc_suffix ts)
unfolding tag_at
tag-again None ts is = ap (tag_in (flat_map doc_suffix ts)) (no_tag ts)
tag-again (Some t) ts is = ap (option_map tagged) (text-again t (flat_map doc_suffix ts) is)

tag_by : (l : List ℕ) (o : Option (List ℕ)) (x : Tagged) → strip (codes " tag ") l ≡ o → tag_in l o ≡ Some x → (l ≡ tag_suffix x.0 ++ x.1) × IsTapeTag x.0
tag_by l None x e h =
    let is : (None, l) ≡ x = (let g : Some (None, l) ≡ Some x = h in cc) in
    subst (λ (y : Tagged). (l ≡ tag_suffix y.0 ++ y.1) × IsTapeTag y.0) is (refl, tt)
tag_by l (Some rest) x e h =
    let m = mapped tagged (text_at rest) x h in
    let w = text-takes rest m.0 m.1 in
    subst (λ (y : Tagged). (l ≡ tag_suffix y.0 ++ y.1) × IsTapeTag y.0) m.2
    (strip-takes (codes " tag ") l rest e ∙ ap (λ r. codes " tag " ++ r) w.0 ∙ sym (append_assoc (codes " tag ") (quoted m.0.0.bytes) m.0.1), w.1)

tag-takes : (l : List ℕ) (x : Tagged) → tag_at l ≡ Some x → (l ≡ tag_suffix x.0 ++ x.1) × IsTapeTag x.0
unfolding tag_at
tag-takes l x h = tag_by l (strip (codes " tag ") l) x refl h

-- both

pub metadata-again : (t : Option Phrase) (ts : List Phrase) → IsTapeTag t → AreTapeTexts ts → metadata_at (suffix (metadata t ts)) ≡ Some (metadata t ts)
unfolding metadata_at
metadata-again t ts is all =
    ap (option_and_then with_docs) (tag-again t ts is) ∙ ap (option_map (metadata t)) (docs-whole ts all)

-- what is told behind a body
pub record Tells (l : List ℕ) (m : Metadata) : Type 0 where
  pub tag : Option Phrase
  pub docs : List Phrase
  pub is : metadata tag docs ≡ m
  pub front : l ≡ suffix (metadata tag docs)
  pub tag_text : IsTapeTag tag
  pub docs_texts : AreTapeTexts docs

-- where no text is, nothing is told
pub nothing_told : metadata_at [] ≡ Some (metadata None [])
unfolding metadata_at
nothing_told = metadata-again None [] _ _

pub metadata-takes : (l : List ℕ) (m : Metadata) → metadata_at l ≡ Some m → Tells l m
unfolding metadata_at
metadata-takes l m h =
    let a = bound with_docs (tag_at l) m h in
    let b = mapped (metadata a.0.0) (docs_at (length a.0.1) a.0.1) m a.2 in
    let t = tag-takes l a.0 a.1 in
    let d = docs-takes (length a.0.1) a.0.1 b.0 b.1 in
    record { tag = a.0.0; docs = b.0; is = b.2; front = t.0 ∙ ap (λ x. tag_suffix a.0.0 ++ x) d.0; tag_text = t.1; docs_texts = d.1 }

pub suffix-ends : (t : Option Phrase) (ts : List Phrase) → EndsWord (suffix (metadata t ts))
suffix-ends None [] = tt
suffix-ends None (d ∷ ts) = refl
suffix-ends (Some t) ts = refl
