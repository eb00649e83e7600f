-- The line of an event is its body and what is told behind it.
use Rattle.std.proofs.Common.{ℕ, ◌≡◌, List, [], ◌∷◌, ◌++◌, Bool, true, false, cond, ◌||◌, Option, Some, None, is_none, sym, refl, ap, ◌∙◌, append-nil}
use Rattle.std.specs.Prelude.{codes, option_map}
use Rattle.semantics_lines.specs.Texts.{Phrase}
use Rattle.semantics_lines.specs.Events.{Span, Metadata, Note, Scalar, unit, null, bool, char, i64, u64, i128, u128, str, bytes, Key, named, nameless, ordered, scalar, key, tag, of_struct, of_sequence, object_kind, array_kind, Event, leaf, start, stop, span_of}
use Rattle.semantics_lines.specs.Lines.{quoted, scalar_body, tag_body, suffix, says_nothing, with_metadata, with_some, with_none, scalar_line, key_line, line_of, IsTapeTag, AreTapeTexts, IsTapeMetadata, IsTapeScalar, IsTapeKey, HasTapeTexts}
use Rattle.tape_text.specs.Suffixes.{metadata}
use Rattle.tape_text.specs.Bodies.{Body, opens, closes, next_field, names, tags, holds, scalar_takes_metadata, takes_metadata}
use Rattle.tape_text.specs.Reading.{is_silent, told, noted, line_note, event_from}
use Rattle.tape_text.proofs.BodyLaws.{body_text, HasBodyTexts}
use Rattle.tape_text.proofs.BodyAgain.{some_is}

-- from a body to a line

-- nothing is told where the metadata are silent
silent_suffix : (t : Option Phrase) (ds : List Phrase) → is_silent (metadata t ds) ≡ true → (told (metadata t ds) ≡ None) × (suffix (metadata t ds) ≡ [])
silent_suffix None [] h = (refl, refl)
silent_suffix None (d ∷ ds) h = absurd (cc h)
silent_suffix (Some t) ds h = absurd (cc h)

told_line : (t : Option Phrase) (ds : List Phrase) (body : List ℕ) → with_some (told (metadata t ds)) (Some body) ≡ Some (body ++ suffix (metadata t ds))
told_line None [] body = ap Some (sym (append-nil body))
told_line None (d ∷ ds) body = refl
told_line (Some t) ds body = refl

silent_line : (t : Option Phrase) (ds : List Phrase) (body : List ℕ) → is_silent (metadata t ds) ≡ true → with_none (told (metadata t ds)) (Some body) ≡ Some (body ++ suffix (metadata t ds))
silent_line None [] body h = ap Some (sym (append-nil body))
silent_line None (d ∷ ds) body h = absurd (cc h)
silent_line (Some t) ds body h = absurd (cc h)

told_texts : (t : Option Phrase) (ds : List Phrase) → IsTapeTag t → AreTapeTexts ds → IsTapeMetadata (told (metadata t ds))
told_texts None [] p q = tt
told_texts None (d ∷ ds) p q = (p, q)
told_texts (Some t) ds p q = (p, q)

-- the event has this line, and the texts of a tape
pub record HasLine (e : Event) (line : List ℕ) : Type 0 where
  pub spelled : line_of e ≡ Some line
  pub texts : HasTapeTexts e

bytes_line : (x : List ℕ) (b : Bool) (t : Option Phrase) (ds : List Phrase) (body : List ℕ) → scalar_takes_metadata (bytes (record { bytes = x; borrowed = b })) || is_silent (metadata t ds) ≡ true
    → scalar_body (bytes (record { bytes = x; borrowed = b })) ≡ Some body
    → scalar_line (bytes (record { bytes = x; borrowed = b })) (told (metadata t ds)) ≡ Some (body ++ suffix (metadata t ds))
bytes_line [] b t ds body h e = ap (with_none (told (metadata t ds))) e ∙ silent_line t ds body h
bytes_line (c ∷ x) b t ds body h e = ap (with_some (told (metadata t ds))) e ∙ told_line t ds body

scalar_made : (s : Scalar) (t : Option Phrase) (ds : List Phrase) (body : List ℕ) → scalar_takes_metadata s || is_silent (metadata t ds) ≡ true → scalar_body s ≡ Some body
    → scalar_line s (told (metadata t ds)) ≡ Some (body ++ suffix (metadata t ds))
scalar_made (bytes x) t ds body h e = bytes_line x.bytes x.borrowed t ds body h e
scalar_made unit t ds body h e = ap (with_some (told (metadata t ds))) e ∙ told_line t ds body
scalar_made null t ds body h e = ap (with_some (told (metadata t ds))) e ∙ told_line t ds body
scalar_made (bool x) t ds body h e = ap (with_some (told (metadata t ds))) e ∙ told_line t ds body
scalar_made (char x) t ds body h e = ap (with_some (told (metadata t ds))) e ∙ told_line t ds body
scalar_made (i64 x) t ds body h e = ap (with_some (told (metadata t ds))) e ∙ told_line t ds body
scalar_made (u64 x) t ds body h e = ap (with_some (told (metadata t ds))) e ∙ told_line t ds body
scalar_made (i128 x) t ds body h e = ap (with_some (told (metadata t ds))) e ∙ told_line t ds body
scalar_made (u128 x) t ds body h e = ap (with_some (told (metadata t ds))) e ∙ told_line t ds body
scalar_made (str x) t ds body h e = ap (with_some (told (metadata t ds))) e ∙ told_line t ds body

pub line_made : (b : Body) (s : Span) (t : Option Phrase) (ds : List Phrase) (body : List ℕ) → IsTapeTag t → AreTapeTexts ds → takes_metadata b || is_silent (metadata t ds) ≡ true
    → body_text b ≡ Some body → HasBodyTexts b → HasLine (event_from b s (metadata t ds)) (body ++ suffix (metadata t ds))
line_made (opens of_struct) s t ds body p q h e x = record { spelled = ap (with_some (told (metadata t ds))) e ∙ told_line t ds body; texts = told_texts t ds p q }
line_made (opens of_sequence) s t ds body p q h e x = record { spelled = ap (with_some (told (metadata t ds))) e ∙ told_line t ds body; texts = told_texts t ds p q }
line_made (closes of_struct) s t ds body p q h e x = record { spelled = ap (with_none (told (metadata t ds))) e ∙ silent_line t ds body h; texts = told_texts t ds p q }
line_made (closes of_sequence) s t ds body p q h e x = record { spelled = ap (with_none (told (metadata t ds))) e ∙ silent_line t ds body h; texts = told_texts t ds p q }
line_made next_field s t ds body p q h e x = record { spelled = ap (with_none (told (metadata t ds))) e ∙ silent_line t ds body h; texts = tt }
line_made (names None) s t ds body p q h e x = record { spelled = ap (with_metadata (metadata t ds)) e; texts = (p, q) }
line_made (names (Some y)) s t ds body p q h e x = record { spelled = ap (with_some (told (metadata t ds))) e ∙ told_line t ds body; texts = (x, told_texts t ds p q) }
line_made (tags o) s t ds body p q h e x = record { spelled = ap (with_some (told (metadata t ds))) e ∙ told_line t ds body; texts = told_texts t ds p q }
line_made (holds v) s t ds body p q h e x = record { spelled = scalar_made v t ds body h e; texts = (x, told_texts t ds p q) }

-- from a line to a body

-- the line is made of these
pub record IsMade (e : Event) (line : List ℕ) : Type 0 where
  pub body : Body
  pub tag : Option Phrase
  pub docs : List Phrase
  pub text : List ℕ
  pub tag_text : IsTapeTag tag
  pub docs_texts : AreTapeTexts docs
  pub fits : takes_metadata body || is_silent (metadata tag docs) ≡ true
  pub spelled : body_text body ≡ Some text
  pub texts : HasBodyTexts body
  pub line_is : line ≡ text ++ suffix (metadata tag docs)
  pub event_is : event_from body (span_of e) (metadata tag docs) ≡ e

-- what is told behind a body
record IsTold (m : Option Metadata) (body line : List ℕ) : Type 0 where
  tag : Option Phrase
  docs : List Phrase
  tag_text : IsTapeTag tag
  docs_texts : AreTapeTexts docs
  line_is : line ≡ body ++ suffix (metadata tag docs)
  is : told (metadata tag docs) ≡ m

told_none : (body line : List ℕ) → body ≡ line → IsTold None body line
told_none body line e = record { tag = None; docs = []; tag_text = tt; docs_texts = tt; line_is = sym e ∙ sym (append-nil body); is = refl }

told_some : (t : Option Phrase) (ds : List Phrase) (s : Option Span) (body line : List ℕ) → with_some (Some (record { tag = t; docs = ds; span = s })) (Some body) ≡ Some line
    → IsTapeTag t → AreTapeTexts ds → IsTold (Some (record { tag = t; docs = ds; span = s })) body line
told_some None [] s body line h p q = absurd (let g : None ≡ Some line = h in cc)
told_some None (d ∷ ds) None body line h p q = record { tag = None; docs = d ∷ ds; tag_text = p; docs_texts = q; line_is = sym (some_is h); is = refl }
told_some None (d ∷ ds) (Some s) body line h p q = absurd (let g : None ≡ Some line = h in cc)
told_some (Some t) ds None body line h p q = record { tag = Some t; docs = ds; tag_text = p; docs_texts = q; line_is = sym (some_is h); is = refl }
told_some (Some t) ds (Some s) body line h p q = absurd (let g : None ≡ Some line = h in cc)

some_told : (m : Option Metadata) (body line : List ℕ) → with_some m (Some body) ≡ Some line → IsTapeMetadata m → IsTold m body line
some_told None body line h p = told_none body line (some_is h)
some_told (Some m) body line h p = told_some m.tag m.docs m.span body line h p.0 p.1

-- the body is there where the line is
untold : (a b : Bool) (o : Option (List ℕ)) → o ≡ None → cond a None (cond b o None) ≡ None
untold true b o h = refl
untold false true o h = h
untold false false o h = refl

no_body : (m : Option Metadata) → with_some m None ≡ None
no_body None = refl
no_body (Some m) = untold (says_nothing m) (is_none m.span) (option_map (λ text. text ++ suffix m) None) refl

with_body : (m : Option Metadata) (o : Option (List ℕ)) (line : List ℕ) → with_some m o ≡ Some line → (body : List ℕ) × (o ≡ Some body) × (with_some m (Some body) ≡ Some line)
with_body m None line h = absurd (let g : None ≡ Some line = sym (no_body m) ∙ h in cc)
with_body m (Some body) line h = (body, refl, h)

without : (m : Option Metadata) (o : Option (List ℕ)) (line : List ℕ) → with_none m o ≡ Some line → (m ≡ None) × (o ≡ Some line)
without None o line h = (refl, h)
without (Some m) o line h = absurd (let g : None ≡ Some line = h in cc)

either : (b : Bool) → b || true ≡ true
either true = refl
either false = refl

-- an event whose note has what is told
of_note : (b : Body) (make : Note → Event) (n : Note) (body line : List ℕ) → takes_metadata b ≡ true → ((m : Metadata) → event_from b n.span m ≡ make (noted n.span m)) → span_of (make n) ≡ n.span
    → body_text b ≡ Some body → HasBodyTexts b → with_some n.metadata (Some body) ≡ Some line → IsTapeMetadata n.metadata → IsMade (make n) line
of_note b make n body line takes from span s x h p =
    let t = some_told n.metadata body line h p in
    record {
      body = b;
      tag = t.tag;
      docs = t.docs;
      text = body;
      tag_text = t.tag_text;
      docs_texts = t.docs_texts;
      fits = ap (λ a. a || is_silent (metadata t.tag t.docs)) takes;
      spelled = s;
      texts = x;
      line_is = t.line_is;
      event_is = ap (λ y. event_from b y (metadata t.tag t.docs)) span ∙ from (metadata t.tag t.docs) ∙ ap (λ m. make (record { span = n.span; metadata = m })) t.is;
    }

-- an event with which nothing can be told
of_place : (b : Body) (make : Note → Event) (n : Note) (body line : List ℕ) → ((m : Metadata) → event_from b n.span m ≡ make (noted n.span m)) → span_of (make n) ≡ n.span
    → body_text b ≡ Some body → HasBodyTexts b → with_none n.metadata (Some body) ≡ Some line → IsMade (make n) line
of_place b make n body line from span s x h =
    let w = without n.metadata (Some body) line h in
    record {
      body = b;
      tag = None;
      docs = [];
      text = body;
      tag_text = tt;
      docs_texts = tt;
      fits = either (takes_metadata b);
      spelled = s;
      texts = x;
      line_is = sym (some_is w.1) ∙ sym (append-nil body);
      event_is = ap (λ y. event_from b y (metadata None [])) span ∙ from (metadata None []) ∙ ap (λ m. make (record { span = n.span; metadata = m })) (sym w.0);
    }

scalar_alone : (s : Scalar) (n : Note) (line : List ℕ) → scalar_takes_metadata s ≡ true → IsTapeScalar s → with_some n.metadata (scalar_body s) ≡ Some line → IsTapeMetadata n.metadata → IsMade (leaf (scalar s n)) line
scalar_alone s n line takes x h p =
    let w = with_body n.metadata (scalar_body s) line h in
    of_note (holds s) (λ y. leaf (scalar s y)) n w.0 line takes (λ m. refl) refl w.1 x w.2 p

bytes_made : (x : List ℕ) (b : Bool) (n : Note) (line : List ℕ) → b ≡ false → scalar_line (bytes (record { bytes = x; borrowed = b })) n.metadata ≡ Some line → IsTapeMetadata n.metadata
    → IsMade (leaf (scalar (bytes (record { bytes = x; borrowed = b })) n)) line
bytes_made [] b n line x h p = of_place (holds (bytes (record { bytes = []; borrowed = b }))) (λ y. leaf (scalar (bytes (record { bytes = []; borrowed = b })) y)) n (codes "b ") line (λ m. refl) refl refl x h
bytes_made (c ∷ cs) b n line x h p = scalar_alone (bytes (record { bytes = c ∷ cs; borrowed = b })) n line refl x h p

scalar_is_made : (s : Scalar) (n : Note) (line : List ℕ) → scalar_line s n.metadata ≡ Some line → IsTapeScalar s → IsTapeMetadata n.metadata → IsMade (leaf (scalar s n)) line
scalar_is_made (bytes x) n line h t p = bytes_made x.bytes x.borrowed n line t h p
scalar_is_made unit n line h t p = scalar_alone unit n line refl t h p
scalar_is_made null n line h t p = scalar_alone null n line refl t h p
scalar_is_made (bool x) n line h t p = scalar_alone (bool x) n line refl t h p
scalar_is_made (char x) n line h t p = scalar_alone (char x) n line refl t h p
scalar_is_made (i64 x) n line h t p = scalar_alone (i64 x) n line refl t h p
scalar_is_made (u64 x) n line h t p = scalar_alone (u64 x) n line refl t h p
scalar_is_made (i128 x) n line h t p = scalar_alone (i128 x) n line refl t h p
scalar_is_made (u128 x) n line h t p = scalar_alone (u128 x) n line refl t h p
scalar_is_made (str x) n line h t p = scalar_alone (str x) n line refl t h p

bare_place : (n : Note) → n.metadata ≡ None → line_note n.span ≡ n
bare_place n h = ap (λ m. record { span = n.span; metadata = m }) (sym h)

nameless_told : (t : Option Phrase) (ds : List Phrase) (s : Option Span) (body line : List ℕ) → with_metadata (record { tag = t; docs = ds; span = s }) (Some body) ≡ Some line
    → (line ≡ body ++ suffix (metadata t ds)) × (metadata t ds ≡ record { tag = t; docs = ds; span = s })
nameless_told t ds None body line h = (sym (some_is h), refl)
nameless_told t ds (Some s) body line h = absurd (let g : None ≡ Some line = h in cc)

key_is_made : (k : Key) (line : List ℕ) → key_line k ≡ Some line → IsTapeKey k → IsMade (leaf (key k)) line
key_is_made (named x m n) line h t =
    let w = without n.metadata (with_some m (Some (codes "k " ++ quoted x.bytes))) line h in
    let told_there = some_told m (codes "k " ++ quoted x.bytes) line w.1 t.1 in
    record {
      body = names (Some x);
      tag = told_there.tag;
      docs = told_there.docs;
      text = codes "k " ++ quoted x.bytes;
      tag_text = told_there.tag_text;
      docs_texts = told_there.docs_texts;
      fits = refl;
      spelled = refl;
      texts = t.0;
      line_is = told_there.line_is;
      event_is = ap (λ o. leaf (key (named x o (line_note n.span)))) told_there.is ∙ ap (λ y. leaf (key (named x m y))) (bare_place n w.0);
    }
key_is_made (nameless m n) line h t =
    let w = without n.metadata (with_metadata m (Some (codes "k -"))) line h in
    let told_there = nameless_told m.tag m.docs m.span (codes "k -") line w.1 in
    record {
      body = names None;
      tag = m.tag;
      docs = m.docs;
      text = codes "k -";
      tag_text = t.0;
      docs_texts = t.1;
      fits = refl;
      spelled = refl;
      texts = tt;
      line_is = told_there.0;
      event_is = ap (λ x. leaf (key (nameless x (line_note n.span)))) told_there.1 ∙ ap (λ y. leaf (key (nameless m y))) (bare_place n w.0);
    }
key_is_made (ordered n) line h t = of_place next_field (λ y. leaf (key (ordered y))) n (codes "o") line (λ m. refl) refl refl tt h

tag_is_made : (o : Option (List ℕ)) (n : Note) (line : List ℕ) → with_some n.metadata (tag_body o) ≡ Some line → IsTapeMetadata n.metadata → IsMade (leaf (tag o n)) line
tag_is_made o n line h p =
    let w = with_body n.metadata (tag_body o) line h in
    of_note (tags o) (λ y. leaf (tag o y)) n w.0 line refl (λ m. refl) refl w.1 tt w.2 p

pub line_is_made : (e : Event) (line : List ℕ) → line_of e ≡ Some line → HasTapeTexts e → IsMade e line
line_is_made (leaf (scalar s n)) line h t = scalar_is_made s n line h t.0 t.1
line_is_made (leaf (key k)) line h t = key_is_made k line h t
line_is_made (leaf (tag o n)) line h t = tag_is_made o n line h t
line_is_made (start of_struct object_kind n) line h t = of_note (opens of_struct) (λ y. start of_struct object_kind y) n (codes "{") line refl (λ m. refl) refl refl tt h t
line_is_made (start of_struct array_kind n) line h t = absurd (let g : None ≡ Some line = h in cc)
line_is_made (start of_sequence object_kind n) line h t = absurd (let g : None ≡ Some line = h in cc)
line_is_made (start of_sequence array_kind n) line h t = of_note (opens of_sequence) (λ y. start of_sequence array_kind y) n (codes "[") line refl (λ m. refl) refl refl tt h t
line_is_made (stop of_struct n) line h t = of_place (closes of_struct) (λ y. stop of_struct y) n (codes "}") line (λ m. refl) refl refl tt h
line_is_made (stop of_sequence n) line h t = of_place (closes of_sequence) (λ y. stop of_sequence y) n (codes "]") line (λ m. refl) refl refl tt h
