-- Events of a tape that say the same are the same, wherever they stand: what is borrowed follows from the texts.
use Rattle.std.proofs.Common.{◌≡◌, ℕ, List, [], ◌∷◌, ◌++◌, map, codes, Option, Some, None, Bool, true, false, option_map, refl, sym, ap, ap₂, ◌∙◌}
use Rattle.semantics_lines.specs.Texts.{Phrase, is_plain}
use Rattle.semantics_lines.specs.Events.{no_span, Metadata, Note, Scalar, str, bytes, Key, named, nameless, ordered, scalar, key, tag, Event, leaf, start, stop, unplaced, unplaced_note, unplaced_key, owned_text, owned_metadata, owned_note, owned_scalar, owned_key, content_of}
use Rattle.semantics_lines.specs.Lines.{quoted, with_some, with_metadata, with_none, key_line, line_of, IsTapeText, IsTapeTag, AreTapeTexts, IsTapeMetadata, IsTapeScalar, IsTapeKey, HasTapeTexts}

same_text : (t u : Phrase) → owned_text t ≡ owned_text u → IsTapeText t → IsTapeText u → t ≡ u
same_text t u e p q =
    let same : t.bytes ≡ u.bytes = ap (λ x. x.bytes) e in
    ap₂ (λ b f. record { bytes = b; borrowed = f }) same (p ∙ ap is_plain same ∙ sym q)

same_tag : (o p : Option Phrase) → option_map owned_text o ≡ option_map owned_text p → IsTapeTag o → IsTapeTag p → o ≡ p
same_tag None None e h k = refl
same_tag None (Some u) e h k = absurd cc
same_tag (Some t) None e h k = absurd cc
same_tag (Some t) (Some u) e h k =
    let inner : owned_text t ≡ owned_text u = cc in
    ap Some (same_text t u inner h k)

same_docs : (ts us : List Phrase) → map owned_text ts ≡ map owned_text us → AreTapeTexts ts → AreTapeTexts us → ts ≡ us
same_docs [] [] e h k = refl
same_docs [] (u ∷ us) e h k = absurd cc
same_docs (t ∷ ts) [] e h k = absurd cc
same_docs (t ∷ ts) (u ∷ us) e (h, hs) (k, ks) =
    let first : owned_text t ≡ owned_text u = cc in
    let rest : map owned_text ts ≡ map owned_text us = cc in
    ap₂ (λ x xs. x ∷ xs) (same_text t u first h k) (same_docs ts us rest hs ks)

same_told : (m n : Metadata) → owned_metadata m ≡ owned_metadata n → IsTapeMetadata (Some m) → IsTapeMetadata (Some n) → m ≡ n
same_told m n e (name, docs) (name', docs') =
    let tags = same_tag m.tag n.tag (ap (λ x. x.tag) e) name name' in
    let lines = same_docs m.docs n.docs (ap (λ x. x.docs) e) docs docs' in
    ap₂ (λ t d. record { tag = t; docs = d; span = m.span }) tags lines ∙ ap (λ s. record { tag = n.tag; docs = n.docs; span = s }) (ap (λ x. x.span) e)

same_metadata : (o p : Option Metadata) → option_map owned_metadata o ≡ option_map owned_metadata p → IsTapeMetadata o → IsTapeMetadata p → o ≡ p
same_metadata None None e h k = refl
same_metadata None (Some n) e h k = absurd cc
same_metadata (Some m) None e h k = absurd cc
same_metadata (Some m) (Some n) e h k =
    let inner : owned_metadata m ≡ owned_metadata n = cc in
    ap Some (same_told m n inner h k)

noted : (m n : Note) → m.metadata ≡ n.metadata → unplaced_note m ≡ unplaced_note n
noted m n e = ap (λ d. record { span = no_span; metadata = d }) e

same_note : (m n : Note) → owned_note m ≡ owned_note n → IsTapeMetadata m.metadata → IsTapeMetadata n.metadata → unplaced_note m ≡ unplaced_note n
same_note m n e h k = noted m n (same_metadata m.metadata n.metadata (ap (λ x. x.metadata) e) h k)

abbrev is_text : Scalar → Bool
is_text (str t) = true
is_text (bytes t) = true
is_text _ = false

owned_alone : (s : Scalar) → is_text s ≡ false → owned_scalar s ≡ s
owned_alone (str t) e = absurd cc
owned_alone (bytes t) e = absurd cc
owned_alone _ e = refl

owned_text_or_not : (s : Scalar) → is_text (owned_scalar s) ≡ is_text s
owned_text_or_not (str t) = refl
owned_text_or_not (bytes t) = refl
owned_text_or_not _ = refl

same_other : (s t : Scalar) → is_text s ≡ false → owned_scalar s ≡ owned_scalar t → s ≡ t
same_other s t none e =
    let other : is_text t ≡ false = sym (owned_text_or_not t) ∙ ap is_text (sym e) ∙ owned_text_or_not s ∙ none in
    sym (owned_alone s none) ∙ e ∙ owned_alone t other

same_scalar : (s t : Scalar) → owned_scalar s ≡ owned_scalar t → IsTapeScalar s → IsTapeScalar t → s ≡ t
same_scalar (str t) (str u) e h k =
    let inner : owned_text t ≡ owned_text u = cc in
    ap str (same_text t u inner h k)
same_scalar (str t) (bytes u) e h k = absurd cc
same_scalar (str t) _ e h k = absurd cc
same_scalar (bytes t) (bytes u) e h k =
    let inner : owned_text t ≡ owned_text u = cc in
    ap bytes (ap₂ (λ b f. record { bytes = b; borrowed = f }) (ap (λ x. x.bytes) inner) (h ∙ sym k))
same_scalar (bytes t) (str u) e h k = absurd cc
same_scalar (bytes t) _ e h k = absurd cc
same_scalar s t e h k = same_other s t refl e

no_metadata : (o : Option Metadata) (body : Option (List ℕ)) (line : List ℕ) → with_none o body ≡ Some line → o ≡ None
no_metadata None body line e = refl
no_metadata (Some m) body line e = absurd cc

-- both have none
bare_notes : (m n : Note) → m.metadata ≡ None → n.metadata ≡ None → unplaced_note m ≡ unplaced_note n
bare_notes m n p q = noted m n (p ∙ sym q)

same_key : (k q : Key) (line : List ℕ) → key_line k ≡ Some line → key_line q ≡ Some line → owned_key k ≡ owned_key q → IsTapeKey k → IsTapeKey q → unplaced_key k ≡ unplaced_key q
same_key (named t m n) (named u o p) line x y e (text, told) (text', told') =
    let texts : owned_text t ≡ owned_text u = cc in
    let facts : option_map owned_metadata m ≡ option_map owned_metadata o = cc in
    ap₂ (λ a b. named a b (unplaced_note n)) (same_text t u texts text text') (same_metadata m o facts told told')
    ∙ ap (named u o) (bare_notes n p (no_metadata n.metadata (with_some m (Some (codes "k " ++ quoted t.bytes))) line x) (no_metadata p.metadata (with_some o (Some (codes "k " ++ quoted u.bytes))) line y))
same_key (nameless m n) (nameless o p) line x y e told told' =
    let facts : owned_metadata m ≡ owned_metadata o = cc in
    ap₂ nameless (same_told m o facts told told')
    (bare_notes n p (no_metadata n.metadata (with_metadata m (Some (codes "k -"))) line x) (no_metadata p.metadata (with_metadata o (Some (codes "k -"))) line y))
same_key (ordered n) (ordered p) line x y e told told' =
    ap ordered (bare_notes n p (no_metadata n.metadata (Some (codes "o")) line x) (no_metadata p.metadata (Some (codes "o")) line y))
same_key _ _ line x y e told told' = absurd cc

-- Two events that say the same, both with the texts of a tape.
pub same_event : (a b : Event) (line : List ℕ) → line_of a ≡ Some line → line_of b ≡ Some line → HasTapeTexts a → HasTapeTexts b → content_of a ≡ content_of b → unplaced a ≡ unplaced b
same_event (leaf (scalar s m)) (leaf (scalar t n)) line x y (texts, told) (texts', told') e =
    let scalars : owned_scalar s ≡ owned_scalar t = cc in
    let notes : owned_note m ≡ owned_note n = cc in
    ap₂ (λ a b. leaf (scalar a b)) (same_scalar s t scalars texts texts') (same_note m n notes told told')
same_event (leaf (key k)) (leaf (key q)) line x y texts texts' e =
    let keys : owned_key k ≡ owned_key q = cc in
    ap (λ a. leaf (key a)) (same_key k q line x y keys texts texts')
same_event (leaf (tag t m)) (leaf (tag u n)) line x y told told' e =
    let tags : t ≡ u = cc in
    let notes : owned_note m ≡ owned_note n = cc in
    ap₂ (λ a b. leaf (tag a b)) tags (same_note m n notes told told')
same_event (start b k m) (start c l n) line x y told told' e =
    let brackets : b ≡ c = cc in
    let kinds : k ≡ l = cc in
    let notes : owned_note m ≡ owned_note n = cc in
    ap₂ (λ a d. start a d (unplaced_note m)) brackets kinds ∙ ap (start c l) (same_note m n notes told told')
same_event (stop b m) (stop c n) line x y told told' e =
    let brackets : b ≡ c = cc in
    let notes : owned_note m ≡ owned_note n = cc in
    ap₂ stop brackets (same_note m n notes told told')
same_event _ _ line x y told told' e = absurd cc
