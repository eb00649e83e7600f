-- The line of an event is read back as the event.
use Rattle.std.proofs.Common.{◌≡◌, ℕ, ℤ, zero, suc, pos, negsuc, ◌+◌, ◌-◌, ◌*◌, ◌/◌, ◌%◌, ◌^◌, ◌<◌, ◌≤◌, List, [], ◌∷◌, ◌++◌, length, map, Bool, true, false, cond, ◌&&◌, Option, Some, None, option_map, refl, sym, ap, ◌∙◌, subst, arith, append_assoc, append-nil, length-append}
use Rattle.std.specs.Prelude.{◌==◌, nat_lt, codes, encode_utf8, is_none}
use Rattle.std.specs.List.{flat_map, list_all}
use Rattle.std.specs.Char.{digit_value}
use Rattle.std.specs.Fmt.{decimal, signed_decimal}
use Rattle.std.specs.Str.{chars, all_scalars}
use Rattle.std.specs.Str.Parse.{digits_value, AllDigits}
use Rattle.std.proofs.lemmas.Bool.Decides.{nat_tests}
use Rattle.std.proofs.lemmas.Fmt.{decimal_is_IsNumeral_wide}
use Rattle.std.proofs.lemmas.Str.{chars-encodes, digit_value-digit_char}
use Rattle.std.proofs.lemmas.Str.Parse.{digit_from_value}
use Rattle.semantics_lines.specs.Texts.{Phrase}
use Rattle.semantics_lines.specs.Events.{Metadata, Note, Scalar, unit, null, bool, char, i64, u64, i128, u128, str, bytes, Key, named, nameless, ordered, scalar, key, tag, of_struct, of_sequence, object_kind, array_kind, Event, leaf, start, stop, owned_text, owned_metadata, owned_note, owned_scalar, owned_key, content_of}
use Rattle.semantics_lines.specs.Lines.{escape, quoted, hex_digit, hex, number, magnitude, signed_number, character, after, bool_word, tag_body, tag_suffix, doc_suffix, suffix, is_empty_list, says_nothing, with_metadata, with_some, with_none, scalar_line, key_line, line_of}
use Rattle.laws_lines.specs.Fronts.{strip}
use Rattle.laws_lines.specs.Quoted.{unquote}
use Rattle.laws_lines.proofs.Quotes.{unquote-again}
use Rattle.laws_lines.proofs.LineReader.{word_of, rest_of, owned, tag_at, docs_at, metadata_at, suffix_at, noted, Make, made, texted, worded, scalar_made, signed_value, first_char, unhex, named_made, nameless_of, tag_made, by_word, rows, event_at}

-- a quoted text, behind its first quote
unquote-quoted : (t rest : List ℕ) → unquote false ((flat_map escape t ++ (34 ∷ [])) ++ rest) ≡ Some (t, rest)
unquote-quoted t rest = ap (unquote false) (append_assoc (flat_map escape t) (34 ∷ []) rest) ∙ unquote-again t rest

docs-again : (n : ℕ) (ts : List Phrase) → length ts ≤ n → docs_at n (flat_map doc_suffix ts) ≡ Some (map owned_text ts)
docs-again n [] h = refl
docs-again zero (t ∷ ts) h = absurd (omega (arith, h))
docs-again (suc n) (t ∷ ts) h =
    rw (unquote-quoted t.bytes (flat_map doc_suffix ts), docs-again n ts (omega (arith, h))) refl

docs-length : (ts : List Phrase) → length ts ≤ length (flat_map doc_suffix ts)
docs-length [] = omega arith
docs-length (t ∷ ts) =
    let le = docs-length ts in
    omega (arith, le, length-append (flat_map escape t.bytes ++ (34 ∷ [])) (flat_map doc_suffix ts))

no_tag : (ts : List Phrase) → strip (codes " tag \"") (flat_map doc_suffix ts) ≡ None
no_tag [] = refl
no_tag (t ∷ ts) = refl

tag-again : (t : Option Phrase) (ts : List Phrase) → tag_at (tag_suffix t ++ flat_map doc_suffix ts) ≡ Some (option_map owned_text t, flat_map doc_suffix ts)
tag-again None ts = rw (no_tag ts) refl
tag-again (Some t) ts = rw (unquote-quoted t.bytes (flat_map doc_suffix ts)) refl

metadata-again : (m : Metadata) → m.span ≡ None → metadata_at (suffix m) ≡ Some (owned_metadata m)
metadata-again m e =
    rw (tag-again m.tag m.docs, docs-again (length (flat_map doc_suffix m.docs)) m.docs (docs-length m.docs))
    (ap (λ s. Some (record { tag = option_map owned_text m.tag; docs = map owned_text m.docs; span = s })) (sym e))

-- nothing, or a space first
abbrev EndsWord : List ℕ → Type 0
EndsWord [] = Unit {0}
EndsWord (b ∷ bs) = b ≡ 32

suffix_ends : (t : Option Phrase) (ts : List Phrase) → EndsWord (tag_suffix t ++ flat_map doc_suffix ts)
suffix_ends None [] = tt
suffix_ends None (d ∷ ts) = refl
suffix_ends (Some t) ts = refl

suffix_is : (t : Option Phrase) (ts : List Phrase) → is_none t && is_empty_list ts ≡ false
    → suffix_at (tag_suffix t ++ flat_map doc_suffix ts) ≡ option_map (λ (m : Metadata). Some m) (metadata_at (tag_suffix t ++ flat_map doc_suffix ts))
suffix_is None [] e = absurd cc
suffix_is None (d ∷ ts) e = refl
suffix_is (Some t) ts e = refl

suffix-again : (m : Metadata) → says_nothing m ≡ false → m.span ≡ None → suffix_at (suffix m) ≡ Some (Some (owned_metadata m))
suffix-again m e f = suffix_is m.tag m.docs e ∙ ap (option_map (λ (m : Metadata). Some m)) (metadata-again m f)

-- the line is a body and the metadata behind it
record IsSuffixed (m : Option Metadata) (body line : List ℕ) : Type 0 where
  pub rest : List ℕ
  pub is : line ≡ body ++ rest
  pub ends_word : EndsWord rest
  pub again : suffix_at rest ≡ Some (option_map owned_metadata m)

none_span : {A : Type 0} (o : Option A) → is_none o ≡ true → o ≡ None
none_span None e = refl
none_span (Some x) e = absurd cc

with_metadata-inverted : (m : Metadata) (body line : List ℕ) (b : Bool) → is_none m.span ≡ b → cond b (Some (body ++ suffix m)) None ≡ Some line
    → (m.span ≡ None) × (line ≡ body ++ suffix m)
with_metadata-inverted m body line true e h = (none_span m.span e, cc)
with_metadata-inverted m body line false e h = absurd cc

with_some-told : (m : Metadata) (body line : List ℕ) (b : Bool) → says_nothing m ≡ b → cond b None (with_metadata m (Some body)) ≡ Some line
    → IsSuffixed (Some m) body line
with_some-told m body line true e h = absurd cc
with_some-told m body line false e h =
    let told = with_metadata-inverted m body line (is_none m.span) refl h in
    record { rest = suffix m; is = told.1; ends_word = suffix_ends m.tag m.docs; again = suffix-again m e told.0 }

with_some-inverted : (m : Option Metadata) (body line : List ℕ) → with_some m (Some body) ≡ Some line → IsSuffixed m body line
with_some-inverted None body line h = record { rest = []; is = (let e : body ≡ line = cc in sym e) ∙ sym (append-nil body); ends_word = tt; again = refl }
with_some-inverted (Some m) body line h = with_some-told m body line (says_nothing m) refl h

with_none-inverted : (m : Option Metadata) (o : Option (List ℕ)) (line : List ℕ) → with_none m o ≡ Some line → (m ≡ None) × (o ≡ Some line)
with_none-inverted None o line h = (refl, h)
with_none-inverted (Some m) o line h = absurd cc

metadata_none : (m : Metadata) (b : Bool) → cond b (option_map (λ text. text ++ suffix m) None) None ≡ None
metadata_none m true = refl
metadata_none m false = refl

says_none : (m : Metadata) (b : Bool) → cond b None (with_metadata m None) ≡ None
says_none m true = refl
says_none m false = metadata_none m (is_none m.span)

with_some-none : (m : Option Metadata) → with_some m None ≡ None
with_some-none None = refl
with_some-none (Some m) = says_none m (says_nothing m)

-- a body under a test
guarded : (m : Option Metadata) (word : List ℕ) (b : Bool) (x line : List ℕ) → with_some m (after word (cond b (Some x) None)) ≡ Some line
    → (b ≡ true) × IsSuffixed m (word ++ x) line
guarded m word true x line h = (refl, with_some-inverted m (word ++ x) line h)
guarded m word false x line h = absurd (let e = with_some-none m in let f : None ≡ Some line = sym e ∙ h in cc)

guarded_body : (m : Option Metadata) (b : Bool) (x line : List ℕ) → with_some m (cond b (Some x) None) ≡ Some line
    → (b ≡ true) × IsSuffixed m x line
guarded_body m true x line h = (refl, with_some-inverted m x line h)
guarded_body m false x line h = absurd (let e = with_some-none m in let f : None ≡ Some line = sym e ∙ h in cc)

abbrev HasNoSpace : List ℕ → Type 0
HasNoSpace [] = Unit {0}
HasNoSpace (b ∷ bs) = ((b == 32) ≡ false) × HasNoSpace bs

word_before : (w s : List ℕ) → HasNoSpace w → EndsWord s → (word_of (w ++ s) ≡ w) × (rest_of (w ++ s) ≡ s)
word_before [] [] h e = (refl, refl)
word_before [] (b ∷ s) h e = (rw e refl, rw e refl)
word_before (b ∷ w) s h e = let more = word_before w s h.1 e in (rw (h.0, more.0) refl, rw (h.0, more.1) refl)

-- a line by its first word
event_by : (w s : List ℕ) → HasNoSpace w → EndsWord s → event_at (w ++ s) ≡ by_word rows w s
event_by w s h e = let x = word_before w s h e in ap (λ y. by_word rows y (rest_of (w ++ s))) x.0 ∙ ap (by_word rows w) x.1

made_again : (make : Make) (s : List ℕ) (m : Option Metadata) → suffix_at s ≡ Some m → made make s ≡ Some (make m)
made_again make s m e = ap (option_map make) e

-- a line that is a word and metadata
bare_again : (w line : List ℕ) (make : Make) (m : Option Metadata) → HasNoSpace w → ((s : List ℕ) → by_word rows w s ≡ made make s)
    → IsSuffixed m w line → event_at line ≡ Some (make (option_map owned_metadata m))
bare_again w line make m spaceless is x =
    ap event_at x.is ∙ event_by w x.rest spaceless x.ends_word ∙ is x.rest ∙ made_again make x.rest _ x.again

-- a line that is a word, a quoted text and metadata
text_again : (w t line : List ℕ) (make : List ℕ → Make) (m : Option Metadata) → HasNoSpace w
    → ((s : List ℕ) → by_word rows w (32 ∷ 34 ∷ s) ≡ texted make (32 ∷ 34 ∷ s))
    → IsSuffixed m (w ++ (32 ∷ quoted t)) line → event_at line ≡ Some (make t (option_map owned_metadata m))
text_again w t line make m spaceless is x =
    let s : List ℕ = (flat_map escape t ++ (34 ∷ [])) ++ x.rest in
    let cut : line ≡ w ++ (32 ∷ 34 ∷ s) = x.is ∙ append_assoc w (32 ∷ quoted t) x.rest in
    let read : texted make (32 ∷ 34 ∷ s) ≡ Some (make t (option_map owned_metadata m)) = rw (unquote-quoted t x.rest) (made_again (make t) x.rest _ x.again) in
    ap event_at cut ∙ event_by w (32 ∷ 34 ∷ s) spaceless refl ∙ is s ∙ read

-- a line that is a word, another word and metadata
word_again : (w v line : List ℕ) (make : List ℕ → Make) (m : Option Metadata) → HasNoSpace w → HasNoSpace v
    → ((s : List ℕ) → by_word rows w (32 ∷ s) ≡ worded make (32 ∷ s))
    → IsSuffixed m (w ++ (32 ∷ v)) line → event_at line ≡ Some (make v (option_map owned_metadata m))
word_again w v line make m spaceless free is x =
    let cut : line ≡ w ++ (32 ∷ (v ++ x.rest)) = x.is ∙ append_assoc w (32 ∷ v) x.rest in
    let b = word_before v x.rest free x.ends_word in
    ap event_at cut ∙ event_by w (32 ∷ (v ++ x.rest)) spaceless refl ∙ is (v ++ x.rest)
    ∙ ap (λ y. made (make y) (rest_of (v ++ x.rest))) b.0 ∙ ap (made (make v)) b.1 ∙ made_again (make v) x.rest _ x.again

-- digits hold no space
digits_no_space : (ds : List ℕ) → AllDigits 10 ds → HasNoSpace ds
digits_no_space [] d = tt
digits_no_space (c ∷ cs) d = let r = digit_from_value c d.0 in let lo = r.0 in ((grind (arith, nat_tests)), digits_no_space cs d.1)

below_wide : (bits n : ℕ) → 2 ^ bits ≤ 10 ^ 64 → nat_lt n (2 ^ bits) ≡ true → n < 10 ^ 64
below_wide bits n le h = let lt : n < 2 ^ bits = grind (arith, nat_tests) in omega (arith, lt, le)

unsigned_again : (bits n : ℕ) (w line : List ℕ) (make : ℕ → Scalar) (m : Option Metadata) → 2 ^ bits ≤ 10 ^ 64 → HasNoSpace w
    → ((s : List ℕ) → by_word rows w (32 ∷ s) ≡ worded (λ t. scalar_made (make (digits_value 10 t))) (32 ∷ s))
    → with_some m (after (w ++ (32 ∷ [])) (number bits n)) ≡ Some line → event_at line ≡ Some (scalar_made (make n) (option_map owned_metadata m))
unsigned_again bits n w line make m wide spaceless is h =
    let g = guarded m (w ++ (32 ∷ [])) (nat_lt n (2 ^ bits)) (decimal n) line h in
    let d = decimal_is_IsNumeral_wide n (below_wide bits n wide g.0) in
    let x : IsSuffixed m (w ++ (32 ∷ decimal n)) line = subst (λ b. IsSuffixed m b line) (append_assoc w (32 ∷ []) (decimal n)) g.1 in
    word_again w (decimal n) line (λ t. scalar_made (make (digits_value 10 t))) m spaceless (digits_no_space (decimal n) d.0.1) is x
    ∙ ap (λ k. Some (scalar_made (make k) (option_map owned_metadata m))) d.1

signed_digits : (ds : List ℕ) → AllDigits 10 ds → 0 < length ds → signed_value ds ≡ pos (digits_value 10 ds)
signed_digits [] d l = absurd (omega (arith, l))
signed_digits (c ∷ cs) d l =
    let r = digit_from_value c d.0 in let lo = r.0 in
    let e : (c == 45) ≡ false = grind (arith, nat_tests) in
    rw e refl

signed_back : (half : ℕ) (z : ℤ) → 2 ^ half + 1 ≤ 10 ^ 64 → nat_lt (magnitude z) (2 ^ half) ≡ true → (signed_value (signed_decimal z) ≡ z) × HasNoSpace (signed_decimal z)
signed_back half (pos n) wide h =
    let lt : n < 2 ^ half = grind (arith, nat_tests) in
    let d = decimal_is_IsNumeral_wide n (omega (arith, lt, wide)) in
    (signed_digits (decimal n) d.0.1 d.0.0 ∙ ap pos d.1, digits_no_space (decimal n) d.0.1)
signed_back half (negsuc n) wide h =
    let lt : n < 2 ^ half = grind (arith, nat_tests) in
    let d = decimal_is_IsNumeral_wide (suc n) (omega (arith, lt, wide)) in
    let e : digits_value 10 (decimal (suc n)) - 1 ≡ n = omega (arith, d.1) in
    (ap negsuc e, (refl, digits_no_space (decimal (suc n)) d.0.1))

signed_again : (half : ℕ) (z : ℤ) (w line : List ℕ) (make : ℤ → Scalar) (m : Option Metadata) → 2 ^ half + 1 ≤ 10 ^ 64 → HasNoSpace w
    → ((s : List ℕ) → by_word rows w (32 ∷ s) ≡ worded (λ t. scalar_made (make (signed_value t))) (32 ∷ s))
    → with_some m (after (w ++ (32 ∷ [])) (signed_number half z)) ≡ Some line → event_at line ≡ Some (scalar_made (make z) (option_map owned_metadata m))
signed_again half z w line make m wide spaceless is h =
    let g = guarded m (w ++ (32 ∷ [])) (nat_lt (magnitude z) (2 ^ half)) (signed_decimal z) line h in
    let d = signed_back half z wide g.0 in
    let x : IsSuffixed m (w ++ (32 ∷ signed_decimal z)) line = subst (λ b. IsSuffixed m b line) (append_assoc w (32 ∷ []) (signed_decimal z)) g.1 in
    word_again w (signed_decimal z) line (λ t. scalar_made (make (signed_value t))) m spaceless d.1 is x
    ∙ ap (λ k. Some (scalar_made (make k) (option_map owned_metadata m))) d.0

-- one character
char_back : (c : ℕ) → all_scalars (c ∷ []) ≡ true → first_char (chars (encode_utf8 c)) ≡ c
char_back c h = ap first_char (ap chars (sym (append-nil (encode_utf8 c))) ∙ chars-encodes (c ∷ []) h)

char_again : (c : ℕ) (line : List ℕ) (m : Option Metadata) → with_some m (after (codes "c ") (character c)) ≡ Some line
    → event_at line ≡ Some (scalar_made (char c) (option_map owned_metadata m))
char_again c line m h =
    let g = guarded m (codes "c ") (all_scalars (c ∷ [])) (quoted (encode_utf8 c)) line h in
    text_again (codes "c") (encode_utf8 c) line (λ t. scalar_made (char (first_char (chars t)))) m (refl, tt) (λ s. refl) g.1
    ∙ ap (λ k. Some (scalar_made (char k) (option_map owned_metadata m))) (char_back c g.0)

hex_digit_back : (d : ℕ) → d < 16 → (digit_value (hex_digit d) ≡ d) × ((hex_digit d == 32) ≡ false)
hex_digit_back d h = (digit_value-digit_char d (omega (arith, h)), grind (arith, nat_tests))

hex_value : (b : ℕ) → b < 256 → 16 * digit_value (hex_digit (b / 16)) + digit_value (hex_digit (b % 16)) ≡ b
hex_value b h =
    let high : b / 16 < 16 = omega (arith, h) in
    let low : b % 16 < 16 = omega arith in
    ap (λ x. 16 * x + digit_value (hex_digit (b % 16))) (hex_digit_back (b / 16) high).0
    ∙ ap (λ x. 16 * (b / 16) + x) (hex_digit_back (b % 16) low).0 ∙ omega arith

and_true : (a b : Bool) → a && b ≡ true → (a ≡ true) × (b ≡ true)
and_true true b e = (refl, e)
and_true false b e = absurd cc

hex_back : (t : List ℕ) → list_all (λ b. nat_lt b 256) t ≡ true → (unhex (hex t) ≡ t) × HasNoSpace (hex t)
hex_back [] h = (refl, tt)
hex_back (b ∷ t) h =
    let both = and_true (nat_lt b 256) (list_all (λ b. nat_lt b 256) t) h in
    let first = both.0 in
    let small : b < 256 = grind (arith, nat_tests) in
    let more = hex_back t both.1 in
    let high : b / 16 < 16 = omega (arith, small) in
    let low : b % 16 < 16 = omega arith in (
      ap (λ x. x ∷ unhex (hex t)) (hex_value b small) ∙ ap (λ x. b ∷ x) more.0,
      ((hex_digit_back (b / 16) high).1, ((hex_digit_back (b % 16) low).1, more.1)),
    )

some_bytes_again : (t : List ℕ) (line : List ℕ) (m : Option Metadata)
    → with_some m (cond (list_all (λ b. nat_lt b 256) t) (Some (codes "b " ++ hex t)) None) ≡ Some line
    → event_at line ≡ Some (scalar_made (bytes (owned t)) (option_map owned_metadata m))
some_bytes_again t line m h =
    let g = guarded_body m (list_all (λ b. nat_lt b 256) t) (codes "b " ++ hex t) line h in
    let d = hex_back t g.0 in
    word_again (codes "b") (hex t) line (λ w. scalar_made (bytes (owned (unhex w)))) m (refl, tt) d.1 (λ s. refl) g.1
    ∙ ap (λ k. Some (scalar_made (bytes (owned k)) (option_map owned_metadata m))) d.0

bytes_again : (t : List ℕ) (borrowed : Bool) (line : List ℕ) (m : Option Metadata)
    → scalar_line (bytes (record { bytes = t; borrowed = borrowed })) m ≡ Some line
    → event_at line ≡ Some (scalar_made (bytes (owned t)) (option_map owned_metadata m))
bytes_again [] borrowed line m h =
    let g = with_none-inverted m (Some (codes "b ")) line h in
    let is : codes "b " ≡ line = let e = g.1 in cc in
    ap event_at (sym is) ∙ ap (λ k. Some (scalar_made (bytes (owned [])) (option_map owned_metadata k))) (sym g.0)
bytes_again (b ∷ t) borrowed line m h = some_bytes_again (b ∷ t) line m h

bool_again : (b : Bool) (line : List ℕ) (m : Option Metadata) → with_some m (Some (bool_word b)) ≡ Some line
    → event_at line ≡ Some (scalar_made (bool b) (option_map owned_metadata m))
bool_again true line m h = bare_again (codes "true") line (scalar_made (bool true)) m (refl, (refl, (refl, (refl, tt)))) (λ s. refl) (with_some-inverted m (codes "true") line h)
bool_again false line m h = bare_again (codes "false") line (scalar_made (bool false)) m (refl, (refl, (refl, (refl, (refl, tt))))) (λ s. refl) (with_some-inverted m (codes "false") line h)

scalar_again : (s : Scalar) (line : List ℕ) (m : Option Metadata) → scalar_line s m ≡ Some line
    → event_at line ≡ Some (scalar_made (owned_scalar s) (option_map owned_metadata m))
scalar_again unit line m h = bare_again (codes "unit") line (scalar_made unit) m (refl, (refl, (refl, (refl, tt)))) (λ s. refl) (with_some-inverted m (codes "unit") line h)
scalar_again null line m h = bare_again (codes "null") line (scalar_made null) m (refl, (refl, (refl, (refl, tt)))) (λ s. refl) (with_some-inverted m (codes "null") line h)
scalar_again (bool b) line m h = bool_again b line m h
scalar_again (char c) line m h = char_again c line m h
scalar_again (i64 z) line m h = signed_again 63 z (codes "i") line i64 m (omega arith) (refl, tt) (λ s. refl) h
scalar_again (u64 n) line m h = unsigned_again 64 n (codes "u") line u64 m (omega arith) (refl, tt) (λ s. refl) h
scalar_again (i128 z) line m h = signed_again 127 z (codes "I") line i128 m (omega arith) (refl, tt) (λ s. refl) h
scalar_again (u128 n) line m h = unsigned_again 128 n (codes "U") line u128 m (omega arith) (refl, tt) (λ s. refl) h
scalar_again (str t) line m h = text_again (codes "s") t.bytes line (λ x. scalar_made (str (owned x))) m (refl, tt) (λ s. refl) (with_some-inverted m (codes "s " ++ quoted t.bytes) line h)
scalar_again (bytes t) line m h = bytes_again t.bytes t.borrowed line m h

-- a note without metadata
abbrev bare_note : Note → Type 0
bare_note n = owned_note n ≡ noted None

no_metadata : (n : Note) → n.metadata ≡ None → bare_note n
no_metadata n e = ap (λ m. noted (option_map owned_metadata m)) e

nameless_again : (m : Metadata) (line : List ℕ) → with_metadata m (Some (codes "k -")) ≡ Some line → event_at line ≡ Some (nameless_of (owned_metadata m))
nameless_again m line h =
    let g = with_metadata-inverted m (codes "k -") line (is_none m.span) refl h in
    ap event_at g.1 ∙ event_by (codes "k") (32 ∷ 45 ∷ suffix m) (refl, tt) refl
    ∙ (rw (metadata-again m g.0) refl)

key_again : (k : Key) (line : List ℕ) → key_line k ≡ Some line → event_at line ≡ Some (leaf (key (owned_key k)))
key_again (named t m n) line h =
    let g = with_none-inverted n.metadata (with_some m (Some (codes "k " ++ quoted t.bytes))) line h in
    text_again (codes "k") t.bytes line named_made m (refl, tt) (λ s. refl) (with_some-inverted m (codes "k " ++ quoted t.bytes) line g.1)
    ∙ ap (λ (x : Note). Some (leaf (key (named (owned t.bytes) (option_map owned_metadata m) x)))) (sym (no_metadata n g.0))
key_again (nameless m n) line h =
    let g = with_none-inverted n.metadata (with_metadata m (Some (codes "k -"))) line h in
    nameless_again m line g.1 ∙ ap (λ (x : Note). Some (leaf (key (nameless (owned_metadata m) x)))) (sym (no_metadata n g.0))
key_again (ordered n) line h =
    let g = with_none-inverted n.metadata (Some (codes "o")) line h in
    let is : codes "o" ≡ line = let e = g.1 in cc in
    ap event_at (sym is) ∙ ap (λ (x : Note). Some (leaf (key (ordered x)))) (sym (no_metadata n g.0))

unnamed_again : (line : List ℕ) (m : Option Metadata) → IsSuffixed m (codes "v -") line → event_at line ≡ Some (tag_made None (option_map owned_metadata m))
unnamed_again line m x =
    ap event_at x.is ∙ event_by (codes "v") (32 ∷ 45 ∷ x.rest) (refl, tt) refl
    ∙ (rw (x.again) refl)

tag_again : (t : Option (List ℕ)) (line : List ℕ) (m : Option Metadata) → with_some m (tag_body t) ≡ Some line → event_at line ≡ Some (tag_made t (option_map owned_metadata m))
tag_again None line m h = unnamed_again line m (with_some-inverted m (codes "v -") line h)
tag_again (Some t) line m h =
    let g = guarded_body m _ (codes "v " ++ quoted t) line h in
    text_again (codes "v") t line (λ x. tag_made (Some x)) m (refl, tt) (λ s. refl) g.1

-- The line of an event is read as what the event says.
pub line_again : (e : Event) (line : List ℕ) → line_of e ≡ Some line → event_at line ≡ Some (content_of e)
line_again (leaf (scalar s n)) line h = scalar_again s line n.metadata h
line_again (leaf (key k)) line h = key_again k line h
line_again (leaf (tag t n)) line h = tag_again t line n.metadata h
line_again (start of_struct object_kind n) line h = bare_again (codes "{") line (λ m. start of_struct object_kind (noted m)) n.metadata (refl, tt) (λ s. refl) (with_some-inverted n.metadata (codes "{") line h)
line_again (start of_struct array_kind n) line h = absurd cc
line_again (start of_sequence array_kind n) line h = bare_again (codes "[") line (λ m. start of_sequence array_kind (noted m)) n.metadata (refl, tt) (λ s. refl) (with_some-inverted n.metadata (codes "[") line h)
line_again (start of_sequence object_kind n) line h = absurd cc
line_again (stop of_struct n) line h =
    let g = with_none-inverted n.metadata (Some (codes "}")) line h in
    let is : codes "}" ≡ line = let e = g.1 in cc in
    ap event_at (sym is) ∙ ap (λ (x : Note). Some (stop of_struct x)) (sym (no_metadata n g.0))
line_again (stop of_sequence n) line h =
    let g = with_none-inverted n.metadata (Some (codes "]")) line h in
    let is : codes "]" ≡ line = let e = g.1 in cc in
    ap event_at (sym is) ∙ ap (λ (x : Note). Some (stop of_sequence x)) (sym (no_metadata n g.0))

-- Events that share a line say the same.
pub one_content : (a b : Event) (line : List ℕ) → line_of a ≡ Some line → line_of b ≡ Some line → content_of a ≡ content_of b
one_content a b line x y = let both : Some (content_of a) ≡ Some (content_of b) = sym (line_again a line x) ∙ line_again b line y in cc
