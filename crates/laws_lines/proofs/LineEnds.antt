-- No line holds a line feed.
use Rattle.std.proofs.Common.{◌≡◌, ◌≢◌, ℕ, ℤ, suc, pos, negsuc, ◌+◌, ◌/◌, ◌%◌, ◌<◌, ◌≤◌, ◌^◌, List, [], ◌∷◌, ◌++◌, Option, Some, None, option_map, Bool, true, false, cond, not, eqb, codes, inl, inr, refl, ◌∙◌, subst, arith}
use Rattle.std.specs.Prelude.{nat_lt, is_none, encode_utf8}
use Rattle.std.specs.List.{flat_map, list_all}
use Rattle.std.specs.Fmt.{decimal, signed_decimal}
use Rattle.std.specs.Str.{all_scalars}
use Rattle.std.specs.Str.Parse.{AllDigits}
use Rattle.std.proofs.lemmas.Bool.{cases_eq}
use Rattle.std.proofs.lemmas.Bool.Decides.{nat_tests}
use Rattle.std.proofs.lemmas.Fmt.{decimal_is_IsNumeral_wide}
use Rattle.std.proofs.lemmas.List.Folds.{list_all-append}
use Rattle.std.proofs.lemmas.Str.Parse.{digit_from_value}
use Rattle.semantics_lines.specs.Texts.{Phrase, is_plain}
use Rattle.semantics_lines.specs.Events.{Metadata, Scalar, unit, null, bool, char, i64, u64, i128, u128, str, bytes, named, nameless, ordered, Key, scalar, key, tag, of_struct, of_sequence, object_kind, array_kind, Event, leaf, start, stop}
use Rattle.semantics_lines.specs.Lines.{escape, quoted, hex_digit, hex, magnitude, after, bool_word, scalar_body, tag_body, tag_suffix, doc_suffix, suffix, is_empty_list, says_nothing, with_metadata, with_some, with_none, scalar_line, key_line, line_of}
use Rattle.semantics_lines.specs.Tapes.{has_no_end}

pub joined : (xs ys : List ℕ) → has_no_end xs ≡ true → has_no_end ys ≡ true → has_no_end (xs ++ ys) ≡ true
joined xs ys p q = list_all-append (λ b. not (eqb b 10)) xs ys ∙ (rw (p, q) refl)

escape_other : (b : ℕ) → b ≢ 92 → b ≢ 34 → b ≢ 10 → has_no_end (escape b) ≡ true
escape_other b s q n = grind (arith, nat_tests)

escape_no_end : (b : ℕ) → has_no_end (escape b) ≡ true
escape_no_end b = elim (cases_eq b 92) [
  | inl e ↦ (rw e refl)
  | inr s ↦ elim (cases_eq b 34) [ inl e ↦ (rw e refl) | inr q ↦ elim (cases_eq b 10) [ inl e ↦ (rw e refl) | inr n ↦ escape_other b s q n ] ]
]

escaped_no_end : (t : List ℕ) → has_no_end (flat_map escape t) ≡ true
escaped_no_end [] = refl
escaped_no_end (b ∷ t) = joined (escape b) (flat_map escape t) (escape_no_end b) (escaped_no_end t)

quoted_no_end : (t : List ℕ) → has_no_end (quoted t) ≡ true
quoted_no_end t = joined (34 ∷ []) (flat_map escape t ++ (34 ∷ [])) refl (joined (flat_map escape t) (34 ∷ []) (escaped_no_end t) refl)

digits_no_end : (ds : List ℕ) → AllDigits 10 ds → has_no_end ds ≡ true
digits_no_end [] d = refl
digits_no_end (c ∷ cs) d =
    let r = digit_from_value c d.0 in
    let first : not (eqb c 10) ≡ true = grind (arith, nat_tests) in
    (rw (first, digits_no_end cs d.1) refl)

decimal_no_end : (n : ℕ) → n < 10 ^ 64 → has_no_end (decimal n) ≡ true
decimal_no_end n h = digits_no_end (decimal n) (decimal_is_IsNumeral_wide n h).0.1

signed_no_end : (z : ℤ) → magnitude z + 1 < 10 ^ 64 → has_no_end (signed_decimal z) ≡ true
signed_no_end (pos n) h = decimal_no_end n (omega (arith, h))
signed_no_end (negsuc n) h = decimal_no_end (suc n) (omega (arith, h))

digit_no_end : (n : ℕ) → not (eqb (hex_digit n) 10) ≡ true
digit_no_end n = grind (arith, nat_tests)

hex_no_end : (t : List ℕ) → has_no_end (hex t) ≡ true
hex_no_end [] = refl
hex_no_end (b ∷ t) = (rw (digit_no_end (b / 16), digit_no_end (b % 16), hex_no_end t) refl)

tag_no_end : (t : Option Phrase) → has_no_end (tag_suffix t) ≡ true
tag_no_end None = refl
tag_no_end (Some t) = joined (codes " tag ") (quoted t.bytes) refl (quoted_no_end t.bytes)

docs_no_end : (ts : List Phrase) → has_no_end (flat_map doc_suffix ts) ≡ true
docs_no_end [] = refl
docs_no_end (t ∷ ts) = joined (doc_suffix t) (flat_map doc_suffix ts) (joined (codes " doc ") (quoted t.bytes) refl (quoted_no_end t.bytes)) (docs_no_end ts)

suffix_no_end : (m : Metadata) → has_no_end (suffix m) ≡ true
suffix_no_end m = joined (tag_suffix m.tag) (flat_map doc_suffix m.docs) (tag_no_end m.tag) (docs_no_end m.docs)

-- the text holds none, where there is one
abbrev HasNone : Option (List ℕ) → Type 0
HasNone None = Unit {0}
HasNone (Some text) = has_no_end text ≡ true

guarded : (b : Bool) (text : List ℕ) → (b ≡ true → has_no_end text ≡ true) → HasNone (cond b (Some text) None)
guarded true text h = h refl
guarded false text h = tt

behind : (word : List ℕ) (o : Option (List ℕ)) → has_no_end word ≡ true → HasNone o → HasNone (after word o)
behind word None w h = tt
behind word (Some text) w h = joined word text w h

suffixed : (m : Metadata) (o : Option (List ℕ)) → HasNone o → HasNone (option_map (λ text. text ++ suffix m) o)
suffixed m None h = tt
suffixed m (Some text) h = joined text (suffix m) h (suffix_no_end m)

tested : (b : Bool) (o : Option (List ℕ)) → HasNone o → HasNone (cond b o None)
tested true o h = h
tested false o h = tt

untested : (b : Bool) (o : Option (List ℕ)) → HasNone o → HasNone (cond b None o)
untested true o h = tt
untested false o h = h

of_metadata : (m : Metadata) (o : Option (List ℕ)) → HasNone o → HasNone (with_metadata m o)
of_metadata m o h = tested (is_none m.span) (option_map (λ text. text ++ suffix m) o) (suffixed m o h)

of_some : (m : Option Metadata) (o : Option (List ℕ)) → HasNone o → HasNone (with_some m o)
of_some None o h = h
of_some (Some m) o h = untested (says_nothing m) (with_metadata m o) (of_metadata m o h)

of_none : (m : Option Metadata) (o : Option (List ℕ)) → HasNone o → HasNone (with_none m o)
of_none None o h = h
of_none (Some m) o h = tt

bool_no_end : (b : Bool) → has_no_end (bool_word b) ≡ true
bool_no_end true = refl
bool_no_end false = refl

below : (k n : ℕ) → k ≤ 10 ^ 64 → nat_lt n k ≡ true → n < 10 ^ 64
below k n le h = let lt : n < k = grind (arith, nat_tests) in omega (arith, lt, le)

below_half : (k n : ℕ) → k + 1 ≤ 10 ^ 64 → nat_lt n k ≡ true → n + 1 < 10 ^ 64
below_half k n le h = let lt : n < k = grind (arith, nat_tests) in omega (arith, lt, le)

body_no_end : (s : Scalar) → HasNone (scalar_body s)
body_no_end unit = refl
body_no_end null = refl
body_no_end (bool b) = bool_no_end b
body_no_end (char c) = behind (codes "c ") _ refl (guarded (all_scalars (c ∷ [])) (quoted (encode_utf8 c)) (λ e. quoted_no_end (encode_utf8 c)))
body_no_end (i64 z) = behind (codes "i ") _ refl (guarded (nat_lt (magnitude z) (2 ^ 63)) (signed_decimal z) (λ e. signed_no_end z (below_half (2 ^ 63) (magnitude z) (omega arith) e)))
body_no_end (u64 n) = behind (codes "u ") _ refl (guarded (nat_lt n (2 ^ 64)) (decimal n) (λ e. decimal_no_end n (below (2 ^ 64) n (omega arith) e)))
body_no_end (i128 z) = behind (codes "I ") _ refl (guarded (nat_lt (magnitude z) (2 ^ 127)) (signed_decimal z) (λ e. signed_no_end z (below_half (2 ^ 127) (magnitude z) (omega arith) e)))
body_no_end (u128 n) = behind (codes "U ") _ refl (guarded (nat_lt n (2 ^ 128)) (decimal n) (λ e. decimal_no_end n (below (2 ^ 128) n (omega arith) e)))
body_no_end (str t) = joined (codes "s ") (quoted t.bytes) refl (quoted_no_end t.bytes)
body_no_end (bytes t) = guarded (list_all (λ b. nat_lt b 256) t.bytes) (codes "b " ++ hex t.bytes) (λ e. joined (codes "b ") (hex t.bytes) refl (hex_no_end t.bytes))

bytes_no_end : (t : List ℕ) (m : Option Metadata) (o : Option (List ℕ)) (b : Bool) → HasNone o → HasNone (cond b (with_none m o) (with_some m o))
bytes_no_end t m o true h = of_none m o h
bytes_no_end t m o false h = of_some m o h

scalar_no_end : (s : Scalar) (m : Option Metadata) → HasNone (scalar_line s m)
scalar_no_end unit m = of_some m (scalar_body unit) (body_no_end unit)
scalar_no_end null m = of_some m (scalar_body null) (body_no_end null)
scalar_no_end (bool b) m = of_some m (scalar_body (bool b)) (body_no_end (bool b))
scalar_no_end (char c) m = of_some m (scalar_body (char c)) (body_no_end (char c))
scalar_no_end (i64 z) m = of_some m (scalar_body (i64 z)) (body_no_end (i64 z))
scalar_no_end (u64 n) m = of_some m (scalar_body (u64 n)) (body_no_end (u64 n))
scalar_no_end (i128 z) m = of_some m (scalar_body (i128 z)) (body_no_end (i128 z))
scalar_no_end (u128 n) m = of_some m (scalar_body (u128 n)) (body_no_end (u128 n))
scalar_no_end (str t) m = of_some m (scalar_body (str t)) (body_no_end (str t))
scalar_no_end (bytes t) m = bytes_no_end t.bytes m (scalar_body (bytes t)) (is_empty_list t.bytes) (body_no_end (bytes t))

key_no_end : (k : Key) → HasNone (key_line k)
key_no_end (named t m n) = of_none n.metadata (with_some m (Some (codes "k " ++ quoted t.bytes))) (of_some m (Some (codes "k " ++ quoted t.bytes)) (joined (codes "k ") (quoted t.bytes) refl (quoted_no_end t.bytes)))
key_no_end (nameless m n) = of_none n.metadata (with_metadata m (Some (codes "k -"))) (of_metadata m (Some (codes "k -")) refl)
key_no_end (ordered n) = of_none n.metadata (Some (codes "o")) refl

tag_body_no_end : (t : Option (List ℕ)) → HasNone (tag_body t)
tag_body_no_end None = refl
tag_body_no_end (Some t) = guarded (is_plain t) (codes "v " ++ quoted t) (λ e. joined (codes "v ") (quoted t) refl (quoted_no_end t))

event_no_end : (e : Event) → HasNone (line_of e)
event_no_end (leaf (scalar s n)) = scalar_no_end s n.metadata
event_no_end (leaf (key k)) = key_no_end k
event_no_end (leaf (tag t n)) = of_some n.metadata (tag_body t) (tag_body_no_end t)
event_no_end (start of_struct object_kind n) = of_some n.metadata (Some (codes "{")) refl
event_no_end (start of_struct array_kind n) = tt
event_no_end (start of_sequence array_kind n) = of_some n.metadata (Some (codes "[")) refl
event_no_end (start of_sequence object_kind n) = tt
event_no_end (stop of_struct n) = of_none n.metadata (Some (codes "}")) refl
event_no_end (stop of_sequence n) = of_none n.metadata (Some (codes "]")) refl

pub line_no_end : (e : Event) (line : List ℕ) → line_of e ≡ Some line → has_no_end line ≡ true
line_no_end e line is = subst HasNone is (event_no_end e)
