-- What a body says is read from its line.
use Rattle.std.proofs.Common.{ℕ, ℤ, ◌^◌, ◌≡◌, List, [], ◌∷◌, ◌++◌, Bool, true, false, cond, Option, Some, None, sym, refl, ap, ◌∙◌, arith, append_assoc}
use Rattle.std.specs.Prelude.{nat_lt, codes, encode_utf8, option_map}
use Rattle.std.specs.List.{list_all}
use Rattle.std.specs.Fmt.{decimal, signed_decimal}
use Rattle.std.specs.Str.{all_scalars}
use Rattle.semantics_lines.specs.Texts.{Phrase, is_plain}
use Rattle.semantics_lines.specs.Events.{Scalar, unit, null, bool, char, i64, u64, i128, u128, str, bytes, of_struct, of_sequence}
use Rattle.semantics_lines.specs.Lines.{quoted, hex, magnitude, after, scalar_body, tag_body, IsTapeText, IsTapeScalar}
use Rattle.laws_lines.specs.Quoted.{unquoted}
use Rattle.tape_text.specs.Bodies.{Body, opens, closes, next_field, names, tags, holds, bare_at, owned_bytes, key_at, str_at, letter_at, hex_at, variant_at, small_at, small_signed_at, large_at, large_signed_at, body_at}
use Rattle.laws_lines.proofs.Fronts.{EndsWord}
use Rattle.laws_lines.proofs.Numbers.{number_at-again, half_of_64, half_of_128, signed_at-again}
use Rattle.laws_lines.proofs.Hex.{bytes_at-again}
use Rattle.laws_lines.proofs.Plain.{unquoted-again, escape-plain}
use Rattle.laws_lines.proofs.Quotes.{text-again}
use Rattle.laws_lines.proofs.Characters.{char_at-again}
use Rattle.tape_text.proofs.BodyLaws.{body_text, HasBodyTexts}

pub some_is : {A : Type 0} {x y : A} → Some x ≡ Some y → x ≡ y
some_is h = cc

guarded : (word x text : List ℕ) (b : Bool) → after word (cond b (Some x) None) ≡ Some text → (b ≡ true) × (word ++ x ≡ text)
guarded word x text true h = (refl, some_is h)
guarded word x text false h = absurd (let g : None ≡ Some text = h in cc)

tested : (x text : List ℕ) (b : Bool) → cond b (Some x) None ≡ Some text → (b ≡ true) × (x ≡ text)
tested x text true h = (refl, some_is h)
tested x text false h = absurd (let g : None ≡ Some text = h in cc)

-- the body is read from its line
abbrev Again : Body → List ℕ → List ℕ → Type 0
Again b text rest = body_at (text ++ rest) ≡ Some (b, rest)

spelled_so : (b : Body) (x text rest : List ℕ) → x ≡ text → Again b x rest → Again b text rest
spelled_so b x text rest e h = ap (λ y. body_at (y ++ rest)) (sym e) ∙ h

bare-again : (rest : List ℕ) →
    Again (opens of_struct) (codes "{") rest × Again (opens of_sequence) (codes "[") rest × Again (closes of_struct) (codes "}") rest × Again (closes of_sequence) (codes "]") rest
    × Again next_field (codes "o") rest × Again (names None) (codes "k -") rest × Again (tags None) (codes "v -") rest
    × Again (holds unit) (codes "unit") rest × Again (holds null) (codes "null") rest × Again (holds (bool true)) (codes "true") rest × Again (holds (bool false)) (codes "false") rest
unfolding body_at bare_at
bare-again rest = (refl, refl, refl, refl, refl, refl, refl, refl, refl, refl, refl)

key-again : (t : Phrase) (rest : List ℕ) → IsTapeText t → Again (names (Some t)) (codes "k " ++ quoted t.bytes) rest
unfolding body_at bare_at key_at
key-again t rest is = ap (option_map (λ p. (names (Some p.0), p.1))) (text-again t rest is)

str-again : (t : Phrase) (rest : List ℕ) → IsTapeText t → Again (holds (str t)) (codes "s " ++ quoted t.bytes) rest
unfolding body_at bare_at str_at
str-again t rest is = ap (option_map (λ p. (holds (str p.0), p.1))) (text-again t rest is)

char-again : (c : ℕ) (rest : List ℕ) → all_scalars (c ∷ []) ≡ true → Again (holds (char c)) (codes "c " ++ quoted (encode_utf8 c)) rest
unfolding body_at bare_at letter_at
char-again c rest h = ap (option_map (λ p. (holds (char p.0), p.1))) (char_at-again c rest h)

hex-again : (t rest : List ℕ) → list_all (λ b. nat_lt b 256) t ≡ true → EndsWord rest → Again (holds (owned_bytes t)) (codes "b " ++ hex t) rest
unfolding body_at bare_at hex_at
hex-again t rest h e = ap (option_map (λ p. (holds (owned_bytes p.0), p.1))) (bytes_at-again t rest h e)

variant-again : (t rest : List ℕ) → is_plain t ≡ true → Again (tags (Some t)) (codes "v " ++ quoted t) rest
unfolding body_at bare_at variant_at
variant-again t rest h =
    ap (λ x. option_map (λ p. (tags (Some p.0), p.1)) (unquoted ((x ++ (34 ∷ [])) ++ rest))) (escape-plain t h)
    ∙ ap (λ x. option_map (λ p. (tags (Some p.0), p.1)) (unquoted x)) (append_assoc t (34 ∷ []) rest)
    ∙ ap (option_map (λ p. (tags (Some p.0), p.1))) (unquoted-again t rest h)

u64-again : (n : ℕ) (rest : List ℕ) → nat_lt n (2 ^ 64) ≡ true → EndsWord rest → Again (holds (u64 n)) (codes "u " ++ decimal n) rest
unfolding body_at bare_at small_at
u64-again n rest h e = ap (option_map (λ p. (holds (u64 p.0), p.1))) (number_at-again 64 n rest (omega arith) h e)

u128-again : (n : ℕ) (rest : List ℕ) → nat_lt n (2 ^ 128) ≡ true → EndsWord rest → Again (holds (u128 n)) (codes "U " ++ decimal n) rest
unfolding body_at bare_at large_at
u128-again n rest h e = ap (option_map (λ p. (holds (u128 p.0), p.1))) (number_at-again 128 n rest (omega arith) h e)

i64-again : (z : ℤ) (rest : List ℕ) → nat_lt (magnitude z) (2 ^ 63) ≡ true → EndsWord rest → Again (holds (i64 z)) (codes "i " ++ signed_decimal z) rest
unfolding body_at bare_at small_signed_at
i64-again z rest h e = ap (option_map (λ p. (holds (i64 p.0), p.1))) (signed_at-again 63 64 z rest half_of_64 h e)

i128-again : (z : ℤ) (rest : List ℕ) → nat_lt (magnitude z) (2 ^ 127) ≡ true → EndsWord rest → Again (holds (i128 z)) (codes "I " ++ signed_decimal z) rest
unfolding body_at bare_at large_signed_at
i128-again z rest h e = ap (option_map (λ p. (holds (i128 p.0), p.1))) (signed_at-again 127 128 z rest half_of_128 h e)

owned_is : (t : Phrase) → t.borrowed ≡ false → owned_bytes t.bytes ≡ bytes t
owned_is t h = ap (λ b. bytes (record { bytes = t.bytes; borrowed = b })) (sym h)

scalar-again : (s : Scalar) (text rest : List ℕ) → scalar_body s ≡ Some text → IsTapeScalar s → EndsWord rest → Again (holds s) text rest
scalar-again unit text rest h t e = spelled_so (holds unit) (codes "unit") text rest (some_is h) (bare-again rest).7
scalar-again null text rest h t e = spelled_so (holds null) (codes "null") text rest (some_is h) (bare-again rest).8
scalar-again (bool true) text rest h t e = spelled_so (holds (bool true)) (codes "true") text rest (some_is h) (bare-again rest).9
scalar-again (bool false) text rest h t e = spelled_so (holds (bool false)) (codes "false") text rest (some_is h) (bare-again rest).10
scalar-again (char c) text rest h t e =
    let g = guarded (codes "c ") (quoted (encode_utf8 c)) text (all_scalars (c ∷ [])) h in
    spelled_so (holds (char c)) (codes "c " ++ quoted (encode_utf8 c)) text rest g.1 (char-again c rest g.0)
scalar-again (i64 z) text rest h t e =
    let g = guarded (codes "i ") (signed_decimal z) text (nat_lt (magnitude z) (2 ^ 63)) h in
    spelled_so (holds (i64 z)) (codes "i " ++ signed_decimal z) text rest g.1 (i64-again z rest g.0 e)
scalar-again (u64 n) text rest h t e =
    let g = guarded (codes "u ") (decimal n) text (nat_lt n (2 ^ 64)) h in
    spelled_so (holds (u64 n)) (codes "u " ++ decimal n) text rest g.1 (u64-again n rest g.0 e)
scalar-again (i128 z) text rest h t e =
    let g = guarded (codes "I ") (signed_decimal z) text (nat_lt (magnitude z) (2 ^ 127)) h in
    spelled_so (holds (i128 z)) (codes "I " ++ signed_decimal z) text rest g.1 (i128-again z rest g.0 e)
scalar-again (u128 n) text rest h t e =
    let g = guarded (codes "U ") (decimal n) text (nat_lt n (2 ^ 128)) h in
    spelled_so (holds (u128 n)) (codes "U " ++ decimal n) text rest g.1 (u128-again n rest g.0 e)
scalar-again (str x) text rest h t e = spelled_so (holds (str x)) (codes "s " ++ quoted x.bytes) text rest (some_is h) (str-again x rest t)
scalar-again (bytes x) text rest h t e =
    let g = tested (codes "b " ++ hex x.bytes) text (list_all (λ b. nat_lt b 256) x.bytes) h in
    spelled_so (holds (bytes x)) (codes "b " ++ hex x.bytes) text rest g.1 (hex-again x.bytes rest g.0 e ∙ ap (λ s. Some (holds s, rest)) (owned_is x t))

tag-again : (o : Option (List ℕ)) (text rest : List ℕ) → tag_body o ≡ Some text → Again (tags o) text rest
tag-again None text rest h = spelled_so (tags None) (codes "v -") text rest (some_is h) (bare-again rest).6
tag-again (Some t) text rest h =
    let g = tested (codes "v " ++ quoted t) text (is_plain t) h in
    spelled_so (tags (Some t)) (codes "v " ++ quoted t) text rest g.1 (variant-again t rest g.0)

pub body-again : (b : Body) (text rest : List ℕ) → body_text b ≡ Some text → HasBodyTexts b → EndsWord rest → body_at (text ++ rest) ≡ Some (b, rest)
body-again (opens of_struct) text rest h t e = spelled_so (opens of_struct) (codes "{") text rest (some_is h) (bare-again rest).0
body-again (opens of_sequence) text rest h t e = spelled_so (opens of_sequence) (codes "[") text rest (some_is h) (bare-again rest).1
body-again (closes of_struct) text rest h t e = spelled_so (closes of_struct) (codes "}") text rest (some_is h) (bare-again rest).2
body-again (closes of_sequence) text rest h t e = spelled_so (closes of_sequence) (codes "]") text rest (some_is h) (bare-again rest).3
body-again next_field text rest h t e = spelled_so next_field (codes "o") text rest (some_is h) (bare-again rest).4
body-again (names None) text rest h t e = spelled_so (names None) (codes "k -") text rest (some_is h) (bare-again rest).5
body-again (names (Some x)) text rest h t e = spelled_so (names (Some x)) (codes "k " ++ quoted x.bytes) text rest (some_is h) (key-again x rest t)
body-again (tags o) text rest h t e = tag-again o text rest h
body-again (holds s) text rest h t e = scalar-again s text rest h t e
