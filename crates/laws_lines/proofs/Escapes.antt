-- Spelled texts are texts.
use Rattle.std.proofs.Common.{◌≡◌, ℕ, ◌+◌, ◌<◌, ◌≤◌, ◌/◌, ◌%◌, ◌==◌, List, [], ◌∷◌, ◌++◌, Bool, true, false, cond, refl, ap₂, sym, arith, nat_lt, subst}
use Rattle.std.proofs.lemmas.Bool.Decides.{nat_tests}
use Rattle.std.proofs.lemmas.Grind.{flat_map-append}
use Rattle.std.proofs.lemmas.List.{append-nil}
use Rattle.std.proofs.lemmas.Str.{IsUtf8-append, IsUtf8-from_ascii, IsUtf8-from_is_utf8, IsUtf8-nil, is_utf8-from_IsUtf8, encode_ascii}
use Rattle.std.proofs.lemmas.Str.Ascii.{IsAscii-nil, IsAscii-cons}
use Rattle.std.specs.Char.{encode_utf8}
use Rattle.std.specs.List.{flat_map, AllByRecursion as Every}
use Rattle.std.specs.Str.{IsAscii, IsUtf8, is_utf8, encode_utf8_all, all_scalars}
use Rattle.semantics_lines.specs.Lines.{escape}

-- the bytes of a character past ASCII are past it too
by_size : (a b d : Bool) (c : ℕ) → a ≡ false
    → Every (λ b. 128 ≤ b) (cond a (c ∷ []) (cond b ((192 + c / 64) ∷ (128 + c % 64) ∷ [])
    (cond d ((224 + c / 4096) ∷ (128 + (c / 64) % 64) ∷ (128 + c % 64) ∷ [])
    ((240 + c / 262144) ∷ (128 + (c / 4096) % 64) ∷ (128 + (c / 64) % 64) ∷ (128 + c % 64) ∷ []))))
by_size true b d c e = absurd cc
by_size false true d c e = (omega arith, (omega arith, tt))
by_size false false true c e = (omega arith, (omega arith, (omega arith, tt)))
by_size false false false c e = (omega arith, (omega arith, (omega arith, (omega arith, tt))))

past : (c : ℕ) → 128 ≤ c → nat_lt c 128 ≡ false
past c le = grind (arith, nat_tests)

high : (c : ℕ) → 128 ≤ c → Every (λ b. 128 ≤ b) (encode_utf8 c)
unfolding encode_utf8
high c le = by_size (nat_lt c 128) (nat_lt c 2048) (nat_lt c 65536) c (past c le)

high_byte : (b : ℕ) → 128 ≤ b → escape b ≡ b ∷ []
high_byte b le = grind (arith, nat_tests)

high_spelled : (bs : List ℕ) → Every (λ b. 128 ≤ b) bs → flat_map escape bs ≡ bs
high_spelled [] all = refl
high_spelled (b ∷ bs) (le, all) = ap₂ (λ x y. x ++ y) (high_byte b le) (high_spelled bs all)

low_text : (b : ℕ) → b < 128 → IsUtf8 (escape b)
low_text b lt = by_case (b == 92) (b == 34) (b == 10)
  where
    one : (x : ℕ) → x < 128 → IsAscii (x ∷ [])
    one x less = IsAscii-cons x [] less IsAscii-nil

    by_case : (p q r : Bool) → IsUtf8 (cond p (92 ∷ 92 ∷ []) (cond q (92 ∷ 34 ∷ []) (cond r (92 ∷ 110 ∷ []) (b ∷ []))))
    by_case true q r = IsUtf8-from_ascii (92 ∷ 92 ∷ []) (IsAscii-cons 92 (92 ∷ []) (omega arith) (one 92 (omega arith)))
    by_case false true r = IsUtf8-from_ascii (92 ∷ 34 ∷ []) (IsAscii-cons 92 (34 ∷ []) (omega arith) (one 34 (omega arith)))
    by_case false false true = IsUtf8-from_ascii (92 ∷ 110 ∷ []) (IsAscii-cons 92 (110 ∷ []) (omega arith) (one 110 (omega arith)))
    by_case false false false = IsUtf8-from_ascii (b ∷ []) (one b lt)

scalar_spelled : (c : ℕ) (low : Bool) → nat_lt c 128 ≡ low → IsUtf8 (encode_utf8 c) → IsUtf8 (flat_map escape (encode_utf8 c))
scalar_spelled c true e text =
    let less : c < 128 = grind (arith, nat_tests) in
    subst (λ x. IsUtf8 (flat_map escape x)) (sym (encode_ascii c less)) (subst IsUtf8 (sym (append-nil (escape c))) (low_text c less))
scalar_spelled c false e text = subst IsUtf8 (sym (high_spelled (encode_utf8 c) (high c (grind (arith, nat_tests))))) text

all_spelled : (cs : List ℕ) → all_scalars cs ≡ true → IsUtf8 (flat_map escape (encode_utf8_all cs))
all_spelled [] e = IsUtf8-nil
all_spelled (c ∷ cs) e =
    let here : IsUtf8 (encode_utf8 c) = (c ∷ [], (first_scalar c cs e, append-nil (encode_utf8 c))) in
    subst IsUtf8 (sym (flat_map-append escape (encode_utf8 c) (encode_utf8_all cs)))
    (IsUtf8-append (flat_map escape (encode_utf8 c)) (flat_map escape (encode_utf8_all cs)) (scalar_spelled c (nat_lt c 128) refl here) (all_spelled cs (other_scalars c cs e)))
  where
    first_scalar : (x : ℕ) (xs : List ℕ) → all_scalars (x ∷ xs) ≡ true → all_scalars (x ∷ []) ≡ true
    first_scalar x xs t = grind (arith, nat_tests)

    other_scalars : (x : ℕ) (xs : List ℕ) → all_scalars (x ∷ xs) ≡ true → all_scalars xs ≡ true
    other_scalars x xs t = grind (arith, nat_tests)

-- a text is spelled by a text
pub spelled_text : (t : List ℕ) → is_utf8 t ≡ true → is_utf8 (flat_map escape t) ≡ true
spelled_text t u =
    let (cs, (good, is)) = IsUtf8-from_is_utf8 t u in
    is_utf8-from_IsUtf8 (flat_map escape t) (subst (λ x. IsUtf8 (flat_map escape x)) is (all_spelled cs good))
