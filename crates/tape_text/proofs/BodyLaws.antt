-- The body of a line is read as what it says.
use Rattle.std.proofs.Common.{ℕ, ◌≡◌, ◌⊎◌, List, [], ◌∷◌, ◌++◌, cond, Option, Some, None, sym, refl, ap, ◌∙◌, subst, inl, inr, append_assoc}
use Rattle.std.specs.Prelude.{codes, encode_utf8}
use Rattle.std.specs.Fmt.{decimal, signed_decimal}
use Rattle.std.specs.Option.{option_or}
use Rattle.semantics_lines.specs.Events.{char, i64, u64, i128, u128, str, of_struct, of_sequence}
use Rattle.semantics_lines.specs.Lines.{quoted, hex, after, scalar_body, tag_body, IsTapeText, IsTapeScalar}
use Rattle.laws_lines.specs.Fronts.{strip, number_at, signed_at, bytes_at}
use Rattle.laws_lines.specs.Quoted.{unquoted, text_at, char_at}
use Rattle.tape_text.specs.Bodies.{Body, opens, closes, next_field, names, tags, holds, Reader, bare_words, fixed, bare_in, bare_at, owned_bytes, key_at, str_at, letter_at, hex_at, variant_at, small_at, small_signed_at, large_at, large_signed_at, rows, by_word, body_in, body_at}
use Rattle.laws_lines.proofs.Tests.{mapped}
use Rattle.laws_lines.proofs.Fronts.{strip-takes}
use Rattle.laws_lines.proofs.Numbers.{number_at-takes, signed_at-takes}
use Rattle.laws_lines.proofs.Hex.{bytes_at-takes}
use Rattle.laws_lines.proofs.Plain.{unquoted-takes, escape-plain}
use Rattle.laws_lines.proofs.Quotes.{text-takes}
use Rattle.laws_lines.proofs.Characters.{char_at-takes}

-- the line of a body, with nothing told behind it
abbrev pub body_text : Body → Option (List ℕ)
body_text (opens of_struct) = Some (codes "{")
body_text (opens of_sequence) = Some (codes "[")
body_text (closes of_struct) = Some (codes "}")
body_text (closes of_sequence) = Some (codes "]")
body_text next_field = Some (codes "o")
body_text (names None) = Some (codes "k -")
body_text (names (Some t)) = Some (codes "k " ++ quoted t.bytes)
body_text (tags t) = tag_body t
body_text (holds s) = scalar_body s

abbrev pub HasBodyTexts : Body → Type 0
HasBodyTexts (names (Some t)) = IsTapeText t
HasBodyTexts (holds s) = IsTapeScalar s
HasBodyTexts _ = Unit {0}

-- what reading a body takes
pub record Takes (l : List ℕ) (p : Body × List ℕ) : Type 0 where
  pub text : List ℕ
  pub front : l ≡ text ++ p.1
  pub spelled : body_text p.0 ≡ Some text
  pub texts : HasBodyTexts p.0

-- what an answer says that is there
or-some : {A : Type 0} → (a b : Option A) (y : A) → option_or a b ≡ Some y → (a ≡ Some y) ⊎ (b ≡ Some y)
or-some None b y h = inr h
or-some (Some x) b y h = inl h

-- a body that is a word

abbrev AreBare : List (List ℕ × Body) → Type 0
AreBare [] = Unit {0}
AreBare (w ∷ ws) = (body_text w.1 ≡ Some w.0) × HasBodyTexts w.1 × AreBare ws

fixed-takes : (word : List ℕ) (b : Body) (l : List ℕ) (p : Body × List ℕ) → body_text b ≡ Some word → HasBodyTexts b → fixed word b l ≡ Some p → Takes l p
fixed-takes word b l p s t h =
    let m = mapped (λ rest. (b, rest)) (strip word l) p h in
    subst (λ (q : Body × List ℕ). Takes l q) m.2 (record { text = word; front = strip-takes word l m.0 m.1; spelled = s; texts = t })

bare_in-takes : (ws : List (List ℕ × Body)) (l : List ℕ) (p : Body × List ℕ) → AreBare ws → bare_in ws l ≡ Some p → Takes l p
bare_in-takes [] l p a h = absurd (let g : None ≡ Some p = h in cc)
bare_in-takes (w ∷ ws) l p a h =
    elim (or-some (fixed w.0 w.1 l) (bare_in ws l) p h) [
      | inl f ↦ fixed-takes w.0 w.1 l p a.0 a.1 f
      | inr g ↦ bare_in-takes ws l p a.2 g
    ]

are_bare : AreBare bare_words
are_bare = (refl, tt, (refl, tt, (refl, tt, (refl, tt, (refl, tt, (refl, tt, (refl, tt, (refl, tt, (refl, tt, (refl, tt, (refl, tt, tt)))))))))))

bare-takes : (l : List ℕ) (p : Body × List ℕ) → bare_at l ≡ Some p → Takes l p
unfolding bare_at
bare-takes l p h = bare_in-takes bare_words l p are_bare h

-- a body that begins with a word

-- what stands behind the word is read so
record TakesBehind (word l : List ℕ) (p : Body × List ℕ) : Type 0 where
  text : List ℕ
  front : l ≡ text ++ p.1
  spelled : body_text p.0 ≡ Some (word ++ text)
  texts : HasBodyTexts p.0

abbrev TakesBy : List ℕ → Reader → Type 0
TakesBy word read = (l : List ℕ) (p : Body × List ℕ) → read l ≡ Some p → TakesBehind word l p

abbrev AllTake : List (List ℕ × Reader) → Type 0
AllTake [] = Unit {0}
AllTake (row ∷ more) = TakesBy row.0 row.1 × AllTake more

word-takes : (word l rest : List ℕ) (p : Body × List ℕ) → l ≡ word ++ rest → TakesBehind word rest p → Takes l p
word-takes word l rest p e t = record {
  text = word ++ t.text;
  front = e ∙ ap (λ x. word ++ x) t.front ∙ sym (append_assoc word t.text p.1);
  spelled = t.spelled;
  texts = t.texts;
}

by_word-takes : (word : List ℕ) (read : Reader) (others : Option (Body × List ℕ)) (l : List ℕ) (p : Body × List ℕ) (o : Option (List ℕ))
    → strip word l ≡ o → TakesBy word read → (others ≡ Some p → Takes l p) → by_word read others o ≡ Some p → Takes l p
by_word-takes word read others l p None e t more h = more h
by_word-takes word read others l p (Some rest) e t more h = word-takes word l rest p (strip-takes word l rest e) (t rest p h)

body_in-takes : (table : List (List ℕ × Reader)) (l : List ℕ) (p : Body × List ℕ) → AllTake table → body_in table l ≡ Some p → Takes l p
body_in-takes [] l p a h = absurd (let g : None ≡ Some p = h in cc)
body_in-takes (row ∷ more) l p a h = by_word-takes row.0 row.1 (body_in more l) l p (strip row.0 l) refl a.0 (body_in-takes more l p a.1) h

key-takes : TakesBy (codes "k ") key_at
unfolding key_at
key-takes l p h =
    let m = mapped (λ q. (names (Some q.0), q.1)) (text_at l) p h in
    let t = text-takes l m.0 m.1 in
    subst (λ (q : Body × List ℕ). TakesBehind (codes "k ") l q) m.2 (record { text = quoted m.0.0.bytes; front = t.0; spelled = refl; texts = t.1 })

str-takes : TakesBy (codes "s ") str_at
unfolding str_at
str-takes l p h =
    let m = mapped (λ q. (holds (str q.0), q.1)) (text_at l) p h in
    let t = text-takes l m.0 m.1 in
    subst (λ (q : Body × List ℕ). TakesBehind (codes "s ") l q) m.2 (record { text = quoted m.0.0.bytes; front = t.0; spelled = refl; texts = t.1 })

letter-takes : TakesBy (codes "c ") letter_at
unfolding letter_at
letter-takes l p h =
    let m = mapped (λ q. (holds (char q.0), q.1)) (char_at l) p h in
    let t = char_at-takes l m.0 m.1 in
    subst (λ (q : Body × List ℕ). TakesBehind (codes "c ") l q) m.2
    (record { text = quoted (encode_utf8 m.0.0); front = t.1; spelled = ap (λ b. after (codes "c ") (cond b (Some (quoted (encode_utf8 m.0.0))) None)) t.0; texts = tt })

hex-takes : TakesBy (codes "b ") hex_at
unfolding hex_at
hex-takes l p h =
    let m = mapped (λ q. (holds (owned_bytes q.0), q.1)) (bytes_at l) p h in
    let t = bytes_at-takes l m.0 m.1 in
    subst (λ (q : Body × List ℕ). TakesBehind (codes "b ") l q) m.2
    (record { text = hex m.0.0; front = t.1; spelled = ap (λ b. cond b (Some (codes "b " ++ hex m.0.0)) None) t.0; texts = refl })

variant-takes : TakesBy (codes "v \"") variant_at
unfolding variant_at
variant-takes l p h =
    let m = mapped (λ q. (tags (Some q.0), q.1)) (unquoted l) p h in
    let t = unquoted-takes l m.0.0 m.0.1 m.1 in
    let same : quoted m.0.0 ≡ 34 ∷ (m.0.0 ++ (34 ∷ [])) = ap (λ x. 34 ∷ (x ++ (34 ∷ []))) (escape-plain m.0.0 t.1) in
    subst (λ (q : Body × List ℕ). TakesBehind (codes "v \"") l q) m.2 (record {
      text = m.0.0 ++ (34 ∷ []);
      front = t.0 ∙ sym (append_assoc m.0.0 (34 ∷ []) m.0.1);
      spelled = ap (λ b. cond b (Some (codes "v " ++ quoted m.0.0)) None) t.1 ∙ ap (λ x. Some (codes "v " ++ x)) same;
      texts = tt;
    })

small-takes : TakesBy (codes "u ") small_at
unfolding small_at
small-takes l p h =
    let m = mapped (λ q. (holds (u64 q.0), q.1)) (number_at 64 l) p h in
    let t = number_at-takes 64 l m.0 m.1 in
    subst (λ (q : Body × List ℕ). TakesBehind (codes "u ") l q) m.2
    (record { text = decimal m.0.0; front = t.1; spelled = ap (λ b. after (codes "u ") (cond b (Some (decimal m.0.0)) None)) t.0; texts = tt })

large-takes : TakesBy (codes "U ") large_at
unfolding large_at
large-takes l p h =
    let m = mapped (λ q. (holds (u128 q.0), q.1)) (number_at 128 l) p h in
    let t = number_at-takes 128 l m.0 m.1 in
    subst (λ (q : Body × List ℕ). TakesBehind (codes "U ") l q) m.2
    (record { text = decimal m.0.0; front = t.1; spelled = ap (λ b. after (codes "U ") (cond b (Some (decimal m.0.0)) None)) t.0; texts = tt })

small_signed-takes : TakesBy (codes "i ") small_signed_at
unfolding small_signed_at
small_signed-takes l p h =
    let m = mapped (λ q. (holds (i64 q.0), q.1)) (signed_at 63 64 l) p h in
    let t = signed_at-takes 63 64 l m.0 m.1 in
    subst (λ (q : Body × List ℕ). TakesBehind (codes "i ") l q) m.2
    (record { text = signed_decimal m.0.0; front = t.1; spelled = ap (λ b. after (codes "i ") (cond b (Some (signed_decimal m.0.0)) None)) t.0; texts = tt })

large_signed-takes : TakesBy (codes "I ") large_signed_at
unfolding large_signed_at
large_signed-takes l p h =
    let m = mapped (λ q. (holds (i128 q.0), q.1)) (signed_at 127 128 l) p h in
    let t = signed_at-takes 127 128 l m.0 m.1 in
    subst (λ (q : Body × List ℕ). TakesBehind (codes "I ") l q) m.2
    (record { text = signed_decimal m.0.0; front = t.1; spelled = ap (λ b. after (codes "I ") (cond b (Some (signed_decimal m.0.0)) None)) t.0; texts = tt })

all_take : AllTake rows
all_take = (key-takes, (str-takes, (letter-takes, (hex-takes, (variant-takes, (small-takes, (small_signed-takes, (large-takes, (large_signed-takes, tt)))))))))

pub body-takes : (l : List ℕ) (p : Body × List ℕ) → body_at l ≡ Some p → Takes l p
unfolding body_at
body-takes l p h =
    elim (or-some (bare_at l) (body_in rows l) p h) [
      | inl a ↦ bare-takes l p a
      | inr b ↦ body_in-takes rows l p all_take b
    ]
