-- A line of a shape text is read as what it says, and only as that.
use Rattle.std.proofs.Common.{◌≡◌, inl, inr, ℕ, ℤ, ◌^◌, ◌<◌, List, [], ◌∷◌, ◌++◌, Bool, true, false, cond, ◌&&◌, Option, Some, None, option_map, option_and_then, refl, sym, ap, ◌∙◌, subst, arith, append_assoc, append-nil}
use Rattle.std.specs.Prelude.{nat_lt, codes, bytes_eq, unwrap_or}
use Rattle.std.specs.List.{list_all}
use Rattle.std.specs.Fmt.{decimal, signed_decimal}
use Rattle.std.proofs.lemmas.Bool.Decides.{nat_tests}
use Rattle.semantics_lines.specs.Lines.{quoted}
use Rattle.semantics_lines.specs.Shapes.{SkipRule, skip_never, skip_always, skip_none, skip_empty, skip_default, MetaKind, span_meta, doc_meta, tag_meta, TagKind, by_name, by_unsigned, by_signed, EnumForm, external, internal, adjacent, numeric, untagged, cow}
use Rattle.semantics_lines.specs.ShapeLines.{is_name, Head, option_head, list_head, set_head, transparent_head, result_head, map_head, array_head, unit_head, tuple_head, struct_head, enum_head, Literal, unit_literal, bool_literal, char_literal, unsigned_literal, signed_literal, text_literal, none_literal, empty_literal, own_literal, FieldLine, Body, no_body, item_body, field_body, VariantLine, ShapeLine, head_line, item_line, field_line, variant_line, flag_words, text_words, tag_words, form_words, pair_words, head_words, literal_words, default_words, skip_words, meta_words, attribute_words, body_words, discriminant_words, spelling, head_references, fits_half, literal_fits, default_fits, discriminant_fits, head_fits, has_parts}
use Rattle.laws_lines.specs.Fronts.{strip, number_at, signed_at}
use Rattle.laws_lines.specs.Quoted.{quoted_at, char_at}
use Rattle.laws_lines.specs.ShapeLineReading.{or_else, word_at, behind, whole, attribute, flag_at, name_at, names_at, below, quotes_at, tag_kind_of, over_one, over_two, array_behind, array_of, bare_of, struct_behind, struct_of, untagged_form, internal_form, adjacent_form, form_of, enum_of, head_of, plain_literal, told_literal, worded_literal, literal_at, skip_at, meta_at, attributed, field_of, body_at, variant_behind, variant_of, head_line_of, item_line_of, field_line_of, variant_line_of, line_of}
use Rattle.laws_lines.proofs.Tests.{both, is_both, mapped, bound}
use Rattle.laws_lines.proofs.Fronts.{strip-takes, EndsWord}
use Rattle.laws_lines.proofs.Numbers.{number_at-takes, number_at-again, half_of_64, half_of_128, signed_at-takes, signed_at-again}
use Rattle.laws_lines.proofs.Quotes.{quoted-again}
use Rattle.laws_lines.proofs.Characters.{char_at-takes, char_at-again}
use Rattle.laws_lines.proofs.ShapeLineParts.{or-some, chosen, same_bytes, Takes, behind-takes, ended-some, whole-takes, whole-again, word-takes, suffixed, all_fit, attribute-takes, attribute-none, attribute-some, attribute-again, skips, flag-takes, flag-again, skips_flag, as_it_stands, name-takes, name-again, two_names, are_names, names-takes, names-again, is_wide, any_text, quote-takes, two_quotes, any_texts, quotes-takes, quotes-again, is_char, quoted_char}

-- what is said of a shape is spelled so
record SaysHead (t : List ℕ) (h : Head) : Type 0 where
  pub names : list_all is_name (head_references h) ≡ true
  pub fits : head_fits h ≡ true
  pub is : t ≡ head_words h

-- each alternative says what it reads
either_says : (t : List ℕ) (a b : Option Head) → ((h : Head) → a ≡ Some h → SaysHead t h) → ((h : Head) → b ≡ Some h → SaysHead t h) → (h : Head) → or_else a b ≡ Some h → SaysHead t h
either_says t a b f g h e = elim (or-some a b h e) [ inl x ↦ f h x | inr y ↦ g h y ]

one_says : (w t : List ℕ) (make : List ℕ → Head) → ((n : List ℕ) → head_references (make n) ≡ n ∷ []) → ((n : List ℕ) → head_fits (make n) ≡ true) → ((n : List ℕ) → head_words (make n) ≡ w ++ n)
    → (h : Head) → option_map make (whole w name_at t) ≡ Some h → SaysHead t h
one_says w t make refers fits words h e =
    let m = mapped make (whole w name_at t) h e in
    let x = whole-takes w name_at as_it_stands is_name name-takes t m.0 m.1 in
    subst (λ (h : Head). SaysHead t h) m.2 (record { names = ap (list_all is_name) (refers m.0) ∙ both (is_name m.0) true x.0 refl; fits = fits m.0; is = x.1 ∙ sym (words m.0) })

two_says : (w t : List ℕ) (make : List ℕ × List ℕ → Head) → ((p : List ℕ × List ℕ) → head_references (make p) ≡ p.0 ∷ p.1 ∷ []) → ((p : List ℕ × List ℕ) → head_fits (make p) ≡ true)
    → ((p : List ℕ × List ℕ) → head_words (make p) ≡ w ++ pair_words p.0 p.1) → (h : Head) → option_map make (whole w names_at t) ≡ Some h → SaysHead t h
two_says w t make refers fits words h e =
    let m = mapped make (whole w names_at t) h e in
    let x = whole-takes w names_at two_names are_names names-takes t m.0 m.1 in
    let n = is_both (is_name m.0.0) (is_name m.0.1) x.0 in
    subst (λ (h : Head). SaysHead t h) m.2 (record { names = ap (list_all is_name) (refers m.0) ∙ both (is_name m.0.0) (is_name m.0.1 && true) n.0 (both (is_name m.0.1) true n.1 refl); fits = fits m.0; is = x.1 ∙ sym (words m.0) })

over_one-says : (t : List ℕ) (h : Head) → over_one t ≡ Some h → SaysHead t h
unfolding over_one
over_one-says t =
    either_says t _ _ (one_says (codes " option ") t option_head (λ n. refl) (λ n. refl) (λ n. refl))
    (either_says t _ _ (one_says (codes " list ") t list_head (λ n. refl) (λ n. refl) (λ n. refl))
    (either_says t _ _ (one_says (codes " set ") t set_head (λ n. refl) (λ n. refl) (λ n. refl))
    (one_says (codes " transparent ") t transparent_head (λ n. refl) (λ n. refl) (λ n. refl))))

over_two-says : (t : List ℕ) (h : Head) → over_two t ≡ Some h → SaysHead t h
unfolding over_two
over_two-says t =
    either_says t _ _ (two_says (codes " result ") t (λ p. result_head p.0 p.1) (λ n. refl) (λ n. refl) (λ n. refl))
    (two_says (codes " map ") t (λ p. map_head p.0 p.1) (λ n. refl) (λ n. refl) (λ n. refl))

array-says : (t : List ℕ) (h : Head) → array_of t ≡ Some h → SaysHead t h
unfolding array_of
array-says t h e =
    let a = bound array_behind (behind (codes " array ") (number_at 128) t) h e in
    let b = bound (λ len. option_map (array_head len) (whole (codes " ") name_at a.0.1)) (below 32 a.0.0) h a.2 in
    let c = chosen (nat_lt a.0.0 (2 ^ 32)) a.0.0 b.0 b.1 in
    let m = mapped (array_head b.0) (whole (codes " ") name_at a.0.1) h b.2 in
    let len = behind-takes (codes " array ") (number_at 128) decimal is_wide (number_at-takes 128) t a.0 a.1 in
    let name = whole-takes (codes " ") name_at as_it_stands is_name name-takes a.0.1 m.0 m.1 in
    let same : a.0.0 ≡ b.0 = c.1 in
    subst (λ (h : Head). SaysHead t h) m.2 (record {
      names = both (is_name m.0) true name.0 refl;
      fits = ap (λ n. nat_lt n (2 ^ 32)) (sym same) ∙ c.0;
      is = len.1 ∙ ap (λ x. (codes " array " ++ decimal a.0.0) ++ x) name.1 ∙ append_assoc (codes " array ") (decimal a.0.0) (codes " " ++ m.0) ∙ ap (λ n. codes " array " ++ (decimal n ++ (codes " " ++ m.0))) same;
    })

-- a fixed text says this
fixed_says : (w t : List ℕ) (x : Head) (other : Option Head) → SaysHead w x → ((h : Head) → other ≡ Some h → SaysHead t h) → (h : Head) → cond (bytes_eq t w) (Some x) other ≡ Some h → SaysHead t h
fixed_says w t x other says f h e = by_test (bytes_eq t w) refl e
  where
    by_test : (b : Bool) → bytes_eq t w ≡ b → cond b (Some x) other ≡ Some h → SaysHead t h
    by_test true k e =
        let is : x ≡ h = cc in
        subst (λ (h : Head). SaysHead t h) is (record { names = says.names; fits = says.fits; is = same_bytes t w k ∙ says.is })
    by_test false k e = f h e

none_says : (t : List ℕ) (h : Head) → None ≡ Some h → SaysHead t h
none_says t h e = absurd (let f : None ≡ Some h = e in cc)

bare-says : (t : List ℕ) (h : Head) → bare_of t ≡ Some h → SaysHead t h
unfolding bare_of
bare-says t =
    fixed_says (codes " unit") t unit_head _ (record { names = refl; fits = refl; is = refl })
    (fixed_says (codes " tuple") t tuple_head _ (record { names = refl; fits = refl; is = refl }) (none_says t))

struct-says : (t : List ℕ) (h : Head) → struct_of t ≡ Some h → SaysHead t h
unfolding struct_of
struct-says t h e =
    let a = bound struct_behind (strip (codes " struct") t) h e in
    let deny = flag_at (codes " deny") a.0 in
    let default = flag_at (codes " default") deny.1 in
    let container = flag_at (codes " container") default.1 in
    let x = ended-some (struct_head deny.0 default.0 container.0, container.1) h a.2 in
    subst (λ (h : Head). SaysHead t h) x.0 (record {
      names = refl;
      fits = refl;
      is = strip-takes (codes " struct") t a.0 a.1
          ∙ ap (λ y. codes " struct" ++ y) (flag-takes (codes " deny") a.0
          ∙ ap (λ y. flag_words (codes " deny") deny.0 ++ y) (flag-takes (codes " default") deny.1
          ∙ ap (λ y. flag_words (codes " default") default.0 ++ y) (flag-takes (codes " container") default.1
          ∙ ap (λ y. flag_words (codes " container") container.0 ++ y) x.1
          ∙ append-nil (flag_words (codes " container") container.0))));
    })

tag_kind-takes : (t : List ℕ) (k : TagKind) → tag_kind_of t ≡ Some k → t ≡ tag_words k
unfolding tag_kind_of
tag_kind-takes t k e = by_tests (bytes_eq t []) (bytes_eq t (codes " unsigned")) (bytes_eq t (codes " signed")) refl refl refl e
  where
    by_tests : (a b c : Bool) → bytes_eq t [] ≡ a → bytes_eq t (codes " unsigned") ≡ b → bytes_eq t (codes " signed") ≡ c → cond a (Some by_name) (cond b (Some by_unsigned) (cond c (Some by_signed) None)) ≡ Some k → t ≡ tag_words k
    by_tests true b c x y z e = same_bytes t [] x ∙ ap tag_words (let f : by_name ≡ k = cc in f)
    by_tests false true c x y z e = same_bytes t (codes " unsigned") y ∙ ap tag_words (let f : by_unsigned ≡ k = cc in f)
    by_tests false false true x y z e = same_bytes t (codes " signed") z ∙ ap tag_words (let f : by_signed ≡ k = cc in f)
    by_tests false false false x y z e = absurd (let f : None ≡ Some k = e in cc)

tag_kind-again : (k : TagKind) → tag_kind_of (tag_words k) ≡ Some k
unfolding tag_kind_of
tag_kind-again by_name = refl
tag_kind-again by_unsigned = refl
tag_kind-again by_signed = refl

untagged-takes : (t : List ℕ) (f : EnumForm) → untagged_form t ≡ Some f → t ≡ form_words f
unfolding untagged_form
untagged-takes t f e = by_tests (bytes_eq t (codes " external")) (bytes_eq t (codes " numeric")) (bytes_eq t (codes " untagged")) (bytes_eq t (codes " cow")) refl refl refl refl e
  where
    by_tests : (a b c d : Bool) → bytes_eq t (codes " external") ≡ a → bytes_eq t (codes " numeric") ≡ b → bytes_eq t (codes " untagged") ≡ c → bytes_eq t (codes " cow") ≡ d
        → cond a (Some external) (cond b (Some numeric) (cond c (Some untagged) (cond d (Some cow) None))) ≡ Some f → t ≡ form_words f
    by_tests true b c d x y z w e = same_bytes t (codes " external") x ∙ ap form_words (let g : external ≡ f = cc in g)
    by_tests false true c d x y z w e = same_bytes t (codes " numeric") y ∙ ap form_words (let g : numeric ≡ f = cc in g)
    by_tests false false true d x y z w e = same_bytes t (codes " untagged") z ∙ ap form_words (let g : untagged ≡ f = cc in g)
    by_tests false false false true x y z w e = same_bytes t (codes " cow") w ∙ ap form_words (let g : cow ≡ f = cc in g)
    by_tests false false false false x y z w e = absurd (let g : None ≡ Some f = e in cc)

internal-takes : (t : List ℕ) (f : EnumForm) → internal_form t ≡ Some f → t ≡ form_words f
unfolding internal_form
internal-takes t f e =
    let a = bound (λ (p : List ℕ × List ℕ). option_map (internal p.0) (tag_kind_of p.1)) (behind (codes " internal ") quoted_at t) f e in
    let m = mapped (internal a.0.0) (tag_kind_of a.0.1) f a.2 in
    (behind-takes (codes " internal ") quoted_at quoted any_text quote-takes t a.0 a.1).1
    ∙ ap (λ x. (codes " internal " ++ quoted a.0.0) ++ x) (tag_kind-takes a.0.1 m.0 m.1)
    ∙ append_assoc (codes " internal ") (quoted a.0.0) (tag_words m.0) ∙ ap form_words m.2

adjacent-takes : (t : List ℕ) (f : EnumForm) → adjacent_form t ≡ Some f → t ≡ form_words f
unfolding adjacent_form
adjacent-takes t f e =
    let a = bound (λ (p : (List ℕ × List ℕ) × List ℕ). option_map (adjacent p.0.0 p.0.1) (tag_kind_of p.1)) (behind (codes " adjacent ") quotes_at t) f e in
    let m = mapped (adjacent a.0.0.0 a.0.0.1) (tag_kind_of a.0.1) f a.2 in
    (behind-takes (codes " adjacent ") quotes_at two_quotes any_texts quotes-takes t a.0 a.1).1
    ∙ ap (λ x. (codes " adjacent " ++ two_quotes a.0.0) ++ x) (tag_kind-takes a.0.1 m.0 m.1)
    ∙ append_assoc (codes " adjacent ") (two_quotes a.0.0) (tag_words m.0)
    ∙ ap (λ x. codes " adjacent " ++ x) (append_assoc (quoted a.0.0.0) (codes " " ++ quoted a.0.0.1) (tag_words m.0))
    ∙ ap form_words m.2

form-takes : (t : List ℕ) (f : EnumForm) → form_of t ≡ Some f → t ≡ form_words f
unfolding form_of
form-takes t f e = elim (or-some (untagged_form t) (or_else (internal_form t) (adjacent_form t)) f e) [
  | inl x ↦ untagged-takes t f x
  | inr y ↦ elim (or-some (internal_form t) (adjacent_form t) f y) [ inl x ↦ internal-takes t f x | inr z ↦ adjacent-takes t f z ]
]

enum-says : (t : List ℕ) (h : Head) → enum_of t ≡ Some h → SaysHead t h
unfolding enum_of
enum-says t h e =
    let a = bound (λ rest. option_map enum_head (form_of rest)) (strip (codes " enum") t) h e in
    let m = mapped enum_head (form_of a.0) h a.2 in
    subst (λ (h : Head). SaysHead t h) m.2 (record { names = refl; fits = refl; is = strip-takes (codes " enum") t a.0 a.1 ∙ ap (λ x. codes " enum" ++ x) (form-takes a.0 m.0 m.1) })

head-says : (t : List ℕ) (h : Head) → head_of t ≡ Some h → SaysHead t h
unfolding head_of
head-says t =
    either_says t _ _ (over_one-says t) (either_says t _ _ (over_two-says t) (either_says t _ _ (array-says t) (either_says t _ _ (bare-says t) (either_says t _ _ (struct-says t) (enum-says t)))))

-- the name alone
first_name : (n : List ℕ) (more : List (List ℕ)) → list_all is_name (n ∷ more) ≡ true → (is_name n ≡ true) × (list_all is_name more ≡ true)
first_name n more h = is_both (is_name n) (list_all is_name more) h

name_whole : (w n : List ℕ) → list_all is_name (n ∷ []) ≡ true → whole w name_at (w ++ n) ≡ Some n
name_whole w n h = let x = (first_name n [] h).0 in whole-again w name_at n n (name-again n [] x tt)

names_whole : (w n m : List ℕ) → list_all is_name (n ∷ m ∷ []) ≡ true → whole w names_at (w ++ pair_words n m) ≡ Some (n, m)
names_whole w n m h =
    let x = first_name n (m ∷ []) h in
    whole-again w names_at (pair_words n m) (n, m) (names-again n m [] x.0 (first_name m [] x.1).0 tt)

struct-again : (deny default container : Bool) → struct_of (head_words (struct_head deny default container)) ≡ Some (struct_head deny default container)
unfolding struct_of flag_at
struct-again true true true = refl
struct-again true true false = refl
struct-again true false true = refl
struct-again true false false = refl
struct-again false true true = refl
struct-again false true false = refl
struct-again false false true = refl
struct-again false false false = refl

form-again : (f : EnumForm) → form_of (form_words f) ≡ Some f
unfolding form_of untagged_form internal_form adjacent_form
form-again external = refl
form-again numeric = refl
form-again untagged = refl
form-again cow = refl
form-again (internal tag by) = rw (quoted-again tag (tag_words by), tag_kind-again by) refl
form-again (adjacent tag content by) =
    let cut : quoted tag ++ (codes " " ++ (quoted content ++ tag_words by)) ≡ two_quotes (tag, content) ++ tag_words by = sym (append_assoc (quoted tag) (codes " " ++ quoted content) (tag_words by)) in
    ap (λ x. form_of (codes " adjacent " ++ x)) cut ∙ (rw (quotes-again tag content (tag_words by), tag_kind-again by) refl)

array-again : (len : ℕ) (shape : List ℕ) → list_all is_name (shape ∷ []) ≡ true → nat_lt len (2 ^ 32) ≡ true → array_of (head_words (array_head len shape)) ≡ Some (array_head len shape)
unfolding array_of
array-again len shape h k =
    let small : len < 2 ^ 32 = grind (arith, nat_tests) in
    let below_wide : len < 2 ^ 128 = omega (arith, small) in
    let wide : is_wide len ≡ true = grind (arith, nat_tests) in
    rw (number_at-again 128 len (codes " " ++ shape) (omega arith) wide refl, k, name_whole (codes " ") shape h) refl

head-again : (h : Head) → list_all is_name (head_references h) ≡ true → head_fits h ≡ true → head_of (head_words h) ≡ Some h
unfolding head_of over_one over_two array_of bare_of struct_of enum_of
head-again (option_head shape) h k = rw (name_whole (codes " option ") shape h) refl
head-again (list_head shape) h k = rw (name_whole (codes " list ") shape h) refl
head-again (set_head shape) h k = rw (name_whole (codes " set ") shape h) refl
head-again (transparent_head shape) h k = rw (name_whole (codes " transparent ") shape h) refl
head-again (result_head shape other) h k = rw (names_whole (codes " result ") shape other h) refl
head-again (map_head key value) h k = rw (names_whole (codes " map ") key value h) refl
head-again (array_head len shape) h k = ap (λ o. or_else o (or_else (bare_of (head_words (array_head len shape))) (or_else (struct_of (head_words (array_head len shape))) (enum_of (head_words (array_head len shape)))))) (array-again len shape h k)
head-again unit_head h k = refl
head-again tuple_head h k = refl
head-again (struct_head deny default container) h k = ap (λ o. or_else o (enum_of (head_words (struct_head deny default container)))) (struct-again deny default container)
head-again (enum_head form) h k = ap (option_map enum_head) (form-again form)

-- an answer is one of a table of words
literal_word : (w : List ℕ) (x : Literal) (other : Option (Literal × List ℕ)) (t : List ℕ) (p : Literal × List ℕ) → literal_words x ≡ w → literal_fits x ≡ true
    → (other ≡ Some p → (literal_fits p.0 ≡ true) × (t ≡ literal_words p.0 ++ p.1)) → or_else (word_at w x t) other ≡ Some p → (literal_fits p.0 ≡ true) × (t ≡ literal_words p.0 ++ p.1)
literal_word w x other t p is fits f e = elim (or-some (word_at w x t) other p e) [
  | inl a ↦ let q = word-takes w x t p a in (ap literal_fits q.0 ∙ fits, q.1 ∙ ap (λ y. y ++ p.1) (sym is ∙ ap literal_words (sym q.0)))
  | inr b ↦ f b
]

last_word : (w : List ℕ) (x : Literal) (t : List ℕ) (p : Literal × List ℕ) → literal_words x ≡ w → literal_fits x ≡ true → word_at w x t ≡ Some p → (literal_fits p.0 ≡ true) × (t ≡ literal_words p.0 ++ p.1)
last_word w x t p is fits a = let q = word-takes w x t p a in (ap literal_fits q.0 ∙ fits, q.1 ∙ ap (λ y. y ++ p.1) (sym is ∙ ap literal_words (sym q.0)))

plain-takes : Takes plain_literal literal_words literal_fits
unfolding plain_literal
plain-takes t p =
    literal_word (codes "unit") unit_literal _ t p refl refl
    (literal_word (codes "true") (bool_literal true) _ t p refl refl
    (literal_word (codes "false") (bool_literal false) _ t p refl refl
    (literal_word (codes "none") none_literal _ t p refl refl
    (literal_word (codes "empty") empty_literal _ t p refl refl
    (last_word (codes "own") own_literal t p refl refl)))))

told-takes : {A : Type 0} → (w : List ℕ) (read : List ℕ → Option (A × List ℕ)) (spell : A → List ℕ) (fits : A → Bool) (make : A → Literal) → Takes read spell fits
    → ((x : A) → literal_words (make x) ≡ w ++ spell x) → ((x : A) → literal_fits (make x) ≡ fits x) → Takes (λ t. told_literal make (behind w read t)) literal_words literal_fits
told-takes w read spell fits make takes is same t p e =
    let m = mapped (λ q. (make q.0, q.1)) (behind w read t) p e in
    let b = behind-takes w read spell fits takes t m.0 m.1 in
    subst (λ (q : Literal × List ℕ). (literal_fits q.0 ≡ true) × (t ≡ literal_words q.0 ++ q.1)) m.2 (same m.0.0 ∙ b.0, b.1 ∙ ap (λ y. y ++ m.0.1) (sym (is m.0.0)))

either_told : (a b : Option (Literal × List ℕ)) (t : List ℕ) (p : Literal × List ℕ) → (a ≡ Some p → (literal_fits p.0 ≡ true) × (t ≡ literal_words p.0 ++ p.1)) → (b ≡ Some p → (literal_fits p.0 ≡ true) × (t ≡ literal_words p.0 ++ p.1))
    → or_else a b ≡ Some p → (literal_fits p.0 ≡ true) × (t ≡ literal_words p.0 ++ p.1)
either_told a b t p f g e = elim (or-some a b p e) [ inl x ↦ f x | inr y ↦ g y ]

worded-takes : Takes worded_literal literal_words literal_fits
unfolding worded_literal
worded-takes t p =
    either_told _ _ t p (told-takes (codes "c ") char_at quoted_char is_char char_literal char_at-takes (λ x. refl) (λ x. refl) t p)
    (either_told _ _ t p (told-takes (codes "u ") (number_at 128) decimal is_wide unsigned_literal (number_at-takes 128) (λ x. refl) (λ x. refl) t p)
    (either_told _ _ t p (told-takes (codes "i ") (signed_at 127 128) signed_decimal (fits_half 127) signed_literal (signed_at-takes 127 128) (λ x. refl) (λ x. refl) t p)
    (told-takes (codes "s ") quoted_at quoted any_text text_literal quote-takes (λ x. refl) (λ x. refl) t p)))

literal-takes : Takes literal_at literal_words literal_fits
unfolding literal_at
literal-takes t p e = either_told (plain_literal t) (worded_literal t) t p (plain-takes t p) (worded-takes t p) e

literal-again : (l : Literal) (rest : List ℕ) → literal_fits l ≡ true → EndsWord rest → literal_at (literal_words l ++ rest) ≡ Some (l, rest)
unfolding literal_at plain_literal worded_literal
literal-again unit_literal rest h e = refl
literal-again (bool_literal true) rest h e = refl
literal-again (bool_literal false) rest h e = refl
literal-again (char_literal c) rest h e = rw (char_at-again c rest h) refl
literal-again (unsigned_literal n) rest h e = rw (number_at-again 128 n rest (omega arith) h e) refl
literal-again (signed_literal z) rest h e = rw (signed_at-again 127 128 z rest half_of_128 h e) refl
literal-again (text_literal text) rest h e = rw (quoted-again text rest) refl
literal-again none_literal rest h e = refl
literal-again empty_literal rest h e = refl
literal-again own_literal rest h e = refl

-- the word of a rule that skips
abbrev rule_word : SkipRule → List ℕ
rule_word skip_never = codes "never"
rule_word skip_always = codes "always"
rule_word skip_none = codes "none"
rule_word skip_empty = codes "empty"
rule_word skip_default = codes "default"

abbrev skips_some : SkipRule → Bool
skips_some skip_never = false
skips_some _ = true

abbrev some_rule : SkipRule → Option SkipRule
some_rule skip_never = None
some_rule skip_always = Some skip_always
some_rule skip_none = Some skip_none
some_rule skip_empty = Some skip_empty
some_rule skip_default = Some skip_default

skip_suffixed : (r : SkipRule) → skip_words r ≡ suffixed (codes " skip ") rule_word (some_rule r)
skip_suffixed skip_never = refl
skip_suffixed skip_always = refl
skip_suffixed skip_none = refl
skip_suffixed skip_empty = refl
skip_suffixed skip_default = refl

skip_back : (r : SkipRule) → unwrap_or (some_rule r) skip_never ≡ r
skip_back skip_never = refl
skip_back skip_always = refl
skip_back skip_none = refl
skip_back skip_empty = refl
skip_back skip_default = refl

some_suffixed : (o : Option SkipRule) → all_fit skips_some o ≡ true → suffixed (codes " skip ") rule_word o ≡ skip_words (unwrap_or o skip_never)
some_suffixed None h = refl
some_suffixed (Some skip_never) h = absurd (let f : false ≡ true = h in cc)
some_suffixed (Some skip_always) h = refl
some_suffixed (Some skip_none) h = refl
some_suffixed (Some skip_empty) h = refl
some_suffixed (Some skip_default) h = refl

-- one word of a table
table_word : {A : Type 0} → (w : List ℕ) (x : A) (spell : A → List ℕ) (fits : A → Bool) (t : List ℕ) (p : A × List ℕ) → spell x ≡ w → fits x ≡ true → word_at w x t ≡ Some p → (fits p.0 ≡ true) × (t ≡ spell p.0 ++ p.1)
table_word w x spell fits t p is fit a = let q = word-takes w x t p a in (ap fits q.0 ∙ fit, q.1 ∙ ap (λ y. y ++ p.1) (sym is ∙ ap spell (sym q.0)))

in_table : {A : Type 0} → (a b : Option (A × List ℕ)) (spell : A → List ℕ) (fits : A → Bool) (t : List ℕ) (p : A × List ℕ) → (a ≡ Some p → (fits p.0 ≡ true) × (t ≡ spell p.0 ++ p.1)) → (b ≡ Some p → (fits p.0 ≡ true) × (t ≡ spell p.0 ++ p.1))
    → or_else a b ≡ Some p → (fits p.0 ≡ true) × (t ≡ spell p.0 ++ p.1)
in_table a b spell fits t p f g e = elim (or-some a b p e) [ inl x ↦ f x | inr y ↦ g y ]

skip-takes : Takes skip_at rule_word skips_some
unfolding skip_at
skip-takes t p =
    in_table _ _ rule_word skips_some t p (table_word (codes "always") skip_always rule_word skips_some t p refl refl)
    (in_table _ _ rule_word skips_some t p (table_word (codes "none") skip_none rule_word skips_some t p refl refl)
    (in_table _ _ rule_word skips_some t p (table_word (codes "empty") skip_empty rule_word skips_some t p refl refl)
    (table_word (codes "default") skip_default rule_word skips_some t p refl refl)))

skip-again : (r x : SkipRule) (rest : List ℕ) → some_rule r ≡ Some x → skip_at (rule_word x ++ rest) ≡ Some (x, rest)
unfolding skip_at
skip-again skip_never x rest h = absurd (let f : None ≡ Some x = h in cc)
skip-again skip_always x rest h = let is : skip_always ≡ x = cc in ap (λ r. skip_at (rule_word r ++ rest)) (sym is) ∙ ap (λ r. Some (r, rest)) is
skip-again skip_none x rest h = let is : skip_none ≡ x = cc in ap (λ r. skip_at (rule_word r ++ rest)) (sym is) ∙ ap (λ r. Some (r, rest)) is
skip-again skip_empty x rest h = let is : skip_empty ≡ x = cc in ap (λ r. skip_at (rule_word r ++ rest)) (sym is) ∙ ap (λ r. Some (r, rest)) is
skip-again skip_default x rest h = let is : skip_default ≡ x = cc in ap (λ r. skip_at (rule_word r ++ rest)) (sym is) ∙ ap (λ r. Some (r, rest)) is

abbrev kind_word : MetaKind → List ℕ
kind_word span_meta = codes "span"
kind_word doc_meta = codes "doc"
kind_word tag_meta = codes "tag"

abbrev any_kind : MetaKind → Bool
any_kind k = true

meta_suffixed : (o : Option MetaKind) → meta_words o ≡ suffixed (codes " meta ") kind_word o
meta_suffixed None = refl
meta_suffixed (Some span_meta) = refl
meta_suffixed (Some doc_meta) = refl
meta_suffixed (Some tag_meta) = refl

meta-takes : Takes meta_at kind_word any_kind
unfolding meta_at
meta-takes t p =
    in_table _ _ kind_word any_kind t p (table_word (codes "span") span_meta kind_word any_kind t p refl refl)
    (in_table _ _ kind_word any_kind t p (table_word (codes "doc") doc_meta kind_word any_kind t p refl refl)
    (table_word (codes "tag") tag_meta kind_word any_kind t p refl refl))

meta-again : (k : MetaKind) (rest : List ℕ) → meta_at (kind_word k ++ rest) ≡ Some (k, rest)
unfolding meta_at
meta-again span_meta rest = refl
meta-again doc_meta rest = refl
meta-again tag_meta rest = refl

text_suffixed : (w : List ℕ) (o : Option (List ℕ)) → text_words w o ≡ suffixed w quoted o
text_suffixed w None = refl
text_suffixed w (Some t) = refl

default_suffixed : (o : Option Literal) → default_words o ≡ suffixed (codes " default ") literal_words o
default_suffixed None = refl
default_suffixed (Some l) = refl

default_all : (o : Option Literal) → default_fits o ≡ all_fit literal_fits o
default_all None = refl
default_all (Some l) = refl

discriminant_suffixed : (o : Option ℤ) → discriminant_words o ≡ suffixed (codes " disc ") signed_decimal o
discriminant_suffixed None = refl
discriminant_suffixed (Some z) = refl

discriminant_all : (o : Option ℤ) → discriminant_fits o ≡ all_fit (fits_half 63) o
discriminant_all None = refl
discriminant_all (Some z) = refl

-- a field is spelled so
record SaysField (t : List ℕ) (f : FieldLine) : Type 0 where
  pub names : is_name f.name && is_name f.shape ≡ true
  pub fits : default_fits f.default ≡ true
  pub is : t ≡ f.name ++ (codes " " ++ (f.shape ++ attribute_words f))

attributed-says : (name shape t : List ℕ) (f : FieldLine) → attributed name shape t ≡ Some f → (f.name ≡ name) × (f.shape ≡ shape) × (default_fits f.default ≡ true) × (t ≡ attribute_words f)
unfolding attributed
attributed-says name shape t f e =
    let rename = attribute (codes " rename ") quoted_at t in
    let alias = attribute (codes " alias ") quoted_at rename.1 in
    let default = attribute (codes " default ") literal_at alias.1 in
    let skip = attribute (codes " skip ") skip_at default.1 in
    let flattened = flag_at (codes " flatten") skip.1 in
    let metadata = attribute (codes " meta ") meta_at flattened.1 in
    let made : FieldLine = record { name = name; shape = shape; rename = rename.0; alias = alias.0; default = default.0; skip = unwrap_or skip.0 skip_never; flattened = flattened.0; metadata = metadata.0 } in
    let x = ended-some (made, metadata.1) f e in
    let a = attribute-takes (codes " rename ") quoted_at quoted any_text quote-takes t in
    let b = attribute-takes (codes " alias ") quoted_at quoted any_text quote-takes rename.1 in
    let c = attribute-takes (codes " default ") literal_at literal_words literal_fits literal-takes alias.1 in
    let d = attribute-takes (codes " skip ") skip_at rule_word skips_some skip-takes default.1 in
    let g = attribute-takes (codes " meta ") meta_at kind_word any_kind meta-takes flattened.1 in
    let m : flattened.1 ≡ meta_words metadata.0 = g.1 ∙ ap (λ y. suffixed (codes " meta ") kind_word metadata.0 ++ y) x.1 ∙ append-nil (suffixed (codes " meta ") kind_word metadata.0) ∙ sym (meta_suffixed metadata.0) in
    let n : default.1 ≡ skip_words (unwrap_or skip.0 skip_never) ++ (flag_words (codes " flatten") flattened.0 ++ meta_words metadata.0) =
    d.1 ∙ ap (λ y. y ++ skip.1) (some_suffixed skip.0 d.0) ∙ ap (λ y. skip_words (unwrap_or skip.0 skip_never) ++ y) (flag-takes (codes " flatten") skip.1 ∙ ap (λ y. flag_words (codes " flatten") flattened.0 ++ y) m) in
    let o : alias.1 ≡ default_words default.0 ++ (skip_words (unwrap_or skip.0 skip_never) ++ (flag_words (codes " flatten") flattened.0 ++ meta_words metadata.0)) =
    c.1 ∙ ap (λ y. y ++ default.1) (sym (default_suffixed default.0)) ∙ ap (λ y. default_words default.0 ++ y) n in
    let all : t ≡ attribute_words made =
    a.1 ∙ ap (λ y. y ++ rename.1) (sym (text_suffixed (codes " rename ") rename.0))
    ∙ ap (λ y. text_words (codes " rename ") rename.0 ++ y) (b.1 ∙ ap (λ y. y ++ alias.1) (sym (text_suffixed (codes " alias ") alias.0)) ∙ ap (λ y. text_words (codes " alias ") alias.0 ++ y) o) in
    subst (λ (f : FieldLine). (f.name ≡ name) × (f.shape ≡ shape) × (default_fits f.default ≡ true) × (t ≡ attribute_words f)) x.0 (refl, refl, default_all default.0 ∙ c.0, all)

field-says : (t : List ℕ) (f : FieldLine) → field_of t ≡ Some f → SaysField t f
unfolding field_of
field-says t f e =
    let a = bound (λ (p : (List ℕ × List ℕ) × List ℕ). attributed p.0.0 p.0.1 p.1) (names_at t) f e in
    let n = names-takes t a.0 a.1 in
    let x = attributed-says a.0.0.0 a.0.0.1 a.0.1 f a.2 in
    record {
      names = ap (λ y. is_name y && is_name f.shape) x.0 ∙ ap (λ y. is_name a.0.0.0 && is_name y) x.1 ∙ n.0;
      fits = x.2;
      is = n.1 ∙ ap (λ y. pair_words a.0.0.0 a.0.0.1 ++ y) x.3 ∙ append_assoc a.0.0.0 (codes " " ++ a.0.0.1) (attribute_words f)
          ∙ ap (λ y. y ++ (codes " " ++ (a.0.0.1 ++ attribute_words f))) (sym x.0) ∙ ap (λ y. f.name ++ (codes " " ++ (y ++ attribute_words f))) (sym x.1);
    }

no_text : (w v : List ℕ) (o : Option (List ℕ)) (rest : List ℕ) → ((more : List ℕ) → strip w (v ++ more) ≡ None) → strip w rest ≡ None → strip w (text_words v o ++ rest) ≡ None
no_text w v o rest h n = ap (λ x. strip w (x ++ rest)) (text_suffixed v o) ∙ skips w v quoted o rest h n

no_default : (w : List ℕ) (o : Option Literal) (rest : List ℕ) → ((more : List ℕ) → strip w (codes " default " ++ more) ≡ None) → strip w rest ≡ None → strip w (default_words o ++ rest) ≡ None
no_default w o rest h n = ap (λ x. strip w (x ++ rest)) (default_suffixed o) ∙ skips w (codes " default ") literal_words o rest h n

no_skip : (w : List ℕ) (r : SkipRule) (rest : List ℕ) → ((more : List ℕ) → strip w (codes " skip " ++ more) ≡ None) → strip w rest ≡ None → strip w (skip_words r ++ rest) ≡ None
no_skip w r rest h n = ap (λ x. strip w (x ++ rest)) (skip_suffixed r) ∙ skips w (codes " skip ") rule_word (some_rule r) rest h n

no_meta : (w : List ℕ) (o : Option MetaKind) → ((more : List ℕ) → strip w (codes " meta " ++ more) ≡ None) → strip w [] ≡ None → strip w (meta_words o) ≡ None
no_meta w o h n = ap (strip w) (meta_suffixed o ∙ sym (append-nil (suffixed (codes " meta ") kind_word o))) ∙ skips w (codes " meta ") kind_word o [] h n

no_flag : (w : List ℕ) (b : Bool) (rest : List ℕ) → ((more : List ℕ) → strip w (codes " flatten" ++ more) ≡ None) → strip w rest ≡ None → strip w (flag_words (codes " flatten") b ++ rest) ≡ None
no_flag w b rest h n = skips_flag w (codes " flatten") b rest h n

meta_ends : (o : Option MetaKind) → EndsWord (meta_words o)
meta_ends None = tt
meta_ends (Some span_meta) = refl
meta_ends (Some doc_meta) = refl
meta_ends (Some tag_meta) = refl

flag_ends : (b : Bool) (o : Option MetaKind) → EndsWord (flag_words (codes " flatten") b ++ meta_words o)
flag_ends true o = refl
flag_ends false o = meta_ends o

skip_ends : (r : SkipRule) (b : Bool) (o : Option MetaKind) → EndsWord (skip_words r ++ (flag_words (codes " flatten") b ++ meta_words o))
skip_ends skip_never b o = flag_ends b o
skip_ends skip_always b o = refl
skip_ends skip_none b o = refl
skip_ends skip_empty b o = refl
skip_ends skip_default b o = refl

default_ends : (l : Option Literal) (rest : List ℕ) → EndsWord rest → EndsWord (default_words l ++ rest)
default_ends None rest e = e
default_ends (Some l) rest e = refl

text_ends : (w : List ℕ) (o : Option (List ℕ)) (rest : List ℕ) → ((more : List ℕ) → EndsWord (w ++ more)) → EndsWord rest → EndsWord (text_words w o ++ rest)
text_ends w None rest f e = e
text_ends w (Some t) rest f e = subst (λ (x : List ℕ). EndsWord x) (sym (append_assoc w (quoted t) rest)) (f (quoted t ++ rest))

attributes_end : (f : FieldLine) → EndsWord (attribute_words f)
attributes_end f =
    text_ends (codes " rename ") f.rename _ (λ m. refl) (text_ends (codes " alias ") f.alias _ (λ m. refl) (default_ends f.default _ (skip_ends f.skip f.flattened f.metadata)))

meta_read : (o : Option MetaKind) → attribute (codes " meta ") meta_at (meta_words o) ≡ (o, [])
unfolding attribute meta_at
meta_read None = refl
meta_read (Some span_meta) = refl
meta_read (Some doc_meta) = refl
meta_read (Some tag_meta) = refl

text_read : (w : List ℕ) (o : Option (List ℕ)) (rest : List ℕ) → strip w rest ≡ None → attribute w quoted_at (text_words w o ++ rest) ≡ (o, rest)
text_read w o rest n = ap (λ x. attribute w quoted_at (x ++ rest)) (text_suffixed w o) ∙ attribute-again w quoted_at quoted o rest n (λ x e. quoted-again x rest)

fits_at : (o : Option Literal) (l : Literal) → default_fits o ≡ true → o ≡ Some l → literal_fits l ≡ true
fits_at o l h e = sym (ap default_fits e) ∙ h

default_read : (o : Option Literal) (rest : List ℕ) → default_fits o ≡ true → EndsWord rest → strip (codes " default ") rest ≡ None → attribute (codes " default ") literal_at (default_words o ++ rest) ≡ (o, rest)
default_read o rest h e n =
    ap (λ x. attribute (codes " default ") literal_at (x ++ rest)) (default_suffixed o)
    ∙ attribute-again (codes " default ") literal_at literal_words o rest n (λ x k. literal-again x rest (fits_at o x h k) e)

skip_read : (r : SkipRule) (rest : List ℕ) → strip (codes " skip ") rest ≡ None → attribute (codes " skip ") skip_at (skip_words r ++ rest) ≡ (some_rule r, rest)
skip_read r rest n =
    ap (λ x. attribute (codes " skip ") skip_at (x ++ rest)) (skip_suffixed r)
    ∙ attribute-again (codes " skip ") skip_at rule_word (some_rule r) rest n (λ x k. skip-again r x rest k)

attributed-again : (f : FieldLine) → default_fits f.default ≡ true → attributed f.name f.shape (attribute_words f) ≡ Some f
unfolding attributed
attributed-again f h =
    let metas = meta_words f.metadata in
    let flags = flag_words (codes " flatten") f.flattened ++ metas in
    let skipped = skip_words f.skip ++ flags in
    let defaults = default_words f.default ++ skipped in
    let aliases = text_words (codes " alias ") f.alias ++ defaults in
    let a = text_read (codes " rename ") f.rename aliases
    (no_text (codes " rename ") (codes " alias ") f.alias defaults (λ m. refl) (no_default (codes " rename ") f.default skipped (λ m. refl) (no_skip (codes " rename ") f.skip flags (λ m. refl) (no_flag (codes " rename ") f.flattened metas (λ m. refl) (no_meta (codes " rename ") f.metadata (λ m. refl) refl))))) in
    let b = text_read (codes " alias ") f.alias defaults (no_default (codes " alias ") f.default skipped (λ m. refl) (no_skip (codes " alias ") f.skip flags (λ m. refl) (no_flag (codes " alias ") f.flattened metas (λ m. refl) (no_meta (codes " alias ") f.metadata (λ m. refl) refl)))) in
    let c = default_read f.default skipped h (skip_ends f.skip f.flattened f.metadata) (no_skip (codes " default ") f.skip flags (λ m. refl) (no_flag (codes " default ") f.flattened metas (λ m. refl) (no_meta (codes " default ") f.metadata (λ m. refl) refl))) in
    let d = skip_read f.skip flags (no_flag (codes " skip ") f.flattened metas (λ m. refl) (no_meta (codes " skip ") f.metadata (λ m. refl) refl)) in
    let e = flag-again (codes " flatten") f.flattened metas (no_meta (codes " flatten") f.metadata (λ m. refl) refl) in
    let g = meta_read f.metadata in
    rw (a, b, c, d, e, g) (ap (λ r. Some (record { name = f.name; shape = f.shape; rename = f.rename; alias = f.alias; default = f.default; skip = r; flattened = f.flattened; metadata = f.metadata })) (skip_back f.skip))

field-again : (f : FieldLine) → is_name f.name ≡ true → is_name f.shape ≡ true → default_fits f.default ≡ true → field_of (f.name ++ (codes " " ++ (f.shape ++ attribute_words f))) ≡ Some f
unfolding field_of
field-again f n s h =
    let cut : f.name ++ (codes " " ++ (f.shape ++ attribute_words f)) ≡ pair_words f.name f.shape ++ attribute_words f = sym (append_assoc f.name (codes " " ++ f.shape) (attribute_words f)) in
    ap (λ x. option_and_then (λ (p : (List ℕ × List ℕ) × List ℕ). attributed p.0.0 p.0.1 p.1) (names_at x)) cut
    ∙ ap (option_and_then (λ (p : (List ℕ × List ℕ) × List ℕ). attributed p.0.0 p.0.1 p.1)) (names-again f.name f.shape (attribute_words f) n s (attributes_end f))
    ∙ attributed-again f h

abbrev any_body : Body → Bool
any_body b = true

body-takes : Takes body_at body_words any_body
unfolding body_at
body-takes t p =
    in_table _ _ body_words any_body t p (table_word (codes " unit") no_body body_words any_body t p refl refl)
    (in_table _ _ body_words any_body t p (table_word (codes " tuple") item_body body_words any_body t p refl refl)
    (table_word (codes " struct") field_body body_words any_body t p refl refl))

body-again : (b : Body) (rest : List ℕ) → body_at (body_words b ++ rest) ≡ Some (b, rest)
unfolding body_at
body-again no_body rest = refl
body-again item_body rest = refl
body-again field_body rest = refl

body_ends : (b : Body) (rest : List ℕ) → EndsWord (body_words b ++ rest)
body_ends no_body rest = refl
body_ends item_body rest = refl
body_ends field_body rest = refl

-- a variant is spelled so
abbrev variant_words : VariantLine → List ℕ
variant_words v = v.name ++ (body_words v.body ++ (text_words (codes " rename ") v.rename ++ discriminant_words v.discriminant))

record SaysVariant (t : List ℕ) (v : VariantLine) : Type 0 where
  pub name : is_name v.name ≡ true
  pub fits : discriminant_fits v.discriminant ≡ true
  pub is : t ≡ variant_words v

behind-says : (name : List ℕ) (body : Body) (t : List ℕ) (v : VariantLine) → variant_behind name body t ≡ Some v
    → (v.name ≡ name) × (v.body ≡ body) × (discriminant_fits v.discriminant ≡ true) × (t ≡ text_words (codes " rename ") v.rename ++ discriminant_words v.discriminant)
unfolding variant_behind
behind-says name body t v e =
    let rename = attribute (codes " rename ") quoted_at t in
    let disc = attribute (codes " disc ") (signed_at 63 64) rename.1 in
    let made : VariantLine = record { name = name; body = body; rename = rename.0; discriminant = disc.0 } in
    let x = ended-some (made, disc.1) v e in
    let a = attribute-takes (codes " rename ") quoted_at quoted any_text quote-takes t in
    let b = attribute-takes (codes " disc ") (signed_at 63 64) signed_decimal (fits_half 63) (signed_at-takes 63 64) rename.1 in
    let m : rename.1 ≡ discriminant_words disc.0 = b.1 ∙ ap (λ y. suffixed (codes " disc ") signed_decimal disc.0 ++ y) x.1 ∙ append-nil (suffixed (codes " disc ") signed_decimal disc.0) ∙ sym (discriminant_suffixed disc.0) in
    subst (λ (v : VariantLine). (v.name ≡ name) × (v.body ≡ body) × (discriminant_fits v.discriminant ≡ true) × (t ≡ text_words (codes " rename ") v.rename ++ discriminant_words v.discriminant)) x.0
    (refl, refl, discriminant_all disc.0 ∙ b.0, a.1 ∙ ap (λ y. y ++ rename.1) (sym (text_suffixed (codes " rename ") rename.0)) ∙ ap (λ y. text_words (codes " rename ") rename.0 ++ y) m)

variant-says : (t : List ℕ) (v : VariantLine) → variant_of t ≡ Some v → SaysVariant t v
unfolding variant_of
variant-says t v e =
    let a = bound (λ (p : List ℕ × List ℕ). option_and_then (λ (q : Body × List ℕ). variant_behind p.0 q.0 q.1) (body_at p.1)) (name_at t) v e in
    let b = bound (λ (q : Body × List ℕ). variant_behind a.0.0 q.0 q.1) (body_at a.0.1) v a.2 in
    let n = name-takes t a.0 a.1 in
    let w = body-takes a.0.1 b.0 b.1 in
    let x = behind-says a.0.0 b.0.0 b.0.1 v b.2 in
    record {
      name = ap is_name x.0 ∙ n.0;
      fits = x.2;
      is = n.1 ∙ ap (λ y. a.0.0 ++ y) (w.1 ∙ ap (λ y. body_words b.0.0 ++ y) x.3 ∙ ap (λ y. body_words y ++ (text_words (codes " rename ") v.rename ++ discriminant_words v.discriminant)) (sym x.1))
          ∙ ap (λ y. y ++ (body_words v.body ++ (text_words (codes " rename ") v.rename ++ discriminant_words v.discriminant))) (sym x.0);
    }

discriminant_read : (o : Option ℤ) → discriminant_fits o ≡ true → attribute (codes " disc ") (signed_at 63 64) (discriminant_words o) ≡ (o, [])
discriminant_read None h = attribute-none (codes " disc ") (signed_at 63 64) [] refl
discriminant_read (Some z) h =
    ap (attribute (codes " disc ") (signed_at 63 64)) (sym (append-nil (codes " disc " ++ signed_decimal z)))
    ∙ attribute-some (codes " disc ") (signed_at 63 64) (signed_decimal z) [] z (signed_at-again 63 64 z [] half_of_64 h tt)

no_disc : (w : List ℕ) (o : Option ℤ) → ((more : List ℕ) → strip w (codes " disc " ++ more) ≡ None) → strip w [] ≡ None → strip w (discriminant_words o) ≡ None
no_disc w None h n = n
no_disc w (Some z) h n = h (signed_decimal z)

variant-again : (v : VariantLine) → is_name v.name ≡ true → discriminant_fits v.discriminant ≡ true → variant_of (variant_words v) ≡ Some v
unfolding variant_of variant_behind
variant-again v n h =
    let last = discriminant_words v.discriminant in
    let later = text_words (codes " rename ") v.rename ++ last in
    let a = name-again v.name (body_words v.body ++ later) n (body_ends v.body later) in
    let b = body-again v.body later in
    let c = text_read (codes " rename ") v.rename last (no_disc (codes " rename ") v.discriminant (λ m. refl) refl) in
    let d = discriminant_read v.discriminant h in
    rw (a, b, c, d) refl

-- what a line says is spelled so
abbrev pub IsSaid : List ℕ → ShapeLine → Type 0
IsSaid t l = (has_parts l ≡ true) × (t ≡ spelling l)

head_line-takes : (t : List ℕ) (l : ShapeLine) → head_line_of t ≡ Some l → IsSaid t l
unfolding head_line_of
head_line-takes t l e =
    let a = bound (λ (p : List ℕ × List ℕ). option_map (head_line p.0) (head_of p.1)) (behind (codes "shape ") name_at t) l e in
    let m = mapped (head_line a.0.0) (head_of a.0.1) l a.2 in
    let n = behind-takes (codes "shape ") name_at as_it_stands is_name name-takes t a.0 a.1 in
    let h = head-says a.0.1 m.0 m.1 in
    subst (λ (l : ShapeLine). IsSaid t l) m.2 (
      both (is_name a.0.0 && true) (list_all is_name (head_references m.0) && head_fits m.0) (both (is_name a.0.0) true n.0 refl) (both (list_all is_name (head_references m.0)) (head_fits m.0) h.names h.fits),
      n.1 ∙ ap (λ x. (codes "shape " ++ a.0.0) ++ x) h.is ∙ append_assoc (codes "shape ") a.0.0 (head_words m.0),
    )

item_line-takes : (t : List ℕ) (l : ShapeLine) → item_line_of t ≡ Some l → IsSaid t l
unfolding item_line_of
item_line-takes t l e =
    let m = mapped item_line (whole (codes "item ") name_at t) l e in
    let x = whole-takes (codes "item ") name_at as_it_stands is_name name-takes t m.0 m.1 in
    subst (λ (l : ShapeLine). IsSaid t l) m.2 (both (is_name m.0 && true) true (both (is_name m.0) true x.0 refl) refl, x.1)

field_line-takes : (t : List ℕ) (l : ShapeLine) → field_line_of t ≡ Some l → IsSaid t l
unfolding field_line_of
field_line-takes t l e =
    let m = mapped field_line (option_and_then field_of (strip (codes "field ") t)) l e in
    let a = bound field_of (strip (codes "field ") t) m.0 m.1 in
    let f = field-says a.0 m.0 a.2 in
    let n = is_both (is_name m.0.name) (is_name m.0.shape) f.names in
    subst (λ (l : ShapeLine). IsSaid t l) m.2 (
      both (is_name m.0.name && true) ((is_name m.0.shape && true) && default_fits m.0.default) (both (is_name m.0.name) true n.0 refl) (both (is_name m.0.shape && true) (default_fits m.0.default) (both (is_name m.0.shape) true n.1 refl) f.fits),
      strip-takes (codes "field ") t a.0 a.1 ∙ ap (λ x. codes "field " ++ x) f.is,
    )

variant_line-takes : (t : List ℕ) (l : ShapeLine) → variant_line_of t ≡ Some l → IsSaid t l
unfolding variant_line_of
variant_line-takes t l e =
    let m = mapped variant_line (option_and_then variant_of (strip (codes "variant ") t)) l e in
    let a = bound variant_of (strip (codes "variant ") t) m.0 m.1 in
    let v = variant-says a.0 m.0 a.2 in
    subst (λ (l : ShapeLine). IsSaid t l) m.2 (
      both (is_name m.0.name && true) (true && discriminant_fits m.0.discriminant) (both (is_name m.0.name) true v.name refl) v.fits,
      strip-takes (codes "variant ") t a.0 a.1 ∙ ap (λ x. codes "variant " ++ x) v.is,
    )

-- A line says nothing but what is spelled so.
pub line-takes : (t : List ℕ) (l : ShapeLine) → line_of t ≡ Some l → IsSaid t l
unfolding line_of
line-takes t l e = elim (or-some (head_line_of t) (or_else (item_line_of t) (or_else (field_line_of t) (variant_line_of t))) l e) [
  | inl x ↦ head_line-takes t l x
  | inr y ↦ elim (or-some (item_line_of t) (or_else (field_line_of t) (variant_line_of t)) l y) [
    | inl x ↦ item_line-takes t l x
    | inr z ↦ elim (or-some (field_line_of t) (variant_line_of t) l z) [ inl x ↦ field_line-takes t l x | inr w ↦ variant_line-takes t l w ]
  ]
]

head_ends : (h : Head) → EndsWord (head_words h)
head_ends (option_head shape) = refl
head_ends (list_head shape) = refl
head_ends (set_head shape) = refl
head_ends (transparent_head shape) = refl
head_ends (result_head shape other) = refl
head_ends (map_head key value) = refl
head_ends (array_head len shape) = refl
head_ends unit_head = refl
head_ends tuple_head = refl
head_ends (struct_head deny default container) = refl
head_ends (enum_head form) = refl

one_given : (n : List ℕ) (b : Bool) → (list_all is_name (n ∷ []) && b) ≡ true → (is_name n ≡ true) × (b ≡ true)
one_given n b h = let p = is_both (is_name n && true) b h in ((is_both (is_name n) true p.0).0, p.1)

-- The spelling of a line says what it does.
pub line-again : (l : ShapeLine) → has_parts l ≡ true → line_of (spelling l) ≡ Some l
unfolding line_of head_line_of item_line_of field_line_of variant_line_of
line-again (head_line name head) h =
    let p = one_given name (list_all is_name (head_references head) && head_fits head) h in
    let q = is_both (list_all is_name (head_references head)) (head_fits head) p.1 in
    rw (name-again name (head_words head) p.0 (head_ends head), head-again head q.0 q.1) refl
line-again (item_line shape) h = let p = is_both (is_name shape && true) true h in rw (name_whole (codes "item ") shape p.0) refl
line-again (field_line f) h =
    let p = one_given f.name ((is_name f.shape && true) && default_fits f.default) h in
    let q = one_given f.shape (default_fits f.default) p.1 in
    rw (field-again f p.0 q.0 q.1) refl
line-again (variant_line v) h =
    let p = one_given v.name (true && discriminant_fits v.discriminant) h in
    rw (variant-again v p.0 p.1) refl
