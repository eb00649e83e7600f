-- Bytes are the tape of one list of events at most.
use Rattle.std.proofs.Common.{◌≡◌, ◌≢◌, ℕ, ◌+◌, List, [], ◌∷◌, ◌++◌, length, Some, true, not, eqb, refl, sym, ap, ap₂, ◌∙◌, subst, arith}
use Rattle.std.proofs.lemmas.Bool.Decides.{nat_tests}
use Rattle.semantics_lines.specs.Events.{Span, Note, named, nameless, ordered, Key, scalar, key, tag, Event, leaf, start, stop, span_of, unplaced}
use Rattle.semantics_lines.specs.Lines.{line_of}
use Rattle.semantics_lines.specs.Tapes.{line_span, IsTapeFrom, IsTape, has_no_end}
use Rattle.laws_lines.proofs.Tests.{is_both}
use Rattle.laws_lines.proofs.LineEnds.{line_no_end}
use Rattle.laws_lines.proofs.LineLaws.{one_content}
use Rattle.laws_lines.proofs.Texts.{same_event}

-- the event at a place
abbrev put_note : Span → Note → Note
put_note s n = record { span = s; metadata = n.metadata }

abbrev put_key : Span → Key → Key
put_key s (named t m n) = named t m (put_note s n)
put_key s (nameless m n) = nameless m (put_note s n)
put_key s (ordered n) = ordered (put_note s n)

abbrev put_at : Span → Event → Event
put_at s (leaf (scalar x n)) = leaf (scalar x (put_note s n))
put_at s (leaf (key k)) = leaf (key (put_key s k))
put_at s (leaf (tag t n)) = leaf (tag t (put_note s n))
put_at s (start b c n) = start b c (put_note s n)
put_at s (stop b n) = stop b (put_note s n)

put_back : (e : Event) → put_at (span_of e) (unplaced e) ≡ e
put_back (leaf (scalar x n)) = refl
put_back (leaf (key (named t m n))) = refl
put_back (leaf (key (nameless m n))) = refl
put_back (leaf (key (ordered n))) = refl
put_back (leaf (tag t n)) = refl
put_back (start b c n) = refl
put_back (stop b n) = refl

same_placed : (a b : Event) → unplaced a ≡ unplaced b → span_of a ≡ span_of b → a ≡ b
same_placed a b e s = sym (put_back a) ∙ ap₂ put_at s e ∙ put_back b

byte_apart : (b : ℕ) (l : List ℕ) → has_no_end (b ∷ l) ≡ true → b ≢ 10
byte_apart b l h = grind (arith, nat_tests)

byte_rest : (b : ℕ) (l : List ℕ) → has_no_end (b ∷ l) ≡ true → has_no_end l ≡ true
byte_rest b l h = (is_both (not (eqb b 10)) (has_no_end l) h).1

-- bytes are cut at their first line feed
cut_once : (k l : List ℕ) (x y : List ℕ) → has_no_end k ≡ true → has_no_end l ≡ true → k ++ (10 ∷ x) ≡ l ++ (10 ∷ y) → (k ≡ l) × (x ≡ y)
cut_once [] [] x y p q e = (refl, cc)
cut_once [] (b ∷ l) x y p q e =
    let feed : b ≡ 10 = cc in
    absurd (byte_apart b l q feed)
cut_once (b ∷ k) [] x y p q e =
    let feed : b ≡ 10 = cc in
    absurd (byte_apart b k p feed)
cut_once (b ∷ k) (c ∷ l) x y p q e =
    let first : b ≡ c = cc in
    let rest : k ++ (10 ∷ x) ≡ l ++ (10 ∷ y) = cc in
    let (same, tails) = cut_once k l x y (byte_rest b k p) (byte_rest c l q) rest in
    (ap₂ (λ d m. d ∷ m) first same, tails)

not_empty : (l x : List ℕ) → l ++ (10 ∷ x) ≡ [] → ⊥
not_empty [] x e = cc
not_empty (b ∷ l) x e = cc

pub one_from : (es fs : List Event) (at : ℕ) (input : List ℕ) → IsTapeFrom at es input → IsTapeFrom at fs input → es ≡ fs
one_from [] [] at input none none' = refl
one_from [] (f ∷ fs) at input none (line, rest, is, one, spanned, more) = absurd (not_empty line rest (sym is ∙ none))
one_from (e ∷ es) [] at input (line, rest, is, one, spanned, more) none = absurd (not_empty line rest (sym is ∙ none))
one_from (e ∷ es) (f ∷ fs) at input (line, rest, is, one, spanned, more) (line', rest', is', one', spanned', more') =
    let (same, tails) = cut_once line line' rest rest' (line_no_end e line one.spelled) (line_no_end f line' one'.spelled) (sym is ∙ is') in
    let spelled : line_of f ≡ Some line = one'.spelled ∙ ap Some (sym same) in
    let said = same_event e f line one.spelled spelled one.texts one'.texts (one_content e f line one.spelled spelled) in
    let first = same_placed e f said (spanned ∙ ap (line_span at) same ∙ sym spanned') in
    let others = subst (λ l. IsTapeFrom (at + length l + 1) fs rest) (sym same) (subst (IsTapeFrom (at + length line' + 1) fs) (sym tails) more') in
    ap₂ (λ x xs. x ∷ xs) first (one_from es fs (at + length line + 1) rest more others)

pub one_tape : (es fs : List Event) (input : List ℕ) → IsTape es input → IsTape fs input → es ≡ fs
one_tape es fs input first again = one_from es fs 0 input first again
