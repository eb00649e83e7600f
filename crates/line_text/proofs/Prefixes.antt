-- What `strip_prefix` and `find` tell of the front of a text.
use Rattle.std.proofs.Common.{ℕ, zero, suc, ◌<◌, ◌≡◌, ◌≢◌, List, [], ◌∷◌, ◌++◌, Option, None, Some, length, get_or, drop, take, MatchOption, Bor, sym, refl, ap, ◌∙◌, arith}
use Rattle.std.specs.Option.{option_copied}
use Rattle.std.specs.Str.Pattern.{FindsTextPrefix, StripsPrefix}
use Rattle.laws_lines.specs.Fronts.{strip, until_space}
use Rattle.laws_lines.proofs.Fronts.{strip-again, strip-takes, until-other, until-here}

strip-some : (p l rest : List ℕ) → l ≡ p ++ rest → strip p l ≡ Some rest
strip-some p l rest h = rw h (strip-again p rest)

none_from : (p l : List ℕ) (o : Option (List ℕ)) → strip p l ≡ o → ((rest : List ℕ) → l ≢ p ++ rest) → o ≡ None
none_from p l None e h = refl
none_from p l (Some x) e h = absurd (h x (strip-takes p l x e))

pub after_is : (p l : List ℕ) (r : Option (Bor (List ℕ))) → MatchOption r (FindsTextPrefix p l None) (λ x. StripsPrefix (FindsTextPrefix p) l x.now) → option_copied r ≡ strip p l
after_is p l None h = sym (none_from p l (strip p l) refl h)
after_is p l (Some x) h = sym (strip-some p l x.now (h.1.1 ∙ ap (λ rest. p ++ rest) (sym h.2)))

pub until-at : (bs : List ℕ) (k : ℕ) → k < length bs → get_or bs k 0 ≡ 32 → ((i : ℕ) → i < k → get_or bs i 0 ≢ 32) → until_space bs ≡ (take k bs, drop k bs)
until-at [] k l h p = absurd (omega arith)
until-at (b ∷ bs) zero l h p = until-here b bs h
until-at (b ∷ bs) (suc k) l h p =
    let read = until-at bs k (omega arith) h (λ i q. p (suc i) (omega arith)) in
    until-other b bs (p 0 (omega arith)) ∙ ap (λ (q : List ℕ × List ℕ). (b ∷ q.0, q.1)) read

pub until-end : (bs : List ℕ) → ((i : ℕ) → i < length bs → get_or bs i 0 ≢ 32) → until_space bs ≡ (bs, [])
unfolding until_space
until-end [] p = refl
until-end (b ∷ bs) p = until-other b bs (p 0 (omega arith)) ∙ ap (λ (q : List ℕ × List ℕ). (b ∷ q.0, q.1)) (until-end bs (λ i q. p (suc i) (omega arith)))
