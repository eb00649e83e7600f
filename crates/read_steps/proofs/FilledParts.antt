-- What was read of a struct, and the parts of it.
use Rattle.std.proofs.Common.{◌≡◌, ◌≢◌, ℕ, ◌+◌, ◌-◌, List, [], ◌∷◌, ◌++◌, map, length, get_or, remove, Option, Some, None, Bool, true, false, cond, ◌==◌, refl, sym, ap, ◌∙◌, arith}
use Rattle.std.specs.List.{cons_option, position_from}
use Rattle.std.proofs.lemmas.List.{map-append, get_or-append_right}
use Rattle.std.proofs.lemmas.List.Edits.{remove-append_right}
use Rattle.std.proofs.lemmas.List.Elements.{filter_map-append}
use Rattle.semantics.specs.Places.{rest_at, below}
use Rattle.shape_types.specs.Trees.{tree_of}
use Rattle.event_core.specs.Metadata.{span_view}
use Rattle.read_steps.specs.declared.filled.Filled.{Filled}
use Rattle.laws_reading.specs.Structs.{first_span, whole_span, or_span, taken_span}
use Rattle.read_steps.specs.Filled.{taken_of, or_twice, stands_at}
use Rattle.read_steps.specs.Views.{told_of}

-- the first that stands at a place, from the j-th on
pub record Found (k j : ℕ) (fs : List Filled) (i : ℕ) : Type 0 where
  pub front : List Filled
  pub one : Filled
  pub back : List Filled
  pub cut : fs ≡ front ++ (one ∷ back)
  pub at : i ≡ j + length front
  pub here : one.key.place ≡ k
  pub none : below k (map told_of front) ≡ []

pub found : (k j : ℕ) (fs : List Filled) (i : ℕ) → position_from (stands_at k) j fs ≡ Some i → Found k j fs i
found k j [] i e = absurd cc
found k j (f ∷ fs) i e = by_test (f.key.place == k) refl e (found k (j + 1) fs i)
  where
    by_test : (b : Bool) → (f.key.place == k) ≡ b → cond b (Some j) (position_from (stands_at k) (j + 1) fs) ≡ Some i → (position_from (stands_at k) (j + 1) fs ≡ Some i → Found k (j + 1) fs i) → Found k j (f ∷ fs) i
    by_test true is e rec =
        let same : j ≡ i = cc in
        record { front = []; one = f; back = fs; cut = refl; at = omega (arith, same); here = grind (arith, is); none = refl }
    by_test false is e rec =
        let r = rec e in
        record {
          front = f ∷ r.front;
          one = r.one;
          back = r.back;
          cut = ap (λ l. f ∷ l) r.cut;
          at = omega (arith, r.at);
          here = r.here;
          none = ap (λ b. cons_option (cond b (Some (record { path = []; item = (told_of f).item })) None) (below k (map told_of r.front))) is ∙ r.none;
        }

pub none_found : (k j : ℕ) (fs : List Filled) → position_from (stands_at k) j fs ≡ None → below k (map told_of fs) ≡ []
none_found k j [] e = refl
none_found k j (f ∷ fs) e = by_test (f.key.place == k) e (none_found k (j + 1) fs)
  where
    by_test : (b : Bool) → cond b (Some j) (position_from (stands_at k) (j + 1) fs) ≡ None → (position_from (stands_at k) (j + 1) fs ≡ None → below k (map told_of fs) ≡ [])
        → cons_option (cond b (Some (record { path = []; item = (told_of f).item })) None) (below k (map told_of fs)) ≡ []
    by_test true e rec = absurd cc
    by_test false e rec = rec e

-- what stands at a place of two lists in turn
below_both : (j : ℕ) (xs ys : List Filled) → below j (map told_of (xs ++ ys)) ≡ below j (map told_of xs) ++ below j (map told_of ys)
below_both j xs ys = ap (below j) (map-append told_of xs ys) ∙ filter_map-append (rest_at j) (map told_of xs) (map told_of ys)

-- the first that stands there
pub below_found : (k j : ℕ) (fs : List Filled) (i : ℕ) → (r : Found k j fs i) → below k (map told_of fs) ≡ record { path = []; item = (told_of r.one).item } ∷ below k (map told_of r.back)
below_found k j fs i r =
    ap (λ l. below k (map told_of l)) r.cut
    ∙ below_both k r.front (r.one ∷ r.back)
    ∙ ap (λ l. l ++ below k (map told_of (r.one ∷ r.back))) r.none
    ∙ ap (λ b. cons_option (cond b (Some (record { path = []; item = (told_of r.one).item })) None) (below k (map told_of r.back))) (let e : (r.one.key.place == k) ≡ true = grind (arith, r.here) in e)

-- without it the same stands at other places
pub below_others : (k j : ℕ) (fs : List Filled) (i : ℕ) → (r : Found k j fs i) → (h : ℕ) → h ≢ k → below h (map told_of (r.front ++ r.back)) ≡ below h (map told_of fs)
below_others k j fs i r h other =
    below_both h r.front r.back
    ∙ ap
    (λ b. below h (map told_of r.front) ++ cons_option (cond b (Some (record { path = []; item = (told_of r.one).item })) None) (below h (map told_of r.back)))
    (let e : false ≡ (r.one.key.place == h) = grind (arith, r.here, other) in e)
    ∙ sym (ap (λ l. below h (map told_of l)) r.cut ∙ below_both h r.front (r.one ∷ r.back))

-- the one at the place that was found
pub one_found : (k : ℕ) (fs : List Filled) (i : ℕ) (d : Filled) → (r : Found k 0 fs i) → get_or fs i d ≡ r.one
one_found k fs i d r =
    let zero_left : i - length r.front ≡ 0 = omega (arith, r.at) in
    ap (λ l. get_or l i d) r.cut
    ∙ get_or-append_right r.front (r.one ∷ r.back) (length r.front) i d refl (omega (arith, r.at))
    ∙ ap (λ j. get_or (r.one ∷ r.back) j d) zero_left

pub removed_found : (k : ℕ) (fs : List Filled) (i : ℕ) → (r : Found k 0 fs i) → remove fs i ≡ r.front ++ r.back
removed_found k fs i r =
    let zero_left : i - length r.front ≡ 0 = omega (arith, r.at) in
    ap (λ l. remove l i) r.cut
    ∙ remove-append_right r.front (r.one ∷ r.back) (length r.front) i refl (omega (arith, r.at))
    ∙ ap (λ j. r.front ++ remove (r.one ∷ r.back) j) zero_left

pub key_found : (k : ℕ) (fs : List Filled) (i : ℕ) (d : Filled) → position_from (stands_at k) 0 fs ≡ Some i → Some (span_view (get_or fs i d).key.span) ≡ taken_span (k ∷ []) (map told_of fs)
key_found k fs i d e =
    let r = found k 0 fs i e in
    ap (λ (f : Filled). Some (span_view f.key.span)) (one_found k fs i d r) ∙ sym (ap (λ xs. or_span (whole_span xs) (first_span xs)) (below_found k 0 fs i r))

pub key_none : (k : ℕ) (fs : List Filled) → position_from (stands_at k) 0 fs ≡ None → None ≡ taken_span (k ∷ []) (map told_of fs)
key_none k fs e = sym (ap (λ xs. or_span (whole_span xs) (first_span xs)) (none_found k 0 fs e))

pub value_none : (k : ℕ) (fs : List Filled) → position_from (stands_at k) 0 fs ≡ None → below k (map told_of fs) ≡ []
value_none k fs e = none_found k 0 fs e

-- what was read at a place, of which one is taken and others may be left
pub value_found : (k : ℕ) (fs : List Filled) (i : ℕ) (d : Filled) (o : Option ℕ) → position_from (stands_at k) 0 fs ≡ Some i → position_from (stands_at k) 0 (remove fs i) ≡ o
    → or_twice o (tree_of (get_or fs i d).value) ≡ taken_of (below k (map told_of fs))
value_found k fs i d o e rest =
    let r = found k 0 fs i e in
    ap (λ (f : Filled). or_twice o (tree_of f.value)) (one_found k fs i d r)
    ∙ by_rest o rest
    ∙ sym (ap taken_of (below_found k 0 fs i r))
  where
    by_rest : (o : Option ℕ) → position_from (stands_at k) 0 (remove fs i) ≡ o → or_twice o (tree_of (found k 0 fs i e).one.value) ≡ taken_of (record { path = []; item = (told_of (found k 0 fs i e).one).item } ∷ below k (map told_of (found k 0 fs i e).back))
    by_rest None none = ap (λ xs. taken_of (record { path = []; item = (told_of (found k 0 fs i e).one).item } ∷ xs)) (sym (left_none none))
      where
        left_none : position_from (stands_at k) 0 (remove fs i) ≡ None → below k (map told_of (found k 0 fs i e).back) ≡ []
        left_none none =
            let r = found k 0 fs i e in
            sym (ap (λ xs. xs ++ below k (map told_of r.back)) r.none)
            ∙ sym (below_both k r.front r.back)
            ∙ sym (ap (λ l. below k (map told_of l)) (removed_found k fs i r))
            ∙ none_found k 0 (remove fs i) none
    by_rest (Some j) some =
        let r = found k 0 fs i e in
        let s = found k 0 (remove fs i) j some in
        let left : below k (map told_of r.back) ≡ record { path = []; item = (told_of s.one).item } ∷ below k (map told_of s.back) =
        sym (ap (λ xs. xs ++ below k (map told_of r.back)) r.none)
        ∙ sym (below_both k r.front r.back)
        ∙ sym (ap (λ l. below k (map told_of l)) (removed_found k fs i r))
        ∙ below_found k 0 (remove fs i) j s in
        ap (λ xs. taken_of (record { path = []; item = (told_of r.one).item } ∷ xs)) (sym left)

pub others_removed : (k : ℕ) (fs : List Filled) (i : ℕ) → position_from (stands_at k) 0 fs ≡ Some i → (j : ℕ) → j ≢ k → below j (map told_of (remove fs i)) ≡ below j (map told_of fs)
others_removed k fs i e j other =
    let r = found k 0 fs i e in
    ap (λ l. below j (map told_of l)) (removed_found k fs i r) ∙ below_others k 0 fs i r j other
