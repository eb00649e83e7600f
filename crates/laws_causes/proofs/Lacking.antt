-- What was read stands in its place, once, and which field lacks an entry.
use Rattle.std.proofs.Common.{◌≡◌, ◌⊎◌, inl, inr, ℕ, zero, suc, ◌+◌, ◌<◌, List, [], ◌∷◌, ◌++◌, length, slice_get, Option, Some, None, Ok, Err, Bool, true, false, cond, not, ◌&&◌, ◌||◌, refl, sym, ap, ◌∙◌, subst, arith}
use Rattle.std.specs.Prelude.{⊤}
use Rattle.std.specs.List.{AllByRecursion as Every}
use Rattle.semantics_lines.specs.Trees.{Tree}
use Rattle.semantics_lines.specs.Shapes.{Field, Definition, Registry, definition_at}
use Rattle.semantics_lines.specs.Events.{key_note}
use Rattle.semantics_lines.specs.Faults.{missing_field, Fault}
use Rattle.semantics.specs.Runs.{Entry}
use Rattle.semantics.specs.Labels.{label_at}
use Rattle.semantics.specs.Places.{Path, At, below, all_below, is_end, has_whole, Choice}
use Rattle.semantics.specs.Keys.{Layout}
use Rattle.semantics.specs.Reading.{Parts, PartReader, parts_by, fill, in_parts}
use Rattle.semantics.specs.Ends.{End, one_shape, leaf_end, leaf_found, leaf_flat, leaf_at, Owner, Gap, own_gap, gap_found, gap_flat}
use Rattle.laws_reading.specs.Input.{Input, ◌>>=◌, fault_at}
use Rattle.laws_reading.specs.Structs.{Told, Spot, or_missing, inner_spot, gather_own, gather_flat, gather_field, gather_fields, with_tree}
use Rattle.laws.proofs.Built.{BuiltField}
use Rattle.laws_causes.proofs.Errors.{bind_err, err_is}
use Rattle.laws_reading.proofs.Ends.{Ends, Kept, kept_as, kept_below, end_is, Covers, covers_next, covers_first}
use Rattle.laws_causes.proofs.Apart.{AtMostOne, IsMany, Apart}
use Rattle.laws_causes.proofs.Taken.{Among}

-- the keys of what was read stood where its entries say
abbrev pub Spanned : List (At Entry) → List (At Told) → Type 0
Spanned [] [] = ⊤
Spanned [] (y ∷ ys) = ⊥
Spanned (x ∷ xs) [] = ⊥
Spanned (x ∷ xs) (y ∷ ys) = ((key_note x.item.key).span ≡ y.item.span) × Spanned xs ys

pub spanned_more : (xs : List (At Entry)) (ys : List (At Told)) (x : At Entry) (y : At Told) → Spanned xs ys → (key_note x.item.key).span ≡ y.item.span → Spanned (xs ++ (x ∷ [])) (ys ++ (y ∷ []))
spanned_more [] [] x y h is = (is, tt)
spanned_more [] (b ∷ ys) x y h is = absurd h
spanned_more (a ∷ xs) [] x y h is = absurd h
spanned_more (a ∷ xs) (b ∷ ys) x y (first, more) is = (first, spanned_more xs ys x y more is)

-- what was read and stands in the list was placed there
pub record Origin (ends : Path → Option End) (rd : PartReader) (y : At Told) (xs : List (At Entry)) : Type 0 where
  pub item : At Entry
  pub among : Among item xs
  pub path : item.path ≡ y.path
  pub span : (key_note item.item.key).span ≡ y.item.span

pub origin_of : (ends : Path → Option End) (rd : PartReader) (y : At Told) (xs : List (At Entry)) (ys before after : List (At Told)) → ys ≡ before ++ (y ∷ after) → Kept ends (parts_by rd) xs ys → Spanned xs ys → Origin ends rd y xs
origin_of ends rd y [] [] [] after is h s = absurd cc
origin_of ends rd y [] [] (z ∷ before) after is h s = absurd cc
origin_of ends rd y [] (b ∷ ys) before after is h s = absurd h
origin_of ends rd y (x ∷ xs) [] before after is h s = absurd h
origin_of ends rd y (x ∷ xs) (b ∷ ys) [] after is ((e, end, reads, path), more) s =
    let same : b ≡ y = cc in
    record { item = x; among = record { before = []; after = xs; is = refl }; path = path ∙ ap (λ (z : At Told). z.path) same; span = s.0 ∙ ap (λ (z : At Told). z.item.span) same }
origin_of ends rd y (x ∷ xs) (b ∷ ys) (z ∷ before) after is (first, more) s =
    let rest : ys ≡ before ++ (y ∷ after) = cc in
    let t = origin_of ends rd y xs ys before after rest more s.1 in
    record { item = t.item; among = record { before = x ∷ t.among.before; after = t.among.after; is = ap (λ l. x ∷ l) t.among.is }; path = t.path; span = t.span }

flat_none : (g : Registry) (whole : Bool) (n : ℕ) (d : Option Definition) (c : Choice) (p : Path) → leaf_flat g whole n d c p ≡ None
flat_none g whole zero d c p = refl
flat_none g whole (suc n) d c p = refl

-- what stands at the end of a path is one value of a shape: nothing else does yet
pub leaf_shape : (g : Registry) (c : Choice) (l : Layout) (p : Path) (e : End) → leaf_at g c l p ≡ Some e → (s : ℕ) × (e ≡ one_shape s)
leaf_shape g c l [] e is = absurd cc
leaf_shape g c l (k ∷ p) e is = by_field (slice_get l.fields k) is
  where
    by_field : (o : Option Field) → leaf_found (leaf_flat g l.whole (length g)) g l.whole (below k c) o p ≡ Some e → (s : ℕ) × (e ≡ one_shape s)
    by_field None is = absurd cc
    by_field (Some f) is = by_test (in_parts l.whole f (is_end p)) is
      where
        by_test : (b : Bool) → cond b (leaf_flat g l.whole (length g) (definition_at g f.shape) (below k c) p) (leaf_end (Some (one_shape f.shape)) p) ≡ Some e → (s : ℕ) × (e ≡ one_shape s)
        by_test true is = let none = flat_none g l.whole (length g) (definition_at g f.shape) (below k c) p in absurd cc
        by_test false is =
            let same : one_shape f.shape ≡ e = (let found = end_is (Some (one_shape f.shape)) p e is in cc) in
            (f.shape, sym same)

-- A field with no entry and no fill: the one of this place, or one in the flattened shape below it. It is the first such
-- field.
pub record Lacks (g : Registry) (n : ℕ) (c : Choice) (owner : Owner) (fs : List Field) (k : ℕ) (xs : List (At Told)) (input : Input) (f : Fault) : Type 0 where
  pub place : ℕ
  pub way : Path
  pub gap : Gap
  pub here : gap_found (gap_flat g n) g (below (k + place) c) owner (slice_get fs place) way ≡ Some gap
  pub none_there : all_below way (below (k + place) xs) ≡ []
  pub no_fill : fill g gap.field ≡ None
  pub first : (earlier : ℕ) (other : Field) → earlier < place → slice_get fs earlier ≡ Some other → below (k + earlier) xs ≡ [] → fill g other ≡ None → ⊥
  pub is : f ≡ fault_at (missing_field gap.field.name (label_at g gap.owner.shape)) gap.owner.path input

module _ {A : Type 0} (g : Registry) (rd : Parts A) (whole : Bool) (c : Choice) (owner : Owner) (input : Input) where
  abbrev spot : Spot
  spot = record { shape = owner.shape; path = owner.path; input = input }

  -- where two things stand at the place of one value, they aren't apart
  two_never : (ends : Ends) (k : ℕ) (f : Field) → ((p : Path) → ends (k ∷ p) ≡ leaf_end (Some (one_shape f.shape)) p) → (xs : List (At A)) (ys : List (At Told)) (y z : At Told)
      → Kept (leaf_end (Some (one_shape f.shape))) rd xs (y ∷ z ∷ ys) → IsMany ends (k ∷ []) ⊎ AtMostOne (y ∷ z ∷ ys) → ⊥
  two_never ends k f same xs ys y z h (inr one) = one
  two_never ends k f same xs ys y z h (inl (e, is, many)) = let one : one_shape f.shape ≡ e = (let there : Some (one_shape f.shape) ≡ Some e = sym (same []) ∙ is in cc) in let single : true ≡ false = sym many ∙ ap (λ (x : End). x.many) (sym one) in cc

  whole_first : (f : Field) (xs : List (At A)) (ys : List (At Told)) (y : At Told) → Kept (leaf_end (Some (one_shape f.shape))) rd xs (y ∷ ys) → has_whole (y ∷ ys) ≡ true
  whole_first f [] ys y h = absurd h
  whole_first f (x ∷ xs) ys y ((e, end, reads, path), more) = by_path x.path end path
    where
      by_path : (p : Path) → leaf_end (Some (one_shape f.shape)) p ≡ Some e → p ≡ y.path → has_whole (y ∷ ys) ≡ true
      by_path [] end path = ap (λ q. is_end q || has_whole ys) (sym path)
      by_path (k ∷ p) end path = absurd cc

  module _ (n k : ℕ) (field : Field) (fs : List Field) (ends : Ends) (all : List (At Told)) (apart : Apart ends all) (own : field.flattened ≡ false)
      (same : (p : Path) → ends (k ∷ p) ≡ leaf_end (Some (one_shape field.shape)) p) (f : Fault) where
    own_lacks : (xs : List (At A)) (ys : List (At Told)) → below k all ≡ ys → Kept (leaf_end (Some (one_shape field.shape))) rd xs ys → gather_own g field spot ys ≡ Err f → Lacks g n c owner (field ∷ fs) k all input f
    own_lacks xs [] there h e = by_fill (fill g field) refl e
      where
        by_fill : (o : Option Tree) → fill g field ≡ o → or_missing g field spot o ≡ Err f → Lacks g n c owner (field ∷ fs) k all input f
        by_fill None none e = record {
          place = 0;
          way = [];
          gap = record { field = field; owner = owner };
          here = ap (λ b. cond b (gap_flat g n (definition_at g field.shape) (below (k + 0) c) field owner []) (own_gap field owner [])) own;
          none_there = ap (λ i. below i all) (omega arith) ∙ there;
          no_fill = none;
          first = λ earlier other before. absurd (omega (arith, before));
          is = sym (err_is (fault_at (missing_field field.name (label_at g owner.shape)) owner.path input) f e);
        }
        by_fill (Some v) is e = absurd cc
    own_lacks xs (y ∷ []) there h e = absurd cc
    own_lacks xs (y ∷ z ∷ ys) there h e =
        absurd (two_never ends k field same xs ys y z h
        (subst (λ l. IsMany ends (k ∷ []) ⊎ AtMostOne l) there (apart (k ∷ []) (ap has_whole there ∙ whole_first field xs (z ∷ ys) y h))))

  -- a field that is read as itself has an entry or a fill
  own_has : (field : Field) (ys : List (At Told)) (v : Tree) → gather_own g field spot ys ≡ Ok v → ys ≡ [] → fill g field ≡ None → ⊥
  own_has field ys v told none no_fill =
      let there : or_missing g field spot (fill g field) ≡ Ok v = ap (gather_own g field spot) (sym none) ∙ told in
      let missing : or_missing g field spot None ≡ Ok v = ap (or_missing g field spot) (sym no_fill) ∙ there in
      cc

  later_lacks : (n : ℕ) (field : Field) (fs : List Field) (k : ℕ) (xs : List (At Told)) (f : Fault) → (below k xs ≡ [] → fill g field ≡ None → ⊥)
      → Lacks g n c owner fs (suc k) xs input f → Lacks g n c owner (field ∷ fs) k xs input f
  later_lacks n field fs k xs f has m = record {
    place = suc m.place;
    way = m.way;
    gap = m.gap;
    here = ap (λ i. gap_found (gap_flat g n) g (below i c) owner (slice_get fs m.place) m.way) (omega arith) ∙ m.here;
    none_there = ap (λ i. all_below m.way (below i xs)) (omega arith) ∙ m.none_there;
    no_fill = m.no_fill;
    first = first;
    is = m.is;
  }
    where
      first : (earlier : ℕ) (other : Field) → earlier < suc m.place → slice_get (field ∷ fs) earlier ≡ Some other → below (k + earlier) xs ≡ [] → fill g other ≡ None → ⊥
      first zero other before at none no_fill =
          let same : field ≡ other = cc in
          has (ap (λ i. below i xs) (omega arith) ∙ none) (ap (fill g) same ∙ no_fill)
      first (suc earlier) other before at none no_fill =
          m.first earlier other (omega (arith, before)) at (ap (λ i. below i xs) (omega arith) ∙ none) no_fill

  pub gather_lacks : (n k : ℕ) (fs : List Field) (ends : Ends) → Covers g whole (leaf_flat g whole n) c ends k fs → (xs : List (At A)) (ys : List (At Told)) → Kept ends rd xs ys → Apart ends ys → (f : Fault) → Every BuiltField fs
      → gather_fields (gather_flat g whole n) g whole c spot k fs ys ≡ Err f → Lacks g n c owner fs k ys input f
  gather_lacks n k [] ends covers xs ys h apart f fine e = absurd cc
  gather_lacks n k (field ∷ fs) ends covers xs ys h apart f (here, fine) e =
      elim (bind_err (gather_field (gather_flat g whole n) g whole (below k c) field spot (below k ys)) (λ v. gather_fields (gather_flat g whole n) g whole c spot (suc k) fs ys >>= with_tree v) f e) [
        | inl x ↦
            let same : (p : Path) → ends (k ∷ p) ≡ leaf_end (Some (one_shape field.shape)) p = (λ p. covers_first g whole (leaf_flat g whole n) c ends k field fs covers p
            ∙ ap (λ b. cond (b && not (whole && is_end p)) (leaf_flat g whole n (definition_at g field.shape) (below k c) p) (leaf_end (Some (one_shape field.shape)) p)) here.flattened) in
            own_lacks n k field fs ends ys apart here.flattened same f (below k xs) (below k ys) refl
            (kept_as (λ p. ends (k ∷ p)) rd (leaf_end (Some (one_shape field.shape))) same (below k xs) (below k ys) (kept_below ends rd k xs ys h))
            (sym (as_own (below k ys)) ∙ x)
        | inr z ↦
            elim (bind_err (gather_fields (gather_flat g whole n) g whole c spot (suc k) fs ys) (with_tree z.0) f z.2) [
              | inl y ↦ later_lacks n field fs k ys f (own_has field (below k ys) z.0 (sym (as_own (below k ys)) ∙ z.1))
                  (gather_lacks n (suc k) fs ends (covers_next g whole (leaf_flat g whole n) c ends k field fs covers) xs ys h apart f fine y)
              | inr w ↦ absurd (let no_fault = w.2 in cc)
            ]
      ]
    where
      -- nothing is flattened
      as_own : (ys : List (At Told)) → gather_field (gather_flat g whole n) g whole (below k c) field spot ys ≡ gather_own g field spot ys
      as_own ys = ap (λ b. cond (b && not (whole && has_whole ys)) (gather_flat g whole n (definition_at g field.shape) (below k c) (inner_spot field spot) ys) (gather_own g field spot ys)) here.flattened
