-- Where a key of a struct without flattened fields leads: to the first field that is read under it.
use Rattle.std.proofs.Common.{◌≡◌, ℕ, zero, suc, ◌+◌, List, [], ◌∷◌, ◌++◌, map, slice_get, length, Option, Some, None, Bool, true, false, cond, not, ◌&&◌, ◌||◌, bytes_eq, option_map, is_some, refl, sym, ap, ap₂, ◌∙◌, arith}
use Rattle.std.specs.List.{position_from}
use Rattle.semantics_lines.specs.Shapes.{Field, effective_name, Registry, definition_at}
use Rattle.semantics_lines.specs.Events.{Span}
use Rattle.semantics.specs.Places.{Path, At, below, under, is_end, has_whole, Choice}
use Rattle.semantics.specs.Keys.{Layout, Declared, own_keys, alias_key, keys_by, flat_keys, keys, path_of, or_path, stray_by, flat_stray}
use Rattle.semantics.specs.Ends.{one_shape, leaf_at}
use Rattle.semantics.specs.Places.{is_filled, is_taken}
use Rattle.laws_reading.specs.Structs.{Told, first_span, whole_span, or_span, taken_span}
use Rattle.read_steps.specs.Keys.{is_text, is_called, place_in}

-- what is taken has a key
whole_some : (xs : List (At Told)) → has_whole xs ≡ is_some (whole_span xs)
whole_some [] = refl
whole_some (x ∷ xs) = by_end (is_end x.path) (whole_some xs)
  where
    by_end : (b : Bool) → has_whole xs ≡ is_some (whole_span xs) → (b || has_whole xs) ≡ is_some (cond b (Some x.item.span) (whole_span xs))
    by_end true e = refl
    by_end false e = e

filled_some : (xs : List (At Told)) → is_filled xs ≡ is_some (first_span xs)
filled_some [] = refl
filled_some (x ∷ xs) = refl

either_some : (o p : Option Span) → (is_some o || is_some p) ≡ is_some (or_span o p)
either_some None p = refl
either_some (Some s) p = refl

-- something stands at a path where the key of what stands there is found
pub taken_some : (p : Path) (xs : List (At Told)) → is_taken p xs ≡ is_some (taken_span p xs)
taken_some [] xs = filled_some xs
taken_some (k ∷ p) xs = ap₂ (λ a b. a || b) (whole_some (below k xs)) (taken_some p (below k xs)) ∙ either_some (whole_span (below k xs)) (taken_span p (below k xs))

-- a flattened shape has no keys yet
no_keys : (g : Registry) (n : ℕ) → (k : ℕ) (f : Field) (c : Choice) → map (under k) (flat_keys g false n (definition_at g f.shape) c) ≡ []
no_keys g zero k f c = refl
no_keys g (suc n) k f c = refl

-- no key leads into a flattened shape yet
no_stray : (g : Registry) (n : ℕ) (c : Choice) (k : ℕ) (fs : List Field) → stray_by g (flat_stray g n) c k fs ≡ None
no_stray g n c k [] = refl
no_stray g n c k (f ∷ fs) = by_test f.flattened n (no_stray g n c (suc k) fs)
  where
    by_test : (b : Bool) (n : ℕ) → stray_by g (flat_stray g n) c (suc k) fs ≡ None → or_path (cond b (option_map (λ p. k ∷ p) (flat_stray g n (definition_at g f.shape) (below k c))) None) (stray_by g (flat_stray g n) c (suc k) fs) ≡ None
    by_test true zero e = e
    by_test true (suc n) e = e
    by_test false n e = e

-- the path to a field of the struct itself
abbrev pub alone : ℕ → Path
alone k = k ∷ []

module _ (g : Registry) (n : ℕ) (t : List ℕ) where
  path_alias : (k : ℕ) (o : Option (List ℕ)) (xs : List Declared) → path_of (alias_key k o ++ xs) t ≡ cond (is_text t o) (Some (alone k)) (path_of xs t)
  path_alias k None xs = refl
  path_alias k (Some a) xs = refl

  cond_or : (a b : Bool) (x y : Option Path) → cond a x (cond b x y) ≡ cond (a || b) x y
  cond_or true b x y = refl
  cond_or false b x y = refl

  -- the keys of one field, and those behind them
  path_own : (k : ℕ) (f : Field) (xs : List Declared) → path_of (own_keys k f ++ xs) t ≡ cond (bytes_eq (effective_name f) t || is_text t f.alias) (Some (alone k)) (path_of xs t)
  path_own k f xs = ap (λ o. cond (bytes_eq (effective_name f) t) (Some (alone k)) o) (path_alias k f.alias xs) ∙ cond_or (bytes_eq (effective_name f) t) (is_text t f.alias) (Some (alone k)) (path_of xs t)

  map_cond : (b : Bool) (k : ℕ) (o : Option ℕ) → option_map alone (cond b (Some k) o) ≡ cond b (Some (alone k)) (option_map alone o)
  map_cond true k o = refl
  map_cond false k o = refl

  -- the first key of a text is that of the first field that is read under it
  path_place : (c : Choice) (k : ℕ) (fs : List Field) → path_of (keys_by g (flat_keys g false n) false c k fs) t ≡ option_map alone (position_from (is_called t) k fs)
  path_place c k [] = refl
  path_place c k (f ∷ fs) =
      by_test f.flattened (ap (λ j. path_of (keys_by g (flat_keys g false n) false c j fs) t) (omega arith) ∙ path_place c (k + 1) fs)
      ∙ sym (map_cond (is_called t f) k (position_from (is_called t) (k + 1) fs))
    where
      by_test : (b : Bool) → path_of (keys_by g (flat_keys g false n) false c (suc k) fs) t ≡ option_map alone (position_from (is_called t) (k + 1) fs)
          → path_of (cond b ([] ++ map (under k) (flat_keys g false n (definition_at g f.shape) (below k c))) (own_keys k f) ++ keys_by g (flat_keys g false n) false c (suc k) fs) t
          ≡ cond (not b && (bytes_eq (effective_name f) t || is_text t f.alias)) (Some (alone k)) (option_map alone (position_from (is_called t) (k + 1) fs))
      by_test true rest = ap (λ ks. path_of (ks ++ keys_by g (flat_keys g false n) false c (suc k) fs) t) (no_keys g n k f (below k c)) ∙ rest
      by_test false rest = path_own k f (keys_by g (flat_keys g false n) false c (suc k) fs) ∙ ap (λ o. cond (bytes_eq (effective_name f) t || is_text t f.alias) (Some (alone k)) o) rest

-- the field at a place, which is read under the key that led there
pub place_called : (t : List ℕ) (fs : List Field) (k i : ℕ) → position_from (is_called t) k fs ≡ Some i → (j : ℕ) × (f : Field) × (i ≡ k + j) × (slice_get fs j ≡ Some f) × (is_called t f ≡ true)
place_called t [] k i e = absurd cc
place_called t (f ∷ fs) k i e = by_test (is_called t f) refl e (place_called t fs (k + 1) i)
  where
    by_test : (b : Bool) → is_called t f ≡ b → cond b (Some k) (position_from (is_called t) (k + 1) fs) ≡ Some i
        → (position_from (is_called t) (k + 1) fs ≡ Some i → (j : ℕ) × (h : Field) × (i ≡ (k + 1) + j) × (slice_get fs j ≡ Some h) × (is_called t h ≡ true))
        → (j : ℕ) × (h : Field) × (i ≡ k + j) × (slice_get (f ∷ fs) j ≡ Some h) × (is_called t h ≡ true)
    by_test true is e rec = let same : k ≡ i = cc in (0, f, omega (arith, same), refl, is)
    by_test false is e rec = let (j, h, at, there, called) = rec e in (suc j, h, omega (arith, at), there, called)

-- a field that is read under a key is one of the struct itself
pub own_field : (t : List ℕ) (f : Field) → is_called t f ≡ true → f.flattened ≡ false
own_field t f called = by_test f.flattened called
  where
    by_test : (b : Bool) → (not b && (bytes_eq (effective_name f) t || is_text t f.alias)) ≡ true → b ≡ false
    by_test true e = absurd cc
    by_test false e = refl

module _ (g : Registry) (fs : List Field) where
  -- the fields of a struct that isn't read in parts
  abbrev pub own : Layout
  own = record { fields = fs; whole = false }

  -- where a key of this text leads
  pub leads_place : (t : List ℕ) → or_path (path_of (keys g own []) t) (stray_by g (flat_stray g (length g)) [] 0 fs) ≡ option_map alone (place_in fs t)
  leads_place t = ap₂ or_path (path_place g (length g) t [] 0 fs) (no_stray g (length g) [] 0 fs) ∙ or_none (option_map alone (place_in fs t))
    where
      or_none : (o : Option Path) → or_path o None ≡ o
      or_none None = refl
      or_none (Some p) = refl

  -- where the path to a field at this place ends
  pub own_end : (k : ℕ) (f : Field) → slice_get fs k ≡ Some f → f.flattened ≡ false → leaf_at g [] own (k ∷ []) ≡ Some (one_shape f.shape)
  own_end k f is flat = rw (is, flat) refl
