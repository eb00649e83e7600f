-- The inside of a sequence that has these items.
use Rattle.std.proofs.Common.{◌≡◌, List, [], ◌∷◌, ◌++◌, Option, Some, None, option_map, option_and_then, refl, sym, ap, ◌∙◌, append_assoc}
use Rattle.semantics_lines.specs.Events.{Note, scalar, key, tag, of_sequence, stop}
use Rattle.semantics.specs.Runs.{Inside, close, loose, nest, Run, one, group, tagged, inside_events, run_events, tag_first, run_first, items, runs_events}
use Rattle.laws_reading.proofs.Streams.{put_run, put_run_events}

-- an item, and the items behind it
item_first : (r : Run) (i : Inside) → items (put_run r i) ≡ option_map (run_first r) (items i)
item_first (one s n) i = refl
item_first (group b k n j) i = refl
item_first (tagged t n r) i = ap (option_and_then (tag_first t n)) (item_first r i) ∙ twice (items i)
  where
    twice : (o : Option (List Run)) → option_and_then (tag_first t n) (option_map (run_first r) o) ≡ option_map (run_first (tagged t n r)) o
    twice None = refl
    twice (Some rs) = refl

abbrev pub inside_of_items : List Run → Note → Inside
inside_of_items [] n = close n
inside_of_items (r ∷ rs) n = put_run r (inside_of_items rs n)

pub items_of_inside : (rs : List Run) (n : Note) → items (inside_of_items rs n) ≡ Some rs
items_of_inside [] n = refl
items_of_inside (r ∷ rs) n = item_first r (inside_of_items rs n) ∙ ap (option_map (run_first r)) (items_of_inside rs n)

pub inside_of_items_events : (rs : List Run) (n : Note) → inside_events of_sequence (inside_of_items rs n) ≡ runs_events rs ++ (stop of_sequence n ∷ [])
inside_of_items_events [] n = refl
inside_of_items_events (r ∷ rs) n =
    put_run_events of_sequence r (inside_of_items rs n) ∙ ap (λ l. run_events r ++ l) (inside_of_items_events rs n) ∙ sym (append_assoc (run_events r) (runs_events rs) (stop of_sequence n ∷ []))

-- an inside that is cut into items is that of a sequence of them
pub items_are : (i : Inside) (rs : List Run) → items i ≡ Some rs → (n : Note) × (i ≡ inside_of_items rs n)
items_are (close n) rs e = let none : [] ≡ rs = cc in (n, ap (λ l. inside_of_items l n) none)
items_are (loose (scalar s m) i) rs e = by_rest (items i) refl e (items_are i)
  where
    by_rest : (o : Option (List Run)) → items i ≡ o → option_map (run_first (one s m)) o ≡ Some rs
        → ((l : List Run) → items i ≡ Some l → (n : Note) × (i ≡ inside_of_items l n)) → (n : Note) × (loose (scalar s m) i ≡ inside_of_items rs n)
    by_rest None is e rec = absurd cc
    by_rest (Some l) is e rec =
        let (n, cut) = rec l is in
        let same : run_first (one s m) l ≡ rs = cc in
        (n, ap (loose (scalar s m)) cut ∙ ap (λ l. inside_of_items l n) same)
items_are (loose (tag t m) i) rs e = by_rest (items i) refl e (items_are i)
  where
    by_rest : (o : Option (List Run)) → items i ≡ o → option_and_then (tag_first t m) o ≡ Some rs
        → ((l : List Run) → items i ≡ Some l → (n : Note) × (i ≡ inside_of_items l n)) → (n : Note) × (loose (tag t m) i ≡ inside_of_items rs n)
    by_rest None is e rec = absurd cc
    by_rest (Some []) is e rec = absurd cc
    by_rest (Some (r ∷ l)) is e rec =
        let (n, cut) = rec (r ∷ l) is in
        let same : tagged t m r ∷ l ≡ rs = cc in
        (n, ap (loose (tag t m)) cut ∙ ap (λ l. inside_of_items l n) same)
items_are (loose (key q) i) rs e = absurd cc
items_are (nest b k m i j) rs e = by_rest (items j) refl e (items_are j)
  where
    by_rest : (o : Option (List Run)) → items j ≡ o → option_map (run_first (group b k m i)) o ≡ Some rs
        → ((l : List Run) → items j ≡ Some l → (n : Note) × (j ≡ inside_of_items l n)) → (n : Note) × (nest b k m i j ≡ inside_of_items rs n)
    by_rest None is e rec = absurd cc
    by_rest (Some l) is e rec =
        let (n, cut) = rec l is in
        let same : run_first (group b k m i) l ≡ rs = cc in
        (n, ap (nest b k m i) cut ∙ ap (λ l. inside_of_items l n) same)
