-- What an event does to a value that is passed over: it goes on, it is complete, or no whole run goes on so.
use Rattle.std.proofs.Common.{◌≡◌, ℕ, List, [], ◌∷◌, ◌++◌, Option, Result, Ok, Err, Bool, true, false, refl, sym, ap, ◌∙◌, subst, append_assoc}
use Rattle.std.proofs.lemmas.List.{append-nil}
use Rattle.semantics_lines.specs.Events.{Note, no_note, unit, Key, scalar, key, tag, Leaf, Bracket, of_struct, of_sequence, ContainerKind, Event, leaf, start, stop}
use Rattle.semantics_lines.specs.Faults.{Step, unexpected_token, Fault}
use Rattle.semantics.specs.Runs.{Inside, close, loose, nest, Run, one, group, tagged, inside_events, run_events}
use Rattle.semantics.specs.Seen.{IsOpen}
use Rattle.laws_reading.specs.Input.{Input, fault_at}
use Rattle.laws_reading.specs.Skips.{Opened, same_bracket, stopped, skip_of}

-- These events close what is open, the innermost first, and then come the others.
abbrev pub Closes : Opened → List Event → List Event → Type 0
Closes [] l y = l ≡ y
Closes (b ∷ bs) l y = (i : Inside) × (m : List Event) × (l ≡ inside_events b i ++ m) × Closes bs m y

-- These events end the value of which that much is open, and then come the others.
abbrev pub Completes : Opened → List Event → List Event → Type 0
Completes [] l y = (r : Run) × (l ≡ run_events r ++ y)
Completes (b ∷ bs) l y = Closes (b ∷ bs) l y

-- These events came of a value that is passed over, and these containers of it are open: whatever follows completes the
-- value exactly where it completes what is open.
pub record OpenedBy (inside : List Event) (os : Opened) : Type 0 where
  pub forth : (r : Run) (rest l : List Event) → run_events r ++ rest ≡ inside ++ l → Completes os l rest
  pub back : (l rest : List Event) → Completes os l rest → (r : Run) × (run_events r ++ rest ≡ inside ++ l)

-- an event after which other containers are open
pub record Moves (bs : Opened) (e : Event) (bs' : Opened) : Type 0 where
  pub forth : (l y : List Event) → Completes bs (e ∷ l) y → Completes bs' l y
  pub back : (l y : List Event) → Completes bs' l y → Completes bs (e ∷ l) y

leaf_moves : (x : Leaf) (b : Bracket) (bs : Opened) → Moves (b ∷ bs) (leaf x) (b ∷ bs)
leaf_moves x b bs = record { forth = forth; back = λ l y. λ (i, m, is, rest). (loose x i, m, ap (λ l. leaf x ∷ l) is, rest) }
  where
    forth : (l y : List Event) → Completes (b ∷ bs) (leaf x ∷ l) y → Completes (b ∷ bs) l y
    forth l y (close n, m, is, rest) = absurd cc
    forth l y (loose z i, m, is, rest) = (i, m, cc, rest)
    forth l y (nest c k n i j, m, is, rest) = absurd cc

tag_moves : (t : Option (List ℕ)) (n : Note) → Moves [] (leaf (tag t n)) []
tag_moves t n = record { forth = forth; back = λ l y. λ (r, is). (tagged t n r, ap (λ l. leaf (tag t n) ∷ l) is) }
  where
    forth : (l y : List Event) → Completes [] (leaf (tag t n) ∷ l) y → Completes [] l y
    forth l y (one v m, is) = absurd cc
    forth l y (group b k m i, is) = absurd cc
    forth l y (tagged u m r, is) = (r, cc)

start_moves : (b : Bracket) (k : ContainerKind) (n : Note) → Moves [] (start b k n) (b ∷ [])
start_moves b k n = record { forth = forth; back = λ l y. λ (i, m, is, same). (group b k n i, ap (λ l. start b k n ∷ l) (is ∙ ap (λ z. inside_events b i ++ z) same)) }
  where
    forth : (l y : List Event) → Completes [] (start b k n ∷ l) y → Completes (b ∷ []) l y
    forth l y (one v m, is) = absurd cc
    forth l y (group c j m i, is) =
        let same : b ≡ c = cc in
        let tails : l ≡ inside_events c i ++ y = cc in
        (i, y, tails ∙ ap (λ z. inside_events z i ++ y) (sym same), refl)
    forth l y (tagged u m r, is) = absurd cc

nest_moves : (b : Bracket) (k : ContainerKind) (n : Note) (c : Bracket) (bs : Opened) → Moves (c ∷ bs) (start b k n) (b ∷ c ∷ bs)
nest_moves b k n c bs = record { forth = forth; back = back }
  where
    forth : (l y : List Event) → Completes (c ∷ bs) (start b k n ∷ l) y → Completes (b ∷ c ∷ bs) l y
    forth l y (close m, z, is, rest) = absurd cc
    forth l y (loose x i, z, is, rest) = absurd cc
    forth l y (nest d h m i j, z, is, rest) =
        let same : b ≡ d = cc in
        let tails : l ≡ (inside_events d i ++ inside_events c j) ++ z = cc in
        (i, inside_events c j ++ z, tails ∙ append_assoc (inside_events d i) (inside_events c j) z ∙ ap (λ x. inside_events x i ++ (inside_events c j ++ z)) (sym same), (j, z, refl, rest))

    back : (l y : List Event) → Completes (b ∷ c ∷ bs) l y → Completes (c ∷ bs) (start b k n ∷ l) y
    back l y (i, m, is, (j, z, is', rest)) =
        (nest b k n i j, z, ap (λ l. start b k n ∷ l) (is ∙ ap (λ z. inside_events b i ++ z) is' ∙ sym (append_assoc (inside_events b i) (inside_events c j) z)), rest)

stop_moves : (b : Bracket) (n : Note) (c : Bracket) (bs : Opened) → Moves (b ∷ c ∷ bs) (stop b n) (c ∷ bs)
stop_moves b n c bs = record { forth = forth; back = λ l y. λ rest. (close n, l, refl, rest) }
  where
    forth : (l y : List Event) → Completes (b ∷ c ∷ bs) (stop b n ∷ l) y → Completes (c ∷ bs) l y
    forth l y (close m, z, is, rest) = let same : z ≡ l = cc in subst (λ x. Closes (c ∷ bs) x y) same rest
    forth l y (loose x i, z, is, rest) = absurd cc
    forth l y (nest d h m i j, z, is, rest) = absurd cc

no_key_first : (q : Key) (l y : List Event) → Completes [] (leaf (key q) ∷ l) y → ⊥
no_key_first q l y (one v m, is) = cc
no_key_first q l y (group b k m i, is) = cc
no_key_first q l y (tagged u m r, is) = cc

no_end_first : (b : Bracket) (n : Note) (l y : List Event) → Completes [] (stop b n ∷ l) y → ⊥
no_end_first b n l y (one v m, is) = cc
no_end_first b n l y (group c k m i, is) = cc
no_end_first b n l y (tagged u m r, is) = cc

no_other_end : (b : Bracket) (n : Note) (c : Bracket) (bs : Opened) → same_bracket b c ≡ false → (l y : List Event) → Completes (c ∷ bs) (stop b n ∷ l) y → ⊥
no_other_end b n c bs other l y (close m, z, is, rest) = let same : b ≡ c = cc in differs b c other same
  where
    differs : (b c : Bracket) → same_bracket b c ≡ false → b ≡ c → ⊥
    differs of_struct of_struct other same = cc
    differs of_struct of_sequence other same = cc
    differs of_sequence of_struct other same = cc
    differs of_sequence of_sequence other same = cc
no_other_end b n c bs other l y (loose x i, z, is, rest) = cc
no_other_end b n c bs other l y (nest d h m i j, z, is, rest) = cc

same_is : (b c : Bracket) → same_bracket b c ≡ true → b ≡ c
same_is of_struct of_struct e = refl
same_is of_sequence of_sequence e = refl
same_is of_struct of_sequence e = absurd cc
same_is of_sequence of_struct e = absurd cc

-- What an event comes to where that much is open.
pub data Skipped (os : Opened) (e : Event) (path : List Step) (input : Input) (told : Result ((Bool × Opened) × Input) Fault) : Type 0 where
  goes : (os' : Opened) → told ≡ Ok ((true, os'), input) → Moves os e os' → Skipped os e path input told
  ends : (os' : Opened) → told ≡ Ok ((false, os'), input) → ((l : List Event) → Completes os (e ∷ l) l) → Skipped os e path input told
  fails : told ≡ Err (fault_at unexpected_token path input) → ((l y : List Event) → Completes os (e ∷ l) y → ⊥) → Skipped os e path input told

module _ (path : List Step) (input : Input) where
  stop_skipped : (b : Bracket) (n : Note) (c : Bracket) (bs : Opened) (same : Bool) → same_bracket b c ≡ same → Skipped (c ∷ bs) (stop b n) path input (stopped same bs path input)
  stop_skipped b n c bs false other = fails refl (no_other_end b n c bs other)
  stop_skipped b n c [] true same = ends [] refl (λ l. (close n, l, ap (λ d. stop d n ∷ l) (same_is b c same), refl))
  stop_skipped b n c (d ∷ bs) true same = goes (d ∷ bs) refl (subst (λ z. Moves (z ∷ d ∷ bs) (stop b n) (d ∷ bs)) (same_is b c same) (stop_moves b n d bs))

  -- each event is of these three sorts
  pub skipped : (e : Event) (os : Opened) → Skipped os e path input (skip_of e os path input)
  skipped (leaf (scalar x n)) [] = ends [] refl (λ l. (one x n, refl))
  skipped (leaf (scalar x n)) (b ∷ bs) = goes (b ∷ bs) refl (leaf_moves (scalar x n) b bs)
  skipped (leaf (tag t n)) [] = goes [] refl (tag_moves t n)
  skipped (leaf (tag t n)) (b ∷ bs) = goes (b ∷ bs) refl (leaf_moves (tag t n) b bs)
  skipped (leaf (key q)) [] = fails refl (no_key_first q)
  skipped (leaf (key q)) (b ∷ bs) = goes (b ∷ bs) refl (leaf_moves (key q) b bs)
  skipped (start b k n) [] = goes (b ∷ []) refl (start_moves b k n)
  skipped (start b k n) (c ∷ bs) = goes (b ∷ c ∷ bs) refl (nest_moves b k n c bs)
  skipped (stop b n) [] = fails refl (no_end_first b n)
  skipped (stop b n) (c ∷ bs) = stop_skipped b n c bs (same_bracket b c) refl

-- nothing came of it yet
pub opened_none : OpenedBy [] []
opened_none = record {
  forth = λ r rest l. λ is. (r, sym is);
  back = λ l rest. λ (r, is). (r, sym is);
}

-- one more event came
pub opened_more : (inside : List Event) (os : Opened) (e : Event) (os' : Opened) → OpenedBy inside os → Moves os e os' → OpenedBy (inside ++ (e ∷ [])) os'
opened_more inside os e os' opened moves = record {
  forth = λ r rest l. λ is. moves.forth l rest (opened.forth r rest (e ∷ l) (is ∙ append_assoc inside (e ∷ []) l));
  back = λ l rest. λ whole. let (r, is) = opened.back (e ∷ l) rest (moves.back l rest whole) in (r, is ∙ sym (append_assoc inside (e ∷ []) l));
}

-- the value is complete with this event
pub opened_ends : (inside : List Event) (os : Opened) (e : Event) → OpenedBy inside os → ((l : List Event) → Completes os (e ∷ l) l) → (r : Run) × (run_events r ≡ inside ++ (e ∷ []))
opened_ends inside os e opened whole = let (r, is) = opened.back (e ∷ []) [] (whole []) in (r, sym (append-nil (run_events r)) ∙ is)

-- no whole run goes on with this event
pub opened_fails : (inside : List Event) (os : Opened) (e : Event) → OpenedBy inside os → ((l y : List Event) → Completes os (e ∷ l) y → ⊥)
    → (r : Run) (rest : List Event) → run_events r ≡ inside ++ (e ∷ rest) → ⊥
opened_fails inside os e opened none r rest is = none rest [] (opened.forth r [] (e ∷ rest) (append-nil (run_events r) ∙ is))

closing : (b : Bracket) (bs : Opened) → (l : List Event) × Closes (b ∷ bs) (stop b no_note ∷ l) []
closing b [] = ([], (close no_note, [], refl, refl))
closing b (c ∷ bs) = let (l, rest) = closing c bs in (stop c no_note ∷ l, (close no_note, stop c no_note ∷ l, refl, rest))

-- the value can always be completed, so what came of it begins a whole run
pub opened_open : (inside : List Event) (os : Opened) → OpenedBy inside os → IsOpen inside
opened_open inside [] opened =
    let (r, is) = opened.back (leaf (scalar unit no_note) ∷ []) [] (one unit no_note, refl) in
    record { run = r; next = leaf (scalar unit no_note); rest = []; goes_on = sym (append-nil (run_events r)) ∙ is }
opened_open inside (b ∷ bs) opened =
    let (l, whole) = closing b bs in
    let (r, is) = opened.back (stop b no_note ∷ l) [] whole in
    record { run = r; next = stop b no_note; rest = l; goes_on = sym (append-nil (run_events r)) ∙ is }
