-- The reader of scalars and of nodes, and the meaning, in both directions.
use Rattle.std.proofs.Common.{◌≡◌, ◌⊎◌, inl, inr, List, [], ◌∷◌, ◌++◌, Option, Some, None, Result, Ok, Err, Bool, true, false, cond, refl, sym, ap, ◌∙◌, subst}
use Rattle.std.specs.List.{list_all}
use Rattle.semantics_lines.specs.Trees.{Tree}
use Rattle.semantics_lines.specs.Events.{Span, Scalar, Key, key_note, scalar, of_struct, Event, leaf, start}
use Rattle.semantics_lines.specs.Faults.{Step, Fault, Ending}
use Rattle.semantics.specs.Runs.{Run, one, group, tagged, run_events, Entry}
use Rattle.semantics.specs.Setters.{Outcome, set_scalar}
use Rattle.semantics.specs.Reading.{value_of, set_to, set_by, is_argument, is_key, arguments, read_node, read_scalar}
use Rattle.semantics.specs.Seen.{last_span}
use Rattle.laws_reading.specs.Input.{Input, feed, ◌>>=◌, unexpected}
use Rattle.laws_reading.specs.Skips.{skip_at}
use Rattle.laws_reading.specs.Nodes.{Target, or_refused, set_at, Node, bare_node, with_argument, argument_at, unchanged, node_entry, or_unexpected, node_value, scalar_at}
use Rattle.laws_reading.specs.Laws.{Sound, Complete}
use Rattle.laws_reading.proofs.Steps.{bind_ok, ok_is}
use Rattle.laws_reading.proofs.Skips.{skip_sound, skip_complete}
use Rattle.laws_reading.proofs.Arguments.{first_argument, key_alone, argument_value, KeepsNode, next_argument, next_other, second_argument, unset_argument, other_key}
use Rattle.laws_reading.proofs.Objects.{entry, EntrySound, EntryComplete, Finishes, behind_sound, behind_complete}

abbrev is_scalar : Event → Bool
is_scalar (leaf (scalar x n)) = true
is_scalar _ = false

module _ (t : Target) where
  set_sound : (x : Scalar) (path : List Step) (input : Input) (w : Tree) (after : Input) → set_at t x path input ≡ Ok (w, after) → (set_to t.borrow t.shape t.type x ≡ Some w) × (input ≡ after)
  set_sound x path input w after e = by_outcome (set_scalar t.borrow t.shape t.type x) e
    where
      by_outcome : (o : Outcome) → or_refused o path input ≡ Ok (w, after) → (value_of o ≡ Some w) × (input ≡ after)
      by_outcome (Ok v) e = let p = ok_is (v, input) (w, after) e in (ap (λ (y : Tree × Input). Some y.0) p, ap (λ (y : Tree × Input). y.1) p)
      by_outcome (Err kind) e = absurd cc

  set_complete : (x : Scalar) (path : List Step) (input : Input) (w : Tree) → set_to t.borrow t.shape t.type x ≡ Some w → set_at t x path input ≡ Ok (w, input)
  set_complete x path input w e = by_outcome (set_scalar t.borrow t.shape t.type x) e
    where
      by_outcome : (o : Outcome) → value_of o ≡ Some w → or_refused o path input ≡ Ok (w, input)
      by_outcome (Ok v) e = let same : v ≡ w = cc in ap (λ z. Ok (z, input)) same
      by_outcome (Err kind) e = absurd cc

  -- where an event is no scalar, the run that it begins sets nothing
  not_set : (e : Event) (l rest : List Event) (r : Run) → is_scalar e ≡ false → e ∷ l ≡ run_events r ++ rest → set_by t.borrow t.shape t.type r ≡ None
  not_set e l rest (one x n) other cut =
      let same : e ≡ leaf (scalar x n) = cc in
      let is : is_scalar e ≡ true = ap is_scalar same in
      absurd cc
  not_set e l rest (group b k n i) other cut = refl
  not_set e l rest (tagged u n r) other cut = refl

  module _ (es : List Entry) (q : Key) (path : List Step) (ending : Ending) where
    abbrev Taken : List Event → Span → Node → Input → Type 0
    Taken l last s after = (r : Run) × (l ≡ run_events r ++ after.events) × (after.ending ≡ ending) × (after.last ≡ last_span last (run_events r)) × KeepsNode t (es ++ (entry q r ∷ [])) s

    -- an entry whose value is passed over
    passed_sound : (l : List Event) (last : Span) (s s' : Node) (after : Input) → ((r : Run) (rest : List Event) → l ≡ run_events r ++ rest → KeepsNode t (es ++ (entry q r ∷ [])) s)
        → (skip_at path (feed l ending last) >>= unchanged s) ≡ Ok (s', after) → Taken l last s' after
    passed_sound l last s s' after keeps e =
        let (x, told, made) = bind_ok (skip_at path (feed l ending last)) (unchanged s) (s', after) e in
        let (r, cut, same, at) = skip_sound path l ending last x.0 x.1 told in
        subst (λ (y : Node × Input). Taken l last y.0 y.1) (ok_is (s, x.1) (s', after) made) (r, cut, same, at, keeps r x.1.events cut)

    -- the first argument
    argument_sound : (s' : Node) (l : List Event) (last : Span) (after : Input) → list_all key_alone es ≡ true → first_argument es ≡ None → is_argument q ≡ true → argument_at None t q path (feed l ending last) ≡ Ok (s', after) → Taken l last s' after
    argument_sound s' [] last after all none is e = absurd cc
    argument_sound s' (leaf (scalar x n) ∷ l) last after all none is e =
        let (y, set, made) = bind_ok (set_at t x path (feed l ending n.span)) (with_argument q) (s', after) e in
        let (value, same) = set_sound x path (feed l ending n.span) y.0 y.1 set in
        let p = ok_is (record { first = Some (key_note q).span; value = Some y.0 }, y.1) (s', after) made in
        subst (λ (z : Node × Input). Taken (leaf (scalar x n) ∷ l) last z.0 z.1) p
        (subst (λ z. Taken (leaf (scalar x n) ∷ l) last (record { first = Some (key_note q).span; value = Some y.0 }) z) same
        (one x n, refl, refl, refl, next_argument t es q (one x n) (Some y.0) all none is (sym value)))
    argument_sound s' (e ∷ l) last after all none is told =
        passed_sound (e ∷ l) last (record { first = Some (key_note q).span; value = None }) s' after
        (λ r rest cut. next_argument t es q r None all none is (sym (not_set e l rest r refl cut))) told

    entry_sound : (s s' : Node) (l : List Event) (last : Span) (after : Input) → KeepsNode t es s → node_entry t q s path (feed l ending last) ≡ Ok (s', after) → Taken l last s' after
    entry_sound s s' l last after (all, first, value) e = by_argument (is_argument q) refl e
      where
        by_first : (o : Option Span) → o ≡ first_argument es → is_argument q ≡ true → argument_at o t q path (feed l ending last) ≡ Ok (s', after) → Taken l last s' after
        by_first None none is e = argument_sound s' l last after all (sym none) is e
        by_first (Some span) some is e = absurd cc

        by_key : (b : Bool) → is_key q ≡ b → is_argument q ≡ false → cond b (skip_at path (feed l ending last) >>= unchanged s) (unexpected path (feed l ending last)) ≡ Ok (s', after) → Taken l last s' after
        by_key true keyed is e = passed_sound l last s s' after (λ r rest cut. next_other t es q r s (all, first, value) is keyed) e
        by_key false keyed is e = absurd cc

        by_argument : (b : Bool) → is_argument q ≡ b
            → cond b (argument_at s.first t q path (feed l ending last)) (cond (is_key q) (skip_at path (feed l ending last) >>= unchanged s) (unexpected path (feed l ending last))) ≡ Ok (s', after) → Taken l last s' after
        by_argument true is e = by_first s.first first is e
        by_argument false is e = by_key (is_key q) refl is e

  module _ (es : List Entry) (q : Key) (path : List Step) (r : Run) (rest : List Event) (ending : Ending) (last : Span) where
    -- the entry is taken, or no node that goes on with it is read
    abbrev Answer : Result (Node × Input) Fault → Type 0
    Answer told = ((l : List Entry) → read_node t.borrow t.shape t.type (es ++ (entry q r ∷ l)) ≡ None)
        ⊎ ((s' : Node) × (told ≡ Ok (s', feed rest ending (last_span last (run_events r)))) × KeepsNode t (es ++ (entry q r ∷ [])) s')

    abbrev input : Input
    input = feed (run_events r ++ rest) ending last

    passed_complete : (s : Node) → KeepsNode t (es ++ (entry q r ∷ [])) s → Answer (skip_at path input >>= unchanged s)
    passed_complete s keeps = inr (s, ap (λ z. z >>= unchanged s) (skip_complete path r rest ending last), keeps)

  argument_complete : (es : List Entry) (q : Key) (path : List Step) (r : Run) (rest : List Event) (ending : Ending) (last : Span) → list_all key_alone es ≡ true → first_argument es ≡ None → is_argument q ≡ true
      → Answer es q path r rest ending last (argument_at None t q path (feed (run_events r ++ rest) ending last))
  argument_complete es q path (one x n) rest ending last all none is = by_value (set_to t.borrow t.shape t.type x) refl
    where
      by_value : (o : Option Tree) → set_to t.borrow t.shape t.type x ≡ o → Answer es q path (one x n) rest ending last (set_at t x path (feed rest ending n.span) >>= with_argument q)
      by_value None unset = inl (λ l. unset_argument t es q (one x n) l none is unset)
      by_value (Some v) set = inr (
        record { first = Some (key_note q).span; value = Some v },
        ap (λ z. z >>= with_argument q) (set_complete x path (feed rest ending n.span) v set),
        next_argument t es q (one x n) (Some v) all none is (sym set),
      )
  argument_complete es q path (group b k n i) rest ending last all none is =
      passed_complete es q path (group b k n i) rest ending last (record { first = Some (key_note q).span; value = None }) (next_argument t es q (group b k n i) None all none is refl)
  argument_complete es q path (tagged u n r) rest ending last all none is =
      passed_complete es q path (tagged u n r) rest ending last (record { first = Some (key_note q).span; value = None }) (next_argument t es q (tagged u n r) None all none is refl)

  -- an entry of a node, in both directions
  pub node_entry_sound : EntrySound Node Tree (read_node t.borrow t.shape t.type) (node_entry t) (KeepsNode t)
  node_entry_sound es s keeps q path l ending last s' after e = entry_sound es q path ending s s' l last after keeps e

  pub node_entry_complete : EntryComplete Node Tree (read_node t.borrow t.shape t.type) (node_entry t) (KeepsNode t)
  node_entry_complete es s (all, first, value) q path r rest ending last = by_argument (is_argument q) refl
    where
      at : Input
      at = feed (run_events r ++ rest) ending last

      by_first : (o : Option Span) → o ≡ first_argument es → is_argument q ≡ true → Answer es q path r rest ending last (argument_at o t q path at)
      by_first None none is = argument_complete es q path r rest ending last all (sym none) is
      by_first (Some span) some is = inl (λ l. second_argument t es q r span l (sym some) is)

      by_key : (b : Bool) → is_key q ≡ b → is_argument q ≡ false → Answer es q path r rest ending last (cond b (skip_at path at >>= unchanged s) (unexpected path at))
      by_key true keyed is = passed_complete es q path r rest ending last s (next_other t es q r s (all, first, value) is keyed)
      by_key false other is = inl (λ l. other_key t es q r l all other)

      by_argument : (b : Bool) → is_argument q ≡ b → Answer es q path r rest ending last (cond b (argument_at s.first t q path at) (cond (is_key q) (skip_at path at >>= unchanged s) (unexpected path at)))
      by_argument true is = by_first s.first first is
      by_argument false is = by_key (is_key q) refl is

  -- what is known at the end is what the node is read as
  finishes : Finishes Node Tree (read_node t.borrow t.shape t.type) (node_entry t) (KeepsNode t) node_value
  finishes es s (all, first, value) path input v =
      let same : read_node t.borrow t.shape t.type es ≡ s.value = ap (λ b. cond b (argument_value t (arguments es)) None) all ∙ sym value in
      let (there, back) = by_value s.value in
      (λ e. same ∙ there e, λ e. back (sym same ∙ e))
    where
      by_value : (o : Option Tree) → ((or_unexpected o path input ≡ Ok v) → (o ≡ Some v)) × ((o ≡ Some v) → (or_unexpected o path input ≡ Ok v))
      by_value None = (λ e. absurd cc, λ e. absurd cc)
      by_value (Some w) = (λ e. ap (λ z. Some z) (ok_is w v e), λ e. cc)

  pub scalar_sound : Sound (read_scalar t.borrow t.shape t.type) (scalar_at t)
  scalar_sound path [] ending last w after e = absurd cc
  scalar_sound path (leaf (scalar x n) ∷ l) ending last w after e =
      let (value, same) = set_sound x path (feed l ending n.span) w after e in
      (one x n, ap (λ (z : Input). leaf (scalar x n) ∷ z.events) same, sym (ap (λ (z : Input). z.ending) same), sym (ap (λ (z : Input). z.last) same), value)
  scalar_sound path (start of_struct k n ∷ l) ending last w after e =
      let (i, cut, same, at, means) = behind_sound Node Tree (read_node t.borrow t.shape t.type) (node_entry t) (KeepsNode t) bare_node (refl, refl, refl) node_value finishes
      node_entry_sound path l ending n.span w after e in
      (group of_struct k n i, ap (λ l. start of_struct k n ∷ l) cut, same, at, means)
  scalar_sound path (_ ∷ l) ending last w after e = absurd cc

  pub scalar_complete : Complete (read_scalar t.borrow t.shape t.type) (scalar_at t)
  scalar_complete path (one x n) w rest ending last e = set_complete x path (feed rest ending n.span) w e
  scalar_complete path (group of_struct k n i) w rest ending last e =
      behind_complete Node Tree (read_node t.borrow t.shape t.type) (node_entry t) (KeepsNode t) bare_node (refl, refl, refl) node_value finishes node_entry_complete path i w rest ending n.span e
  scalar_complete path _ w rest ending last e = absurd cc
