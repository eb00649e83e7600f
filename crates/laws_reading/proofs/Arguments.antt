-- The entries of a node so far: their keys, and its arguments.
use Rattle.std.proofs.Common.{◌≡◌, List, [], ◌∷◌, ◌++◌, Option, Some, None, Bool, true, false, cond, ◌&&◌, option_and_then, refl, sym, ap, ap₂, ◌∙◌}
use Rattle.std.specs.List.{list_all}
use Rattle.std.proofs.lemmas.List.{append-nil}
use Rattle.std.proofs.lemmas.List.Folds.{list_all-append}
use Rattle.semantics_lines.specs.Trees.{Tree}
use Rattle.semantics_lines.specs.Events.{Span, Key, key_note, named, nameless, ordered}
use Rattle.semantics.specs.Runs.{Run, Entry}
use Rattle.semantics.specs.Numerals.{only}
use Rattle.semantics.specs.Reading.{set_by, is_argument, is_key, arguments, read_node}
use Rattle.laws_reading.specs.Structs.{or_span}
use Rattle.laws_reading.specs.Nodes.{Target, Node}
use Rattle.laws_reading.proofs.Objects.{entry}

-- where the key of the first argument stands
abbrev pub first_argument : List Entry → Option Span
first_argument [] = None
first_argument (e ∷ es) = cond (is_argument e.key) (Some (key_note e.key).span) (first_argument es)

first_append : (xs ys : List Entry) → first_argument (xs ++ ys) ≡ or_span (first_argument xs) (first_argument ys)
first_append [] ys = refl
first_append (x ∷ xs) ys = by_test (is_argument x.key) (first_append xs ys)
  where
    by_test : (b : Bool) → first_argument (xs ++ ys) ≡ or_span (first_argument xs) (first_argument ys)
        → cond b (Some (key_note x.key).span) (first_argument (xs ++ ys)) ≡ or_span (cond b (Some (key_note x.key).span) (first_argument xs)) (first_argument ys)
    by_test true more = refl
    by_test false more = more

arguments_append : (xs ys : List Entry) → arguments (xs ++ ys) ≡ arguments xs ++ arguments ys
arguments_append [] ys = refl
arguments_append (x ∷ xs) ys = by_test (is_argument x.key) (arguments_append xs ys)
  where
    by_test : (b : Bool) → arguments (xs ++ ys) ≡ arguments xs ++ arguments ys → cond b (x.run ∷ arguments (xs ++ ys)) (arguments (xs ++ ys)) ≡ cond b (x.run ∷ arguments xs) (arguments xs) ++ arguments ys
    by_test true more = ap (λ rs. x.run ∷ rs) more
    by_test false more = more

-- there is an argument just where one has a key
no_arguments : (es : List Entry) → first_argument es ≡ None → arguments es ≡ []
no_arguments [] e = refl
no_arguments (x ∷ es) e = by_test (is_argument x.key) e (no_arguments es)
  where
    by_test : (b : Bool) → cond b (Some (key_note x.key).span) (first_argument es) ≡ None → (first_argument es ≡ None → arguments es ≡ []) → cond b (x.run ∷ arguments es) (arguments es) ≡ []
    by_test true e rec = absurd cc
    by_test false e rec = rec e

some_arguments : (es : List Entry) (span : Span) → first_argument es ≡ Some span → (r : Run) × (rs : List Run) × (arguments es ≡ r ∷ rs)
some_arguments [] span e = absurd cc
some_arguments (x ∷ es) span e = by_test (is_argument x.key) e (some_arguments es span)
  where
    by_test : (b : Bool) → cond b (Some (key_note x.key).span) (first_argument es) ≡ Some span → (first_argument es ≡ Some span → (r : Run) × (rs : List Run) × (arguments es ≡ r ∷ rs))
        → (r : Run) × (rs : List Run) × (cond b (x.run ∷ arguments es) (arguments es) ≡ r ∷ rs)
    by_test true e rec = (x.run, arguments es, refl)
    by_test false e rec = rec e

argument_is_key : (q : Key) → is_argument q ≡ true → is_key q ≡ true
argument_is_key (named t m n) e = refl
argument_is_key (nameless m n) e = absurd cc
argument_is_key (ordered n) e = absurd cc

abbrev pub key_alone : Entry → Bool
key_alone e = is_key e.key

module _ (t : Target) where
  abbrev pub argument_value : List Run → Option Tree
  argument_value rs = option_and_then (set_by t.borrow t.shape t.type) (only rs)

  -- The entries so far have keys alone. It is known where the first argument's key stands, and what the only argument sets.
  abbrev pub KeepsNode : List Entry → Node → Type 0
  KeepsNode es s = (list_all key_alone es ≡ true) × (s.first ≡ first_argument es) × (s.value ≡ argument_value (arguments es))

  -- no node is read where no argument sets the target
  node_none : (es : List Entry) → argument_value (arguments es) ≡ None → read_node t.borrow t.shape t.type es ≡ None
  node_none es none = by_keys (list_all key_alone es)
    where
      by_keys : (b : Bool) → cond b (argument_value (arguments es)) None ≡ None
      by_keys true = none
      by_keys false = refl

  module _ (es : List Entry) (q : Key) where
    keys_with : (r : Run) → list_all key_alone es ≡ true → is_key q ≡ true → list_all key_alone (es ++ (entry q r ∷ [])) ≡ true
    keys_with r all keyed = list_all-append key_alone es (entry q r ∷ []) ∙ ap₂ (λ a b. a && (b && true)) all keyed

    -- the first argument
    pub next_argument : (r : Run) (v : Option Tree) → list_all key_alone es ≡ true → first_argument es ≡ None → is_argument q ≡ true → v ≡ set_by t.borrow t.shape t.type r
        → KeepsNode (es ++ (entry q r ∷ [])) (record { first = Some (key_note q).span; value = v })
    next_argument r v all none is set = (
      keys_with r all (argument_is_key q is),
      sym (first_append es (entry q r ∷ []) ∙ ap₂ (λ o b. or_span o (cond b (Some (key_note q).span) None)) none is),
      set ∙ sym (ap argument_value (arguments_append es (entry q r ∷ []) ∙ ap₂ (λ rs b. rs ++ cond b (r ∷ []) []) (no_arguments es none) is)),
    )

    -- another entry
    pub next_other : (r : Run) (s : Node) → KeepsNode es s → is_argument q ≡ false → is_key q ≡ true → KeepsNode (es ++ (entry q r ∷ [])) s
    next_other r s (all, first, value) is keyed = (
      keys_with r all keyed,
      first ∙ sym (first_append es (entry q r ∷ []) ∙ ap (λ b. or_span (first_argument es) (cond b (Some (key_note q).span) None)) is ∙ or_none (first_argument es)),
      value ∙ sym (ap argument_value (arguments_append es (entry q r ∷ []) ∙ ap (λ b. arguments es ++ cond b (r ∷ []) []) is ∙ append-nil (arguments es))),
    )
      where
        or_none : (o : Option Span) → or_span o None ≡ o
        or_none None = refl
        or_none (Some span) = refl

    -- no node has a second argument
    pub second_argument : (r : Run) (span : Span) (l : List Entry) → first_argument es ≡ Some span → is_argument q ≡ true → read_node t.borrow t.shape t.type (es ++ (entry q r ∷ l)) ≡ None
    second_argument r span l first is =
        let (x, xs, some) = some_arguments es span first in
        let two : arguments (es ++ (entry q r ∷ l)) ≡ x ∷ (xs ++ (r ∷ arguments l)) = arguments_append es (entry q r ∷ l) ∙ ap₂ (λ rs b. rs ++ cond b (r ∷ arguments l) (arguments l)) some is in
        node_none (es ++ (entry q r ∷ l)) (ap argument_value two ∙ not_only x xs)
      where
        not_only : (x : Run) (xs : List Run) → argument_value (x ∷ (xs ++ (r ∷ arguments l))) ≡ None
        not_only x [] = refl
        not_only x (y ∷ xs) = refl

    -- nor one that doesn't set the target
    pub unset_argument : (r : Run) (l : List Entry) → first_argument es ≡ None → is_argument q ≡ true → set_by t.borrow t.shape t.type r ≡ None → read_node t.borrow t.shape t.type (es ++ (entry q r ∷ l)) ≡ None
    unset_argument r l none is unset =
        let first : arguments (es ++ (entry q r ∷ l)) ≡ r ∷ arguments l = arguments_append es (entry q r ∷ l) ∙ ap₂ (λ rs b. rs ++ cond b (r ∷ arguments l) (arguments l)) (no_arguments es none) is in
        node_none (es ++ (entry q r ∷ l)) (ap argument_value first ∙ by_more (arguments l))
      where
        by_more : (rs : List Run) → argument_value (r ∷ rs) ≡ None
        by_more [] = unset
        by_more (x ∷ rs) = refl

    -- nor a key that is none
    pub other_key : (r : Run) (l : List Entry) → list_all key_alone es ≡ true → is_key q ≡ false → read_node t.borrow t.shape t.type (es ++ (entry q r ∷ l)) ≡ None
    other_key r l all other =
        let none : list_all key_alone (es ++ (entry q r ∷ l)) ≡ false = list_all-append key_alone es (entry q r ∷ l) ∙ ap₂ (λ a b. a && (b && list_all key_alone l)) all other in
        ap (λ b. cond b (argument_value (arguments (es ++ (entry q r ∷ l)))) None) none
