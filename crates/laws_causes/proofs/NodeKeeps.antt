-- The entries of a node that were taken: their keys, and the argument among them.
use Rattle.std.proofs.Common.{◌≡◌, ℕ, List, [], ◌∷◌, ◌++◌, Option, Some, None, Bool, true, false, cond, ◌&&◌, option_and_then, refl, sym, ap, ap₂, ◌∙◌, subst, append_assoc}
use Rattle.std.specs.List.{list_all}
use Rattle.std.proofs.lemmas.List.{append-nil}
use Rattle.semantics_lines.specs.Trees.{Tree}
use Rattle.semantics_lines.specs.Shapes.{ScalarType, definition_at}
use Rattle.semantics_lines.specs.Events.{Span, Key, named, nameless, ordered, key_note, scalar, key, of_struct, Event, leaf, start}
use Rattle.semantics_lines.specs.Faults.{ShapeLabel}
use Rattle.semantics.specs.Labels.{label_at}
use Rattle.semantics.specs.Runs.{Run, one, group, tagged, run_events, Entry, entries_events}
use Rattle.semantics.specs.Seen.{IsOpen}
use Rattle.semantics.specs.Numerals.{only}
use Rattle.semantics.specs.Reading.{set_by, is_argument, is_key, arguments, read_node}
use Rattle.semantics_causes.specs.Taken.{TakesNodeKey, Sets, TookNode, in_passed, Took}
use Rattle.semantics_causes.specs.Due.{Part}
use Rattle.semantics_causes.specs.Causes.{is_one, has_argument}
use Rattle.laws_reading.specs.Values.{Terms}
use Rattle.laws_reading.proofs.Objects.{entry}
use Rattle.laws_machine.specs.Frames.{NodePart}
use Rattle.laws_causes.proofs.Open.{entries_events-append}
use Rattle.laws_causes.proofs.Holding.{KeepsArgument, no_argument, one_argument, HoldsNode}

-- the key of an argument is a key
pub argument_is_key : (q : Key) → is_argument q ≡ true → is_key q ≡ true
argument_is_key (named t m n) e = refl
argument_is_key (nameless m n) e = absurd cc
argument_is_key (ordered n) e = absurd cc

arguments_append : (xs ys : List Entry) → arguments (xs ++ ys) ≡ arguments xs ++ arguments ys
arguments_append [] ys = refl
arguments_append (x ∷ xs) ys = by_test (is_argument x.key) (arguments_append xs ys)
  where
    by_test : (b : Bool) → arguments (xs ++ ys) ≡ arguments xs ++ arguments ys
        → cond b (x.run ∷ arguments (xs ++ ys)) (arguments (xs ++ ys)) ≡ cond b (x.run ∷ arguments xs) (arguments xs) ++ arguments ys
    by_test true more = ap (λ rs. x.run ∷ rs) more
    by_test false more = more

-- the arguments behind one more entry
arguments_more : (es : List Entry) (q : Key) (r : Run) (b : Bool) → is_argument q ≡ b → arguments (es ++ (entry q r ∷ [])) ≡ arguments es ++ cond b (r ∷ []) []
arguments_more es q r b is = arguments_append es (entry q r ∷ []) ∙ ap (λ b. arguments es ++ cond b (r ∷ []) []) is

module _ (borrow : Bool) (s : ShapeLabel) (t : ScalarType) where
  -- one more entry is taken
  pub node_more : (before es : List Entry) (e : Entry) → TookNode borrow s t before es → TakesNodeKey (before ++ es) e.key
      → (is_argument e.key ≡ true → Sets borrow s t e.run) → TookNode borrow s t before (es ++ (e ∷ []))
  node_more before [] e took takes sets = (subst (λ l. TakesNodeKey l e.key) (append-nil before) takes, sets, tt)
  node_more before (x ∷ es) e (here, its, took) takes sets =
      (here, its, node_more (before ++ (x ∷ [])) es e took (subst (λ l. TakesNodeKey l e.key) (sym (append_assoc before (x ∷ []) es)) takes) sets)

  -- those that were taken have keys alone
  all_keys : (before es : List Entry) → TookNode borrow s t before es → list_all (λ (e : Entry). is_key e.key) es ≡ true
  all_keys before [] took = refl
  all_keys before (x ∷ es) (here, its, took) = ap₂ (λ a b. a && b) here.is_key (all_keys (before ++ (x ∷ [])) es took)

  -- the one argument tells the value of the node
  pub node_reads : (es : List Entry) (r : Run) (v : Tree) → TookNode borrow s t [] es → arguments es ≡ r ∷ [] → set_by borrow s t r ≡ Some v → read_node borrow s t es ≡ Some v
  node_reads es r v took is set =
      ap (λ b. cond b (option_and_then (set_by borrow s t) (only (arguments es))) None) (all_keys [] es took)
      ∙ ap (λ rs. option_and_then (set_by borrow s t) (only rs)) is ∙ set

  -- a run that isn't one scalar sets nothing
  pub others_unset : (r : Run) → is_one r ≡ false → set_by borrow s t r ≡ None
  others_unset (one x m) other = absurd cc
  others_unset (group b k m i) other = refl
  others_unset (tagged u m r) other = refl

  pub others_set : (r : Run) → is_one r ≡ false → Sets borrow s t r
  others_set (one x m) other = absurd cc
  others_set (group b k m i) other = tt
  others_set (tagged u m r) other = tt

abbrev pub is_scalar : Event → Bool
is_scalar (leaf (scalar x n)) = true
is_scalar _ = false

-- a run that begins with something else isn't one scalar
pub not_one : (e : Event) (rest : List Event) (r : Run) → is_scalar e ≡ false → run_events r ≡ e ∷ rest → is_one r ≡ false
not_one e rest (one x m) other is =
    let same : leaf (scalar x m) ≡ e = cc in
    let scalar_is : true ≡ is_scalar e = ap is_scalar same in
    absurd cc
not_one e rest (group b k m i) other is = refl
not_one e rest (tagged u m r) other is = refl

module _ (t : Terms) (shape : ℕ) (type : ScalarType) (es : List Entry) (q : Key) (r : Run) where
  -- behind another entry
  pub other_keeps : (first : Option Span) (value : Option Tree) → is_argument q ≡ false → KeepsArgument t shape type es first value
      → KeepsArgument t shape type (es ++ (entry q r ∷ [])) first value
  other_keeps first value other (no_argument none first_is value_is) = no_argument (arguments_more es q r false other ∙ append-nil (arguments es) ∙ none) first_is value_is
  other_keeps first value other (one_argument before earlier after cut names args first_is value_is unset) =
      one_argument before earlier (after ++ (entry q r ∷ [])) (ap (λ l. l ++ (entry q r ∷ [])) cut ∙ append_assoc before (earlier ∷ after) (entry q r ∷ [])) names
      (arguments_more es q r false other ∙ append-nil (arguments es) ∙ args) first_is value_is unset

  -- behind that of the argument
  pub argument_keeps : (value : Option Tree) → is_argument q ≡ true → arguments es ≡ [] → value ≡ set_by t.setting.borrow (label_at t.setting.registry shape) type r → (value ≡ None → is_one r ≡ false)
      → KeepsArgument t shape type (es ++ (entry q r ∷ [])) (Some (key_note q).span) value
  argument_keeps value names none is unset =
      one_argument es (entry q r) [] refl names (arguments_more es q r true names ∙ ap (λ rs. rs ++ (r ∷ [])) none) refl is unset

-- what the value of the argument says of the arguments
pub no_value : (t : Terms) (shape : ℕ) (type : ScalarType) (es : List Entry) (first : Option Span) (value : Option Tree) → KeepsArgument t shape type es first value
    → value ≡ None → has_argument (arguments es) ≡ false
no_value t shape type es first value (no_argument none first_is value_is) is = ap has_argument none
no_value t shape type es first value (one_argument before earlier after cut names args first_is value_is unset) is = ap has_argument args ∙ unset is

pub a_value : (t : Terms) (shape : ℕ) (type : ScalarType) (es : List Entry) (first : Option Span) (value : Option Tree) (v : Tree)
    → KeepsArgument t shape type es first value → value ≡ Some v → TookNode t.setting.borrow (label_at t.setting.registry shape) type [] es → read_node t.setting.borrow (label_at t.setting.registry shape) type es ≡ Some v
a_value t shape type es first value v (no_argument none first_is value_is) is took = absurd cc
a_value t shape type es first value v (one_argument before earlier after cut names args first_is value_is unset) is took =
    node_reads t.setting.borrow (label_at t.setting.registry shape) type es earlier.run v took args (sym value_is ∙ is)

module _ (t : Terms) (part : Part) (n : ℕ) (own : List Event) (p : NodePart) (holds : HoldsNode t p part n own) (q : Key) where
  -- the node behind one more entry
  pub node_holds : (p' : NodePart) → p'.target ≡ p.target → (r : Run) → TakesNodeKey holds.entries q
      → (is_argument q ≡ true → Sets t.setting.borrow (label_at t.setting.registry holds.shape) holds.type r)
      → KeepsArgument t holds.shape holds.type (holds.entries ++ (entry q r ∷ [])) p'.node.first p'.node.value
      → HoldsNode t p' part n ((start of_struct holds.kind holds.note ∷ entries_events holds.entries) ++ (leaf (key q) ∷ run_events r))
  node_holds p' same r takes sets keeps = record {
    shape = holds.shape;
    type = holds.type;
    of = holds.of;
    target = same ∙ holds.target;
    kind = holds.kind;
    note = holds.note;
    entries = holds.entries ++ (entry q r ∷ []);
    is =
        ap (λ l. start of_struct holds.kind holds.note ∷ l)
        (sym (entries_events-append holds.entries (entry q r ∷ []) ∙ ap (λ l. entries_events holds.entries ++ l) (append-nil (leaf (key q) ∷ run_events r))));
    took = node_more t.setting.borrow (label_at t.setting.registry holds.shape) holds.type [] holds.entries (entry q r) holds.took takes sets;
    keeps = keeps;
  }

  -- a value behind a key of it is passed over
  pub node_passes : TakesNodeKey holds.entries q → (inside : List Event) → IsOpen inside
      → Took t.setting n [] holds.shape (definition_at t.setting.registry holds.shape) (in_passed holds.entries q inside)
  node_passes takes inside h = subst (λ o. Took t.setting n [] holds.shape o (in_passed holds.entries q inside)) (sym holds.of.defined) (holds.took, takes, h)
