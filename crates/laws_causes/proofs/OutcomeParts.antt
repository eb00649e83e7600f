-- What results and options hold, as parts that come.
use Rattle.std.proofs.Common.{◌≡◌, ℕ, suc, List, [], ◌∷◌, ◌++◌, Some, None, Bool, true, false, cond, option_map, refl, sym, ap, ◌∙◌, subst, append_assoc}
use Rattle.std.proofs.lemmas.List.{append-nil}
use Rattle.semantics_lines.specs.Trees.{Tree, none, some}
use Rattle.semantics_lines.specs.Events.{key, of_struct, Event, leaf, start}
use Rattle.semantics.specs.Runs.{Run, one, group, tagged, run_events}
use Rattle.semantics.specs.Reading.{from_events, holds_nothing, ok_side, err_side, read_shape, read, read_part}
use Rattle.semantics.specs.Seen.{OnFirst, is_nothing_event, IsOpen}
use Rattle.semantics_causes.specs.Taken.{at_start, in_object, Took}
use Rattle.semantics_causes.specs.Due.{Part, defined_at, Entered as EntersPart, into_outcome, into_some}
use Rattle.laws_reading.specs.Options.{Sides, side_of}
use Rattle.laws_reading.specs.Values.{Terms}
use Rattle.laws_reading.proofs.Results.{chosen}
use Rattle.laws_machine.specs.Frames.{ResultPart, outcome_side, path_in}
use Rattle.laws_causes.proofs.Open.{entry_open}
use Rattle.laws_causes.proofs.Holding.{Next, OnNext, NextIs, HoldsOutcome, AwaitsOutcome, AwaitsSome}

-- the first event, which is known, has the property that is known of it
first_has : (P : Event → Type 0) (next : Next) (l : List Event) → OnNext next P → NextIs next l → OnFirst l P
first_has P None l on h = absurd on
first_has P (Some e) [] on h = absurd h
first_has P (Some e) (x ∷ l) on h = subst P (sym h) on

-- a run that begins with something holds something
holds_some : (r : Run) → OnFirst (run_events r) (λ e. is_nothing_event e ≡ false) → holds_nothing r ≡ false
holds_some (one x m) h = h
holds_some (group b k m i) h = refl
holds_some (tagged u m r) h = refl

module _ (t : Terms) where
  side_is : (s : Sides) (b : Bool) → cond b (ok_side s.ok_shape) (err_side s.err_shape) ≡ side_of s b
  side_is s true = refl
  side_is s false = refl

  module _ (r : ResultPart) (b : Bool) (whole : Part) (n : ℕ) (own : List Event) (part : Part) (a : AwaitsOutcome t r b whole n own part) where
    pub outcome_entered : (inside looked : List Event) → EntersPart t.setting whole n (own ++ inside) looked part inside
    outcome_entered inside looked = record {
      so_far = a.before;
      place = in_object a.holds.kind [];
      stands = record {
        shape = a.holds.shape;
        is_shape = a.holds.of.what;
        choice = [];
        chosen = refl;
        reaches = (a.holds.note, a.holds.is);
        took = subst (λ o. Took t.setting n [] a.holds.shape o (in_object a.holds.kind [])) (sym a.holds.of.defined) tt;
      };
      between = leaf (key a.q) ∷ [];
      into =
          into_outcome r.sides.ok_shape r.sides.err_shape (ap (λ w. defined_at t.setting.registry w) a.holds.of.what ∙ a.holds.of.defined) a.holds.kind refl a.q refl
          (side_of r.sides b) (chosen a.q (ok_side r.sides.ok_shape) (err_side r.sides.err_shape) (Some b) a.named ∙ ap (λ z. Some z) (side_is r.sides b)) a.is;
      is = ap (λ l. l ++ inside) a.own_is ∙ append_assoc a.before (leaf (key a.q) ∷ []) inside;
    }

    pub outcome_open : (inside : List Event) → IsOpen inside → IsOpen (own ++ inside)
    outcome_open inside h =
        subst IsOpen (sym (ap (λ l. l ++ inside) a.own_is ∙ append_assoc a.before (leaf (key a.q) ∷ []) inside ∙ ap (λ l. l ++ (leaf (key a.q) ∷ inside)) a.holds.is))
        (entry_open a.holds.kind a.holds.note [] a.q inside h)

    pub outcome_path : part.path ≡ path_in t (outcome_side r b) whole.path
    outcome_path = ap (λ (p : Part). p.path) a.is

    pub outcome_delivered : (run : Run) (v : Tree) → read_part t.setting part.depth part.what part.source run ≡ Some v → HoldsOutcome t b v whole n (own ++ run_events run)
    outcome_delivered run v reads = record {
      shape = a.holds.shape;
      sides = r;
      of = a.holds.of;
      kind = a.holds.kind;
      note = a.holds.note;
      q = a.q;
      run = run;
      is =
          ap (λ l. l ++ run_events run) (a.own_is ∙ ap (λ l. l ++ (leaf (key a.q) ∷ [])) a.holds.is)
          ∙ ap (λ l. start of_struct a.holds.kind a.holds.note ∷ (leaf (key a.q) ∷ l)) (sym (append-nil (run_events run)));
      named = a.named;
      reads = ap (λ (p : Part). read_part t.setting p.depth p.what p.source run) (sym a.is) ∙ reads;
    }

  module _ (whole : Part) (n : ℕ) (own : List Event) (part : Part) (next : Next) (a : AwaitsSome t whole n own part next) where
    pub some_entered : (inside looked : List Event) → NextIs next (inside ++ looked) → EntersPart t.setting whole n (own ++ inside) looked part inside
    some_entered inside looked h = record {
      so_far = [];
      place = at_start;
      stands = record { shape = a.shape; is_shape = a.of.what; choice = []; chosen = refl; reaches = refl; took = subst (λ o. Took t.setting n [] a.shape o at_start) (sym a.of.defined) tt };
      between = [];
      into = into_some a.inner (ap (λ w. defined_at t.setting.registry w) a.of.what ∙ a.of.defined) refl refl (first_has (λ e. is_nothing_event e ≡ false) next (inside ++ looked) a.on h) a.is;
      is = ap (λ l. l ++ inside) a.own_is;
    }

    pub some_delivered : whole.depth ≡ suc n → (run : Run) (v : Tree) → NextIs next (run_events run) → read_part t.setting part.depth part.what part.source run ≡ Some v
        → read_part t.setting whole.depth whole.what whole.source run ≡ Some (some v)
    some_delivered deep run v h reads =
        ap (λ k. read_part t.setting k whole.what whole.source run) deep ∙ ap (λ w. read_part t.setting (suc n) w whole.source run) a.of.what
        ∙ ap (read_shape t.setting (read t.setting n) a.shape whole.source run) a.of.defined
        ∙ ap (λ b. cond b (Some none) (option_map some (read t.setting n a.inner from_events run))) (holds_some run (first_has (λ e. is_nothing_event e ≡ false) next (run_events run) a.on h))
        ∙ ap (option_map some) (ap (λ (p : Part). read_part t.setting p.depth p.what p.source run) (sym a.is) ∙ reads)
