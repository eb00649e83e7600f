-- What an event does behind the key of a node's argument.
use Rattle.std.proofs.Common.{◌≡◌, ℕ, suc, List, [], ◌∷◌, ◌++◌, Option, Some, None, Ok, Err, false, refl, sym, ap, ◌∙◌, subst, append_assoc}
use Rattle.semantics_lines.specs.Trees.{Tree}
use Rattle.semantics_lines.specs.Events.{Span, Note, Scalar, scalar, key, tag, of_struct, Event, leaf, start, stop}
use Rattle.semantics_lines.specs.Faults.{FaultKind}
use Rattle.semantics.specs.Labels.{label_at}
use Rattle.semantics.specs.Runs.{Run, one, Entry, entries_events}
use Rattle.semantics.specs.Setters.{Outcome, set_scalar}
use Rattle.semantics.specs.Reading.{value_of, set_by}
use Rattle.semantics_causes.specs.Taken.{in_passed}
use Rattle.semantics_causes.specs.Due.{Part, Stands}
use Rattle.semantics_causes.specs.Causes.{as_argument, is_one, IsUnset}
use Rattle.laws_reading.specs.Input.{◌>>=◌}
use Rattle.laws_reading.specs.Nodes.{Target, or_refused}
use Rattle.laws_reading.specs.Values.{Terms}
use Rattle.laws_reading.proofs.Objects.{entry}
use Rattle.laws_machine.specs.Frames.{NodePart, node, Frames, path}
use Rattle.laws_machine.specs.Delivery.{here, with_argument}
use Rattle.laws_machine.specs.Steps.{set_in, set_step, pass_step}
use Rattle.laws_causes.proofs.Open.{nothing_open}
use Rattle.laws_causes.proofs.Holding.{first_of, HoldsArgument, KeepsArgument}
use Rattle.laws_causes.proofs.Keeping.{Fits, Open, After}
use Rattle.laws_causes.proofs.Unset.{unset_caused}
use Rattle.laws_causes.proofs.Standing.{fits_path, spot_at}
use Rattle.laws_causes.proofs.Opened.{opened_none}
use Rattle.laws_causes.proofs.Passed.{passed}
use Rattle.laws_causes.proofs.NodeKeeps.{others_unset, others_set, is_scalar, not_one, argument_keeps, node_holds, node_passes}

module _ (t : Terms) (root : Part) (top : root.path ≡ []) (fs : Frames) (before own : List Event) (part : Part) (n : ℕ) (deep : part.depth ≡ suc n)
    (fits : Fits t root fs before part (first_of own None)) (p : NodePart) (first : Span) (holds : HoldsArgument t p first part n own) where
  abbrev entries : List Entry
  entries = holds.node.entries

  abbrev front : List Event
  front = start of_struct holds.node.kind holds.node.note ∷ entries_events entries

  -- the node, and the key of its argument
  abbrev so_far : List Event
  so_far = front ++ (leaf (key holds.q) ∷ [])

  own_is : own ≡ so_far
  own_is = holds.is ∙ ap (λ l. l ++ (leaf (key holds.q) ∷ [])) holds.node.is

  fits_start : Fits t root fs before part (Some (start of_struct holds.node.kind holds.node.note))
  fits_start = subst (Fits t root fs before part) (ap (λ l. first_of l None) own_is) fits

  -- what the run of the argument sets is kept
  keeps : (r : Run) (value : Option Tree) → value ≡ set_by t.setting.borrow (label_at t.setting.registry holds.node.shape) holds.node.type r → (value ≡ None → is_one r ≡ false)
      → KeepsArgument t holds.node.shape holds.node.type (entries ++ (entry holds.q r ∷ [])) (Some first) value
  keeps r value is unset =
      subst (λ x. KeepsArgument t holds.node.shape holds.node.type (entries ++ (entry holds.q r ∷ [])) (Some x) value) (sym holds.spanned)
      (argument_keeps t holds.node.shape holds.node.type entries holds.q r value holds.names (holds.takes.once holds.names) is unset)

  -- Anything but a scalar is passed over.
  argument_passes : (e : Event) → is_scalar e ≡ false → After t root false (before ++ own) e (pass_step t [] (node (with_argument p first None) ∷ fs) e)
  argument_passes e other = passed t root [] (node (with_argument p first None)) fs (before ++ own) top e (record {
    part = part;
    n = n;
    deep = deep;
    before = before;
    kind = holds.node.kind;
    note = holds.node.note;
    entries = entries;
    q = holds.q;
    inside = [];
    is = ap (λ l. before ++ l) own_is;
    fits = fits_start;
    opened = opened_none;
    shape = holds.node.shape;
    what = holds.node.of.what;
    took = node_passes t part n holds.before p holds.node holds.q holds.takes;
    holds = λ r rest begins.
        let several = not_one e rest r other begins in
        node_holds t part n holds.before p holds.node holds.q (with_argument p first None) refl r holds.takes (λ x. others_set t.setting.borrow (label_at t.setting.registry holds.node.shape) holds.node.type r several)
        (keeps r None (sym (others_unset t.setting.borrow (label_at t.setting.registry holds.node.shape) holds.node.type r several)) (λ x. several));
    plain = refl;
  })

  module _ (x : Scalar) (m : Note) where
    abbrev event : Event
    event = leaf (scalar x m)

    -- A scalar sets it.
    argument_set : (v : Tree) → set_scalar t.setting.borrow (label_at t.setting.registry holds.node.shape) holds.node.type x ≡ Ok v → Open t root (node (with_argument p first (Some v))) fs ((before ++ own) ++ (event ∷ []))
    argument_set v set = record {
      part = part;
      n = n;
      deep = deep;
      before = before;
      own = front ++ (leaf (key holds.q) ∷ (event ∷ []));
      is = append_assoc before own (event ∷ []) ∙ ap (λ l. before ++ l) (ap (λ l. l ++ (event ∷ [])) own_is ∙ append_assoc front (leaf (key holds.q) ∷ []) (event ∷ []));
      fits = fits_start;
      holds = node_holds t part n holds.before p holds.node holds.q (with_argument p first (Some v)) refl (one x m) holds.takes (λ y. (v, ap value_of set))
          (keeps (one x m) (Some v) (sym (ap value_of set)) (λ y. absurd (let other : Some v ≡ None = y in cc)));
    }

    stands : (seen : List Event) → Stands t.setting part n so_far seen (in_passed entries holds.q [])
    stands seen = record {
      shape = holds.node.shape;
      is_shape = holds.node.of.what;
      choice = [];
      chosen = refl;
      reaches = (holds.node.kind, holds.node.note, refl);
      took = node_passes t part n holds.before p holds.node holds.q holds.takes [] nothing_open;
    }

    -- A scalar that doesn't set it is why.
    argument_unset : (kind : FaultKind) → set_scalar t.setting.borrow (label_at t.setting.registry holds.node.shape) holds.node.type x ≡ Err kind
        → IsUnset t.setting root ((before ++ own) ++ (event ∷ [])) [] kind (path t fs)
    argument_unset kind unset = record {
      here = record {
        front = before ++ so_far;
        event = event;
        is = ap (λ l. (before ++ l) ++ (event ∷ [])) own_is;
        spot = spot_at t root fs before part (Some (start of_struct holds.node.kind holds.node.note)) fits_start n deep so_far (event ∷ []) refl (in_passed entries holds.q [])
            (stands ((before ++ so_far) ++ (event ∷ [])));
      };
      shape = holds.node.shape;
      is_shape = holds.node.of.what;
      type = holds.node.type;
      is_scalar = holds.node.of.defined;
      sets = as_argument entries holds.q refl holds.names;
      value = x;
      note = m;
      event = refl;
      unset = unset;
      at = fits_path t root top fs before part (first_of own None) fits;
    }

    argument_outcome : (o : Outcome) → set_scalar t.setting.borrow (label_at t.setting.registry holds.node.shape) holds.node.type x ≡ o
        → After t root false (before ++ own) event (or_refused o (path t fs) (here m.span) >>= set_in p first fs)
    argument_outcome (Ok v) set = argument_set v set
    argument_outcome (Err kind) unset = unset_caused t root ((before ++ own) ++ (event ∷ [])) [] kind m.span (path t fs) (argument_unset kind unset)

    argument_scalar : After t root false (before ++ own) event (set_step event t p first fs)
    argument_scalar =
        subst (λ (u : Target). After t root false (before ++ own) event (or_refused (set_scalar u.borrow u.shape u.type x) (path t fs) (here m.span) >>= set_in p first fs)) (sym holds.node.target)
        (argument_outcome (set_scalar t.setting.borrow (label_at t.setting.registry holds.node.shape) holds.node.type x) refl)

  -- what any event does
  pub set_after : (e : Event) → After t root false (before ++ own) e (set_step e t p first fs)
  set_after (leaf (scalar x m)) = argument_scalar x m
  set_after (leaf (key q)) = argument_passes (leaf (key q)) refl
  set_after (leaf (tag u m)) = argument_passes (leaf (tag u m)) refl
  set_after (start b k m) = argument_passes (start b k m) refl
  set_after (stop b m) = argument_passes (stop b m) refl
