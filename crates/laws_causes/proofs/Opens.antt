-- What is open of the root while frames are.
use Rattle.std.proofs.Common.{ℕ, List, [], ◌∷◌, ◌++◌, sym, ap, ◌∙◌, subst}
use Rattle.semantics_lines.specs.Events.{key, of_struct, object_kind, Event, leaf, start}
use Rattle.semantics.specs.Runs.{entries_events}
use Rattle.semantics.specs.Seen.{IsOpen}
use Rattle.semantics_causes.specs.Due.{Part}
use Rattle.laws_reading.specs.Skips.{Opened}
use Rattle.laws_reading.specs.Values.{Terms}
use Rattle.laws_machine.specs.Frames.{awaits, option, items, elements, keyed, keyed_item, object, field, outcome_key, outcome_side, outcome_end, node, argument, passing, Frame, Frames}
use Rattle.laws_causes.proofs.Open.{nothing_open, entries_open, entry_open, runs_open}
use Rattle.laws_causes.proofs.Holding.{Holds}
use Rattle.laws_causes.proofs.Keeping.{Open, Passing, Keeps}
use Rattle.laws_causes.proofs.Standing.{fits_open}
use Rattle.laws_causes.proofs.Opened.{opened_open}

module _ (t : Terms) where
  -- what came of the part that a frame is
  holds_open : (f : Frame) (part : Part) (n : ℕ) (own : List Event) → Holds t f part n own → IsOpen own
  holds_open (awaits a) part n own (what, deep, is) = subst IsOpen (sym is) nothing_open
  holds_open (items l) part n own h = subst IsOpen (sym h.is) (runs_open h.kind h.note h.runs)
  holds_open (elements l) part n own h = subst IsOpen (sym h.is) (runs_open h.kind h.note h.runs)
  holds_open (keyed l) part n own h = subst IsOpen (sym h.is) (entries_open object_kind h.note h.entries)
  holds_open (object s) part n own h = subst IsOpen (sym h.is) (entries_open h.kind h.note h.entries)
  holds_open (outcome_key r) part n own h = subst IsOpen (sym h.is) (entries_open h.kind h.note [])
  holds_open (outcome_end b v) part n own h = subst IsOpen (sym h.is) (entries_open h.kind h.note (record { key = h.q; run = h.run } ∷ []))
  holds_open (node p) part n own h = subst IsOpen (sym h.is) (entries_open h.kind h.note h.entries)
  holds_open (argument p first) part n own h =
      subst IsOpen (sym (h.is ∙ ap (λ l. l ++ (leaf (key h.q) ∷ [])) h.node.is)) (entry_open h.node.kind h.node.note h.node.entries h.q [] nothing_open)
  holds_open option part n own h = absurd h
  holds_open (keyed_item l) part n own h = absurd h
  holds_open (field s e) part n own h = absurd h
  holds_open (outcome_side r b) part n own h = absurd h
  holds_open (passing os) part n own h = absurd h

  module _ (root : Part) where
    open_opens : (f : Frame) (fs : Frames) (events : List Event) → Open t root f fs events → IsOpen events
    open_opens f fs events o = subst IsOpen (sym o.is) (fits_open t root fs o.before o.part _ o.fits o.own (holds_open f o.part o.n o.own o.holds))

    passing_opens : (os : Opened) (f : Frame) (fs : Frames) (events : List Event) → Passing t root os f fs events → IsOpen events
    passing_opens os f fs events p =
        subst IsOpen (sym p.is) (fits_open t root fs p.before p.part _ p.fits ((start of_struct p.kind p.note ∷ entries_events p.entries) ++ (leaf (key p.q) ∷ p.inside))
        (entry_open p.kind p.note p.entries p.q p.inside (opened_open p.inside os p.opened)))

    -- the root isn't complete while a frame is open
    pub keeps_open : (fs : Frames) (events : List Event) → Keeps t root fs events → IsOpen events
    keeps_open [] events h = absurd h
    keeps_open (passing os ∷ []) events h = absurd h
    keeps_open (passing os ∷ f ∷ fs) events h = passing_opens os f fs events h
    keeps_open (awaits a ∷ fs) events h = open_opens (awaits a) fs events h
    keeps_open (option ∷ fs) events h = open_opens option fs events h
    keeps_open (items l ∷ fs) events h = open_opens (items l) fs events h
    keeps_open (elements l ∷ fs) events h = open_opens (elements l) fs events h
    keeps_open (keyed l ∷ fs) events h = open_opens (keyed l) fs events h
    keeps_open (keyed_item l ∷ fs) events h = open_opens (keyed_item l) fs events h
    keeps_open (object s ∷ fs) events h = open_opens (object s) fs events h
    keeps_open (field s e ∷ fs) events h = open_opens (field s e) fs events h
    keeps_open (outcome_key r ∷ fs) events h = open_opens (outcome_key r) fs events h
    keeps_open (outcome_side r b ∷ fs) events h = open_opens (outcome_side r b) fs events h
    keeps_open (outcome_end b v ∷ fs) events h = open_opens (outcome_end b v) fs events h
    keeps_open (node p ∷ fs) events h = open_opens (node p) fs events h
    keeps_open (argument p first ∷ fs) events h = open_opens (argument p first) fs events h
