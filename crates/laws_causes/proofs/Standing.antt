-- How the parts that are open stand in the root: which one is due, and what is open of the whole.
use Rattle.std.proofs.Common.{◌≡◌, inl, inr, ℕ, suc, List, [], ◌∷◌, ◌++◌, Some, None, refl, sym, ap, ◌∙◌, subst, append_assoc}
use Rattle.semantics_lines.specs.Trees.{Tree, some}
use Rattle.semantics_lines.specs.Shapes.{transparent_shape, definition_at}
use Rattle.semantics_lines.specs.Events.{key, Event, leaf}
use Rattle.semantics.specs.Seen.{IsOpen}
use Rattle.semantics.specs.Runs.{Run, run_events}
use Rattle.semantics.specs.Reading.{of_shape, read_shape, read, read_part}
use Rattle.semantics_causes.specs.Taken.{Place, at_start, Took}
use Rattle.semantics_causes.specs.Due.{Part, defined_at, inner_part, Stands, into_transparent, Entered, IsDue, Spot}
use Rattle.laws_reading.specs.Values.{Terms}
use Rattle.laws_machine.specs.Frames.{awaits, option, items, elements, keyed, keyed_item, object, field, outcome_key, outcome_side, outcome_end, node, argument, passing, Frame, Frames, path, path_in}
use Rattle.laws_machine.specs.Delivery.{with_item, with_element, with_field, deliver}
use Rattle.laws_causes.proofs.Holding.{Next, first_of, NextIs, IsOf, Holds, Awaits}
use Rattle.laws_causes.proofs.Keeping.{Open, AfterValue, Fits, fits_root, fits_inner, fits_frame}
use Rattle.laws_causes.proofs.ListParts.{item_entered, item_open, item_path, item_delivered, element_entered, element_open, element_path, element_delivered, keyed_entered, keyed_open, keyed_path, keyed_delivered}
use Rattle.laws_causes.proofs.FieldParts.{field_entered, field_open, field_path, field_delivered}
use Rattle.laws_causes.proofs.OutcomeParts.{outcome_entered, outcome_open, outcome_path, outcome_delivered, some_entered, some_delivered}

-- the first of some events is the one that comes next, whether they are all one's own or not
pub next_behind : (own inside looked : List Event) (next : Next) → NextIs next (inside ++ looked) → NextIs (first_of own next) ((own ++ inside) ++ looked)
next_behind [] inside looked next h = h
next_behind (e ∷ own) inside looked next h = refl

-- and so is the first of one's own
pub own_next : (own looked : List Event) → NextIs (first_of own None) (own ++ looked)
own_next [] looked = tt
own_next (x ∷ own) looked = refl

module _ (t : Terms) where
  -- what a frame awaits is a part that is entered
  awaits_entered : (f : Frame) (whole : Part) (n : ℕ) (own : List Event) (part : Part) (next : Next) → Awaits t f whole n own part next → (inside looked : List Event) → NextIs next (inside ++ looked)
      → Entered t.setting whole n (own ++ inside) looked part inside
  awaits_entered option whole n own part next a inside looked h = some_entered t whole n own part next a inside looked h
  awaits_entered (items l) whole n own part next a inside looked h = item_entered t l whole n own part next a inside looked h
  awaits_entered (elements l) whole n own part next a inside looked h = element_entered t l whole n own part next a inside looked h
  awaits_entered (keyed_item l) whole n own part next a inside looked h = keyed_entered t l whole n own part a inside looked
  awaits_entered (field s e) whole n own part next a inside looked h = field_entered t s e whole n own part a inside looked
  awaits_entered (outcome_side r b) whole n own part next a inside looked h = outcome_entered t r b whole n own part a inside looked
  awaits_entered (awaits a) whole n own part next h inside looked i = absurd h
  awaits_entered (keyed l) whole n own part next h inside looked i = absurd h
  awaits_entered (object s) whole n own part next h inside looked i = absurd h
  awaits_entered (outcome_key r) whole n own part next h inside looked i = absurd h
  awaits_entered (outcome_end b v) whole n own part next h inside looked i = absurd h
  awaits_entered (node p) whole n own part next h inside looked i = absurd h
  awaits_entered (argument p first) whole n own part next h inside looked i = absurd h
  awaits_entered (passing os) whole n own part next h inside looked i = absurd h

  -- and what came of the whole is open where what came of it is
  awaits_open : (f : Frame) (whole : Part) (n : ℕ) (own : List Event) (part : Part) (next : Next) → Awaits t f whole n own part next → (inside : List Event) → IsOpen inside → IsOpen (own ++ inside)
  awaits_open option whole n own part next a inside h = subst (λ (l : List Event). IsOpen (l ++ inside)) (sym a.own_is) h
  awaits_open (items l) whole n own part next a inside h = item_open t l whole n own part next a inside h
  awaits_open (elements l) whole n own part next a inside h = element_open t l whole n own part next a inside h
  awaits_open (keyed_item l) whole n own part next a inside h = keyed_open t l whole n own part a inside h
  awaits_open (field s e) whole n own part next a inside h = field_open t s e whole n own part a inside h
  awaits_open (outcome_side r b) whole n own part next a inside h = outcome_open t r b whole n own part a inside h
  awaits_open (awaits a) whole n own part next h inside i = absurd h
  awaits_open (keyed l) whole n own part next h inside i = absurd h
  awaits_open (object s) whole n own part next h inside i = absurd h
  awaits_open (outcome_key r) whole n own part next h inside i = absurd h
  awaits_open (outcome_end b v) whole n own part next h inside i = absurd h
  awaits_open (node p) whole n own part next h inside i = absurd h
  awaits_open (argument p first) whole n own part next h inside i = absurd h
  awaits_open (passing os) whole n own part next h inside i = absurd h

  -- the way into it is told by the frame
  awaits_path : (f : Frame) (whole : Part) (n : ℕ) (own : List Event) (part : Part) (next : Next) → Awaits t f whole n own part next → part.path ≡ path_in t f whole.path
  awaits_path option whole n own part next a = ap (λ (p : Part). p.path) a.is
  awaits_path (items l) whole n own part next a = item_path t l whole n own part next a
  awaits_path (elements l) whole n own part next a = element_path t l whole n own part next a
  awaits_path (keyed_item l) whole n own part next a = keyed_path t l whole n own part a
  awaits_path (field s e) whole n own part next a = field_path t s e whole n own part a
  awaits_path (outcome_side r b) whole n own part next a = outcome_path t r b whole n own part a
  awaits_path (awaits a) whole n own part next h = absurd h
  awaits_path (keyed l) whole n own part next h = absurd h
  awaits_path (object s) whole n own part next h = absurd h
  awaits_path (outcome_key r) whole n own part next h = absurd h
  awaits_path (outcome_end b v) whole n own part next h = absurd h
  awaits_path (node p) whole n own part next h = absurd h
  awaits_path (argument p first) whole n own part next h = absurd h
  awaits_path (passing os) whole n own part next h = absurd h

  -- what is left of the depth for it
  awaits_depth : (f : Frame) (whole : Part) (n : ℕ) (own : List Event) (part : Part) (next : Next) → Awaits t f whole n own part next → part.depth ≡ n
  awaits_depth option whole n own part next a = ap (λ (p : Part). p.depth) a.is
  awaits_depth (items l) whole n own part next a = ap (λ (p : Part). p.depth) a.is
  awaits_depth (elements l) whole n own part next a = ap (λ (p : Part). p.depth) a.is
  awaits_depth (keyed_item l) whole n own part next a = ap (λ (p : Part). p.depth) a.is
  awaits_depth (field s e) whole n own part next a = ap (λ (p : Part). p.depth) a.is
  awaits_depth (outcome_side r b) whole n own part next a = ap (λ (p : Part). p.depth) a.is
  awaits_depth (awaits a) whole n own part next h = absurd h
  awaits_depth (keyed l) whole n own part next h = absurd h
  awaits_depth (object s) whole n own part next h = absurd h
  awaits_depth (outcome_key r) whole n own part next h = absurd h
  awaits_depth (outcome_end b v) whole n own part next h = absurd h
  awaits_depth (node p) whole n own part next h = absurd h
  awaits_depth (argument p first) whole n own part next h = absurd h
  awaits_depth (passing os) whole n own part next h = absurd h

  -- where nothing is asked of the event that comes next, it may be any
  awaits_any : (x : Event) (f : Frame) (whole : Part) (n : ℕ) (own : List Event) (part : Part) → Awaits t f whole n own part None → Awaits t f whole n own part (Some x)
  awaits_any x option whole n own part a = absurd a.on
  awaits_any x (items l) whole n own part a = absurd a.on
  awaits_any x (elements l) whole n own part a = absurd a.on
  awaits_any x (keyed_item l) whole n own part a = a
  awaits_any x (field s e) whole n own part a = a
  awaits_any x (outcome_side r b) whole n own part a = a
  awaits_any x (awaits a) whole n own part h = absurd h
  awaits_any x (keyed l) whole n own part h = absurd h
  awaits_any x (object s) whole n own part h = absurd h
  awaits_any x (outcome_key r) whole n own part h = absurd h
  awaits_any x (outcome_end b v) whole n own part h = absurd h
  awaits_any x (node p) whole n own part h = absurd h
  awaits_any x (argument p first) whole n own part h = absurd h
  awaits_any x (passing os) whole n own part h = absurd h

  -- nothing came of a transparent shape itself
  transparent_took : (n s inner : ℕ) → definition_at t.setting.registry s ≡ Some (transparent_shape inner) → Took t.setting n [] s (definition_at t.setting.registry s) at_start
  transparent_took n s inner is = subst (λ o. Took t.setting n [] s o at_start) (sym is) tt

  -- a transparent shape is read as its inner one
  read_inner : (whole : Part) (n s inner : ℕ) → whole.depth ≡ suc n → IsOf t whole s (transparent_shape inner) → (run : Run)
      → read_part t.setting whole.depth whole.what whole.source run ≡ read_part t.setting n (of_shape inner) whole.source run
  read_inner whole n s inner deep of run =
      ap (λ k. read_part t.setting k whole.what whole.source run) deep ∙ ap (λ w. read_part t.setting (suc n) w whole.source run) of.what
      ∙ ap (read_shape t.setting (read t.setting n) s whole.source run) of.defined

  -- the first event of what came stays the first
  first_same : (own : List Event) (run : Run) (next : Next) (x : Event) (xs : List Event) → own ≡ x ∷ xs → first_of own next ≡ first_of (own ++ run_events run) None
  first_same [] run next x xs is = absurd cc
  first_same (e ∷ own) run next x xs is = refl

  next_own : (own : List Event) (run : Run) (next : Next) → own ≡ [] → NextIs next (run_events run) → NextIs (first_of own next) (run_events run)
  next_own [] run next is h = h
  next_own (e ∷ own) run next is h = absurd cc

  module _ (root : Part) where
    -- What is due in a part of what is open is due in the root.
    pub fits_due : (fs : Frames) (outer : List Event) (part : Part) (next : Next) → Fits t root fs outer part next → (inside looked so_far : List Event) (due : Part) → NextIs next (inside ++ looked)
        → IsDue t.setting part.depth part inside looked due so_far → IsDue t.setting root.depth root (outer ++ inside) looked due so_far
    fits_due _ _ _ _ (fits_root next) inside looked so_far due h d = d
    fits_due _ _ _ _ (fits_inner fs outer next whole n s inner fits deep of) inside looked so_far due h d =
        fits_due fs outer whole next fits inside looked so_far due h
        (subst (λ k. IsDue t.setting k whole inside looked due so_far) (sym deep) (deep, inr (inner_part whole n inner whole.source, inside, entered, d)))
      where
        entered : Entered t.setting whole n inside looked (inner_part whole n inner whole.source) inside
        entered = record {
          so_far = [];
          place = at_start;
          stands = record { shape = s; is_shape = of.what; choice = []; chosen = refl; reaches = refl; took = transparent_took n s inner of.defined };
          between = [];
          into = into_transparent inner (ap (λ w. defined_at t.setting.registry w) of.what ∙ of.defined) refl refl refl;
          is = refl;
        }
    fits_due _ _ _ _ (fits_frame f below whole n before own part next deep fits a) inside looked so_far due h d =
        subst (λ l. IsDue t.setting root.depth root l looked due so_far) (sym (append_assoc before own inside))
        (fits_due below before whole (first_of own next) fits (own ++ inside) looked so_far due (next_behind own inside looked next h)
        (subst (λ k. IsDue t.setting k whole (own ++ inside) looked due so_far) (sym deep)
        (deep, inr (part, inside, awaits_entered f whole n own part next a inside looked h, subst (λ k. IsDue t.setting k part inside looked due so_far) (awaits_depth f whole n own part next a) d))))

    -- The root is open where a part of it is.
    pub fits_open : (fs : Frames) (outer : List Event) (part : Part) (next : Next) → Fits t root fs outer part next → (inside : List Event) → IsOpen inside → IsOpen (outer ++ inside)
    fits_open _ _ _ _ (fits_root next) inside h = h
    fits_open _ _ _ _ (fits_inner fs outer next whole n s inner fits deep of) inside h = fits_open fs outer whole next fits inside h
    fits_open _ _ _ _ (fits_frame f below whole n before own part next deep fits a) inside h =
        subst IsOpen (sym (append_assoc before own inside))
        (fits_open below before whole (first_of own next) fits (own ++ inside) (awaits_open f whole n own part next a inside h))

    -- The frames tell its path.
    pub fits_path : root.path ≡ [] → (fs : Frames) (outer : List Event) (part : Part) (next : Next) → Fits t root fs outer part next → part.path ≡ path t fs
    fits_path at _ _ _ _ (fits_root next) = at
    fits_path at _ _ _ _ (fits_inner fs outer next whole n s inner fits deep of) = fits_path at fs outer whole next fits
    fits_path at _ _ _ _ (fits_frame f below whole n before own part next deep fits a) =
        awaits_path f whole n own part next a ∙ ap (path_in t f) (fits_path at below before whole (first_of own next) fits)

    first_any : (e : Event) (own : List Event) (fs : Frames) (before : List Event) (whole : Part) (next : Next) → (first_of own next ≡ None → Fits t root fs before whole (Some e))
        → Fits t root fs before whole (first_of own next) → next ≡ None → Fits t root fs before whole (first_of own (Some e))
    first_any e [] fs before whole next rec fits is = rec is
    first_any e (x ∷ own) fs before whole next rec fits is = fits

    fits_for : (e : Event) (fs : Frames) (outer : List Event) (part : Part) (next : Next) → Fits t root fs outer part next → next ≡ None → Fits t root fs outer part (Some e)
    fits_for e _ _ _ _ (fits_root next) is = fits_root (Some e)
    fits_for e _ _ _ _ (fits_inner fs outer next whole n s inner fits deep of) is = fits_inner fs outer (Some e) whole n s inner (fits_for e fs outer whole next fits is) deep of
    fits_for e _ _ _ _ (fits_frame f below whole n before own part next deep fits a) is =
        fits_frame f below whole n before own part (Some e) deep
        (first_any e own below before whole next (fits_for e below before whole (first_of own next) fits) fits is)
        (awaits_any e f whole n own part (subst (λ x. Awaits t f whole n own part x) is a))

    -- Where it isn't known which event comes next, it may be any.
    pub fits_any : (e : Event) (fs : Frames) (outer : List Event) (part : Part) → Fits t root fs outer part None → Fits t root fs outer part (Some e)
    fits_any e fs outer part fits = fits_for e fs outer part None fits refl

    -- A part is due, at a place of it.
    abbrev pub spot_at : (fs : Frames) (outer : List Event) (part : Part) (next : Next) → Fits t root fs outer part next → (n : ℕ) → part.depth ≡ suc n → (so_far looked : List Event) → NextIs next (so_far ++ looked)
        → (place : Place) → Stands t.setting part n so_far ((outer ++ so_far) ++ looked) place → Spot t.setting root (outer ++ so_far) looked
    spot_at fs outer part next fits n deep so_far looked h place stands = record {
      due = part;
      so_far = so_far;
      is_due = fits_due fs outer part next fits so_far looked so_far part h (subst (λ k. IsDue t.setting k part so_far looked part so_far) (sym deep) (deep, inl (refl, refl)));
      left = n;
      deep = deep;
      place = place;
      stands = stands;
    }

    -- A whole value of it goes on to what is open.
    pub fits_value : (fs : Frames) (outer : List Event) (part : Part) (next : Next) → Fits t root fs outer part next → (run : Run) (v : Tree) → NextIs next (run_events run)
        → read_part t.setting part.depth part.what part.source run ≡ Some v → AfterValue t root (outer ++ run_events run) (deliver fs v)
    fits_value _ _ _ _ (fits_root next) run v h reads = tt
    fits_value _ _ _ _ (fits_inner fs outer next whole n s inner fits deep of) run v h reads = fits_value fs outer whole next fits run v h (read_inner whole n s inner deep of run ∙ reads)
    fits_value _ _ _ _ (fits_frame f below whole n before own part next deep fits a) run v h reads =
        subst (λ l. AfterValue t root l (deliver (f ∷ below) v)) (sym (append_assoc before own (run_events run))) (by_frame f a (fits_value below before whole (first_of own next) fits run))
      where
        Rec : Type 0
        Rec = (w : Tree) → NextIs (first_of own next) (run_events run) → read_part t.setting whole.depth whole.what whole.source run ≡ Some w → AfterValue t root (before ++ run_events run) (deliver below w)

        open_at : (f' : Frame) (x : Event) (xs : List Event) → own ≡ x ∷ xs → Holds t f' whole n (own ++ run_events run) → Open t root f' below (before ++ (own ++ run_events run))
        open_at f' x xs begun holds = record {
          part = whole;
          n = n;
          deep = deep;
          before = before;
          own = own ++ run_events run;
          is = refl;
          fits = subst (Fits t root below before whole) (first_same own run next x xs begun) fits;
          holds = holds;
        }

        by_frame : (f : Frame) → Awaits t f whole n own part next → Rec → AfterValue t root (before ++ (own ++ run_events run)) (deliver (f ∷ below) v)
        by_frame option a rec =
            subst (λ l. AfterValue t root l (deliver below (some v))) (ap (λ l. before ++ (l ++ run_events run)) (sym a.own_is))
            (rec (some v) (next_own own run next a.own_is h) (some_delivered t whole n own part next a deep run v h reads))
        by_frame (items l) a rec = open_at (items (with_item l v)) _ _ a.holds.is (item_delivered t l whole n own part next a run v reads)
        by_frame (elements l) a rec = open_at (elements (with_element l v)) _ _ a.holds.is (element_delivered t l whole n own part next a run v reads)
        by_frame (keyed_item l) a rec = open_at (keyed (with_element l v)) _ _ (a.own_is ∙ ap (λ l. l ++ (leaf (key a.q) ∷ [])) a.holds.is) (keyed_delivered t l whole n own part a run v reads)
        by_frame (field s e) a rec = open_at (object (with_field s e v)) _ _ (a.own_is ∙ ap (λ l. l ++ (leaf (key a.q) ∷ [])) a.holds.is) (field_delivered t s e whole n own part a run v reads)
        by_frame (outcome_side r b) a rec = open_at (outcome_end b v) _ _ (a.own_is ∙ ap (λ l. l ++ (leaf (key a.q) ∷ [])) a.holds.is) (outcome_delivered t r b whole n own part a run v reads)
        by_frame (awaits a) h rec = absurd h
        by_frame (keyed l) h rec = absurd h
        by_frame (object s) h rec = absurd h
        by_frame (outcome_key r) h rec = absurd h
        by_frame (outcome_end b v) h rec = absurd h
        by_frame (node p) h rec = absurd h
        by_frame (argument p first) h rec = absurd h
        by_frame (passing os) h rec = absurd h
