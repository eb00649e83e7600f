-- From what the machine answers to what that means.
use Rattle.std.proofs.Common.{◌≡◌, ◌⊎◌, inl, inr, ℕ, List, [], ◌++◌, Bool, Option, Some, None, Result, Ok, Err, sym, ap, ◌∙◌, subst}
use Rattle.semantics_lines.specs.Trees.{Tree}
use Rattle.semantics_lines.specs.Shapes.{Registry}
use Rattle.semantics_lines.specs.Events.{Event}
use Rattle.semantics_lines.specs.Faults.{Fault}
use Rattle.semantics.specs.Registry.{IsRegistry}
use Rattle.semantics.specs.Runs.{Run, run_events}
use Rattle.semantics.specs.Reading.{Setting, from_events, read}
use Rattle.semantics.specs.Seen.{last_span}
use Rattle.semantics_causes.specs.Refusals.{HasCauseFrom}
use Rattle.laws.specs.Laws.{ReadsTyped}
use Rattle.laws_reading.specs.Input.{Input, feed}
use Rattle.laws_reading.specs.Laws.{ReadingMeans}
use Rattle.laws_reading.specs.Values.{Terms, reading}
use Rattle.laws_causes.specs.Stopping.{Stopping, stop_at, stopping, untold}
use Rattle.laws_causes.specs.Laws.{StoppingReads, Leaves, StoppingFails}
use Rattle.event_core.specs.Faults.{fault_of}
use Rattle.event_core.specs.declared.error.DeserializeError.{DeserializeError}
use Rattle.format_read.specs.Deserializing.{setting, IsMemory, IsStopError, IsRead, Answers, IsExact, IsCaused}
use Rattle.format_read.specs.Seats.{Seat, HasSource}
use Rattle.format_read.specs.Stopping.{StopsAt}
use Rattle.format_read.proofs.Kept.{stopping_leaves}

-- what holds by the task holds by the deserializer, whose registry and parser it has
pub at_setting : (Q : Setting → Type 0) (r g : Registry) (borrow d describes : Bool) → r ≡ g → d ≡ describes → Q (setting r borrow d) → Q (setting g borrow describes)
at_setting Q r g borrow d describes same self h = subst (λ (x : Registry). Q (setting x borrow describes)) same (subst (λ (x : Bool). Q (setting r borrow x)) self h)

module _ (terms : Terms) (reads : StoppingReads) (s : ℕ) (old new : Input) where
  -- what the machine comes to
  abbrev comes : Stopping
  comes = stopping terms terms.limit s from_events old

  -- what is read
  abbrev told : Result (Tree × Input) Fault
  told = reading terms terms.limit s from_events [] old

  by_law : (r : Stopping) → comes ≡ r → told ≡ untold r
  by_law r is = sym (reads terms terms.limit s from_events old) ∙ ap untold is

  pub is_read : IsRegistry terms.setting.registry → ReadingMeans → ReadsTyped → (v : Tree) → comes ≡ Ok (v, new) → IsRead terms.setting terms.limit s old new v
  is_read checked means typed v is =
      let (run, cut, ending, last, meant) = (means terms terms.limit s from_events).0 [] old.events old.ending old.last v new (by_law (Ok (v, new)) is) in
      record { run = run; cut = cut; ending = ending; last = last; reads = meant; of_shape = typed terms.setting checked terms.limit s from_events run v meant }

  -- a run that is read comes first
  complete : ReadingMeans → (run : Run) (rest : List Event) (w : Tree) → old.events ≡ run_events run ++ rest → read terms.setting terms.limit s from_events run ≡ Some w
      → told ≡ Ok (w, feed rest old.ending (last_span old.last (run_events run)))
  complete means run rest w cut meant =
      ap (λ (es : List Event). reading terms terms.limit s from_events [] (feed es old.ending old.last)) cut
      ∙ (means terms terms.limit s from_events).1 [] run w rest old.ending old.last meant

  pub answers_read : {V : Type 0} (tree : V → Tree) → ReadingMeans → (v : V) → comes ≡ Ok (tree v, new) → Answers tree terms.setting terms.limit s old new (Ok v)
  answers_read tree means v is run rest w cut meant =
      let same : ◌≡◌ {A = Result (Tree × Input) Fault} (Ok (tree v, new)) (Ok (w, feed rest old.ending (last_span old.last (run_events run)))) = sym (by_law (Ok (tree v, new)) is) ∙ complete means run rest w cut meant in
      let pair : ◌≡◌ {A = Tree × Input} (tree v, new) (w, feed rest old.ending (last_span old.last (run_events run))) = cc in
      (ap (λ (x : Tree × Input). x.0) pair, ap (λ (x : Tree × Input). x.1.events) pair)

  pub answers_stop : {V : Type 0} (tree : V → Tree) → ReadingMeans → (o : Option Fault) (e : DeserializeError) → StopsAt {Y = Tree × Input} o new comes → IsStopError o e → Answers tree terms.setting terms.limit s old new (Err e)
  answers_stop tree means None e told_at is run rest w cut meant = is
  answers_stop tree means (Some f) e told_at is run rest w cut meant =
      absurd (let same : ◌≡◌ {A = Result (Tree × Input) Fault} (Err f) (Ok (w, feed rest old.ending (last_span old.last (run_events run)))) = sym (by_law (stop_at f new) told_at) ∙ complete means run rest w cut meant in cc)

  pub exact_read : {V : Type 0} (tree : V → Tree) (v : V) → comes ≡ Ok (tree v, new) → IsExact tree terms.setting terms.limit s old new (Ok v)
  exact_read tree v is = by_law (Ok (tree v, new)) is

  pub exact_stop : {V : Type 0} (tree : V → Tree) (o : Option Fault) (e : DeserializeError) → StopsAt {Y = Tree × Input} o new comes → IsStopError o e → IsExact tree terms.setting terms.limit s old new (Err e)
  exact_stop tree None e told_at is = inl is
  exact_stop tree (Some f) e told_at (inl memory) = inl memory
  exact_stop tree (Some f) e told_at (inr is) = inr (by_law (stop_at f new) told_at ∙ ap Err (sym is))

  pub is_caused : IsRegistry terms.setting.registry → StoppingFails → (o : Option Fault) (e : DeserializeError) → StopsAt {Y = Tree × Input} o new comes → IsStopError o e → IsCaused terms.setting terms.limit s old new e
  is_caused checked fail None e told_at is = inl is
  is_caused checked fail (Some f) e told_at (inl memory) = inl memory
  is_caused checked fail (Some f) e told_at (inr is) =
      inr (subst (λ g. HasCauseFrom terms.setting s terms.limit old.last old.events old.ending new.events g) (sym is) (fail terms s old f new checked told_at).1)

-- what is left
pub keeps_read : (t : Terms) (n s : ℕ) (old new : Input) (v : Tree) → stopping t n s from_events old ≡ Ok (v, new) → Leaves old new
keeps_read t n s old new v is = stopping_leaves t n s from_events old (Ok (v, new)) is

pub keeps_stop : (t : Terms) (n s : ℕ) (old new : Input) (o : Option Fault) (e : DeserializeError) → StopsAt {Y = Tree × Input} o new (stopping t n s from_events old) → IsStopError o e → IsMemory e ⊎ Leaves old new
keeps_stop t n s old new None e told_at is = inl is
keeps_stop t n s old new (Some f) e told_at is = inr (stopping_leaves t n s from_events old (stop_at f new) told_at)

-- where a fault comes from
pub has_source : (o : Option Fault) (e : DeserializeError) (old new : Seat) → HasSource o old new → IsStopError o e → IsMemory e ⊎ HasSource (Some (fault_of e)) old new
has_source None e old new source is = inl is
has_source (Some f) e old new source (inl memory) = inl memory
has_source (Some f) e old new source (inr is) = inr (subst (λ g. HasSource (Some g) old new) (sym is) source)
