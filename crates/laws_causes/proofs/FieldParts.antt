-- What the keys of structs lead to, as parts that come.
use Rattle.std.proofs.Common.{◌≡◌, ℕ, List, [], ◌∷◌, ◌++◌, Some, false, refl, sym, ap, ◌∙◌, subst, append_assoc}
use Rattle.semantics_lines.specs.Trees.{Tree}
use Rattle.semantics_lines.specs.Events.{key, Event, leaf}
use Rattle.semantics.specs.Runs.{Run, run_events}
use Rattle.semantics.specs.Reading.{source_of, read_part}
use Rattle.semantics.specs.Places.{is_taken}
use Rattle.semantics.specs.Ends.{End, steps_at}
use Rattle.semantics.specs.Seen.{IsOpen}
use Rattle.semantics_causes.specs.Taken.{end_in, placed_in, in_object, TookEntry}
use Rattle.semantics_causes.specs.Due.{Part, into_field, Entered as EntersPart}
use Rattle.laws_reading.specs.Values.{Terms}
use Rattle.laws_reading.proofs.Objects.{entry}
use Rattle.laws_machine.specs.Frames.{StructPart, Entered, field, path_in}
use Rattle.laws_machine.specs.Delivery.{past_key, with_field}
use Rattle.laws_machine.specs.Steps.{entered}
use Rattle.laws_causes.proofs.Open.{entry_open}
use Rattle.laws_causes.proofs.Holding.{HoldsObject, AwaitsField}
use Rattle.laws_causes.proofs.ObjectHolds.{none_taken, keeps_field, is_object, object_stands, holds_more}

module _ (t : Terms) (s : StructPart) (e : Entered) (whole : Part) (n : ℕ) (own : List Event) (part : Part) (a : AwaitsField t s e whole n own part) where
  pub field_entered : (inside looked : List Event) → EntersPart t.setting whole n (own ++ inside) looked part inside
  field_entered inside looked = record {
    so_far = a.before;
    place = in_object a.holds.kind a.holds.entries;
    stands = object_stands t a.earlier whole n a.before a.holds ((own ++ inside) ++ looked);
    between = leaf (key a.q) ∷ [];
    into = into_field a.holds.struct (is_object t a.earlier whole n a.before a.holds) a.holds.kind a.holds.entries refl a.q refl a.takes a.way a.end a.leads a.ends a.is;
    is = ap (λ l. l ++ inside) a.own_is ∙ append_assoc a.before (leaf (key a.q) ∷ []) inside;
  }

  pub field_open : (inside : List Event) → IsOpen inside → IsOpen (own ++ inside)
  field_open inside h =
      subst IsOpen
      (ap (λ l. l ++ (leaf (key a.q) ∷ inside)) (sym a.holds.is) ∙ sym (append_assoc a.before (leaf (key a.q) ∷ []) inside) ∙ ap (λ l. l ++ inside) (sym a.own_is))
      (entry_open a.holds.kind a.holds.note a.holds.entries a.q inside h)

  pub field_path : part.path ≡ path_in t (field s e) whole.path
  field_path =
      ap (λ (p : Part). p.path) a.is
      ∙ ap (λ l. whole.path ++ steps_at t.setting.registry [] l a.way) (sym a.holds.defined.layout)
      ∙ ap (λ c. whole.path ++ steps_at t.setting.registry c a.earlier.layout a.way) (sym a.holds.defined.choice)
      ∙ ap (λ (z : StructPart). whole.path ++ steps_at t.setting.registry z.choice z.layout a.way) (sym a.past)
      ∙ ap (λ (z : Entered). whole.path ++ steps_at t.setting.registry s.choice s.layout z.path) (sym a.entered)

  pub field_delivered : (run : Run) (v : Tree) → read_part t.setting part.depth part.what part.source run ≡ Some v → HoldsObject t (with_field s e v) whole n (own ++ run_events run)
  field_delivered run v reads =
      subst (λ (z : StructPart). HoldsObject t (with_field z e v) whole n (own ++ run_events run)) (sym a.past)
      (subst (λ (z : Entered). HoldsObject t (with_field (past_key a.earlier a.q) z v) whole n (own ++ run_events run)) (sym a.entered)
      (subst (λ l. HoldsObject t (with_field (past_key a.earlier a.q) (entered a.way a.q) v) whole n (l ++ run_events run)) (sym a.own_is)
      (holds_more t a.earlier whole n a.before a.holds (with_field (past_key a.earlier a.q) (entered a.way a.q) v).got a.q run took
      (keeps_field t n a.holds.struct a.holds.entries a.earlier.got a.q run a.way a.end v a.holds.keeps a.leads a.ends
      none_there reads_end))))
    where
      none_there : is_taken a.way (placed_in t.setting.registry [] a.holds.struct a.holds.entries) ≡ false
      none_there =
          none_taken t.setting.registry a.holds.struct (end_in t.setting.registry [] a.holds.struct a.way) a.end a.way (placed_in t.setting.registry [] a.holds.struct a.holds.entries)
          refl a.ends (a.takes.free a.way a.leads)

      reads_end : read_part t.setting n a.end.part (source_of a.q) run ≡ Some v
      reads_end = subst (λ (p : Part). read_part t.setting p.depth p.what p.source run ≡ Some v) a.is reads

      took : TookEntry t.setting n [] a.holds.struct a.holds.entries (entry a.q run)
      took = record {
        key = a.takes;
        value = λ way end lead ends.
            let same_way : a.way ≡ way = (let there = sym a.leads ∙ lead in cc) in
            let same_end : a.end ≡ end = (let there = sym a.ends ∙ ap (end_in t.setting.registry [] a.holds.struct) same_way ∙ ends in cc) in
            (v, subst (λ (z : End). read_part t.setting n z.part (source_of a.q) run ≡ Some v) same_end reads_end);
      }
