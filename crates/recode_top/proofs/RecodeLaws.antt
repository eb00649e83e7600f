-- What recoding answers, by what the reader and the writer answer.
use Rattle.std.proofs.Common.{◌≡◌, ◌≤◌, ℕ, zero, suc, List, [], ◌∷◌, ◌++◌, Result, Ok, Err, inl, inr, refl, sym, ap, ◌∙◌, subst, arith}
use Rattle.std.specs.Prelude.{IfOk, IfErr}
use Rattle.semantics_lines.specs.Trees.{Tree}
use Rattle.semantics_lines.specs.Shapes.{Registry}
use Rattle.semantics_lines.specs.Events.{no_span, Event}
use Rattle.semantics.specs.Runs.{one, group, tagged, Run, run_events}
use Rattle.semantics_lines.specs.Faults.{ends, Coming}
use Rattle.semantics_lines.specs.Documents.{Document}
use Rattle.semantics.specs.Writing.{Written, write}
use Rattle.semantics.specs.Reading.{Setting, from_events, Reads}
use Rattle.semantics_lines.specs.Tapes.{document_tape, IsTape}
use Rattle.semantics.specs.Recoding.{tape_setting, Recodes, IsReadable}
use Rattle.semantics_lines.specs.Tapes.{to_the_end}
use Rattle.shape_types.specs.declared.value.Value.{Value}
use Rattle.shape_types.specs.Trees.{tree_of}
use Rattle.event_core.specs.declared.error.SerializeError.TheVariants.{Unsupported}
use Rattle.laws_reading.specs.Input.{Input, feed}
use Rattle.tape_text.specs.Coming.{coming_from}
use Rattle.tape_text.specs.Laws.{TapeIsRead}
use Rattle.recode_top.specs.declared.error.RecodeError.{RecodeError}
use Rattle.recode_top.specs.declared.error.RecodeError.TheVariants as errors
use Rattle.recode_top.specs.Recode.{told, IsAlone, IsNotAlone, IsTreeUnlessMemory, FindsAlone, IsTapeUnlessMemory, IsWritten, IsUnwritten, IsRefusedFor}

-- a whole run has an event
run_some : (r : Run) → [] ≡ run_events r → ⊥
run_some (one s n) e = cc
run_some (group b k n i) e = cc
run_some (tagged t n r) e = cc

none_before : (front : List Event) (e : Event) (rest : List Event) → [] ≡ front ++ (e ∷ rest) → ⊥
none_before [] e rest h = cc
none_before (x ∷ xs) e rest h = cc

-- where events are read ahead, the reader is told all that comes
abbrev whole : Coming → Input
whole c = feed c.events c.ending no_span

told_some : (n : ℕ) (c : Coming) → 1 ≤ n → told n c ≡ whole c
told_some zero c h = absurd (omega (arith, h))
told_some (suc n) c h = refl

-- no value is read where no event is read ahead
alone_whole : (g : Setting) (root depth n : ℕ) (c : Coming) (v : Tree) → IsAlone g root depth (told n c) v → IsAlone g root depth (whole c) v
alone_whole g root depth zero c v alone = absurd (run_some alone.reads.run alone.reads.cut)
alone_whole g root depth (suc n) c v alone = alone

pub alone_room : (g : Setting) (root depth n : ℕ) (c : Coming) (v : Tree) → IsAlone g root depth (told n c) v → 1 ≤ n
alone_room g root depth zero c v alone = absurd (run_some alone.reads.run alone.reads.cut)
alone_room g root depth (suc n) c v alone = omega arith

module _ (g : Registry) (root depth : ℕ) (input : List ℕ) (tape : TapeIsRead input) where
  abbrev coming : Coming
  coming = coming_from 0 input

  -- the answer where a value is read
  module _ (capacity : ℕ) (v : Tree) (alone : IsAlone (tape_setting g) root depth (told capacity coming) v) where
    stands : IsAlone (tape_setting g) root depth (whole coming) v
    stands = alone_whole (tape_setting g) root depth capacity coming v alone

    taped : IsTape coming.events input
    taped = tape.tape coming.events (ap (λ z. record { events = coming.events; ending = z }) stands.ending)

    pub answer_sound : (r : Result (List ℕ) RecodeError) → IfOk r (IsWritten (write g root v)) → IfOk r (Recodes g root depth input)
    answer_sound (Ok out) (d, writes, is) = record {
      events = coming.events;
      taped = taped;
      value = v;
      reads = stands.reads;
      of_root = stands.of_root;
      document = d;
      written = writes;
      is = is;
    }
    answer_sound (Err e) w = tt

    pub answer_room : (r : Result (List ℕ) RecodeError) → IfOk r (λ out. 1 ≤ capacity)
    answer_room (Ok out) = alone_room (tape_setting g) root depth capacity coming v alone
    answer_room (Err e) = tt

    pub answer_cause : (r : Result (List ℕ) RecodeError) → IfErr r (IsUnwritten (write g root v)) → IfErr r (IsRefusedFor g root capacity depth input)
    answer_cause (Ok out) u = tt
    answer_cause (Err (errors.Serialize (Unsupported message))) (why, none) =
        (alone_room (tape_setting g) root depth capacity coming v alone, record { events = coming.events; taped = taped; unwritten = record { value = v; reads = stands.reads; reason = why; unwritten = none } })
    answer_cause (Err errors.Alloc) u = tt
    answer_cause (Err (errors.Deserialize e)) u = absurd u
    answer_cause (Err (errors.Trailing kind span)) u = absurd u
    answer_cause (Err (errors.Serialize _)) u = absurd u

  -- what can be read is found
  finds_readable : (capacity : ℕ) (result : Result Value RecodeError) → FindsAlone (tape_setting g) root depth (told capacity coming) result → 1 ≤ capacity
      → (d : Document) (r : IsReadable g root depth input d) → IsTreeUnlessMemory r.value result
  finds_readable capacity result finds some d r =
      let comes : coming ≡ record { events = r.events; ending = ends } = tape.only r.events ends (to_the_end refl r.taped) in
      let is : feed r.events ends no_span ≡ told capacity coming = sym (told_some capacity coming some ∙ ap whole comes) in
      finds r.value (subst (λ (i : Input). Reads (tape_setting g) depth root from_events i.events r.value) is r.reads) (sym (ap (λ i. i.ending) is))

  written_once : (v : Tree) (d : Document) → write g root v ≡ Ok d → (r : Result (List ℕ) RecodeError) → IfOk r (IsWritten (write g root v)) → IfErr r (IsUnwritten (write g root v)) → IsTapeUnlessMemory (document_tape d) r
  written_once v d same (Ok out) (x, writes, is) u = let e : ◌≡◌ {A = Written Document} (Ok x) (Ok d) = sym writes ∙ same in let one : x ≡ d = cc in is ∙ ap document_tape one
  written_once v d same (Err (errors.Serialize (Unsupported message))) w (why, none) = absurd (let e : ◌≡◌ {A = Written Document} (Err why) (Ok d) = sym none ∙ same in cc)
  written_once v d same (Err errors.Alloc) w u = tt
  written_once v d same (Err _) w u = u

  pub answer_complete : (capacity : ℕ) (v : Value) → FindsAlone (tape_setting g) root depth (told capacity coming) (Ok v) → 1 ≤ capacity
      → (r : Result (List ℕ) RecodeError) → IfOk r (IsWritten (write g root (tree_of v))) → IfErr r (IsUnwritten (write g root (tree_of v)))
      → (d : Document) → IsReadable g root depth input d → IsTapeUnlessMemory (document_tape d) r
  answer_complete capacity v finds some r w u d readable =
      written_once (tree_of v) d (ap (write g root) (finds_readable capacity (Ok v) finds some d readable) ∙ readable.written) r w u

  -- the answer where none is read
  pub refused_complete : (capacity : ℕ) (e : RecodeError) → FindsAlone (tape_setting g) root depth (told capacity coming) (Err e) → 1 ≤ capacity
      → (d : Document) → IsReadable g root depth input d → IsTapeUnlessMemory (document_tape d) (Err e)
  refused_complete capacity (errors.Deserialize e) finds some d r = finds_readable capacity (Err (errors.Deserialize e)) finds some d r
  refused_complete capacity (errors.Trailing kind span) finds some d r = finds_readable capacity (Err (errors.Trailing kind span)) finds some d r
  refused_complete capacity (errors.Serialize e) finds some d r = finds_readable capacity (Err (errors.Serialize e)) finds some d r
  refused_complete capacity errors.Alloc finds some d r = tt

  pub refused_cause : (capacity : ℕ) (e : RecodeError) → IsNotAlone (tape_setting g) root depth (told capacity coming) e → IsRefusedFor g root capacity depth input e
  refused_cause zero (errors.Deserialize e) (inl cause) = cause
  refused_cause zero (errors.Deserialize e) (inr behind) = absurd (run_some behind.reads.run behind.reads.cut)
  refused_cause zero (errors.Trailing kind span) b = absurd (none_before b.trailing.front b.trailing.event b.trailing.rest b.trailing.cut)
  refused_cause (suc n) (errors.Deserialize e) why = record { events = coming.events; ending = coming.ending; comes = tape.comes; cause = why }
  refused_cause (suc n) (errors.Trailing kind span) b =
      (omega arith, record { events = coming.events; ending = coming.ending; comes = tape.comes; trailing = b.trailing; called = b.called })
  refused_cause _ (errors.Serialize e) why = absurd why
  refused_cause _ errors.Alloc why = tt
