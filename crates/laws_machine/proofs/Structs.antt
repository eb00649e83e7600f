-- Structs with named fields.
use Rattle.std.proofs.Common.{◌≡◌, ℕ, ◌+◌, ◌≤◌, List, [], ◌∷◌, ◌++◌, length, Option, Some, None, Result, Ok, Err, Bool, true, false, cond, not, ◌&&◌, refl, ◌∙◌, arith}
use Rattle.semantics_lines.specs.Trees.{Tree}
use Rattle.semantics_lines.specs.Shapes.{StructShape, Registry}
use Rattle.semantics_lines.specs.Events.{Span, Key, named, nameless, ordered, key_note, scalar, key, tag, of_struct, of_sequence, Event, leaf, start, stop, span_of}
use Rattle.semantics_lines.specs.Faults.{Step, duplicate_field, Fault, Ending}
use Rattle.semantics.specs.Places.{Path}
use Rattle.semantics.specs.Keys.{Plan, plan_of, leads, key_label, after_key, is_allowed}
use Rattle.semantics.specs.Reading.{Part, of_shape, of_variant, of_tag, of_entry, source_of, plain_layout}
use Rattle.laws_reading.specs.Input.{Input, feed, ◌>>=◌, refused}
use Rattle.laws_reading.specs.Objects.{Takes}
use Rattle.laws_reading.specs.Skips.{Opened, skip_at}
use Rattle.semantics.specs.Ends.{End, leaf_at, steps_at}
use Rattle.semantics.specs.Places.{is_taken}
use Rattle.laws_reading.specs.Structs.{Got, nothing_got, end_at, taken_span, got_value, at_end_of, passed_over, at_path, key_fault, field_at, gathered, struct_at}
use Rattle.laws_reading.specs.Values.{Terms, reading}
use Rattle.laws_machine.specs.Frames.{Frame, object, field, Frames, StructPart, path}
use Rattle.laws_machine.specs.Delivery.{here, with_got, past_key}
use Rattle.laws_machine.specs.Begins.{begin_object, new_object, await_end}
use Rattle.laws_machine.specs.Steps.{entered, end_step, lead_step, field_step, struct_end}
use Rattle.laws_machine.specs.Machine.{run, on}
use Rattle.laws_machine.proofs.Turns.{resume, Meets, skip_meets, entries_meet}
use Rattle.laws_machine.proofs.Falls.{reading_falls, skip_falls}
use Rattle.laws_machine.proofs.Spans.{gathered_here}

module _ (t : Terms) (n : ℕ) (meets : Meets t n) (s : ℕ) (d : StructShape) where
  abbrev registry : Registry
  registry = t.setting.registry

  abbrev plan : Plan
  plan = plan_of registry [] d.deny (plain_layout d)

  abbrev takes : Takes Got
  takes = field_at (leaf_at registry [] (plain_layout d)) (steps_at registry [] (plain_layout d)) plan (end_at (reading t n))

  abbrev part : Got → StructPart
  part got = with_got (new_object s d n) got

  abbrev frame : Got → Frame
  frame got = object (part got)

  end_falls : (p : Part) (q : Key) (path : List Step) (input : Input) (x : Tree × Input) → end_at (reading t n) p q path input ≡ Ok x → length x.1.events ≤ length input.events
  end_falls (of_shape s) q path input x e = omega (arith, reading_falls t n s (source_of q) path input x e)
  end_falls (of_variant j v) q path input x e = absurd cc
  end_falls (of_tag u) q path input x e = absurd cc
  end_falls (of_entry i j) q path input x e = absurd cc

  -- what stands at the end of a path is read as it is awaited
  end_meets : (p : Part) (q : Key) (fs : Frames) (input : Input) → (await_end t n p q fs input.last >>= on t input) ≡ (end_at (reading t n) p q (path t fs) input >>= resume t fs)
  end_meets (of_shape s) q fs input = meets s (source_of q) fs input
  end_meets (of_variant j v) q fs input = refl
  end_meets (of_tag u) q fs input = refl
  end_meets (of_entry i j) q fs input = refl

  module _ (got : Got) (fs : Frames) (q : Key) (es : List Event) (ending : Ending) (then : Got → Input → Result (Tree × Input) Fault)
      (again : (got' : Got) (rest : Input) → length rest.events ≤ length es → run t (frame got' ∷ fs) rest ≡ then got' rest) where
    abbrev here_on : Input
    here_on = feed es ending (key_note q).span

    by_value : (p : Path) (o : End) (r : Result (Tree × Input) Fault) → end_at (reading t n) o.part q (path t fs ++ steps_at registry [] (plain_layout d) p) here_on ≡ r
        → (r >>= resume t (field (past_key (part got) q) (entered p q) ∷ fs)) ≡ ((r >>= got_value (after_key got.count q) got.values p q) >>= λ x. then x.0 x.1)
    by_value p o (Ok x) is = again _ x.1 (omega (arith, end_falls o.part q _ here_on x is))
    by_value p o (Err f) is = refl

    by_taken : (p : Path) (o : End) (b : Bool)
        → (cond b (refused (duplicate_field (key_label plan got.count q) (taken_span p got.values)) (path t fs) here_on) (await_end t n o.part q (field (past_key (part got) q) (entered p q) ∷ fs) (key_note q).span) >>= on t here_on)
        ≡ (cond b (refused (duplicate_field (key_label plan got.count q) (taken_span p got.values)) (path t fs) here_on)
        (end_at (reading t n) o.part q (path t fs ++ steps_at registry [] (plain_layout d) p) here_on >>= got_value (after_key got.count q) got.values p q) >>= λ x. then x.0 x.1)
    by_taken p o true = refl
    by_taken p o false =
        end_meets o.part q (field (past_key (part got) q) (entered p q) ∷ fs) here_on
        ∙ by_value p o (end_at (reading t n) o.part q (path t fs ++ steps_at registry [] (plain_layout d) p) here_on) refl

    by_end : (p : Path) (o : Option End) → (end_step (key_label plan got.count q) o t (past_key (part got) q) p q fs >>= on t here_on)
        ≡ (at_end_of (key_label plan got.count q) o (steps_at registry [] (plain_layout d) p) (end_at (reading t n)) p q (after_key got.count q) got.values (path t fs) here_on >>= λ x. then x.0 x.1)
    by_end p None = refl
    by_end p (Some o) = by_taken p o (not o.many && is_taken p got.values)

    by_skip : (r : Result (Opened × Input) Fault) → skip_at (path t fs) here_on ≡ r
        → (r >>= λ x. run t (object (past_key (part got) q) ∷ fs) x.1) ≡ ((r >>= passed_over (after_key got.count q) got.values) >>= λ x. then x.0 x.1)
    by_skip (Ok x) is = again _ x.1 (omega (arith, skip_falls (path t fs) here_on x is))
    by_skip (Err f) is = refl

    by_lead : (o : Option Path) → (lead_step (key_label plan got.count q) o t (part got) q fs >>= on t here_on)
        ≡ (at_path (key_label plan got.count q) (leaf_at registry [] (plain_layout d)) (steps_at registry [] (plain_layout d)) o (end_at (reading t n)) q (after_key got.count q) got.values (path t fs) here_on >>= λ x. then x.0 x.1)
    by_lead None = skip_meets t (object (past_key (part got) q) ∷ fs) here_on ∙ by_skip (skip_at (path t fs) here_on) refl
    by_lead (Some p) = by_end p (leaf_at registry [] (plain_layout d) p)

    by_allowed : (b : Bool) → (cond b (lead_step (key_label plan got.count q) (leads plan got.count q) t (part got) q fs) (key_fault q (path t fs) (here (key_note q).span)) >>= on t here_on)
        ≡ (cond b (at_path (key_label plan got.count q) (leaf_at registry [] (plain_layout d)) (steps_at registry [] (plain_layout d)) (leads plan got.count q) (end_at (reading t n)) q (after_key got.count q) got.values (path t fs) here_on) (key_fault q (path t fs) here_on)
        >>= λ x. then x.0 x.1)
    by_allowed true = by_lead (leads plan got.count q)
    by_allowed false = by_key q
      where
        by_key : (k : Key) → (key_fault k (path t fs) (here (key_note q).span) >>= on t here_on) ≡ (key_fault k (path t fs) here_on >>= λ (x : Got × Input). then x.0 x.1)
        by_key (named u m note) = refl
        by_key (nameless m note) = refl
        by_key (ordered note) = refl

    field_meets : (field_step t (part got) fs q >>= on t here_on) ≡ (takes q got (path t fs) here_on >>= λ x. then x.0 x.1)
    field_meets = by_allowed (is_allowed plan got.count q)

  pub struct_meets : (fs : Frames) (e : Event) (es : List Event) (ending : Ending) (last : Span)
      → (begin_object t (new_object s d n) fs e >>= on t (feed es ending (span_of e))) ≡ (struct_at registry (end_at (reading t n)) [] d.deny (plain_layout d) s (path t fs) (feed (e ∷ es) ending last) >>= resume t fs)
  struct_meets fs (start of_struct c m) es ending last =
      entries_meet t takes (gathered registry [] (plain_layout d) s) frame (λ got fs q. field_step t (part got) fs q) (λ got fs span. struct_end t (part got) fs span)
      (λ got fs last e. refl) (λ got fs input. gathered_here registry [] (plain_layout d) s got (path t fs) input) field_meets (length es + 1) nothing_got fs es ending m.span (omega arith)
  struct_meets fs (start of_sequence c m) es ending last = refl
  struct_meets fs (leaf (scalar x m)) es ending last = refl
  struct_meets fs (leaf (key q)) es ending last = refl
  struct_meets fs (leaf (tag v m)) es ending last = refl
  struct_meets fs (stop b m) es ending last = refl
