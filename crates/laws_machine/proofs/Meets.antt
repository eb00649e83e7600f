-- What the machine does with a value is what the recursion reads, and then it goes on with what is open.
use Rattle.std.proofs.Common.{◌≡◌, ℕ, zero, suc, List, [], ◌∷◌, Option, Some, None, Result, Ok, Err, Bool, true, false, refl, ◌∙◌, ap}
use Rattle.semantics_lines.specs.Trees.{Tree}
use Rattle.semantics_lines.specs.Shapes.{is_tuple, StructShape, Definition, scalar_shape, option_shape, result_shape, list_shape, array_shape, set_shape, map_shape, struct_shape, enum_shape, transparent_shape, definition_at}
use Rattle.semantics_lines.specs.Events.{Span, Event, span_of}
use Rattle.semantics_lines.specs.Faults.{Fault, Ending}
use Rattle.semantics.specs.Labels.{label_at}
use Rattle.semantics_lines.specs.Faults.{ended_at}
use Rattle.semantics.specs.Reading.{Source, from_events}
use Rattle.laws_reading.specs.Input.{Input, feed, ◌>>=◌}
use Rattle.laws_reading.specs.Values.{Terms, target_of, struct_as, value_at, reading}
use Rattle.laws_machine.specs.Frames.{awaits, Frames, path}
use Rattle.laws_machine.specs.Begins.{begin_struct, begin_as, begin, await_as, await}
use Rattle.laws_machine.specs.Machine.{run, on}
use Rattle.laws_machine.specs.Laws.{MachineReads}
use Rattle.laws_machine.proofs.Turns.{resume, Meets}
use Rattle.laws_machine.proofs.Lists.{items_meets}
use Rattle.laws_machine.proofs.Structs.{struct_meets}
use Rattle.laws_machine.proofs.Tuples.{tuple_meets}
use Rattle.laws_machine.proofs.Results.{option_meets, result_meets}
use Rattle.laws_machine.proofs.Nodes.{scalar_meets}

module _ (t : Terms) where
  module _ (n : ℕ) (meets : Meets t n) (s : ℕ) (source : Source) (fs : Frames) (ending : Ending) (last : Span) where
    -- a value of this definition, by its first event
    abbrev begun : Option Definition → List Event → Result (Tree × Input) Fault
    begun o [] = Err (ended_at ending last)
    begun o (e ∷ es) = begin_as t (begin t n) n s from_events o fs last e >>= on t (feed es ending (span_of e))

    abbrev read_on : Option Definition → List Event → Result (Tree × Input) Fault
    read_on o es = value_at t (reading t n) s source o (path t fs) (feed es ending last) >>= resume t fs

    struct_as_meets : (d : StructShape) (b : Bool) (e : Event) (es : List Event)
        → (begin_struct t s d n b fs e >>= on t (feed es ending (span_of e))) ≡ (struct_as t (reading t n) s d b (path t fs) (feed (e ∷ es) ending last) >>= resume t fs)
    struct_as_meets d true e es = tuple_meets t n meets s d fs e es ending last
    struct_as_meets d false e es = struct_meets t n meets s d fs e es ending last

    empty_struct : (d : StructShape) (b : Bool) → Err (ended_at ending last) ≡ (struct_as t (reading t n) s d b (path t fs) (feed [] ending last) >>= resume t fs)
    empty_struct d true = refl
    empty_struct d false = refl

    awaits_meets : (es : List Event) → run t (awaits (record { shape = s; depth = n }) ∷ fs) (feed es ending last) ≡ begun (definition_at t.setting.registry s) es
    awaits_meets [] = refl
    awaits_meets (e ∷ es) = refl

    stands : (o : Option Definition) → definition_at t.setting.registry s ≡ o → (es : List Event) → begun o es ≡ read_on o es
        → run t (awaits (record { shape = s; depth = n }) ∷ fs) (feed es ending last) ≡ read_on o es
    stands o is es same = awaits_meets es ∙ ap (λ d. begun d es) is ∙ same

    value_meets : (o : Option Definition) → definition_at t.setting.registry s ≡ o → (es : List Event) → (await_as (await t n) n s source o fs last >>= on t (feed es ending last)) ≡ read_on o es
    value_meets None is [] = stands None is [] refl
    value_meets None is (e ∷ es) = stands None is (e ∷ es) refl
    value_meets (Some (scalar_shape x)) is [] = stands (Some (scalar_shape x)) is [] refl
    value_meets (Some (scalar_shape x)) is (e ∷ es) = stands (Some (scalar_shape x)) is (e ∷ es) (scalar_meets t (target_of t s x) fs e es ending last)
    value_meets (Some (option_shape i)) is [] = stands (Some (option_shape i)) is [] refl
    value_meets (Some (option_shape i)) is (e ∷ es) = stands (Some (option_shape i)) is (e ∷ es) (option_meets t n meets i fs e es ending last)
    value_meets (Some (result_shape i j)) is [] = stands (Some (result_shape i j)) is [] refl
    value_meets (Some (result_shape i j)) is (e ∷ es) = stands (Some (result_shape i j)) is (e ∷ es) (result_meets t n meets i j fs e es ending last)
    value_meets (Some (list_shape i)) is [] = stands (Some (list_shape i)) is [] refl
    value_meets (Some (list_shape i)) is (e ∷ es) = stands (Some (list_shape i)) is (e ∷ es) (items_meets t n meets (record { shape = label_at t.setting.registry s; len = None }) i fs e es ending last)
    value_meets (Some (array_shape i len)) is [] = stands (Some (array_shape i len)) is [] refl
    value_meets (Some (array_shape i len)) is (e ∷ es) = stands (Some (array_shape i len)) is (e ∷ es) (items_meets t n meets (record { shape = label_at t.setting.registry s; len = Some len }) i fs e es ending last)
    value_meets (Some (struct_shape d)) is [] = stands (Some (struct_shape d)) is [] (empty_struct d (is_tuple d.kind))
    value_meets (Some (struct_shape d)) is (e ∷ es) = stands (Some (struct_shape d)) is (e ∷ es) (struct_as_meets d (is_tuple d.kind) e es)
    value_meets (Some (set_shape i)) is [] = stands (Some (set_shape i)) is [] refl
    value_meets (Some (set_shape i)) is (e ∷ es) = stands (Some (set_shape i)) is (e ∷ es) refl
    value_meets (Some (map_shape i j)) is [] = stands (Some (map_shape i j)) is [] refl
    value_meets (Some (map_shape i j)) is (e ∷ es) = stands (Some (map_shape i j)) is (e ∷ es) refl
    value_meets (Some (enum_shape form vs)) is [] = stands (Some (enum_shape form vs)) is [] refl
    value_meets (Some (enum_shape form vs)) is (e ∷ es) = stands (Some (enum_shape form vs)) is (e ∷ es) refl
    value_meets (Some (transparent_shape i)) is es = meets i source fs (feed es ending last)

  reading_meets : (n : ℕ) → Meets t n
  reading_meets zero s source fs input = refl
  reading_meets (suc n) s source fs input = value_meets n (reading_meets n) s source fs input.ending input.last (definition_at t.setting.registry s) refl input.events

  whole_value : (r : Result (Tree × Input) Fault) → (r >>= resume t []) ≡ r
  whole_value (Ok x) = refl
  whole_value (Err f) = refl

pub machine_reads : MachineReads
machine_reads t n s source input = reading_meets t n s source [] input ∙ whole_value t (reading t n s source [] input)
