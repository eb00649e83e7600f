use Rattle.std.proofs.Common.{◌≡◌, ◌∙◌, ◌+◌, ℕ, length, map, true, false, sym, ap, arith}
use Rattle.std.proofs.lemmas.List.{length-map}
use Rattle.semantics.specs.Labels.{label_at}
use Rattle.semantics.specs.Typed.{has_room}
use Rattle.semantics_lines.specs.Faults.{too_deep}
use Rattle.event_core.specs.Events.{event_of}
use Rattle.event_core.specs.Metadata.{span_view}
use Rattle.laws_machine.specs.Frames.{Frames}
use Rattle.shape_types.specs.Trees.{tree_of}
use Rattle.read_steps.specs.Refusals.{fault_in, length_fault_in}
use Rattle.read_steps.specs.Stops.{told_stop}
use Rattle.read_steps.specs.Tasks.{terms_of}
use Rattle.read_steps.specs.Views.{outer_of, items_of}
use Rattle.read_steps.proofs.LeftParts.{item_left, item_past}
use Rattle.read_steps.proofs.Telling.{fault_told}
use Rattle.read_steps.proofs.left.refuse_item.Goals as goal

pub returns-then-has_room-clause-exact : goal.returns-then-has_room-clause-exact
returns-then-has_room-clause-exact c =
    let t = terms_of c.args.task.now in
    let part = c.args.part.now in
    let before = span_view c.args.before in
    let outer = outer_of t c.args.stack.now in
    let count : length (map tree_of part.front.items) ≡ c.len-at.result = omega (arith, length-map part.front.items tree_of, part.front.ok.0, c.len-at.ensures) in
    let has : has_room part.of.len (length (map tree_of part.front.items)) ≡ true = ap (has_room part.of.len) count ∙ sym c.has_room.ensures ∙ c.if-has_room.true in
    fault_told (told_stop c.too_deep.result) _ _ _ c.too_deep.ensures.is
    (ap (λ (fs : Frames). fault_in t fs (too_deep t.limit) before) c.requires.inside)
    (item_left t (event_of c.args.event.now) before (items_of t part) outer c.requires.leaves has)

pub returns-clause-exact : goal.returns-clause-exact
returns-clause-exact c =
    let t = terms_of c.args.task.now in
    let part = c.args.part.now in
    let before = span_view c.args.before in
    let outer = outer_of t c.args.stack.now in
    let count : length (map tree_of part.front.items) ≡ c.len-at.result = omega (arith, length-map part.front.items tree_of, part.front.ok.0, c.len-at.ensures) in
    let full : has_room part.of.len (length (map tree_of part.front.items)) ≡ false = ap (has_room part.of.len) count ∙ sym c.has_room.ensures ∙ c.if-has_room.false in
    fault_told (told_stop c.wrong_length.result) _ _ _ c.wrong_length.ensures.is
    (ap (λ (fs : Frames). length_fault_in t fs part.of.len (label_at t.setting.registry part.shape.0) (c.len-at.result + 1) before) (c.outside.ensures t)
    ∙ ap (λ (n : ℕ). length_fault_in t outer part.of.len (label_at t.setting.registry part.shape.0) (n + 1) before) (sym count))
    (item_past t (event_of c.args.event.now) before (items_of t part) outer c.requires.leaves full)
