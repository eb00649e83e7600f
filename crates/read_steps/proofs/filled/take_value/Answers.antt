use Rattle.std.proofs.Common.{◌∙◌, sym, ap, map}
use Rattle.std.specs.List.{position_from}
use Rattle.semantics.specs.Places.{below}
use Rattle.shape_types.specs.Trees.{tree_of}
use Rattle.read_steps.specs.declared.filled.Filled.{Filled}
use Rattle.read_steps.specs.Filled.{stands_at, taken_of, or_twice}
use Rattle.read_steps.specs.Views.{told_of}
use Rattle.read_steps.proofs.FilledParts.{value_found, value_none, others_removed}
use Rattle.read_steps.proofs.filled.take_value.Goals as goal

pub returns-in-Some-clause-value : goal.returns-in-Some-clause-value
returns-in-Some-clause-value c =
    c.or_twice.ensures
    ∙ ap (λ (f : Filled). or_twice c.find_place-in-Some.result (tree_of f.value)) c.remove-value.ensures.value
    ∙ value_found c.args.place c.args.filled.now.items c.in-Some.at c.remove-value.result c.find_place-in-Some.result
    (ap (position_from (stands_at c.args.place) 0) (sym c.as_slice.ensures.value) ∙ sym c.find_place.ensures.first ∙ c.in-Some.is)
    (ap (position_from (stands_at c.args.place) 0) (sym (c.as_slice-in-Some.ensures.value ∙ c.remove-value.ensures.items)) ∙ sym c.find_place-in-Some.ensures.first)

pub returns-in-Some-clause-others : goal.returns-in-Some-clause-others
returns-in-Some-clause-others c j other =
    ap (λ fs. below j (map told_of fs)) c.remove-value.ensures.items
    ∙ others_removed c.args.place c.args.filled.now.items c.in-Some.at (ap (position_from (stands_at c.args.place) 0) (sym c.as_slice.ensures.value) ∙ sym c.find_place.ensures.first ∙ c.in-Some.is) j other

pub returns-in-None-clause-value : goal.returns-in-None-clause-value
returns-in-None-clause-value c =
    sym (ap taken_of (value_none c.args.place c.args.filled.now.items (ap (position_from (stands_at c.args.place) 0) (sym c.as_slice.ensures.value) ∙ sym c.find_place.ensures.first ∙ c.in-None.is)))
