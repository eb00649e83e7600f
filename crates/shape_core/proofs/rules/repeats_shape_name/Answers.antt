use Rattle.std.proofs.Common.{take, sym, ap, ◌∙◌, arith}
use Rattle.std.specs.List.{list_any}
use Rattle.std.specs.Prelude.{bytes_eq}
use Rattle.std.specs.Option.{option_copied}
use Rattle.std.proofs.lemmas.Option.{slice_get_within}
use Rattle.shape_types.specs.Shapes.{draft_of}
use Rattle.shape_core.proofs.Lists.{list_any_map, take_map, past_end}
use Rattle.shape_core.proofs.rules.repeats_shape_name.Goals as goal

pub returns-in-Some : goal.returns-in-Some
returns-in-Some c =
    let ds = c.args._drafts.now in
    c.requires.repeats.each c.args.at c.in-Some.is_repeated.now (sym c.get.ensures ∙ ap option_copied c.in-Some.is) c.args._draft.now c.requires.here
    ∙ sym (ap (list_any (λ e. bytes_eq e.name c.args._draft.now.name)) (take_map draft_of c.args.at ds) ∙ list_any_map (λ e. bytes_eq e.name c.args._draft.now.name) draft_of (take c.args.at ds))

pub returns-in-None : goal.returns-in-None
returns-in-None c =
    let lt = slice_get_within c.args._drafts.now c.args.at c.args._draft.now c.requires.here in
    let le = past_end c.args.repeats.now c.args.at (sym c.get.ensures ∙ ap option_copied c.in-None.is) in
    absurd (omega (arith, lt, le, c.requires.repeats.all))
