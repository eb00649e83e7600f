use Rattle.std.proofs.Common.{Some, cond, sym, ap, ◌∙◌}
use Rattle.std.specs.Prelude.{bytes_eq}
use Rattle.std.specs.BTreeMap.{get_by_text}
use Rattle.std.proofs.lemmas.Map.Text.{btree_map_updates_text}
use Rattle.shape_core.proofs.Tables.{numbered}
use Rattle.shape_core.proofs.names.add_number.Goals as goal

pub returns : goal.returns
returns c =
    let old = c.args.numbers.now in
    numbered old c.insert.new.self c.args.name.now c.args.number (sym c.contains_key.ensures ∙ c.if-contains_key.false)
    (λ q. btree_map_updates_text _ old c.insert.new.self _ c.in_ok-insert.ensures.updates q ∙ ap (λ bs. cond (bytes_eq bs q) (Some c.args.number) (get_by_text old q)) c.in_ok-name.ensures.ok)
