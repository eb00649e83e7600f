use Rattle.std.proofs.Common.{sym, ◌∙◌}
use Rattle.std.proofs.lemmas.Map.Text.{btree_map_updates_str}
use Rattle.shape_lines.proofs.Numbers.{numbered}
use Rattle.shape_lines.proofs.shape_numbers.add_number.Goals as goal

pub returns : goal.returns
returns c =
    let old = c.args.numbers.now in
    numbered old c.insert.new.self c.args.name.now c.args.number (sym c.contains_key.ensures ∙ c.if-contains_key.false)
    (btree_map_updates_str c.args.name.now old c.insert.new.self _ c.in_ok-insert.ensures.updates)
