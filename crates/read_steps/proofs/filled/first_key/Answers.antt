use Rattle.std.proofs.Common.{◌∙◌, sym}
use Rattle.read_steps.proofs.FilledParts.{key_found, key_none}
use Rattle.read_steps.proofs.filled.first_key.Goals as goal

pub returns-in-Some : goal.returns-in-Some
returns-in-Some c = key_found c.args.place c.args.filled.now c.in-Some.at c.index-filled-at.result (sym c.find_place.ensures.first ∙ c.in-Some.is)

pub returns-in-None : goal.returns-in-None
returns-in-None c = key_none c.args.place c.args.filled.now (sym c.find_place.ensures.first ∙ c.in-None.is)
