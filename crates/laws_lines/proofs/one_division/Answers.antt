use Rattle.laws_lines.proofs.Divisions.{one_division as divided_once}
use Rattle.laws_lines.proofs.one_division.Goals as goal

pub returns : goal.returns
returns c = divided_once
