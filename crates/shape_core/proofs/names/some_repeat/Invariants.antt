use Rattle.std.proofs.Common.{◌≡◌, take, false}
use Rattle.std.specs.Prelude.{bytes_eq}
use Rattle.semantics.specs.Registry.{has_pair}
use Rattle.shape_core.specs.Names.{texts}
use Rattle.shape_core.proofs.Tables.{Holds}
use Rattle.shape_core.proofs.names.some_repeat.Given as goal

abbrev pub invariant-names : goal.invariant-names
invariant-names l = record {
  seen : Holds l.seen (texts (take l.name-index l.names));
  none : has_pair bytes_eq (texts (take l.name-index l.names)) ≡ false;
}
