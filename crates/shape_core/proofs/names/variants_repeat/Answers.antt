use Rattle.std.proofs.Common.{◌≡◌, Bool, ap, ◌∙◌, subst}
use Rattle.std.specs.Prelude.{bytes_eq, IfOk}
use Rattle.semantics.specs.Registry.{has_pair}
use Rattle.shape_core.specs.Names.{texts}
use Rattle.shape_core.proofs.Tables.{pair_map}
use Rattle.shape_core.proofs.names.variants_repeat.Goals as goal

pub returns : goal.returns
returns c =
    let names = ap (λ ns. has_pair bytes_eq (texts ns)) c.as_slice.ensures ∙ ap (has_pair bytes_eq) c.in_ok-names.ensures ∙ pair_map bytes_eq (λ f. f.name) c.args.variants.now in
    subst (λ (b : Bool). IfOk c.some_repeat.result (λ found. found ≡ b)) names c.some_repeat.ensures
