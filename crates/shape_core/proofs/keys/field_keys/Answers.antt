use Rattle.shape_core.specs.Names.{texts}
use Rattle.shape_core.proofs.KeyTexts.{texts_next}
use Rattle.shape_core.proofs.keys.field_keys.Goals as goal

pub fields-preserved : goal.fields-preserved
fields-preserved c = texts_next c.args.fields.now c.fields.field-index c.field-item.result (texts c.fields.keys) (texts c.push_keys.new.keys) c.fields-test.true c.field-item.is c.fields.invariant c.in_ok-push_keys.ensures
