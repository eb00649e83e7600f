use Rattle.std.proofs.Common.{◌<◌, Some, None, length, refl, ap, ◌∙◌, arith}
use Rattle.std.proofs.lemmas.Bool.Decides.{nat_tests}
use Rattle.std.proofs.lemmas.Result.{err_from_is_err_and}
use Rattle.semantics_lines.specs.Shapes.{effective_name}
use Rattle.semantics_lines.specs.Calls.{Settings, begin_struct, field_key, end_struct, begin_seq, end_seq}
use Rattle.semantics.specs.Calling.{Part, one_call, then, calls_of}
use Rattle.shape_types.specs.Shapes.{field_of}
use Rattle.shape_types.specs.Trees.{tree_of}
use Rattle.format_write.specs.Wrote.{writer}
use Rattle.format_write.proofs.Steps.{then_assoc, begun, not_begun, next, last, failed, halted}
use Rattle.format_write.proofs.Rows.{list_calls, drop_at, each_at, items_at, fields_at, each_end, items_end, fields_end, items_short, fields_short}
use Rattle.format_write.proofs.values.+write.Goals as goal

pub write_value-returns-in-Some-item_for : goal.write_value-returns-in-Some-item_for
write_value-returns-in-Some-item_for g t c =
    let u = writer (g.S.FormatSerializer.writing c.args.serializer.now).settings c.args.shapes.now in
    let is = rw (c.in-Some-item_for.is, c.len.ensures) at c.item_for.ensures in
    let whole = ap (λ v. calls_of u c.args.id.0 (tree_of v)) c.in-List.is ∙ list_calls u c.args.id.0 c.in-List.items (Some c.in-Some-item_for.item.0) is in
    rw whole (rw c.as_slice.ensures at c.write_list.ensures)

pub write_value-returns-in-None-item_for : goal.write_value-returns-in-None-item_for
write_value-returns-in-None-item_for g t c =
    let u = writer (g.S.FormatSerializer.writing c.args.serializer.now).settings c.args.shapes.now in
    let is = rw (c.in-None-item_for.is, c.len.ensures) at c.item_for.ensures in
    let whole = ap (λ v. calls_of u c.args.id.0 (tree_of v)) c.in-List.is ∙ list_calls u c.args.id.0 c.in-List.items None is in
    rw whole ((refl, g.met.S.FormatSerializer.starts c.args.serializer.now), record { settings = refl; later = omega arith })

pub write_under-returns-in_err-begin_struct : goal.write_under-returns-in_err-begin_struct
write_under-returns-in_err-begin_struct g t c =
    let r = err_from_is_err_and c.from_residual.result c.from_residual.ensures.1 in
    rw (r.1, r.2) (not_begun g.row.S-Error.Denot g.S.FormatSerializer.made g.met.S.FormatSerializer.starts g.met.S.FormatSerializer.joins g.S.FormatSerializer.writing c.args.serializer.now c.begin_struct.new.serializer (one_call begin_struct) _ (one_call end_struct) _ c.in_err-begin_struct.ensures)

pub write_under-returns-in_err-field_key : goal.write_under-returns-in_err-field_key
write_under-returns-in_err-field_key g t c =
    let key = one_call (field_key c.args.name.now) in
    let end = one_call end_struct in
    let inner : Settings → Part = (λ s. calls_of (writer s c.args.shapes.now) c.args.id.0 (tree_of c.args.value.now)) in
    let x = begun g.row.S-Error.Denot g.S.FormatSerializer.made g.met.S.FormatSerializer.starts g.met.S.FormatSerializer.joins g.S.FormatSerializer.writing c.args.serializer.now c.begin_struct.new.serializer (one_call begin_struct) (then key (inner (g.S.FormatSerializer.writing c.args.serializer.now).settings)) end _ c.in_ok-begin_struct.ensures in
    let r = err_from_is_err_and c.from_residual-in_err-field_key.result c.from_residual-in_err-field_key.ensures.1 in
    rw (r.1, r.2) (failed g.row.S-Error.Denot g.S.FormatSerializer.made g.met.S.FormatSerializer.joins g.S.FormatSerializer.writing c.args.serializer.now c.begin_struct.new.serializer c.field_key.new.serializer _ _ _ (λ s. key) _ x (then_assoc key _ end) c.in_err-field_key.ensures)

pub write_under-returns-in_err-write_value : goal.write_under-returns-in_err-write_value
write_under-returns-in_err-write_value g t c =
    let key = one_call (field_key c.args.name.now) in
    let end = one_call end_struct in
    let inner : Settings → Part = (λ s. calls_of (writer s c.args.shapes.now) c.args.id.0 (tree_of c.args.value.now)) in
    let x = begun g.row.S-Error.Denot g.S.FormatSerializer.made g.met.S.FormatSerializer.starts g.met.S.FormatSerializer.joins g.S.FormatSerializer.writing c.args.serializer.now c.begin_struct.new.serializer (one_call begin_struct) (then key (inner (g.S.FormatSerializer.writing c.args.serializer.now).settings)) end _ c.in_ok-begin_struct.ensures in
    let y = next g.row.S-Error.Denot g.S.FormatSerializer.made g.met.S.FormatSerializer.joins g.S.FormatSerializer.writing c.args.serializer.now c.begin_struct.new.serializer c.field_key.new.serializer _ _ _ (λ s. key) _ x (then_assoc key _ end) c.in_ok-field_key.ensures in
    let r = err_from_is_err_and c.from_residual-in_err-write_value.result c.from_residual-in_err-write_value.ensures.1 in
    rw (r.1, r.2) (failed g.row.S-Error.Denot g.S.FormatSerializer.made g.met.S.FormatSerializer.joins g.S.FormatSerializer.writing c.args.serializer.now c.field_key.new.serializer c.write_value.new.serializer _ _ end inner _ y refl c.in_err-write_value.ensures)

pub write_under-returns : goal.write_under-returns
write_under-returns g t c =
    let key = one_call (field_key c.args.name.now) in
    let end = one_call end_struct in
    let inner : Settings → Part = (λ s. calls_of (writer s c.args.shapes.now) c.args.id.0 (tree_of c.args.value.now)) in
    let x = begun g.row.S-Error.Denot g.S.FormatSerializer.made g.met.S.FormatSerializer.starts g.met.S.FormatSerializer.joins g.S.FormatSerializer.writing c.args.serializer.now c.begin_struct.new.serializer (one_call begin_struct) (then key (inner (g.S.FormatSerializer.writing c.args.serializer.now).settings)) end _ c.in_ok-begin_struct.ensures in
    let y = next g.row.S-Error.Denot g.S.FormatSerializer.made g.met.S.FormatSerializer.joins g.S.FormatSerializer.writing c.args.serializer.now c.begin_struct.new.serializer c.field_key.new.serializer _ _ _ (λ s. key) _ x (then_assoc key _ end) c.in_ok-field_key.ensures in
    let z = next g.row.S-Error.Denot g.S.FormatSerializer.made g.met.S.FormatSerializer.joins g.S.FormatSerializer.writing c.args.serializer.now c.field_key.new.serializer c.write_value.new.serializer _ _ end inner _ y refl c.in_ok-write_value.ensures in
    last g.row.S-Error.Denot g.S.FormatSerializer.made g.met.S.FormatSerializer.joins g.S.FormatSerializer.writing c.args.serializer.now c.write_value.new.serializer c.end_struct.new.serializer _ (λ s. end) c.end_struct.result z c.end_struct.ensures

pub write_list-returns-in_err-begin_seq : goal.write_list-returns-in_err-begin_seq
write_list-returns-in_err-begin_seq g t c =
    let r = err_from_is_err_and c.from_residual.result c.from_residual.ensures.1 in
    rw (r.1, r.2) (not_begun g.row.S-Error.Denot g.S.FormatSerializer.made g.met.S.FormatSerializer.starts g.met.S.FormatSerializer.joins g.S.FormatSerializer.writing c.args.serializer.now c.begin_seq.new.serializer (one_call begin_seq) _ (one_call end_seq) _ c.in_err-begin_seq.ensures)

pub write_list-items-init : goal.write_list-items-init
write_list-items-init g t c =
    begun g.row.S-Error.Denot g.S.FormatSerializer.made g.met.S.FormatSerializer.starts g.met.S.FormatSerializer.joins g.S.FormatSerializer.writing c.args.serializer.now c.begin_seq.new.serializer (one_call begin_seq) _ (one_call end_seq) _ c.in_ok-begin_seq.ensures

pub write_list-returns-in_err-write_value : goal.write_list-returns-in_err-write_value
write_list-returns-in_err-write_value g t c =
    let v = c.value-item.result in
    let item : Settings → Part = (λ s. calls_of (writer s c.args.shapes.now) c.args.item.0 (tree_of v)) in
    let is = each_at (writer (g.S.FormatSerializer.writing c.args.serializer.now).settings c.args.shapes.now) c.args.values.now c.items.value-index v (one_call end_seq) (drop_at _ _ v c.items-test.true c.value-item.is) c.args.item.0 in
    let r = err_from_is_err_and c.from_residual-in_err-write_value.result c.from_residual-in_err-write_value.ensures.1 in
    rw (r.1, r.2) (failed g.row.S-Error.Denot g.S.FormatSerializer.made g.met.S.FormatSerializer.joins g.S.FormatSerializer.writing c.args.serializer.now c.items.serializer c.write_value.new.serializer _ _ _ item _ c.items.invariant is c.in_err-write_value.ensures)

pub write_list-items-preserved : goal.write_list-items-preserved
write_list-items-preserved g t c =
    let v = c.value-item.result in
    let item : Settings → Part = (λ s. calls_of (writer s c.args.shapes.now) c.args.item.0 (tree_of v)) in
    let is = each_at (writer (g.S.FormatSerializer.writing c.args.serializer.now).settings c.args.shapes.now) c.args.values.now c.items.value-index v (one_call end_seq) (drop_at _ _ v c.items-test.true c.value-item.is) c.args.item.0 in
    next g.row.S-Error.Denot g.S.FormatSerializer.made g.met.S.FormatSerializer.joins g.S.FormatSerializer.writing c.args.serializer.now c.items.serializer c.write_value.new.serializer _ _ _ item _ c.items.invariant is c.in_ok-write_value.ensures

pub write_list-returns : goal.write_list-returns
write_list-returns g t c =
    let u = writer (g.S.FormatSerializer.writing c.args.serializer.now).settings c.args.shapes.now in
    let none = each_end u c.args.item.0 c.args.values.now c.items.value-index (omega arith) in
    last g.row.S-Error.Denot g.S.FormatSerializer.made g.met.S.FormatSerializer.joins g.S.FormatSerializer.writing c.args.serializer.now c.items.serializer c.end_seq.new.serializer _ (λ s. one_call end_seq) c.end_seq.result (rw none at c.items.invariant) c.end_seq.ensures

pub write_tuple-returns-in_err-begin_seq : goal.write_tuple-returns-in_err-begin_seq
write_tuple-returns-in_err-begin_seq g t c =
    let r = err_from_is_err_and c.from_residual.result c.from_residual.ensures.1 in
    rw (r.1, r.2) (not_begun g.row.S-Error.Denot g.S.FormatSerializer.made g.met.S.FormatSerializer.starts g.met.S.FormatSerializer.joins g.S.FormatSerializer.writing c.args.serializer.now c.begin_seq.new.serializer (one_call begin_seq) _ (one_call end_seq) _ c.in_err-begin_seq.ensures)

pub write_tuple-items-init : goal.write_tuple-items-init
write_tuple-items-init g t c =
    (omega arith, begun g.row.S-Error.Denot g.S.FormatSerializer.made g.met.S.FormatSerializer.starts g.met.S.FormatSerializer.joins g.S.FormatSerializer.writing c.args.serializer.now c.begin_seq.new.serializer (one_call begin_seq) _ (one_call end_seq) _ c.in_ok-begin_seq.ensures)

pub write_tuple-returns-in_err-write_value : goal.write_tuple-returns-in_err-write_value
write_tuple-returns-in_err-write_value g t c =
    let k = c.items.at in
    let f = c.in-Some.item.now in
    let v = c.index-values-at.result in
    let fs = c.args.fields.now in
    let within : k < length fs = grind (arith, nat_tests) in
    let is = items_at (writer (g.S.FormatSerializer.writing c.args.serializer.now).settings c.args.shapes.now) c.args.values.now k v (one_call end_seq) (drop_at _ k v c.items-test.true c.index-values-at.is) fs f (drop_at fs k f within c.in-Some.ensures.lookup.1) in
    let item : Settings → Part = (λ s. calls_of (writer s c.args.shapes.now) f.shape.0 (tree_of v)) in
    let r = err_from_is_err_and c.from_residual-in_err-write_value.result c.from_residual-in_err-write_value.ensures.1 in
    rw (r.1, r.2) (failed g.row.S-Error.Denot g.S.FormatSerializer.made g.met.S.FormatSerializer.joins g.S.FormatSerializer.writing c.args.serializer.now c.items.serializer c.write_value.new.serializer _ _ _ item _ c.items.invariant.1 is c.in_err-write_value.ensures)

pub write_tuple-items-preserved : goal.write_tuple-items-preserved
write_tuple-items-preserved g t c =
    let k = c.items.at in
    let f = c.in-Some.item.now in
    let v = c.index-values-at.result in
    let fs = c.args.fields.now in
    let within : k < length fs = grind (arith, nat_tests) in
    let is = items_at (writer (g.S.FormatSerializer.writing c.args.serializer.now).settings c.args.shapes.now) c.args.values.now k v (one_call end_seq) (drop_at _ k v c.items-test.true c.index-values-at.is) fs f (drop_at fs k f within c.in-Some.ensures.lookup.1) in
    let item : Settings → Part = (λ s. calls_of (writer s c.args.shapes.now) f.shape.0 (tree_of v)) in
    (omega arith, next g.row.S-Error.Denot g.S.FormatSerializer.made g.met.S.FormatSerializer.joins g.S.FormatSerializer.writing c.args.serializer.now c.items.serializer c.write_value.new.serializer _ _ _ item _ c.items.invariant.1 is c.in_ok-write_value.ensures)

pub write_tuple-returns-then-fields-values : goal.write_tuple-returns-then-fields-values
write_tuple-returns-then-fields-values g t c =
    let u = writer (g.S.FormatSerializer.writing c.args.serializer.now).settings c.args.shapes.now in
    let none = items_short u c.args.fields.now c.args.values.now c.items.at c.items.invariant.0 (omega arith) c.if-fields-values.true in
    halted g.row.S-Error.Denot (g.S.FormatSerializer.made c.args.serializer.now c.items.serializer) (g.S.FormatSerializer.writing c.args.serializer.now) (g.S.FormatSerializer.writing c.items.serializer) _ _ (ap (λ p. then p (one_call end_seq)) none) c.items.invariant.1

pub write_tuple-returns : goal.write_tuple-returns
write_tuple-returns g t c =
    let u = writer (g.S.FormatSerializer.writing c.args.serializer.now).settings c.args.shapes.now in
    let none = items_end u c.args.fields.now c.args.values.now c.items.at (omega arith) (omega arith) in
    last g.row.S-Error.Denot g.S.FormatSerializer.made g.met.S.FormatSerializer.joins g.S.FormatSerializer.writing c.args.serializer.now c.items.serializer c.end_seq.new.serializer _ (λ s. one_call end_seq) c.end_seq.result (rw none at c.items.invariant.1) c.end_seq.ensures

pub write_struct-returns-in_err-begin_struct : goal.write_struct-returns-in_err-begin_struct
write_struct-returns-in_err-begin_struct g t c =
    let r = err_from_is_err_and c.from_residual.result c.from_residual.ensures.1 in
    rw (r.1, r.2) (not_begun g.row.S-Error.Denot g.S.FormatSerializer.made g.met.S.FormatSerializer.starts g.met.S.FormatSerializer.joins g.S.FormatSerializer.writing c.args.serializer.now c.begin_struct.new.serializer (one_call begin_struct) _ (one_call end_struct) _ c.in_err-begin_struct.ensures)

pub write_struct-fields-init : goal.write_struct-fields-init
write_struct-fields-init g t c =
    (omega arith, begun g.row.S-Error.Denot g.S.FormatSerializer.made g.met.S.FormatSerializer.starts g.met.S.FormatSerializer.joins g.S.FormatSerializer.writing c.args.serializer.now c.begin_struct.new.serializer (one_call begin_struct) _ (one_call end_struct) _ c.in_ok-begin_struct.ensures)

pub write_struct-returns-in_err-field_key : goal.write_struct-returns-in_err-field_key
write_struct-returns-in_err-field_key g t c =
    let k = c.fields.at in
    let f = c.in-Some.field.now in
    let v = c.index-values-at.result in
    let fs = c.args.fields.now in
    let within : k < length fs = grind (arith, nat_tests) in
    let is = fields_at (writer (g.S.FormatSerializer.writing c.args.serializer.now).settings c.args.shapes.now) c.args.values.now k v (one_call end_struct) (drop_at _ k v c.fields-test.true c.index-values-at.is) fs f (drop_at fs k f within c.in-Some.ensures.lookup.1) in
    let key = one_call (field_key (effective_name (field_of f))) in
    let r = err_from_is_err_and c.from_residual-in_err-field_key.result c.from_residual-in_err-field_key.ensures.1 in
    rw (r.1, r.2) (failed g.row.S-Error.Denot g.S.FormatSerializer.made g.met.S.FormatSerializer.joins g.S.FormatSerializer.writing c.args.serializer.now c.fields.serializer c.field_key.new.serializer _ _ _ (λ s. key) _ c.fields.invariant.1 is (rw (c.effective_name.ensures) at c.in_err-field_key.ensures))

pub write_struct-returns-in_err-write_value : goal.write_struct-returns-in_err-write_value
write_struct-returns-in_err-write_value g t c =
    let k = c.fields.at in
    let f = c.in-Some.field.now in
    let v = c.index-values-at.result in
    let fs = c.args.fields.now in
    let within : k < length fs = grind (arith, nat_tests) in
    let is = fields_at (writer (g.S.FormatSerializer.writing c.args.serializer.now).settings c.args.shapes.now) c.args.values.now k v (one_call end_struct) (drop_at _ k v c.fields-test.true c.index-values-at.is) fs f (drop_at fs k f within c.in-Some.ensures.lookup.1) in
    let item : Settings → Part = (λ s. calls_of (writer s c.args.shapes.now) f.shape.0 (tree_of v)) in
    let key = one_call (field_key (effective_name (field_of f))) in
    let x = next g.row.S-Error.Denot g.S.FormatSerializer.made g.met.S.FormatSerializer.joins g.S.FormatSerializer.writing c.args.serializer.now c.fields.serializer c.field_key.new.serializer _ _ _ (λ s. key) _ c.fields.invariant.1 is (rw (c.effective_name.ensures) at c.in_ok-field_key.ensures) in
    let r = err_from_is_err_and c.from_residual-in_err-write_value.result c.from_residual-in_err-write_value.ensures.1 in
    rw (r.1, r.2) (failed g.row.S-Error.Denot g.S.FormatSerializer.made g.met.S.FormatSerializer.joins g.S.FormatSerializer.writing c.args.serializer.now c.field_key.new.serializer c.write_value.new.serializer _ _ _ item _ x refl c.in_err-write_value.ensures)

pub write_struct-fields-preserved : goal.write_struct-fields-preserved
write_struct-fields-preserved g t c =
    let k = c.fields.at in
    let f = c.in-Some.field.now in
    let v = c.index-values-at.result in
    let fs = c.args.fields.now in
    let within : k < length fs = grind (arith, nat_tests) in
    let is = fields_at (writer (g.S.FormatSerializer.writing c.args.serializer.now).settings c.args.shapes.now) c.args.values.now k v (one_call end_struct) (drop_at _ k v c.fields-test.true c.index-values-at.is) fs f (drop_at fs k f within c.in-Some.ensures.lookup.1) in
    let item : Settings → Part = (λ s. calls_of (writer s c.args.shapes.now) f.shape.0 (tree_of v)) in
    let key = one_call (field_key (effective_name (field_of f))) in
    let x = next g.row.S-Error.Denot g.S.FormatSerializer.made g.met.S.FormatSerializer.joins g.S.FormatSerializer.writing c.args.serializer.now c.fields.serializer c.field_key.new.serializer _ _ _ (λ s. key) _ c.fields.invariant.1 is (rw (c.effective_name.ensures) at c.in_ok-field_key.ensures) in
    (omega arith, next g.row.S-Error.Denot g.S.FormatSerializer.made g.met.S.FormatSerializer.joins g.S.FormatSerializer.writing c.args.serializer.now c.field_key.new.serializer c.write_value.new.serializer _ _ _ item _ x refl c.in_ok-write_value.ensures)

pub write_struct-returns-then-fields-values : goal.write_struct-returns-then-fields-values
write_struct-returns-then-fields-values g t c =
    let u = writer (g.S.FormatSerializer.writing c.args.serializer.now).settings c.args.shapes.now in
    let none = fields_short u c.args.fields.now c.args.values.now c.fields.at c.fields.invariant.0 (omega arith) c.if-fields-values.true in
    halted g.row.S-Error.Denot (g.S.FormatSerializer.made c.args.serializer.now c.fields.serializer) (g.S.FormatSerializer.writing c.args.serializer.now) (g.S.FormatSerializer.writing c.fields.serializer) _ _ (ap (λ p. then p (one_call end_struct)) none) c.fields.invariant.1

pub write_struct-returns : goal.write_struct-returns
write_struct-returns g t c =
    let u = writer (g.S.FormatSerializer.writing c.args.serializer.now).settings c.args.shapes.now in
    let none = fields_end u c.args.fields.now c.args.values.now c.fields.at (omega arith) (omega arith) in
    last g.row.S-Error.Denot g.S.FormatSerializer.made g.met.S.FormatSerializer.joins g.S.FormatSerializer.writing c.args.serializer.now c.fields.serializer c.end_struct.new.serializer _ (λ s. one_call end_struct) c.end_struct.result (rw none at c.fields.invariant.1) c.end_struct.ensures
