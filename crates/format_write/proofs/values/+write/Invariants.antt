use Rattle.std.proofs.Common.{◌≤◌, length}
use Rattle.semantics_lines.specs.Calls.{end_struct, end_seq}
use Rattle.semantics.specs.Calling.{one_call, then, sequence_calls, object_calls}
use Rattle.format_write.specs.Wrote.{writer}
use Rattle.format_write.proofs.Steps.{Underway}
use Rattle.format_write.proofs.Rows.{each_from, items_from, fields_from}
use Rattle.format_write.proofs.values.+write.Given as goal

abbrev pub invariant-write_list-items : goal.invariant-write_list-items
invariant-write_list-items g l =
    let from = each_from (writer (g.S.FormatSerializer.writing l.fn.serializer).settings l.shapes) l.item.0 l.values in
    Underway (sequence_calls (from 0)) (then (from l.value-index) (one_call end_seq))
    (g.S.FormatSerializer.made l.fn.serializer l.serializer) (g.S.FormatSerializer.writing l.fn.serializer) (g.S.FormatSerializer.writing l.serializer)

abbrev pub invariant-write_tuple-items : goal.invariant-write_tuple-items
invariant-write_tuple-items g l =
    let from = items_from (writer (g.S.FormatSerializer.writing l.fn.serializer).settings l.shapes) l.fields l.values in
    (l.at ≤ length l.fields)
    × Underway (sequence_calls (from 0)) (then (from l.at) (one_call end_seq))
    (g.S.FormatSerializer.made l.fn.serializer l.serializer) (g.S.FormatSerializer.writing l.fn.serializer) (g.S.FormatSerializer.writing l.serializer)

abbrev pub invariant-write_struct-fields : goal.invariant-write_struct-fields
invariant-write_struct-fields g l =
    let from = fields_from (writer (g.S.FormatSerializer.writing l.fn.serializer).settings l.shapes) l.fields l.values in
    (l.at ≤ length l.fields)
    × Underway (object_calls (from 0)) (then (from l.at) (one_call end_struct))
    (g.S.FormatSerializer.made l.fn.serializer l.serializer) (g.S.FormatSerializer.writing l.fn.serializer) (g.S.FormatSerializer.writing l.serializer)
