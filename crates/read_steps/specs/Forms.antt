-- Values as the form of their shape begins them.
use Rattle.std.specs.Prelude.{ℕ}
use Rattle.semantics_lines.specs.Trees.{none}
use Rattle.semantics_lines.specs.Events.{Event, span_of}
use Rattle.laws_reading.specs.Input.{unexpected}
use Rattle.laws_reading.specs.Values.{Terms, target_of}
use Rattle.laws_machine.specs.Frames.{Frames, path}
use Rattle.laws_machine.specs.Delivery.{Steps, here, deliver}
use Rattle.laws_machine.specs.Begins.{begin_scalar, begin_result, begin_items, begin_tuple, begin_object}
use Rattle.shape_types.specs.Scalars.{scalar_type_of}
use Rattle.shape_types.specs.declared.shape.ShapeId.{ShapeId}
use Rattle.read_steps.specs.declared.form.Form.{Form}
use Rattle.read_steps.specs.declared.form.Form.TheVariants as form
use Rattle.read_steps.specs.Tasks.{sides_view}
use Rattle.read_steps.specs.Views.{items_begun, tuple_begun_at, struct_begun_at}

-- a value of this form and shape, whose parts have this depth, where no part of it stands for it
abbrev pub begin_form : Form → Terms → ShapeId → ℕ → Frames → Event → Steps
begin_form (form.Scalar x) t s n fs e = begin_scalar t (target_of t s.0 (scalar_type_of x)) fs e
begin_form form.Nothing t s n fs e = deliver fs none
begin_form (form.Result sides) t s n fs e = begin_result t (record { sides = sides_view sides; depth = n }) fs e
begin_form (form.Items of) t s n fs e = begin_items t (items_begun t s of n) fs e
begin_form form.Tuple t s n fs e = begin_tuple t (tuple_begun_at t s n) fs e
begin_form form.Object t s n fs e = begin_object t (struct_begun_at t s n) fs e
begin_form form.Unread t s n fs e = unexpected (path t fs) (here (span_of e))
