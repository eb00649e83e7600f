-- What an event is to those who look for another one.
use Rattle.std.specs.Prelude.{Option, Some, None, Result, Ok, Err, Bool, true, false, ◌&&◌, cond, bytes_eq, codes}
use Rattle.semantics_lines.specs.Texts.{Phrase}
use Rattle.semantics_lines.specs.Events.{Scalar, named, nameless, ordered, scalar, key, of_struct, of_sequence, object_kind, Event, leaf, start, stop}
use Rattle.semantics.specs.Reading.{is_nothing}
use Rattle.shape_types.specs.Texts.{phrase_of}
use Rattle.event_core.specs.Events.{scalar_of as scalar_view}
use Rattle.read_steps.specs.declared.fits.TupleForm.{TupleForm as DeclaredForm}
use Rattle.read_steps.specs.declared.fits.TupleForm.TheVariants as forms
use Rattle.read_steps.specs.declared.fits.Begun.{Begun as DeclaredBegun}
use Rattle.read_steps.specs.declared.fits.Begun.TheVariants as begun
use Rattle.read_steps.specs.declared.fits.Mark.{Mark as DeclaredMark}
use Rattle.read_steps.specs.declared.fits.Mark.TheVariants as mark

-- what was found, as the definitions see it
abbrev pub fit : {A B E : Type 0} → (A → B) → Result A E → Option B
fit view (Ok x) = Some (view x)
fit view (Err e) = None

abbrev pub begins_sequence : Event → Bool
begins_sequence (start of_sequence k n) = true
begins_sequence _ = false

abbrev pub begins_struct : Event → Bool
begins_struct (start of_struct k n) = true
begins_struct _ = false

abbrev pub ends_struct : Event → Bool
ends_struct (stop of_struct n) = true
ends_struct _ = false

abbrev pub is_scalar : Event → Bool
is_scalar (leaf (scalar x n)) = true
is_scalar _ = false

-- what begins a tuple
pub data TupleForm : Type 0 where
  as_sequence : TupleForm
  as_object : TupleForm
  -- the whole tuple, which has no items
  as_nothing : TupleForm

abbrev pub form_view : DeclaredForm → TupleForm
form_view forms.Sequence = as_sequence
form_view forms.Object = as_object
form_view forms.Nothing = as_nothing

abbrev pub if_empty : Bool → Option TupleForm
if_empty true = Some as_nothing
if_empty false = None

-- what an event begins, where the tuple has no items or some
abbrev pub tuple_form : Bool → Event → Option TupleForm
tuple_form empty (start of_sequence k n) = Some as_sequence
tuple_form empty (start of_struct object_kind n) = Some as_object
tuple_form empty (leaf (scalar x n)) = if_empty (empty && is_nothing x)
tuple_form empty _ = None

-- whether a key comes: the end of an object doesn't go on
abbrev pub goes_on_by : Event → Option Bool
goes_on_by (leaf (key q)) = Some true
goes_on_by (stop of_struct n) = Some false
goes_on_by _ = None

-- what an event begins, where a scalar is read
pub data Begun : Type 0 where
  as_scalar : Scalar → Begun
  as_node : Begun
  as_other : Begun

abbrev pub begun_of : Event → Begun
begun_of (leaf (scalar x n)) = as_scalar x
begun_of (start of_struct k n) = as_node
begun_of _ = as_other

abbrev pub begun_view : DeclaredBegun → Begun
begun_view (begun.Scalar x) = as_scalar (scalar_view x)
begun_view begun.Node = as_node
begun_view (begun.Other u) = as_other

-- what an event is, where an entry may begin: the end, a key with or without a name, one by order, or anything else
pub data Mark : Type 0 where
  at_end : Mark
  at_name : Phrase → Mark
  at_nameless : Mark
  at_order : Mark
  elsewhere : Mark

abbrev pub mark_of : Event → Mark
mark_of (leaf (key (named t m n))) = at_name t
mark_of (leaf (key (nameless m n))) = at_nameless
mark_of (leaf (key (ordered n))) = at_order
mark_of (stop of_struct n) = at_end
mark_of _ = elsewhere

abbrev pub mark_view : DeclaredMark → Mark
mark_view mark.End = at_end
mark_view (mark.Name t) = at_name (phrase_of t)
mark_view mark.Nameless = at_nameless
mark_view (mark.Ordered u) = at_order
mark_view (mark.Elsewhere u) = elsewhere

-- how a result went, by the name of its key
abbrev pub named_side : Option Phrase → Option Bool
named_side None = None
named_side (Some t) = cond (bytes_eq t.bytes (codes "Ok")) (Some true) (cond (bytes_eq t.bytes (codes "Err")) (Some false) None)
