-- Tuples, as the code steps through them and fills them.
use Rattle.std.proofs.Common.{◌≡◌, ℕ, zero, suc, ◌<◌, List, [], ◌∷◌, ◌++◌, length, drop, slice_get, map, Option, Some, None, Ok, refl, sym, ap, ◌∙◌, arith}
use Rattle.std.proofs.lemmas.List.{map-append, length-map}
use Rattle.semantics_lines.specs.Trees.{Tree}
use Rattle.semantics_lines.specs.Shapes.{Field, Registry, definition_at}
use Rattle.semantics_lines.specs.Events.{Span, scalar, key, tag, of_struct, of_sequence, Event, leaf, start, stop, span_of}
use Rattle.semantics_lines.specs.Faults.{Step, Fault}
use Rattle.semantics.specs.Labels.{label_at}
use Rattle.semantics.specs.Registry.{IsRegistry}
use Rattle.semantics.specs.Reading.{or_value, absent, fill}
use Rattle.laws_reading.specs.Input.{◌>>=◌}
use Rattle.laws_reading.specs.Tuples.{filled_from}
use Rattle.laws_reading.specs.Tuples as tuples
use Rattle.laws_reading.specs.Values.{Terms}
use Rattle.laws_machine.specs.Frames.{TuplePart, keyed, Frames}
use Rattle.laws_machine.specs.Delivery.{here}
use Rattle.laws_machine.specs.Steps.{keyed_step, step_at}
use Rattle.shape_types.specs.Trees.{tree_of}
use Rattle.shape_types.specs.declared.value.Value.{Value}
use Rattle.read_steps.specs.Fits.{goes_on_by}
use Rattle.read_steps.specs.Filling.{or_missing, absent_value, filled_at}
use Rattle.read_steps.specs.Stepping.{keyed_by}
use Rattle.read_steps.specs.Stops.{Fails}
use Rattle.read_steps.specs.Kinds.{kind_of}
use Rattle.read_steps.specs.Tasks.{fields_at}
use Rattle.read_steps.specs.Views.{tuple_of, with_frame}
use Rattle.read_steps.specs.declared.frames.Frame.{Frame}
use Rattle.read_steps.specs.declared.kind.FrameKind.TheVariants as kind
use Rattle.read_steps.proofs.Tops.{keyed_top}
use Rattle.read_steps.proofs.BuiltFields.{built_at}

keyed_is : (t : Terms) (l : TuplePart) (fs : Frames) (e : Event) → keyed_step e t l fs ≡ keyed_by (goes_on_by e) t (keyed l ∷ fs) (span_of e)
keyed_is t l fs (leaf (scalar x n)) = refl
keyed_is t l fs (leaf (key q)) = refl
keyed_is t l fs (leaf (tag v n)) = refl
keyed_is t l fs (start b k n) = refl
keyed_is t l fs (stop of_struct n) = refl
keyed_is t l fs (stop of_sequence n) = refl

-- one event of the tuple that is innermost, and stands as an object
pub keyed_at : (t : Terms) (f : Frame) (fs : Frames) (before : Span) (e : Event) → kind_of f ≡ kind.Keyed → step_at t (with_frame t f fs) before e ≡ keyed_by (goes_on_by e) t (with_frame t f fs) (span_of e)
keyed_at t f fs before e is = let (p, same) = keyed_top t fs f is in rw same (keyed_is t (tuple_of t p) fs e)

-- a list from a place on
cut : (fields : List Field) (k : ℕ) (f : Field) → slice_get fields k ≡ Some f → drop k fields ≡ f ∷ drop (suc k) fields
cut [] k f is = absurd cc
cut (g ∷ fields) zero f is = let same : g ≡ f = cc in ap (λ (h : Field). h ∷ fields) same
cut (g ∷ fields) (suc k) f is = cut fields k f is

cut_all : (fields : List Field) (k : ℕ) → slice_get fields k ≡ None → drop k fields ≡ []
cut_all [] zero is = refl
cut_all [] (suc k) is = refl
cut_all (g ∷ fields) zero is = absurd cc
cut_all (g ∷ fields) (suc k) is = cut_all fields k is

within : (fields : List Field) (k : ℕ) (f : Field) → slice_get fields k ≡ Some f → k < length fields
within [] k f is = absurd cc
within (g ∷ fields) zero f is = omega arith
within (g ∷ fields) (suc k) f is = let less : k < length fields = within fields k f is in omega (arith, less)

module _ (g : Registry) (checked : IsRegistry g) (shape : ℕ) (p : List Step) (span : Span) where
  -- the item that is absent, and then the others
  one_more : (front : List Tree) (f : Field) → slice_get (fields_at g shape) (length front) ≡ Some f
      → filled_at g shape front p span ≡ (absent_value g f shape p span >>= λ v. filled_from g (label_at g shape) (drop (suc (length front)) (fields_at g shape)) (front ++ (v ∷ [])) p (here span))
  one_more front f is =
      ap (λ fs. filled_from g (label_at g shape) fs front p (here span)) (cut (fields_at g shape) (length front) f is)
      ∙ ap (λ r. r >>= λ v. filled_from g (label_at g shape) (drop (suc (length front)) (fields_at g shape)) (front ++ (v ∷ [])) p (here span)) (filling (fill g f) (absent (definition_at g f.shape)) (ap (λ o. or_value o (absent (definition_at g f.shape))) (built_at g checked shape (length front) f is).1))
    where
      filling : (o q : Option Tree) → o ≡ q → tuples.or_missing f (label_at g shape) o p (here span) ≡ or_missing q f (label_at g shape) p span
      filling o q same = ap (λ x. tuples.or_missing f (label_at g shape) x p (here span)) same ∙ by_value q
        where
          by_value : (q : Option Tree) → tuples.or_missing f (label_at g shape) q p (here span) ≡ or_missing q f (label_at g shape) p span
          by_value None = refl
          by_value (Some v) = refl

  pub filled_more : (items after : List Value) (f : Field) (v : Value) → slice_get (fields_at g shape) (length items) ≡ Some f → absent_value g f shape p span ≡ Ok (tree_of v) → after ≡ items ++ (v ∷ [])
      → filled_at g shape (map tree_of after) p span ≡ filled_at g shape (map tree_of items) p span
  filled_more items after f v is value pushed =
      let count : length (map tree_of items) ≡ length items = length-map items tree_of in
      let there : slice_get (fields_at g shape) (length (map tree_of items)) ≡ Some f = ap (slice_get (fields_at g shape)) count ∙ is in
      let front : map tree_of after ≡ map tree_of items ++ (tree_of v ∷ []) = ap (map tree_of) pushed ∙ map-append tree_of items (v ∷ []) in
      sym
      (one_more (map tree_of items) f there
      ∙ ap (λ r. r >>= λ w. filled_from g (label_at g shape) (drop (suc (length (map tree_of items))) (fields_at g shape)) (map tree_of items ++ (w ∷ [])) p (here span)) value
      ∙ ap (λ k. filled_from g (label_at g shape) (drop k (fields_at g shape)) (map tree_of items ++ (tree_of v ∷ [])) p (here span)) (longer (map tree_of items) (tree_of v))
      ∙ ap (λ vs. filled_at g shape vs p span) (sym front))
    where
      longer : (vs : List Tree) (w : Tree) → suc (length vs) ≡ length (vs ++ (w ∷ []))
      longer [] w = refl
      longer (x ∷ vs) w = ap suc (longer vs w)

  pub filled_fails : (items : List Value) (f : Field) (e : Option Fault) → slice_get (fields_at g shape) (length items) ≡ Some f → Fails e (absent_value g f shape p span) → Fails e (filled_at g shape (map tree_of items) p span)
  filled_fails items f None is value = tt
  filled_fails items f (Some x) is value =
      let there : slice_get (fields_at g shape) (length (map tree_of items)) ≡ Some f = ap (slice_get (fields_at g shape)) (length-map items tree_of) ∙ is in
      one_more (map tree_of items) f there
      ∙ ap (λ r. r >>= λ w. filled_from g (label_at g shape) (drop (suc (length (map tree_of items))) (fields_at g shape)) (map tree_of items ++ (w ∷ [])) p (here span)) value

  pub filled_all : (items : List Value) → slice_get (fields_at g shape) (length items) ≡ None → filled_at g shape (map tree_of items) p span ≡ Ok (map tree_of items)
  filled_all items none =
      ap (λ fs. filled_from g (label_at g shape) fs (map tree_of items) p (here span)) (cut_all (fields_at g shape) (length (map tree_of items)) (ap (slice_get (fields_at g shape)) (length-map items tree_of) ∙ none))

-- an item that is there is one of the fields
pub within_fields : (g : Registry) (shape k : ℕ) (f : Field) → slice_get (fields_at g shape) k ≡ Some f → k < length (fields_at g shape)
within_fields g shape k f is = within (fields_at g shape) k f is
