-- The entries of structs, as the code steps through them.
use Rattle.std.proofs.Common.{◌≡◌, ℕ, zero, suc, ◌+◌, ◌<◌, List, [], ◌∷◌, map, length, slice_get, Option, Some, None, Ok, Bool, true, false, cond, not, ◌&&◌, ◌||◌, option_map, is_some, refl, sym, ap, ap₂, ◌∙◌, arith}
use Rattle.std.specs.Prelude.{nat_lt, unwrap_or}
use Rattle.std.specs.List.{list_any, AllByRecursion as Every}
use Rattle.std.proofs.lemmas.Bool.{ltb-true}
use Rattle.std.proofs.lemmas.List.{length-map}
use Rattle.semantics_lines.specs.Texts.{Phrase}
use Rattle.semantics_lines.specs.Shapes.{Field, effective_name}
use Rattle.semantics_lines.specs.Events.{Span, Metadata, Note, Key, named, nameless, ordered, key_note, scalar, key, tag, of_struct, of_sequence, Event, leaf, start, stop, span_of}
use Rattle.semantics_lines.specs.Faults.{unknown_field, duplicate_field}
use Rattle.semantics.specs.Places.{Path}
use Rattle.semantics.specs.Registry.{IsRegistry}
use Rattle.semantics.specs.Reading.{source_of}
use Rattle.laws_reading.specs.Input.{refused, unexpected}
use Rattle.semantics.specs.Ends.{one_shape}
use Rattle.laws_reading.specs.Structs.{taken_span}
use Rattle.laws_reading.specs.Values.{Terms}
use Rattle.laws_machine.specs.Frames.{object, field, passing, Frames, path}
use Rattle.laws_machine.specs.Frames as machine
use Rattle.laws_machine.specs.Delivery.{going, Steps, here, past_key}
use Rattle.laws_machine.specs.Begins.{await}
use Rattle.laws_machine.specs.Steps.{entered, end_step, lead_step, field_step, step_at}
use Rattle.read_steps.specs.declared.frames.StructPart.{StructPart}
use Rattle.read_steps.specs.declared.frames.Frame.{Frame}
use Rattle.read_steps.specs.declared.kind.FrameKind.TheVariants as kind
use Rattle.read_steps.specs.Fits.{mark_of}
use Rattle.read_steps.specs.Keys.{place_in}
use Rattle.read_steps.specs.Stepping.{key_at, enter_step, known_step, found_step, with_count, next_step, name_in, order_step, marked_step}
use Rattle.read_steps.specs.Tasks.{fields_at}
use Rattle.read_steps.specs.Kinds.{kind_of}
use Rattle.read_steps.specs.Views.{struct_of, with_frame}
use Rattle.laws.proofs.Built.{BuiltField}
use Rattle.read_steps.proofs.Awaits.{await_source}
use Rattle.read_steps.proofs.BuiltFields.{all_built, built_at}
use Rattle.read_steps.proofs.Tops.{object_top}
use Rattle.read_steps.proofs.Places.{alone, taken_some, place_called, own_field, leads_place, own_end}

-- no field of these is flattened
none_flattened : (fields : List Field) → Every BuiltField fields → list_any (λ f. f.flattened) fields ≡ false
none_flattened [] all = refl
none_flattened (f ∷ fields) (b, all) = ap₂ (λ x y. x || y) b.flattened (none_flattened fields all)

-- the field of a place that is there
field_there : (fields : List Field) (k : ℕ) → k < length fields → (f : Field) × (slice_get fields k ≡ Some f)
field_there [] k few = absurd (omega (arith, few))
field_there (f ∷ fields) zero few = (f, refl)
field_there (f ∷ fields) (suc k) few = field_there fields k (omega (arith, few))

-- what the field of a place is called
label_there : (fields : List Field) (k : ℕ) → unwrap_or (slice_get (map effective_name fields) k) [] ≡ name_in (slice_get fields k)
label_there [] k = refl
label_there (f ∷ fields) zero = refl
label_there (f ∷ fields) (suc k) = label_there fields k

module _ (t : Terms) (fs : Frames) (q : Key) where
  -- a key of this name that leads to a field
  module _ (name : List ℕ) (k : ℕ) (f : Field) (s earlier : machine.StructPart) where
    by_span : (o : Option Span) → slice_get s.layout.fields k ≡ Some f
        → cond (is_some o) (refused (duplicate_field name o) (path t fs) (here (key_note q).span)) (await t s.depth f.shape (source_of q) (field s (entered (k ∷ []) q) ∷ fs) (key_note q).span)
        ≡ known_step o name k t s (key_note q).span fs
    by_span (Some first) found = refl
    by_span None found =
        await_source t (field s (entered (k ∷ []) q) ∷ fs) (key_note q).span s.depth f.shape (source_of q)
        ∙ ap (λ o. enter_step o t s (key_at k (key_note q).span) fs) (sym found)

    known_is : slice_get s.layout.fields k ≡ Some f → end_step name (Some (one_shape f.shape)) t s (k ∷ []) q fs ≡ known_step (taken_span (k ∷ []) s.got.values) name k t s (key_note q).span fs
    known_is found =
        ap (λ b. cond b (refused (duplicate_field name (taken_span (k ∷ []) s.got.values)) (path t fs) (here (key_note q).span)) (await t s.depth f.shape (source_of q) (field s (entered (k ∷ []) q) ∷ fs) (key_note q).span)) (taken_some (k ∷ []) s.got.values)
        ∙ by_span (taken_span (k ∷ []) s.got.values) found

module _ (t : Terms) (p : StructPart) (fs : Frames) where
  abbrev s : machine.StructPart
  s = struct_of t p

  abbrev fields : List Field
  fields = fields_at t.setting.registry p.shape.0

  module _ (x : Phrase) (m : Option Metadata) (n : Note) where
    abbrev q : Key
    q = named x m n

    -- the step by where the key leads
    abbrev leading : Option Path → Steps
    leading o = cond (is_some o || not s.deny) (lead_step x.bytes o t s q fs) (refused (unknown_field x.bytes) (path t fs) (here n.span))

    by_deny : (b : Bool) → cond (false || not b) (lead_step x.bytes None t s q fs) (refused (unknown_field x.bytes) (path t fs) (here n.span)) ≡ cond b (refused (unknown_field x.bytes) (path t fs) (here n.span)) (Ok (going (passing [] ∷ object s ∷ fs)))
    by_deny true = refl
    by_deny false = refl

    by_place : (o : Option ℕ) → place_in fields x.bytes ≡ o → leading (option_map alone o) ≡ found_step o t s x fs n.span
    by_place None is = by_deny s.deny
    by_place (Some k) is =
        let (j, f, at, there, called) = place_called x.bytes fields 0 k is in
        let same : k ≡ j = omega (arith, at) in
        let found : slice_get fields k ≡ Some f = ap (slice_get fields) same ∙ there in
        ap (λ o. end_step x.bytes o t s (k ∷ []) q fs) (own_end t.setting.registry fields k f found (own_field x.bytes f called)) ∙ known_is t fs q x.bytes k f s s found

    -- a key with a name
    named_is : field_step t s fs q ≡ found_step (place_in fields x.bytes) t s x fs n.span
    named_is = ap leading (leads_place t.setting.registry fields x.bytes) ∙ by_place (place_in fields x.bytes) refl

  -- a key by order
  module _ (checked : IsRegistry t.setting.registry) (n : Note) where
    abbrev past : machine.StructPart
    past = past_key s (ordered n)

    -- the step by whether there is one more field
    abbrev more : Bool → Steps
    more b = cond b (lead_step (unwrap_or (slice_get (map effective_name fields) p.ordered) []) (Some (p.ordered ∷ [])) t s (ordered n) fs) (unexpected (path t fs) (here n.span))

    past_is : past ≡ with_count (p.ordered + 1) s
    past_is = ap (λ k. with_count k s) (let next : suc p.ordered ≡ p.ordered + 1 = omega arith in next)

    by_more : (b : Bool) → nat_lt p.ordered (length fields) ≡ b → more b ≡ cond b (next_step p.ordered (p.ordered + 1) t s fs n.span) (unexpected (path t fs) (here n.span))
    by_more false none = refl
    by_more true few =
        let (f, found) = field_there fields p.ordered (ltb-true p.ordered (length fields) few) in
        let built = built_at t.setting.registry checked p.shape.0 p.ordered f found in
        ap (λ o. end_step (unwrap_or (slice_get (map effective_name fields) p.ordered) []) o t past (p.ordered ∷ []) (ordered n) fs) (own_end t.setting.registry fields p.ordered f found built.0)
        ∙ known_is t fs (ordered n) (unwrap_or (slice_get (map effective_name fields) p.ordered) []) p.ordered f past s found
        ∙ ap₂ (λ name z. known_step (taken_span (p.ordered ∷ []) s.got.values) name p.ordered t z n.span fs) (label_there fields p.ordered) past_is

    order_is : field_step t s fs (ordered n) ≡ order_step t s fs n.span
    order_is =
        ap₂ (λ b k. more (not b && nat_lt p.ordered k)) (none_flattened fields (all_built t.setting.registry checked p.shape.0)) (length-map fields effective_name)
        ∙ by_more (nat_lt p.ordered (length fields)) refl

module _ (t : Terms) (checked : IsRegistry t.setting.registry) (before : Span) where
  object_steps : (p : StructPart) (fs : Frames) (e : Event) → step_at t (object (struct_of t p) ∷ fs) before e ≡ marked_step (mark_of e) t (object (struct_of t p) ∷ fs) (span_of e)
  object_steps p fs (leaf (key (named x m n))) = named_is t p fs x m n
  object_steps p fs (leaf (key (nameless m n))) = refl
  object_steps p fs (leaf (key (ordered n))) = order_is t p fs checked n
  object_steps p fs (leaf (scalar x n)) = refl
  object_steps p fs (leaf (tag v n)) = refl
  object_steps p fs (start b k n) = refl
  object_steps p fs (stop of_struct n) = refl
  object_steps p fs (stop of_sequence n) = refl

  -- one event of the struct that is innermost
  pub object_at : (f : Frame) (fs : Frames) (e : Event) → kind_of f ≡ kind.Object → step_at t (with_frame t f fs) before e ≡ marked_step (mark_of e) t (with_frame t f fs) (span_of e)
  object_at f fs e is = let (p, same) = object_top t fs f is in rw same (object_steps p fs e)
