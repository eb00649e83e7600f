-- Where the faults of a step stand.
use Rattle.std.proofs.Common.{◌≡◌, inl, inr, ℕ, zero, suc, ◌+◌, List, [], ◌∷◌, ◌++◌, length, drop, slice_get, Option, Some, None, Result, Ok, Err, Bool, true, false, cond, not, ◌&&◌, ap}
use Rattle.semantics_lines.specs.Trees.{Tree, structure, none, some, trees_of}
use Rattle.semantics_lines.specs.Shapes.{Field, StructShape, is_tuple, Registry, Definition, scalar_shape, option_shape, result_shape, list_shape, array_shape, set_shape, map_shape, struct_shape, enum_shape, transparent_shape, definition_at}
use Rattle.semantics_lines.specs.Events.{Span, no_span, Key, named, nameless, ordered, key_note, scalar, key, tag, of_struct, of_sequence, object_kind, array_kind, Event, leaf, start, stop, span_of}
use Rattle.semantics_lines.specs.Faults.{ShapeLabel, Step, FaultKind, Fault, duplicate_field}
use Rattle.semantics.specs.Places.{Path, At as Placed, below, has_whole, Choice}
use Rattle.semantics.specs.Keys.{leads, key_label, is_allowed}
use Rattle.semantics.specs.Registry.{has_some}
use Rattle.semantics.specs.Setters.{Outcome, set_scalar}
use Rattle.semantics.specs.Typed.{has_length}
use Rattle.semantics.specs.Reading.{Source, from_events, Part, of_shape, of_variant, of_tag, of_entry, source_of, key_text, fill, in_parts, is_argument, is_key, is_nothing}
use Rattle.semantics.specs.Seen.{is_nothing_event, ends_sequence}
use Rattle.semantics.specs.Typed.{has_room}
use Rattle.laws_reading.specs.Input.{Input, ◌>>=◌, refused, unexpected, never}
use Rattle.laws_reading.specs.Skips.{Opened, same_bracket, stopped, skip_of}
use Rattle.semantics.specs.Ends.{End, leaf_at}
use Rattle.semantics.specs.Places.{is_taken}
use Rattle.laws_reading.specs.Structs.{Told, taken_span, key_fault, Spot, gather_own, gather_field, gather_fields, gather_flat, inner_spot, with_tree, as_structure}
use Rattle.laws_reading.specs.Structs as structs
use Rattle.laws_reading.specs.Nodes.{Target, or_refused, or_unexpected}
use Rattle.laws_reading.specs.Options.{side_of, side_in, outcome}
use Rattle.laws_reading.specs.Sequences.{Items, length_fault, items_end}
use Rattle.laws_reading.specs.Tuples.{filled_from, empty_tuple}
use Rattle.laws_reading.specs.Tuples as tuples
use Rattle.laws_reading.specs.Values.{Terms}
use Rattle.laws_machine.specs.Frames.{awaits, option, items, elements, keyed, keyed_item, object, field, outcome_key, outcome_side, outcome_end, node, argument, passing, Frames, ItemsPart, TuplePart, StructPart, ResultPart, NodePart, path}
use Rattle.laws_machine.specs.Delivery.{going, complete, Status, Steps, here, deliver, handed, past_key, with_argument}
use Rattle.laws_machine.specs.Begins.{begin_scalar, begin_option, begin_result, begin_items, begin_struct, begin_as, begin, await_as, await, await_end}
use Rattle.laws_machine.specs.Steps.{more_step, item_step, as_tuple, tuple_step, element_in, element_step, keyed_in, keyed_step, entry_step, plan_in, entered, end_step, lead_step, field_step, struct_end, side_step, close_step, pass_on, pass_behind, argument_step, node_step, set_in, set_step}
use Rattle.laws_machine.specs.Leaves.{unless, leaves_as, begin_leaves, or_past, element_leaves, At, FaultsStand}

at_ok : {A : Type 0} (span : Span) (x : A) → At span (Ok x)
at_ok span x f is = absurd cc

at_refused : {A : Type 0} (kind : FaultKind) (p : List Step) (span : Span) → At {A = A} span (refused kind p (here span))
at_refused kind p span f is = inr cc

at_never : {A : Type 0} (p : List Step) (input : Input) (span : Span) → At {A = A} span (never p input)
at_never p input span f is = inl cc

at_bind : {A B : Type 0} (span : Span) (r : Result A Fault) (k : A → Result B Fault) → At span r → ((x : A) → At span (k x)) → At span (r >>= k)
at_bind span (Ok x) k one two = two x
at_bind span (Err e) k one two = λ f is. one f (let same : e ≡ f = cc in ap Err same)

at_deliver : (span : Span) (fs : Frames) (v : Tree) → At span (deliver fs v)
at_deliver span [] v = at_ok span (complete v)
at_deliver span (option ∷ fs) v = at_deliver span fs (some v)
at_deliver span (items l ∷ fs) v = at_ok span _
at_deliver span (elements l ∷ fs) v = at_ok span _
at_deliver span (keyed_item l ∷ fs) v = at_ok span _
at_deliver span (field s e ∷ fs) v = at_ok span _
at_deliver span (outcome_side r b ∷ fs) v = at_ok span _
at_deliver span (awaits a ∷ fs) v = at_never [] (here no_span) span
at_deliver span (keyed l ∷ fs) v = at_never [] (here no_span) span
at_deliver span (object s ∷ fs) v = at_never [] (here no_span) span
at_deliver span (outcome_key r ∷ fs) v = at_never [] (here no_span) span
at_deliver span (outcome_end b w ∷ fs) v = at_never [] (here no_span) span
at_deliver span (node p ∷ fs) v = at_never [] (here no_span) span
at_deliver span (argument p q ∷ fs) v = at_never [] (here no_span) span
at_deliver span (passing os ∷ fs) v = at_never [] (here no_span) span

module _ (span : Span) where
  at_set : (o : Outcome) (p : List Step) → At span (or_refused o p (here span))
  at_set (Ok v) p = at_ok span (v, here span)
  at_set (Err kind) p = at_refused kind p span

  at_length : {A : Type 0} (o : Option ℕ) (shape : ShapeLabel) (got : ℕ) (p : List Step) → At {A = A} span (length_fault o shape got p (here span))
  at_length None shape got p = at_never p (here span) span
  at_length (Some wanted) shape got p = at_refused _ p span

  at_items_end : (b : Bool) (l : Items) (front : List Tree) (p : List Step) → At span (items_end b l front p (here span))
  at_items_end true l front p = at_ok span _
  at_items_end false l front p = at_length l.len l.shape (length front) p

  at_empty : (b : Bool) (p : List Step) → At span (empty_tuple b p (here span))
  at_empty true p = at_ok span _
  at_empty false p = at_refused _ p span

  at_skip : (e : Event) (os : Opened) (p : List Step) → At span (skip_of e os p (here span))
  at_skip (leaf (scalar x n)) os p = at_ok span _
  at_skip (leaf (tag t n)) os p = at_ok span _
  at_skip (leaf (key q)) [] p = at_refused _ p span
  at_skip (leaf (key q)) (b ∷ os) p = at_ok span _
  at_skip (start b k n) os p = at_ok span _
  at_skip (stop b n) [] p = at_refused _ p span
  at_skip (stop b n) (c ∷ os) p = by_same (same_bracket b c)
    where
      by_same : (same : Bool) → At span (stopped same os p (here span))
      by_same true = at_ok span _
      by_same false = at_refused _ p span

  at_filled : (g : Registry) (shape : ShapeLabel) (fs : List Field) (front : List Tree) (p : List Step) → At span (filled_from g shape fs front p (here span))
  at_filled g shape [] front p = at_ok span front
  at_filled g shape (f ∷ fs) front p = at_bind span (tuples.or_missing f shape (fill g f) p (here span)) _ (by_fill (fill g f)) (λ v. at_filled g shape fs (front ++ (v ∷ [])) p)
    where
      by_fill : (o : Option Tree) → At span (tuples.or_missing f shape o p (here span))
      by_fill None = at_refused _ p span
      by_fill (Some v) = at_ok span v

  module _ (g : Registry) (shape : ℕ) (p : List Step) where
    abbrev spot : Spot
    spot = record { shape = shape; path = p; input = here span }

    at_flat : (whole : Bool) (n : ℕ) (d : Option Definition) (c : Choice) (f : Field) (xs : List (Placed Told)) → At span (gather_flat g whole n d c (inner_spot f spot) xs)
    at_flat whole zero d c f xs = at_never _ (here span) span
    at_flat whole (suc n) d c f xs = at_never _ (here span) span

    at_own : (f : Field) (xs : List (Placed Told)) → At span (gather_own g f spot xs)
    at_own f [] = by_fill (fill g f)
      where
        by_fill : (o : Option Tree) → At span (structs.or_missing g f spot o)
        by_fill None = at_refused _ p span
        by_fill (Some v) = at_ok span v
    at_own f (x ∷ []) = at_ok span _
    at_own f (x ∷ y ∷ xs) = at_never p (here span) span

    at_field : (whole : Bool) (c : Choice) (f : Field) (xs : List (Placed Told)) → At span (gather_field (gather_flat g whole (length g)) g whole c f spot xs)
    at_field whole c f xs = by_parts (in_parts whole f (has_whole xs))
      where
        by_parts : (b : Bool) → At span (cond b (gather_flat g whole (length g) (definition_at g f.shape) c (inner_spot f spot) xs) (gather_own g f spot xs))
        by_parts true = at_flat whole (length g) (definition_at g f.shape) c f xs
        by_parts false = at_own f xs

    at_fields : (whole : Bool) (c : Choice) (k : ℕ) (fs : List Field) (xs : List (Placed Told)) → At span (gather_fields (gather_flat g whole (length g)) g whole c spot k fs xs)
    at_fields whole c k [] xs = at_ok span _
    at_fields whole c k (f ∷ fs) xs =
        at_bind span (gather_field (gather_flat g whole (length g)) g whole (below k c) f spot (below k xs)) _ (at_field whole (below k c) f (below k xs))
        (λ v. at_bind span (gather_fields (gather_flat g whole (length g)) g whole c spot (suc k) fs xs) (with_tree v) (at_fields whole c (suc k) fs xs) (λ vs. at_ok span _))

  module _ (t : Terms) where
    at_await : (n s : ℕ) (source : Source) (fs : Frames) → At span (await t n s source fs span)
    at_await zero s source fs = at_refused _ (path t fs) span
    at_await (suc n) s source fs = by_definition (definition_at t.setting.registry s) (λ i. at_await n i source fs)
      where
        by_definition : (o : Option Definition) → ((i : ℕ) → At span (await t n i source fs span)) → At span (await_as (await t n) n s source o fs span)
        by_definition None again = at_ok span _
        by_definition (Some (scalar_shape x)) again = at_ok span _
        by_definition (Some (option_shape i)) again = at_ok span _
        by_definition (Some (result_shape i j)) again = at_ok span _
        by_definition (Some (list_shape i)) again = at_ok span _
        by_definition (Some (array_shape i len)) again = at_ok span _
        by_definition (Some (set_shape i)) again = at_ok span _
        by_definition (Some (map_shape i j)) again = at_ok span _
        by_definition (Some (struct_shape d)) again = at_ok span _
        by_definition (Some (enum_shape form vs)) again = at_ok span _
        by_definition (Some (transparent_shape i)) again = again i

    at_part : (n : ℕ) (p : Part) (q : Key) (fs : Frames) → At span (await_end t n p q fs span)
    at_part n (of_shape s) q fs = at_await n s (source_of q) fs
    at_part n (of_variant j v) q fs = at_never (path t fs) (here span) span
    at_part n (of_tag x) q fs = at_never (path t fs) (here span) span
    at_part n (of_entry i j) q fs = at_never (path t fs) (here span) span

    at_tuple : (l : TuplePart) (fs : Frames) → At span (tuple_step t l fs span)
    at_tuple l fs =
        at_bind span (filled_from t.setting.registry l.elements.shape (drop (length l.front) l.elements.fields) l.front (path t fs) (here span)) (as_tuple fs)
        (at_filled t.setting.registry l.elements.shape (drop (length l.front) l.elements.fields) l.front (path t fs)) (λ vs. at_deliver span fs (structure (trees_of vs)))

    at_handed : (r : Result (Tree × Input) Fault) (fs : Frames) → At span r → At span (r >>= handed fs)
    at_handed r fs one = at_bind span r (handed fs) one (λ x. at_deliver span fs x.0)

    at_whole : (r : Result Tree Fault) (fs : Frames) → At span r → At span (r >>= deliver fs)
    at_whole r fs one = at_bind span r (deliver fs) one (λ v. at_deliver span fs v)

    at_pass : (e : Event) (os : Opened) (fs : Frames) → At span (skip_of e os (path t fs) (here span) >>= pass_behind fs)
    at_pass e os fs = at_bind span (skip_of e os (path t fs) (here span)) (pass_behind fs) (at_skip e os (path t fs)) (λ x. by_more x.0.0 x.0.1)
      where
        by_more : (b : Bool) (os : Opened) → At span (pass_on b os fs)
        by_more true os = at_ok span _
        by_more false os = at_ok span _

    at_keyed : (o : Option Field) (l : TuplePart) (fs : Frames) → At span (keyed_in o t l fs span)
    at_keyed None l fs = at_refused _ (path t fs) span
    at_keyed (Some f) l fs = at_await l.depth f.shape from_events (keyed_item l ∷ fs)

    at_side : (o : Option Bool) (r : ResultPart) (fs : Frames) → At span (side_step o t r fs span)
    at_side None r fs = at_refused _ (path t fs) span
    at_side (Some b) r fs = at_await r.depth (side_of r.sides b).shape from_events (outcome_side r b ∷ fs)

at_end : (t : Terms) (name : List ℕ) (o : Option End) (s : StructPart) (p : Path) (q : Key) (fs : Frames) → At (key_note q).span (end_step name o t s p q fs)
at_end t name None s p q fs = at_never _ (here (key_note q).span) (key_note q).span
at_end t name (Some o) s p q fs = by_taken (not o.many && is_taken p s.got.values)
  where
    by_taken : (b : Bool) → At (key_note q).span (cond b (refused (duplicate_field name (taken_span p s.got.values)) (path t fs) (here (key_note q).span)) (await_end t s.depth o.part q (field s (entered p q) ∷ fs) (key_note q).span))
    by_taken true = at_refused _ (path t fs) (key_note q).span
    by_taken false = at_part (key_note q).span t s.depth o.part q (field s (entered p q) ∷ fs)

-- a key of a struct or of a node
at_struct_key : (t : Terms) (s : StructPart) (fs : Frames) (q : Key) → At (key_note q).span (field_step t s fs q)
at_struct_key t s fs q = by_allowed (is_allowed (plan_in t s) s.got.count q)
  where
    by_lead : (o : Option Path) → At (key_note q).span (lead_step (key_label (plan_in t s) s.got.count q) o t s q fs)
    by_lead None = at_ok _ _
    by_lead (Some p) = at_end t (key_label (plan_in t s) s.got.count q) (leaf_at t.setting.registry s.choice s.layout p) (past_key s q) p q fs

    by_allowed : (b : Bool) → At (key_note q).span (cond b (lead_step (key_label (plan_in t s) s.got.count q) (leads (plan_in t s) s.got.count q) t s q fs) (key_fault q (path t fs) (here (key_note q).span)))
    by_allowed true = by_lead (leads (plan_in t s) s.got.count q)
    by_allowed false = by_key q
      where
        by_key : (k : Key) → At (key_note q).span (key_fault {A = Status} k (path t fs) (here (key_note q).span))
        by_key (named u m note) = at_refused _ (path t fs) (key_note q).span
        by_key (nameless m note) = at_refused _ (path t fs) (key_note q).span
        by_key (ordered note) = at_refused _ (path t fs) (key_note q).span

at_node_key : (t : Terms) (p : NodePart) (fs : Frames) (q : Key) → At (key_note q).span (node_step t p fs q)
at_node_key t p fs q = by_argument (is_argument q)
  where
    by_first : (o : Option Span) → At (key_note q).span (argument_step o t p fs q)
    by_first (Some first) = at_refused _ (path t fs) (key_note q).span
    by_first None = at_ok _ _

    by_key : (b : Bool) → At (key_note q).span (cond b (Ok (going (passing [] ∷ node p ∷ fs))) (unexpected (path t fs) (here (key_note q).span)))
    by_key true = at_ok _ _
    by_key false = at_refused _ (path t fs) (key_note q).span

    by_argument : (b : Bool) → At (key_note q).span (cond b (argument_step p.node.first t p fs q) (cond (is_key q) (Ok (going (passing [] ∷ node p ∷ fs))) (unexpected (path t fs) (here (key_note q).span))))
    by_argument true = by_first p.node.first
    by_argument false = by_key (is_key q)

at_entry : (t : Terms) (fs : Frames) (enters : Key → Steps) (whole : Span → Result Tree Fault) → ((q : Key) → At (key_note q).span (enters q)) → ((span : Span) → At span (whole span)) → (e : Event) → At (span_of e) (entry_step e enters whole t fs)
at_entry t fs enters whole one two (leaf (key q)) = one q
at_entry t fs enters whole one two (stop of_struct n) = at_whole n.span t (whole n.span) fs (two n.span)
at_entry t fs enters whole one two (leaf (scalar x n)) = at_refused _ (path t fs) n.span
at_entry t fs enters whole one two (leaf (tag v n)) = at_refused _ (path t fs) n.span
at_entry t fs enters whole one two (start b k n) = at_refused _ (path t fs) n.span
at_entry t fs enters whole one two (stop of_sequence n) = at_refused _ (path t fs) n.span

module _ (t : Terms) where
  at_scalar : (target : Target) (fs : Frames) (e : Event) → At (span_of e) (begin_scalar t target fs e)
  at_scalar target fs (leaf (scalar x n)) = at_handed n.span t _ fs (at_set n.span (set_scalar target.borrow target.shape target.type x) (path t fs))
  at_scalar target fs (start of_struct k n) = at_ok n.span _
  at_scalar target fs (start of_sequence k n) = at_refused _ (path t fs) n.span
  at_scalar target fs (leaf (key q)) = at_refused _ (path t fs) (key_note q).span
  at_scalar target fs (leaf (tag v n)) = at_refused _ (path t fs) n.span
  at_scalar target fs (stop b n) = at_refused _ (path t fs) n.span

  at_result : (r : ResultPart) (fs : Frames) (e : Event) → At (span_of e) (begin_result t r fs e)
  at_result r fs (start of_struct k n) = at_ok n.span _
  at_result r fs (start of_sequence k n) = at_refused _ (path t fs) n.span
  at_result r fs (leaf l) = at_refused _ (path t fs) (span_of (leaf l))
  at_result r fs (stop b n) = at_refused _ (path t fs) n.span

  at_items : (l : ItemsPart) (fs : Frames) (e : Event) → At (span_of e) (begin_items t l fs e)
  at_items l fs (start of_sequence k n) = at_ok n.span _
  at_items l fs (start of_struct k n) = at_refused _ (path t fs) n.span
  at_items l fs (leaf l') = at_refused _ (path t fs) (span_of (leaf l'))
  at_items l fs (stop b n) = at_refused _ (path t fs) n.span

  at_begun : (s : ℕ) (d : StructShape) (n : ℕ) (b : Bool) (fs : Frames) (e : Event) → At (span_of e) (begin_struct t s d n b fs e)
  at_begun s d n true fs (start of_sequence k m) = at_ok m.span _
  at_begun s d n true fs (start of_struct object_kind m) = at_ok m.span _
  at_begun s d n true fs (start of_struct array_kind m) = at_refused _ (path t fs) m.span
  at_begun s d n true fs (leaf (scalar x m)) = at_handed m.span t _ fs (at_empty m.span (not (has_some d.fields) && is_nothing x) (path t fs))
  at_begun s d n true fs (leaf (key q)) = at_refused _ (path t fs) (key_note q).span
  at_begun s d n true fs (leaf (tag v m)) = at_refused _ (path t fs) m.span
  at_begun s d n true fs (stop b m) = at_refused _ (path t fs) m.span
  at_begun s d n false fs (start of_struct k m) = at_ok m.span _
  at_begun s d n false fs (start of_sequence k m) = at_refused _ (path t fs) m.span
  at_begun s d n false fs (leaf l) = at_refused _ (path t fs) (span_of (leaf l))
  at_begun s d n false fs (stop b m) = at_refused _ (path t fs) m.span

  at_begin : (e : Event) (before : Span) (n s : ℕ) (source : Source) (fs : Frames) → At (cond (begin_leaves t e n s) before (span_of e)) (begin t n s source fs before e)
  at_begin e before zero s source fs = at_refused _ (path t fs) before
  at_begin e before (suc n) s source fs = by_definition (definition_at t.setting.registry s) (at_begin e before n)
    where
      Again : Type 0
      Again = (i : ℕ) (source : Source) (fs : Frames) → At (cond (begin_leaves t e n i) before (span_of e)) (begin t n i source fs before e)

      by_nothing : (i : ℕ) (b : Bool) → Again → At (cond (unless b (begin_leaves t e n i)) before (span_of e)) (begin_option b (begin t n i from_events) fs before e)
      by_nothing i true again = at_deliver (span_of e) fs none
      by_nothing i false again = again i from_events (option ∷ fs)

      by_definition : (o : Option Definition) → Again → At (cond (leaves_as (begin_leaves t e n) o e) before (span_of e)) (begin_as t (begin t n) n s source o fs before e)
      by_definition None again = at_refused _ (path t fs) (span_of e)
      by_definition (Some (scalar_shape x)) again = at_scalar _ fs e
      by_definition (Some (option_shape i)) again = by_nothing i (is_nothing_event e) again
      by_definition (Some (result_shape i j)) again = at_result _ fs e
      by_definition (Some (list_shape i)) again = at_items _ fs e
      by_definition (Some (array_shape i len)) again = at_items _ fs e
      by_definition (Some (set_shape i)) again = at_refused _ (path t fs) (span_of e)
      by_definition (Some (map_shape i j)) again = at_refused _ (path t fs) (span_of e)
      by_definition (Some (struct_shape d)) again = at_begun s d n (is_tuple d.kind) fs e
      by_definition (Some (enum_shape form vs)) again = at_refused _ (path t fs) (span_of e)
      by_definition (Some (transparent_shape i)) again = again i source fs

  module _ (before : Span) (e : Event) (fs : Frames) where
    at_room : (l : ItemsPart) (b : Bool) → At (cond (or_past b (begin_leaves t e l.depth l.item)) before (span_of e)) (more_step b t l fs before e)
    at_room l true = at_begin e before l.depth l.item from_events (items l ∷ fs)
    at_room l false = at_length before l.items.len l.items.shape (length l.front + 1) (path t fs)

    at_item : (l : ItemsPart) (b : Bool) → At (cond (unless b (or_past (has_room l.items.len (length l.front)) (begin_leaves t e l.depth l.item))) before (span_of e)) (item_step b t l fs before e)
    at_item l true = at_handed (span_of e) t _ fs (at_items_end (span_of e) (has_length l.items.len (length l.front)) l.items l.front (path t fs))
    at_item l false = at_room l (has_room l.items.len (length l.front))

    at_element_in : (l : TuplePart) (o : Option Field) → At (cond (element_leaves o (begin_leaves t e l.depth)) before (span_of e)) (element_in o t l fs before e)
    at_element_in l None = at_refused _ (path t fs) before
    at_element_in l (Some f) = at_begin e before l.depth f.shape from_events (elements l ∷ fs)

    at_element : (l : TuplePart) (b : Bool) → At (cond (unless b (element_leaves (slice_get l.elements.fields (length l.front)) (begin_leaves t e l.depth))) before (span_of e)) (element_step b t l fs before e)
    at_element l true = at_tuple (span_of e) t l fs
    at_element l false = at_element_in l (slice_get l.elements.fields (length l.front))

  at_keyed_step : (l : TuplePart) (fs : Frames) (e : Event) → At (span_of e) (keyed_step e t l fs)
  at_keyed_step l fs (leaf (key q)) = at_keyed (key_note q).span t (slice_get l.elements.fields (length l.front)) l fs
  at_keyed_step l fs (stop of_struct n) = at_tuple n.span t l fs
  at_keyed_step l fs (stop of_sequence n) = at_refused _ (path t fs) n.span
  at_keyed_step l fs (leaf (scalar x n)) = at_refused _ (path t fs) n.span
  at_keyed_step l fs (leaf (tag v n)) = at_refused _ (path t fs) n.span
  at_keyed_step l fs (start b k n) = at_refused _ (path t fs) n.span

  at_close : (b : Bool) (v : Tree) (fs : Frames) (e : Event) → At (span_of e) (close_step e t b v fs)
  at_close b v fs (stop of_struct n) = at_deliver n.span fs (outcome b v)
  at_close b v fs (stop of_sequence n) = at_refused _ (path t fs) n.span
  at_close b v fs (leaf l) = at_refused _ (path t fs) (span_of (leaf l))
  at_close b v fs (start c k n) = at_refused _ (path t fs) n.span

  at_set_step : (p : NodePart) (first : Span) (fs : Frames) (e : Event) → At (span_of e) (set_step e t p first fs)
  at_set_step p first fs (leaf (scalar x n)) = at_bind n.span _ (set_in p first fs) (at_set n.span (set_scalar p.target.borrow p.target.shape p.target.type x) (path t fs)) (λ x. at_ok n.span _)
  at_set_step p first fs (leaf (key k)) = at_pass (key_note k).span t (leaf (key k)) [] (node (with_argument p first None) ∷ fs)
  at_set_step p first fs (leaf (tag v n)) = at_pass n.span t (leaf (tag v n)) [] (node (with_argument p first None) ∷ fs)
  at_set_step p first fs (start b k n) = at_pass n.span t (start b k n) [] (node (with_argument p first None) ∷ fs)
  at_set_step p first fs (stop b n) = at_pass n.span t (stop b n) [] (node (with_argument p first None) ∷ fs)

  at_struct_end : (s : StructPart) (fs : Frames) (span : Span) → At span (struct_end t s fs span)
  at_struct_end s fs span = at_bind span _ as_structure (at_fields span t.setting.registry s.shape (path t fs) s.layout.whole s.choice 0 s.layout.fields s.got.values) (λ vs. at_ok span _)

  at_node_end : (o : Option Tree) (fs : Frames) (span : Span) → At span (or_unexpected o (path t fs) (here span))
  at_node_end None fs span = at_refused _ (path t fs) span
  at_node_end (Some v) fs span = at_ok span v

pub faults_stand : FaultsStand
faults_stand t [] before e = at_never [] (here no_span) (span_of e)
faults_stand t (awaits a ∷ fs) before e = at_begin t e before (suc a.depth) a.shape from_events fs
faults_stand t (items l ∷ fs) before e = at_item t before e fs l (ends_sequence e)
faults_stand t (elements l ∷ fs) before e = at_element t before e fs l (ends_sequence e)
faults_stand t (keyed l ∷ fs) before e = at_keyed_step t l fs e
faults_stand t (object s ∷ fs) before e = at_entry t fs (field_step t s fs) (struct_end t s fs) (at_struct_key t s fs) (at_struct_end t s fs) e
faults_stand t (outcome_key r ∷ fs) before e = at_side (span_of e) t (side_in e) r fs
faults_stand t (outcome_end b v ∷ fs) before e = at_close t b v fs e
faults_stand t (node p ∷ fs) before e = at_entry t fs (node_step t p fs) _ (at_node_key t p fs) (at_node_end t p.node.value fs) e
faults_stand t (argument p first ∷ fs) before e = at_set_step t p first fs e
faults_stand t (passing os ∷ fs) before e = at_pass (span_of e) t e os fs
faults_stand t (option ∷ fs) before e = at_never [] (here no_span) (span_of e)
faults_stand t (keyed_item l ∷ fs) before e = at_never [] (here no_span) (span_of e)
faults_stand t (field s q ∷ fs) before e = at_never [] (here no_span) (span_of e)
faults_stand t (outcome_side r b ∷ fs) before e = at_never [] (here no_span) (span_of e)
