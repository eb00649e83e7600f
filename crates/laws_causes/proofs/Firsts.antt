-- What the first event of a value comes to, by the form of its shape.
use Rattle.std.proofs.Common.{◌≡◌, ℕ, suc, List, [], ◌∷◌, ◌++◌, Option, Some, None, Ok, Err, Bool, true, false, cond, not, ◌&&◌, option_map, refl, sym, ap, ◌∙◌, subst}
use Rattle.semantics_lines.specs.Trees.{none, some, structure, no_trees, trees_of}
use Rattle.semantics_lines.specs.Shapes.{ScalarType, StructShape, Definition, scalar_shape, option_shape, result_shape, struct_shape, is_tuple, definition_at}
use Rattle.semantics_lines.specs.Events.{Span, scalar, key, tag, of_struct, of_sequence, object_kind, array_kind, Event, leaf, start, stop, span_of}
use Rattle.semantics_lines.specs.Faults.{unexpected_token}
use Rattle.semantics_lines.specs.Faults.{ShapeLabel}
use Rattle.semantics.specs.Labels.{label_at}
use Rattle.semantics.specs.Registry.{has_some}
use Rattle.semantics.specs.Runs.{Run, one}
use Rattle.semantics.specs.Setters.{Outcome, set_scalar}
use Rattle.semantics.specs.Reading.{from_events, of_shape, is_nothing, value_of, plain_layout, read_shape, read, read_part, read_tuple, read_object, read_struct}
use Rattle.semantics.specs.Seen.{is_nothing_event}
use Rattle.semantics_causes.specs.Taken.{at_start, TookObject, TookTuple, Took}
use Rattle.semantics_causes.specs.Due.{Part, defined_at}
use Rattle.semantics_causes.specs.Causes.{tuple_takes, starts_object, starts_sequence, takes_first, at_once}
use Rattle.laws_reading.specs.Input.{fault_at, ◌>>=◌}
use Rattle.laws_reading.specs.Nodes.{bare_node, or_refused}
use Rattle.laws_reading.specs.Sequences.{Items}
use Rattle.laws_reading.specs.Tuples.{empty_tuple}
use Rattle.laws_reading.specs.Values.{Terms, target_of}
use Rattle.laws_machine.specs.Frames.{items, elements, keyed, object, outcome_key, node, Frame, Frames, path}
use Rattle.laws_machine.specs.Delivery.{here, deliver, handed}
use Rattle.laws_machine.specs.Begins.{begin_scalar, begin_result, begin_items, begin_tuple, begin_struct, begin_object, new_items, new_tuple, new_object, new_result}
use Rattle.laws_causes.proofs.Holding.{IsOf, ListDefined, Holds}
use Rattle.laws_causes.proofs.Keeping.{Fits, Open, Caused, After}
use Rattle.laws_causes.proofs.Standing.{fits_path, fits_value}
use Rattle.laws_causes.proofs.Refusing.{value_after, unexpected_there, spot_first}
use Rattle.laws_causes.proofs.Starts.{items_start, elements_start, keyed_start, object_start, node_start, result_start}
use Rattle.laws_causes.proofs.Unset.{unset_caused}

module _ (t : Terms) (root : Part) where
  -- the start of a part that is open then
  started : (f : Frame) (fs : Frames) (outer : List Event) (part : Part) (e : Event) (n : ℕ) → part.depth ≡ suc n → Fits t root fs outer part (Some e) → Holds t f part n (e ∷ []) → Open t root f fs (outer ++ (e ∷ []))
  started f fs outer part e n deep fits holds = record { part = part; n = n; deep = deep; before = outer; own = e ∷ []; is = refl; fits = fits; holds = holds }

  module _ (top : root.path ≡ []) where
    module _ (n s : ℕ) (fs : Frames) (outer : List Event) (part : Part) (last : Span) (what : part.what ≡ of_shape s) (depth : part.depth ≡ suc n) where
      -- its first event isn't one that the form takes
      pub strange : (o : Option Definition) → definition_at t.setting.registry s ≡ o → (e : Event) → Fits t root fs outer part (Some e) → Took t.setting n [] s o at_start → takes_first o e ≡ false
          → Caused t root (outer ++ (e ∷ [])) [] (fault_at unexpected_token (path t fs) (here (span_of e)))
      strange o defined e fits took other =
          unexpected_there t root outer e (spot_first t root top fs outer part (Some e) fits n depth s what (subst (λ o. Took t.setting n [] s o at_start) (sym defined) took) (e ∷ []) refl)
          (ap (λ o. takes_first o e) (ap (λ w. defined_at t.setting.registry w) what ∙ defined) ∙ other) (path t fs) (fits_path t root top fs outer part (Some e) fits) (span_of e)

      module _ (d : Definition) (defined : definition_at t.setting.registry s ≡ Some d) where
        of : IsOf t part s d
        of = record { what = what; defined = defined }

        took_none : Took t.setting n [] s (Some d) at_start → Took t.setting n [] s (definition_at t.setting.registry s) at_start
        took_none h = subst (λ o. Took t.setting n [] s o at_start) (sym defined) h

        reads_by : (run : Run) → read_part t.setting part.depth part.what part.source run ≡ read_shape t.setting (read t.setting n) s part.source run (Some d)
        reads_by run =
            ap (λ k. read_part t.setting k part.what part.source run) depth ∙ ap (λ w. read_part t.setting (suc n) w part.source run) what
            ∙ ap (read_shape t.setting (read t.setting n) s part.source run) defined

      -- a scalar, or the start of a node
      pub scalar_after : (x : ScalarType) → definition_at t.setting.registry s ≡ Some (scalar_shape x) → (e : Event) → Fits t root fs outer part (Some e) → After t root false outer e (begin_scalar t (target_of t s x) fs e)
      scalar_after x defined (leaf (scalar v m)) fits = by_outcome (set_scalar t.setting.borrow (label_at t.setting.registry s) x v) refl
        where
          by_outcome : (o : Outcome) → set_scalar t.setting.borrow (label_at t.setting.registry s) x v ≡ o → After t root false outer (leaf (scalar v m)) (or_refused o (path t fs) (here m.span) >>= handed fs)
          by_outcome (Ok w) set =
              value_after t root false outer (leaf (scalar v m)) (deliver fs w)
              (fits_value t root fs outer part (Some (leaf (scalar v m))) fits (one v m) w refl (reads_by (scalar_shape x) defined (one v m) ∙ ap value_of set))
          by_outcome (Err kind) unset =
              unset_caused t root (outer ++ (leaf (scalar v m) ∷ [])) [] kind m.span (path t fs) (record {
                here = record { front = outer; event = leaf (scalar v m); is = refl; spot = spot_first t root top fs outer part (Some (leaf (scalar v m))) fits n depth s what (took_none (scalar_shape x) defined tt) (leaf (scalar v m) ∷ []) refl };
                shape = s;
                is_shape = what;
                type = x;
                is_scalar = defined;
                sets = at_once refl;
                value = v;
                note = m;
                event = refl;
                unset = unset;
                at = fits_path t root top fs outer part (Some (leaf (scalar v m))) fits;
              })
      scalar_after x defined (start of_struct k m) fits = started (node (record { target = target_of t s x; node = bare_node })) fs outer part (start of_struct k m) n depth fits (node_start t s x part n k m (of (scalar_shape x) defined))
      scalar_after x defined (start of_sequence k m) fits = strange (Some (scalar_shape x)) defined (start of_sequence k m) fits tt refl
      scalar_after x defined (leaf (key q)) fits = strange (Some (scalar_shape x)) defined (leaf (key q)) fits tt refl
      scalar_after x defined (leaf (tag v m)) fits = strange (Some (scalar_shape x)) defined (leaf (tag v m)) fits tt refl
      scalar_after x defined (stop b m) fits = strange (Some (scalar_shape x)) defined (stop b m) fits tt refl

      -- the start of a result
      pub result_after : (i j : ℕ) → definition_at t.setting.registry s ≡ Some (result_shape i j) → (e : Event) → Fits t root fs outer part (Some e) → After t root false outer e (begin_result t (new_result i j n) fs e)
      result_after i j defined (start of_struct k m) fits = started (outcome_key (new_result i j n)) fs outer part (start of_struct k m) n depth fits (result_start t s i j part n k m (of (result_shape i j) defined))
      result_after i j defined (start of_sequence k m) fits = strange (Some (result_shape i j)) defined (start of_sequence k m) fits tt refl
      result_after i j defined (leaf (scalar v m)) fits = strange (Some (result_shape i j)) defined (leaf (scalar v m)) fits tt refl
      result_after i j defined (leaf (key q)) fits = strange (Some (result_shape i j)) defined (leaf (key q)) fits tt refl
      result_after i j defined (leaf (tag v m)) fits = strange (Some (result_shape i j)) defined (leaf (tag v m)) fits tt refl
      result_after i j defined (stop b m) fits = strange (Some (result_shape i j)) defined (stop b m) fits tt refl

      -- the start of a list or an array
      pub items_begin : (l : Items) (i : ℕ) (d : Definition) → definition_at t.setting.registry s ≡ Some d → l.shape ≡ label_at t.setting.registry s → ListDefined t s (new_items l i n) → Took t.setting n [] s (Some d) at_start
          → ((e : Event) → starts_sequence e ≡ false → takes_first (Some d) e ≡ false) → (e : Event) → Fits t root fs outer part (Some e) → After t root false outer e (begin_items t (new_items l i n) fs e)
      items_begin l i d defined same list took takes (start of_sequence k m) fits =
          started (items (new_items l i n)) fs outer part (start of_sequence k m) n depth fits (items_start t (new_items l i n) part n k m refl (what ∙ ap (λ (x : ShapeLabel). of_shape x.number) (sym same)) (same ∙ ap (λ (x : ShapeLabel). label_at t.setting.registry x.number) (sym same)) (subst (λ (x : ShapeLabel). ListDefined t x.number (new_items l i n)) (sym same) list) refl)
      items_begin l i d defined same list took takes (start of_struct k m) fits = strange (Some d) defined (start of_struct k m) fits took (takes (start of_struct k m) refl)
      items_begin l i d defined same list took takes (leaf (scalar v m)) fits = strange (Some d) defined (leaf (scalar v m)) fits took (takes (leaf (scalar v m)) refl)
      items_begin l i d defined same list took takes (leaf (key q)) fits = strange (Some d) defined (leaf (key q)) fits took (takes (leaf (key q)) refl)
      items_begin l i d defined same list took takes (leaf (tag v m)) fits = strange (Some d) defined (leaf (tag v m)) fits took (takes (leaf (tag v m)) refl)
      items_begin l i d defined same list took takes (stop b m) fits = strange (Some d) defined (stop b m) fits took (takes (stop b m) refl)

      module _ (d : StructShape) (defined : definition_at t.setting.registry s ≡ Some (struct_shape d)) where
        took_struct : Took t.setting n [] s (Some (struct_shape d)) at_start
        took_struct = by_kind (is_tuple d.kind)
          where
            by_kind : (b : Bool) → cond b (TookTuple t.setting n d at_start) (TookObject t.setting n [] d at_start)
            by_kind true = tt
            by_kind false = tt

        -- the start of a tuple
        tuple_after : is_tuple d.kind ≡ true → (e : Event) → Fits t root fs outer part (Some e) → After t root false outer e (begin_tuple t (new_tuple (label_at t.setting.registry s) d n) fs e)
        tuple_after tuple e fits = by_event e fits
          where
            other : (e : Event) → Fits t root fs outer part (Some e) → tuple_takes d e ≡ false → Caused t root (outer ++ (e ∷ [])) [] (fault_at unexpected_token (path t fs) (here (span_of e)))
            other e fits none_of = strange (Some (struct_shape d)) defined e fits took_struct (ap (λ b. cond b (tuple_takes d e) (starts_object e)) tuple ∙ none_of)

            by_event : (e : Event) → Fits t root fs outer part (Some e) → After t root false outer e (begin_tuple t (new_tuple (label_at t.setting.registry s) d n) fs e)
            by_event (start of_sequence k m) fits = started (elements (new_tuple (label_at t.setting.registry s) d n)) fs outer part (start of_sequence k m) n depth fits (elements_start t s d part n k m (of (struct_shape d) defined) tuple)
            by_event (start of_struct object_kind m) fits = started (keyed (new_tuple (label_at t.setting.registry s) d n)) fs outer part (start of_struct object_kind m) n depth fits (keyed_start t s d part n m (of (struct_shape d) defined) tuple)
            by_event (start of_struct array_kind m) fits = other (start of_struct array_kind m) fits refl
            by_event (leaf (scalar v m)) fits = by_empty (not (has_some d.fields) && is_nothing v) refl
              where
                by_empty : (b : Bool) → (not (has_some d.fields) && is_nothing v) ≡ b → After t root false outer (leaf (scalar v m)) (empty_tuple b (path t fs) (here m.span) >>= handed fs)
                by_empty true is =
                    value_after t root false outer (leaf (scalar v m)) (deliver fs (structure (trees_of [])))
                    (fits_value t root fs outer part (Some (leaf (scalar v m))) fits (one v m) (structure (trees_of [])) refl
                    (reads_by (struct_shape d) defined (one v m)
                    ∙ ap (λ b. cond b (read_tuple t.setting (read t.setting n) d (one v m)) (read_object (read_struct t.setting (read t.setting n) [] d.deny (plain_layout d)) (one v m))) tuple
                    ∙ ap (λ b. cond b (Some (structure no_trees)) None) is))
                by_empty false is = other (leaf (scalar v m)) fits is
            by_event (leaf (key q)) fits = other (leaf (key q)) fits refl
            by_event (leaf (tag v m)) fits = other (leaf (tag v m)) fits refl
            by_event (stop b m) fits = other (stop b m) fits refl

        -- the start of a struct
        object_after : is_tuple d.kind ≡ false → (e : Event) → Fits t root fs outer part (Some e) → After t root false outer e (begin_object t (new_object s d n) fs e)
        object_after plain e fits = by_event e fits
          where
            other : (e : Event) → Fits t root fs outer part (Some e) → starts_object e ≡ false → Caused t root (outer ++ (e ∷ [])) [] (fault_at unexpected_token (path t fs) (here (span_of e)))
            other e fits none_of = strange (Some (struct_shape d)) defined e fits took_struct (ap (λ b. cond b (tuple_takes d e) (starts_object e)) plain ∙ none_of)

            by_event : (e : Event) → Fits t root fs outer part (Some e) → After t root false outer e (begin_object t (new_object s d n) fs e)
            by_event (start of_struct k m) fits = started (object (new_object s d n)) fs outer part (start of_struct k m) n depth fits (object_start t s d part n k m (of (struct_shape d) defined) plain)
            by_event (start of_sequence k m) fits = other (start of_sequence k m) fits refl
            by_event (leaf (scalar v m)) fits = other (leaf (scalar v m)) fits refl
            by_event (leaf (key q)) fits = other (leaf (key q)) fits refl
            by_event (leaf (tag v m)) fits = other (leaf (tag v m)) fits refl
            by_event (stop b m) fits = other (stop b m) fits refl

        pub struct_after : (b : Bool) → is_tuple d.kind ≡ b → (e : Event) → Fits t root fs outer part (Some e) → After t root false outer e (begin_struct t s d n b fs e)
        struct_after true tuple e fits = tuple_after tuple e fits
        struct_after false plain e fits = object_after plain e fits

      -- null or unit for an option
      pub nothing_after : (i : ℕ) → definition_at t.setting.registry s ≡ Some (option_shape i) → (e : Event) → is_nothing_event e ≡ true → Fits t root fs outer part (Some e) → After t root false outer e (deliver fs none)
      nothing_after i defined (leaf (scalar v m)) is fits =
          value_after t root false outer (leaf (scalar v m)) (deliver fs none)
          (fits_value t root fs outer part (Some (leaf (scalar v m))) fits (one v m) none refl
          (reads_by (option_shape i) defined (one v m) ∙ ap (λ b. cond b (Some none) (option_map some (read t.setting n i from_events (one v m)))) is))
      nothing_after i defined (leaf (key q)) is fits = absurd cc
      nothing_after i defined (leaf (tag v m)) is fits = absurd cc
      nothing_after i defined (start b k m) is fits = absurd cc
      nothing_after i defined (stop b m) is fits = absurd cc
