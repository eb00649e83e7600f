-- What an event does to a list or a tuple that is open.
use Rattle.std.proofs.Common.{◌≡◌, ℕ, suc, ◌+◌, List, [], ◌∷◌, ◌++◌, length, drop, Option, Some, None, Result, Ok, Err, Bool, true, false, refl, sym, ap, ◌∙◌, subst, append_assoc}
use Rattle.std.specs.Prelude.{slice_get}
use Rattle.semantics_lines.specs.Trees.{Tree, list, structure, trees_of}
use Rattle.semantics_lines.specs.Shapes.{Field}
use Rattle.semantics_lines.specs.Events.{Span, Note, Key, key_note, scalar, key, tag, of_struct, of_sequence, Event, leaf, start, stop, span_of}
use Rattle.semantics_lines.specs.Faults.{unexpected_token, Fault}
use Rattle.semantics.specs.Runs.{Run, run_events}
use Rattle.semantics.specs.Typed.{has_length, has_room}
use Rattle.semantics.specs.Reading.{from_events, read_part}
use Rattle.semantics.specs.Seen.{ends_sequence}
use Rattle.semantics_causes.specs.Due.{Part, item_part}
use Rattle.semantics_causes.specs.Causes.{entry_takes}
use Rattle.laws_reading.specs.Input.{Input, ◌>>=◌, fault_at}
use Rattle.laws_reading.specs.Sequences.{length_fault, items_end}
use Rattle.laws_reading.specs.Tuples.{filled_from}
use Rattle.laws_reading.specs.Values.{Terms}
use Rattle.laws_machine.specs.Frames.{ItemsPart, TuplePart, items, elements, keyed, keyed_item, Frames, path}
use Rattle.laws_machine.specs.Delivery.{Steps, going, complete, here, deliver, handed}
use Rattle.laws_machine.specs.Steps.{more_step, item_step, as_tuple, element_in, element_step, keyed_in, keyed_step, step_at}
use Rattle.laws_machine.specs.Leaves.{unless, begin_leaves, or_past, element_leaves, leaves}
use Rattle.laws_causes.proofs.Holding.{Next, first_of, NextIs, HoldsItems, HoldsElements, HoldsKeyed}
use Rattle.laws_causes.proofs.Keeping.{Fits, fits_frame, Caused, After, AfterAwait, AfterValue}
use Rattle.laws_causes.proofs.Standing.{own_next, fits_value}
use Rattle.laws_causes.proofs.Refusing.{value_after}
use Rattle.laws_causes.proofs.Beginning.{begin_after, await_after}
use Rattle.laws_causes.proofs.ListEnds.{list_run, list_run_events, list_reads, elements_run, elements_run_events, elements_read, keyed_run, keyed_run_events, keyed_reads}
use Rattle.laws_causes.proofs.ListFaults.{short_caused, long_caused, another_caused, another_key_caused, keyed_unexpected, elements_lacking, keyed_lacking}

-- the end of a sequence
end_is : (e : Event) → ends_sequence e ≡ true → (m : Note) × (e ≡ stop of_sequence m)
end_is (stop of_sequence m) is = (m, refl)
end_is _ is = absurd cc

-- what awaiting a part comes to is what the key before it comes to
await_behind : (t : Terms) (root : Part) (before : List Event) (e : Event) (events : List Event) (r : Steps) → events ≡ before ++ (e ∷ []) → AfterAwait t root events r → After t root false before e r
await_behind t root before e events (Ok (going fs)) is h = subst (λ l. AfterAwait t root l (Ok (going fs))) is h
await_behind t root before e events (Ok (complete v)) is h = absurd h
await_behind t root before e events (Err f) is h = subst (λ l. AfterAwait t root l (Err f)) is h

module _ (t : Terms) where
  module _ (root : Part) (top : root.path ≡ []) (fs : Frames) (before own : List Event) (part : Part) (n : ℕ) (deep : part.depth ≡ suc n) (fits : Fits t root fs before part (first_of own None)) where
    -- a value that the event completes goes on to what is open
    whole_after : (e : Event) (run : Run) (v : Tree) → run_events run ≡ own ++ (e ∷ []) → read_part t.setting part.depth part.what part.source run ≡ Some v
        → After t root false (before ++ own) e (deliver fs v)
    whole_after e run v is reads =
        value_after t root false (before ++ own) e (deliver fs v)
        (subst (λ l. AfterValue t root l (deliver fs v)) (ap (λ l. before ++ l) is ∙ sym (append_assoc before own (e ∷ [])))
        (fits_value t root fs before part (first_of own None) fits run v (subst (NextIs (first_of own None)) (sym is) (own_next own (e ∷ []))) reads))

    -- what comes next makes no difference to what has begun
    fits_next : (x : Event) (xs : List Event) → own ≡ x ∷ xs → (next : Next) → Fits t root fs before part (first_of own next)
    fits_next x xs is next = subst (Fits t root fs before part) (ap (λ l. first_of l None) is ∙ sym (ap (λ l. first_of l next) is)) fits

    fits_behind : (x : Event) (xs : List Event) → own ≡ x ∷ xs → (more : List Event) (next : Next) → Fits t root fs before part (first_of (own ++ more) next)
    fits_behind x xs is more next = subst (Fits t root fs before part) (ap (λ l. first_of l None) is ∙ sym (ap (λ l. first_of (l ++ more) next) is)) fits

    pub items_after : (l : ItemsPart) → HoldsItems t l part n own → (last : Span) (e : Event) → After t root (leaves t (items l ∷ fs) e) (before ++ own) e (step_at t (items l ∷ fs) last e)
    items_after l holds last e = by_end (ends_sequence e) refl
      where
        ends : (b : Bool) → has_length l.items.len (length l.front) ≡ b → (m : Note) → e ≡ stop of_sequence m
            → After t root false (before ++ own) e (items_end b l.items l.front (path t fs) (here (span_of e)) >>= handed fs)
        ends true whole m is =
            whole_after e (list_run t part n own deep l holds m) (list (trees_of l.front)) (list_run_events t part n own deep l holds m ∙ ap (λ x. own ++ (x ∷ [])) (sym is))
            (list_reads t part n own deep l holds m whole)
        ends false whole m is = by_len l.items.len refl whole
          where
            by_len : (o : Option ℕ) → l.items.len ≡ o → has_length o (length l.front) ≡ false
                → After t root false (before ++ own) e (length_fault {A = Tree × Input} o l.items.shape (length l.front) (path t fs) (here (span_of e)) >>= handed fs)
            by_len None of whole = absurd cc
            by_len (Some wanted) of whole = short_caused t root top fs before own part n deep fits l holds e (ap ends_sequence is) wanted of whole (span_of e)

        more : (b : Bool) → has_room l.items.len (length l.front) ≡ b → ends_sequence e ≡ false
            → After t root (or_past b (begin_leaves t e l.depth l.item)) (before ++ own) e (more_step b t l fs last e)
        more true room goes =
            begin_after t root top l.depth l.item from_events (items l ∷ fs) (before ++ own) (item_part part n (length l.front) l.item) e last
            (fits_frame (items l) fs part n before own (item_part part n (length l.front) l.item) (Some e) deep (fits_next _ _ holds.is (Some e)) (record { holds = holds; room = room; on = goes; is = refl }))
            refl (sym holds.depth)
        more false room goes = by_len l.items.len refl room
          where
            by_len : (o : Option ℕ) → l.items.len ≡ o → has_room o (length l.front) ≡ false
                → After t root true (before ++ own) e (length_fault o l.items.shape (length l.front + 1) (path t fs) (here last))
            by_len None of room = absurd cc
            by_len (Some wanted) of room = long_caused t root top fs before own part n deep fits l holds e goes wanted of room last

        by_end : (b : Bool) → ends_sequence e ≡ b
            → After t root (unless b (or_past (has_room l.items.len (length l.front)) (begin_leaves t e l.depth l.item))) (before ++ own) e (item_step b t l fs last e)
        by_end true is = let (m, stops) = end_is e is in ends (has_length l.items.len (length l.front)) refl m stops
        by_end false is = more (has_room l.items.len (length l.front)) refl is

    pub elements_after : (l : TuplePart) → HoldsElements t l part n own → (last : Span) (e : Event) → After t root (leaves t (elements l ∷ fs) e) (before ++ own) e (step_at t (elements l ∷ fs) last e)
    elements_after l holds last e = by_end (ends_sequence e) refl
      where
        ends : (o : Result (List Tree) Fault) → filled_from t.setting.registry l.elements.shape (drop (length l.front) l.elements.fields) l.front (path t fs) (here (span_of e)) ≡ o
            → (m : Note) → e ≡ stop of_sequence m
            → After t root false (before ++ own) e (o >>= as_tuple fs)
        ends (Ok ws) told m is =
            whole_after e (elements_run t part n own deep l (path t fs) (here (span_of e)) ws told holds m) (structure (trees_of ws))
            (elements_run_events t part n own deep l (path t fs) (here (span_of e)) ws told holds m ∙ ap (λ x. own ++ (x ∷ [])) (sym is))
            (elements_read t part n own deep l (path t fs) (here (span_of e)) ws told holds m)
        ends (Err f) told m is =
            subst (λ x. Caused t root ((before ++ own) ++ (x ∷ [])) [] f) (sym is) (elements_lacking t root top fs before own part n deep fits l holds m (here (span_of e)) f told)

        more : (o : Option Field) → slice_get l.elements.fields (length l.front) ≡ o → ends_sequence e ≡ false
            → After t root (element_leaves o (begin_leaves t e l.depth)) (before ++ own) e (element_in o t l fs last e)
        more None is goes = another_caused t root top fs before own part n deep fits l holds e goes is last
        more (Some f) is goes =
            begin_after t root top l.depth f.shape from_events (elements l ∷ fs) (before ++ own) (item_part part n (length l.front) f.shape) e last
            (fits_frame (elements l) fs part n before own (item_part part n (length l.front) f.shape) (Some e) deep (fits_next _ _ holds.is (Some e))
            (record { holds = holds; field = f; here = is; on = goes; is = refl }))
            refl (sym holds.defined.depth)

        by_end : (b : Bool) → ends_sequence e ≡ b
            → After t root (unless b (element_leaves (slice_get l.elements.fields (length l.front)) (begin_leaves t e l.depth))) (before ++ own) e (element_step b t l fs last e)
        by_end true is =
            let (m, stops) = end_is e is in
            ends (filled_from t.setting.registry l.elements.shape (drop (length l.front) l.elements.fields) l.front (path t fs) (here (span_of e))) refl m stops
        by_end false is = more (slice_get l.elements.fields (length l.front)) refl is

    pub keyed_after : (l : TuplePart) → HoldsKeyed t l part n own → (last : Span) (e : Event) → After t root (leaves t (keyed l ∷ fs) e) (before ++ own) e (step_at t (keyed l ∷ fs) last e)
    keyed_after l holds last e = by_event e
      where
        strange : (e : Event) → entry_takes e ≡ false → Caused t root ((before ++ own) ++ (e ∷ [])) [] (fault_at unexpected_token (path t fs) (here (span_of e)))
        strange e other = keyed_unexpected t root top fs before own part n deep fits l holds e other (span_of e)

        ends : (m : Note) (o : Result (List Tree) Fault) → filled_from t.setting.registry l.elements.shape (drop (length l.front) l.elements.fields) l.front (path t fs) (here m.span) ≡ o
            → After t root false (before ++ own) (stop of_struct m) (o >>= as_tuple fs)
        ends m (Ok ws) told =
            whole_after (stop of_struct m) (keyed_run t part n own deep l (path t fs) (here m.span) ws told holds m) (structure (trees_of ws))
            (keyed_run_events t part n own deep l (path t fs) (here m.span) ws told holds m) (keyed_reads t part n own deep l (path t fs) (here m.span) ws told holds m)
        ends m (Err f) told = keyed_lacking t root top fs before own part n deep fits l holds m (here m.span) f told

        more : (q : Key) (o : Option Field) → slice_get l.elements.fields (length l.front) ≡ o → After t root false (before ++ own) (leaf (key q)) (keyed_in o t l fs (key_note q).span)
        more q None is = another_key_caused t root top fs before own part n deep fits l holds q is (key_note q).span
        more q (Some f) is =
            await_behind t root (before ++ own) (leaf (key q)) (before ++ (own ++ (leaf (key q) ∷ []))) (keyed_in (Some f) t l fs (key_note q).span) (sym (append_assoc before own (leaf (key q) ∷ [])))
            (await_after t root top l.depth f.shape from_events (keyed_item l ∷ fs) (before ++ (own ++ (leaf (key q) ∷ []))) (item_part part n (length l.front) f.shape) (key_note q).span
            (fits_frame (keyed_item l) fs part n before (own ++ (leaf (key q) ∷ [])) (item_part part n (length l.front) f.shape) None deep (fits_behind _ _ holds.is (leaf (key q) ∷ []) None)
            (record { before = own; holds = holds; q = q; own_is = refl; field = f; here = is; is = refl }))
            refl (sym holds.defined.depth))

        by_event : (e : Event) → After t root false (before ++ own) e (keyed_step e t l fs)
        by_event (leaf (key q)) = more q (slice_get l.elements.fields (length l.front)) refl
        by_event (stop of_struct m) = ends m (filled_from t.setting.registry l.elements.shape (drop (length l.front) l.elements.fields) l.front (path t fs) (here m.span)) refl
        by_event (stop of_sequence m) = strange (stop of_sequence m) refl
        by_event (leaf (scalar x m)) = strange (leaf (scalar x m)) refl
        by_event (leaf (tag x m)) = strange (leaf (tag x m)) refl
        by_event (start b k m) = strange (start b k m) refl
