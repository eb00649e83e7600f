-- What an event does to a struct that is open.
use Rattle.std.proofs.Common.{◌≡◌, ℕ, suc, List, [], ◌∷◌, ◌++◌, Some, None, Result, Ok, Err, true, false, cond, ◌&&◌, option_map, option_and_then, refl, sym, ap, ap₂, ◌∙◌, subst, append_assoc}
use Rattle.semantics_lines.specs.Trees.{Tree, structure}
use Rattle.semantics_lines.specs.Shapes.{StructShape, Registry}
use Rattle.semantics_lines.specs.Events.{Span, Note, scalar, key, tag, of_struct, of_sequence, Event, leaf, start, stop, span_of}
use Rattle.semantics_lines.specs.Faults.{Step, Fault}
use Rattle.semantics.specs.Registry.{IsRegistry}
use Rattle.semantics.specs.Runs.{Run, group, run_events, Entry}
use Rattle.semantics.specs.Keys.{ordered_count, are_allowed}
use Rattle.semantics.specs.Reading.{part_value, parts_by, plain_layout, read_layout, read_struct, read_object, read_tuple, read_shape, read, read_part}
use Rattle.semantics_causes.specs.Taken.{struct_plan, placed_in, TookEntries}
use Rattle.semantics_causes.specs.Due.{Part}
use Rattle.semantics_causes.specs.Causes.{struct_takes}
use Rattle.laws_reading.specs.Input.{Input, ◌>>=◌, unexpected}
use Rattle.laws_reading.specs.Structs.{kept, as_structure, gathered_trees, gathered}
use Rattle.laws_reading.specs.Values.{Terms}
use Rattle.laws_reading.proofs.Steps.{bind_ok, ok_is}
use Rattle.laws_reading.proofs.Streams.{inside_of, inside_of_entries, inside_of_events}
use Rattle.laws_reading.proofs.Entries.{after_keys_more}
use Rattle.laws_reading.proofs.Same.{layout_same}
use Rattle.laws_reading.proofs.Gathered.{ok_of, gathered_ok}
use Rattle.laws_machine.specs.Frames.{StructPart, object, Frames, path}
use Rattle.laws_machine.specs.Delivery.{here, deliver}
use Rattle.laws_machine.specs.Steps.{struct_end, step_at}
use Rattle.laws_machine.specs.Leaves.{leaves}
use Rattle.laws_causes.proofs.Holding.{first_of, NextIs, HoldsObject}
use Rattle.laws_causes.proofs.Keeping.{Fits, After, AfterValue}
use Rattle.laws_causes.proofs.Refusing.{value_after}
use Rattle.laws_causes.proofs.Standing.{own_next, fits_value}
use Rattle.laws_causes.proofs.ObjectCauses.{unexpected_here, missing_here}
use Rattle.laws_causes.proofs.ObjectKeys.{key_after}

module _ (t : Terms) where
  abbrev g : Registry
  g = t.setting.registry

  -- entries that were taken are allowed
  took_allowed : (n : ℕ) (d : StructShape) (before es : List Entry) → TookEntries t.setting n [] d before es → are_allowed (struct_plan g [] d) (ordered_count 0 before) es ≡ true
  took_allowed n d before [] took = refl
  took_allowed n d before (e ∷ es) (first, more) =
      ap₂ (λ a b. a && b) first.key.allowed
      (ap (λ k. are_allowed (struct_plan g [] d) k es) (sym (after_keys_more 0 before e)) ∙ took_allowed n d (before ++ (e ∷ [])) es more)

  module _ (s : StructPart) (part : Part) (n : ℕ) (own : List Event) (deep : part.depth ≡ suc n) (holds : HoldsObject t s part n own) where
    -- the run that ends here
    abbrev whole : Note → Run
    whole m = group of_struct holds.kind holds.note (inside_of holds.entries m)

    whole_is : (m : Note) → run_events (whole m) ≡ own ++ (stop of_struct m ∷ [])
    whole_is m = ap (λ l. start of_struct holds.kind holds.note ∷ l) (inside_of_events holds.entries m) ∙ ap (λ l. l ++ (stop of_struct m ∷ [])) (sym holds.is)

    -- what was gathered is what the entries are read as
    gathered_is : (path : List Step) (input : Input) (v : Tree) → gathered g s.choice s.layout s.shape s.got path input ≡ Ok v
        → read_struct t.setting (read t.setting n) [] holds.struct.deny (plain_layout holds.struct) holds.entries ≡ Some v
    gathered_is path input v told =
        let (vs, trees, made) = bind_ok (gathered_trees g s.choice s.layout s.shape s.got path input) as_structure v told in
        let same : structure vs ≡ v = ok_is (structure vs) v made in
        let kept_trees : read_layout g kept s.choice s.layout s.got.values ≡ Some vs = sym (gathered_ok g s.choice s.layout s.shape s.got path input) ∙ ap ok_of trees in
        let plain_trees : read_layout g kept [] (plain_layout holds.struct) s.got.values ≡ Some vs =
        ap (λ l. read_layout g kept [] l s.got.values) (sym holds.defined.layout) ∙ ap (λ c. read_layout g kept c s.layout s.got.values) (sym holds.defined.choice) ∙ kept_trees in
        ap (λ b. option_map structure (cond b (read_layout g (parts_by (part_value g (read t.setting n))) [] (plain_layout holds.struct) (placed_in g [] holds.struct holds.entries)) None))
        (took_allowed n holds.struct [] holds.entries holds.took)
        ∙ ap (option_map structure)
        (layout_same g (parts_by (part_value g (read t.setting n))) [] (plain_layout holds.struct) (placed_in g [] holds.struct holds.entries) s.got.values holds.keeps.kept ∙ plain_trees)
        ∙ ap (λ z. Some z) same

    whole_reads : (m : Note) (path : List Step) (input : Input) (v : Tree) → gathered g s.choice s.layout s.shape s.got path input ≡ Ok v
        → read_part t.setting part.depth part.what part.source (whole m) ≡ Some v
    whole_reads m path input v told =
        ap (λ w. read_part t.setting part.depth w part.source (whole m)) holds.defined.of.what
        ∙ ap (λ k. read t.setting k s.shape part.source (whole m)) deep
        ∙ ap (read_shape t.setting (read t.setting n) s.shape part.source (whole m)) holds.defined.of.defined
        ∙ ap (λ b. cond b (read_tuple t.setting (read t.setting n) holds.struct (whole m))
        (read_object (read_struct t.setting (read t.setting n) [] holds.struct.deny (plain_layout holds.struct)) (whole m))) holds.defined.plain
        ∙ ap (option_and_then (read_struct t.setting (read t.setting n) [] holds.struct.deny (plain_layout holds.struct))) (inside_of_entries holds.entries m)
        ∙ gathered_is path input v told

  module _ (root : Part) (top : root.path ≡ []) (checked : IsRegistry t.setting.registry) (fs : Frames) (before own : List Event) (part : Part) (n : ℕ) (deep : part.depth ≡ suc n) (fits : Fits t root fs before part (first_of own None)) where
    module _ (s : StructPart) (holds : HoldsObject t s part n own) where
      -- the end of the struct
      end_after : (m : Note) (r : Result Tree Fault) → struct_end t s fs m.span ≡ r → After t root false (before ++ own) (stop of_struct m) (r >>= deliver fs)
      end_after m (Ok v) told =
          value_after t root false (before ++ own) (stop of_struct m) (deliver fs v)
          (subst (λ l. AfterValue t root l (deliver fs v)) (ap (λ l. before ++ l) (whole_is s part n own deep holds m) ∙ sym (append_assoc before own (stop of_struct m ∷ [])))
          (fits_value t root fs before part (first_of own None) fits (whole s part n own deep holds m) v
          (subst (λ l. NextIs (first_of own None) l) (sym (whole_is s part n own deep holds m)) (own_next own (stop of_struct m ∷ [])))
          (whole_reads s part n own deep holds m (path t fs) (here m.span) v told)))
      end_after m (Err f) told = missing_here t root top fs before own part n deep fits s holds checked m f told

      -- another event
      other_after : (e : Event) → struct_takes g [] holds.struct holds.entries e ≡ false → After t root false (before ++ own) e (unexpected (path t fs) (here (span_of e)))
      other_after e none = unexpected_here t root top fs before own part n deep fits s holds e (span_of e) none

    pub object_after : (s : StructPart) → HoldsObject t s part n own → (last : Span) (e : Event) → After t root (leaves t (object s ∷ fs) e) (before ++ own) e (step_at t (object s ∷ fs) last e)
    object_after s holds last (leaf (key q)) = key_after t root top fs before own part n deep fits s holds q
    object_after s holds last (leaf (scalar x m)) = other_after s holds (leaf (scalar x m)) refl
    object_after s holds last (leaf (tag x m)) = other_after s holds (leaf (tag x m)) refl
    object_after s holds last (start b k m) = other_after s holds (start b k m) refl
    object_after s holds last (stop of_sequence m) = other_after s holds (stop of_sequence m) refl
    object_after s holds last (stop of_struct m) = end_after s holds m (struct_end t s fs m.span) refl
