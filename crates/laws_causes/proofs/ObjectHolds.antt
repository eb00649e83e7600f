-- What came of a struct that is read as an object, and what one more entry adds to it.
use Rattle.std.proofs.Common.{◌≡◌, ℕ, List, [], ◌∷◌, ◌++◌, Option, Some, None, Bool, true, false, cond, not, ◌||◌, option_and_then, refl, sym, ap, ◌∙◌, subst, append_assoc}
use Rattle.std.specs.List.{cons_option}
use Rattle.std.proofs.lemmas.List.{append-nil}
use Rattle.semantics_lines.specs.Trees.{Tree}
use Rattle.semantics_lines.specs.Shapes.{StructShape, Registry, definition_at}
use Rattle.semantics_lines.specs.Events.{Note, Key, key, of_struct, ContainerKind, Event, leaf, start}
use Rattle.semantics.specs.Runs.{Run, run_events, Entry, entries_events}
use Rattle.semantics.specs.Places.{Path, At, has_whole, is_taken}
use Rattle.semantics.specs.Keys.{after_key, with_entry}
use Rattle.semantics.specs.Typed.{object_of}
use Rattle.semantics.specs.Reading.{Part, of_shape, of_variant, of_tag, of_entry, Parts, part_value, parts_by, source_of, plain_layout, read, read_part}
use Rattle.semantics.specs.Ends.{End}
use Rattle.semantics_causes.specs.Taken.{struct_plan, leads_behind, end_in, placed_in, is_free, TookEntry, TookEntries, Place, in_object, TookObject, TookTuple, Took}
use Rattle.semantics_causes.specs.Due.{defined_at, IsObject, Stands}
use Rattle.semantics_causes.specs.Due as due
use Rattle.laws_reading.specs.Structs.{Told, Got, told_at}
use Rattle.laws_reading.specs.Values.{Terms}
use Rattle.laws_reading.proofs.Objects.{entry}
use Rattle.laws_reading.proofs.Ends.{Kept, kept_more, whole_kept, whole_ends, taken_kept, placed_at}
use Rattle.laws_reading.proofs.Entries.{after_keys_more, placed_among}
use Rattle.laws_machine.specs.Frames.{StructPart}
use Rattle.laws_machine.specs.Delivery.{with_got}
use Rattle.laws_causes.proofs.Apart.{apart_more}
use Rattle.laws_causes.proofs.Lacking.{Spanned, spanned_more, leaf_shape}
use Rattle.laws_causes.proofs.Open.{entries_events-append}
use Rattle.laws_causes.proofs.Holding.{KeepsGot, HoldsObject}

-- a key and its run go on behind what came of an object
pub entry_behind : (k : ContainerKind) (m : Note) (es : List Entry) (q : Key) (run : Run) (own : List Event) → own ≡ (start of_struct k m ∷ entries_events es) ++ (leaf (key q) ∷ [])
    → own ++ run_events run ≡ start of_struct k m ∷ entries_events (es ++ (entry q run ∷ []))
entry_behind k m es q run own is =
    ap (λ l. l ++ run_events run) is
    ∙ ap (λ l. start of_struct k m ∷ l)
    (append_assoc (entries_events es) (leaf (key q) ∷ []) (run_events run)
    ∙ ap (λ l. entries_events es ++ (leaf (key q) ∷ l)) (sym (append-nil (run_events run)))
    ∙ sym (entries_events-append es (entry q run ∷ [])))

-- nothing stands for the whole object
no_root : (g : Registry) (d : StructShape) (rd : Parts Entry) (xs : List (At Entry)) (ys : List (At Told)) → Kept (end_in g [] d) rd xs ys → has_whole ys ≡ false
no_root g d rd xs ys h = by_whole (has_whole xs) refl
  where
    by_whole : (b : Bool) → has_whole xs ≡ b → has_whole ys ≡ false
    by_whole true is = let (e, end) = whole_ends (end_in g [] d) rd xs ys h is in absurd cc
    by_whole false is = sym (whole_kept (end_in g [] d) rd xs ys h) ∙ is

-- where one value stands, and may, none was there
pub none_taken : (g : Registry) (d : StructShape) (o : Option End) (end : End) (way : Path) (xs : List (At Entry)) → end_in g [] d way ≡ o → o ≡ Some end
    → is_free o way xs ≡ true → is_taken way xs ≡ false
none_taken g d None end way xs at is free = absurd cc
none_taken g d (Some e) end way xs at is free =
    let (s, one) = leaf_shape g [] (plain_layout d) way e at in
    by_taken (is_taken way xs) refl (sym (ap (λ (z : End). z.many || not (is_taken way xs)) one) ∙ free)
  where
    by_taken : (b : Bool) → is_taken way xs ≡ b → not (is_taken way xs) ≡ true → is_taken way xs ≡ false
    by_taken true taken free = absurd (let wrong : false ≡ true = sym (ap not taken) ∙ free in cc)
    by_taken false taken free = taken

module _ (t : Terms) (n : ℕ) (d : StructShape) where
  abbrev pub g : Registry
  g = t.setting.registry

  abbrev pub values : Parts Entry
  values = parts_by (part_value g (read t.setting n))

  -- what stands at the end of a path is read by its part
  pub part_reads : (p : Part) (q : Key) (run : Run) → part_value g (read t.setting n) p q run ≡ read_part t.setting n p (source_of q) run
  part_reads (of_shape s) q run = refl
  part_reads (of_variant j v) q run = refl
  part_reads (of_tag x) q run = refl
  part_reads (of_entry i j) q run = refl

  -- one entry more was taken
  pub took_more : (before es : List Entry) (e : Entry) → TookEntries t.setting n [] d before es → TookEntry t.setting n [] d (before ++ es) e → TookEntries t.setting n [] d before (es ++ (e ∷ []))
  took_more before [] e took one = (subst (λ l. TookEntry t.setting n [] d l e) (append-nil before) one, tt)
  took_more before (x ∷ es) e (first, more) one = (first, took_more (before ++ (x ∷ [])) es e more (subst (λ l. TookEntry t.setting n [] d l e) (sym (append_assoc before (x ∷ []) es)) one))

  -- what an entry adds to what is placed
  placed_more : (es : List Entry) (q : Key) (run : Run) (o : Option Path) → leads_behind g [] d es q ≡ o
      → placed_in g [] d (es ++ (entry q run ∷ [])) ≡ placed_in g [] d es ++ cons_option (with_entry (entry q run) o) []
  placed_more es q run o lead =
      placed_among (struct_plan g [] d) 0 es (entry q run) [] ∙ ap (λ o. placed_in g [] d es ++ cons_option (with_entry (entry q run) o) []) lead

  -- an entry whose key leads nowhere adds nothing
  pub keeps_nowhere : (es : List Entry) (got : Got) (q : Key) (run : Run) → KeepsGot t n d es got → leads_behind g [] d es q ≡ None
      → KeepsGot t n d (es ++ (entry q run ∷ [])) (record { count = after_key got.count q; values = got.values })
  keeps_nowhere es got q run keeps lead =
      let same : placed_in g [] d es ≡ placed_in g [] d (es ++ (entry q run ∷ [])) = sym (placed_more es q run None lead ∙ append-nil (placed_in g [] d es)) in
      record {
        count = ap (λ k. after_key k q) keeps.count ∙ sym (after_keys_more 0 es (entry q run));
        kept = subst (λ xs. Kept (end_in g [] d) values xs got.values) same keeps.kept;
        spanned = subst (λ xs. Spanned xs got.values) same keeps.spanned;
        apart = keeps.apart;
      }

  -- another one adds what was read, where its key leads
  pub keeps_field : (es : List Entry) (got : Got) (q : Key) (run : Run) (way : Path) (end : End) (v : Tree) → KeepsGot t n d es got → leads_behind g [] d es q ≡ Some way → end_in g [] d way ≡ Some end
      → is_taken way (placed_in g [] d es) ≡ false → read_part t.setting n end.part (source_of q) run ≡ Some v
      → KeepsGot t n d (es ++ (entry q run ∷ [])) (record { count = after_key got.count q; values = got.values ++ (told_at way q v ∷ []) })
  keeps_field es got q run way end v keeps lead ends free reads =
      let same : placed_in g [] d es ++ (placed_at way (entry q run) ∷ []) ≡ placed_in g [] d (es ++ (entry q run ∷ [])) = sym (placed_more es q run (Some way) lead) in
      let y : At Told = told_at way q v in
      record {
        count = ap (λ k. after_key k q) keeps.count ∙ sym (after_keys_more 0 es (entry q run));
        kept = subst (λ xs. Kept (end_in g [] d) values xs (got.values ++ (y ∷ []))) same
            (kept_more (end_in g [] d) values (placed_in g [] d es) got.values (placed_at way (entry q run)) y keeps.kept (end, ends, part_reads end.part q run ∙ reads, refl));
        spanned = subst (λ xs. Spanned xs (got.values ++ (y ∷ []))) same
            (spanned_more (placed_in g [] d es) got.values (placed_at way (entry q run)) y keeps.spanned refl);
        apart = apart_more y.item (end_in g [] d) way got.values keeps.apart (no_root g d values (placed_in g [] d es) got.values keeps.kept)
            (sym (taken_kept (end_in g [] d) values way (placed_in g [] d es) got.values keeps.kept) ∙ free);
      }

-- the place before a key
module _ (t : Terms) (s : StructPart) (part : due.Part) (n : ℕ) (own : List Event) (holds : HoldsObject t s part n own) where
  pub is_object : IsObject t.setting.registry part.what holds.struct
  is_object =
      ap (λ w. option_and_then object_of (defined_at t.setting.registry w)) holds.defined.of.what
      ∙ ap (option_and_then object_of) holds.defined.of.defined
      ∙ ap (λ b. cond b None (Some holds.struct)) holds.defined.plain

  pub took_as : (p : Place) → TookObject t.setting n [] holds.struct p → Took t.setting n [] s.shape (definition_at t.setting.registry s.shape) p
  took_as p took =
      subst (λ o. Took t.setting n [] s.shape o p) (sym holds.defined.of.defined)
      (subst (λ b. cond b (TookTuple t.setting n holds.struct p) (TookObject t.setting n [] holds.struct p)) (sym holds.defined.plain) took)

  abbrev pub object_stands : (seen : List Event) → Stands t.setting part n own seen (in_object holds.kind holds.entries)
  object_stands seen = record {
    shape = s.shape;
    is_shape = holds.defined.of.what;
    choice = [];
    chosen = refl;
    reaches = (holds.note, holds.is);
    took = took_as (in_object holds.kind holds.entries) holds.took;
  }

  -- an entry more, whatever was got of it
  pub holds_more : (got : Got) (q : Key) (run : Run) → TookEntry t.setting n [] holds.struct holds.entries (entry q run) → KeepsGot t n holds.struct (holds.entries ++ (entry q run ∷ [])) got
      → HoldsObject t (with_got s got) part n ((own ++ (leaf (key q) ∷ [])) ++ run_events run)
  holds_more got q run took keeps = record {
    struct = holds.struct;
    defined = record { of = holds.defined.of; plain = holds.defined.plain; layout = holds.defined.layout; deny = holds.defined.deny; choice = holds.defined.choice; depth = holds.defined.depth };
    kind = holds.kind;
    note = holds.note;
    entries = holds.entries ++ (entry q run ∷ []);
    is = entry_behind holds.kind holds.note holds.entries q run (own ++ (leaf (key q) ∷ [])) (ap (λ l. l ++ (leaf (key q) ∷ [])) holds.is);
    took = took_more t n holds.struct [] holds.entries (entry q run) holds.took took;
    keeps = keeps;
  }
