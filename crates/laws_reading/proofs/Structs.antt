-- The reader of structs, and the meaning, in both directions.
use Rattle.std.proofs.Common.{◌≡◌, ◌⊎◌, inl, inr, ℕ, List, [], ◌∷◌, ◌++◌, Option, Some, None, Result, Ok, Err, Bool, true, false, cond, not, ◌&&◌, option_map, refl, sym, ap, ◌∙◌, subst}
use Rattle.std.specs.List.{cons_option}
use Rattle.std.proofs.lemmas.List.{append-nil}
use Rattle.semantics_lines.specs.Trees.{Tree, structure, Trees}
use Rattle.semantics_lines.specs.Shapes.{Registry}
use Rattle.semantics_lines.specs.Events.{Span, Key, named, nameless, ordered, Event}
use Rattle.semantics_lines.specs.Faults.{Step, duplicate_field, Fault, Ending}
use Rattle.semantics.specs.Runs.{Run, run_events, Entry}
use Rattle.semantics.specs.Places.{Path, At, Choice}
use Rattle.semantics.specs.Keys.{Layout, plan_of, leads, key_label, after_key, with_entry, placed, is_allowed, are_allowed}
use Rattle.semantics.specs.Reading.{Source, Reader, Part, of_shape, of_variant, of_tag, of_entry, PartReader, part_value, source_of, parts_by, read_layout, read_entries, read_object}
use Rattle.semantics.specs.Seen.{last_span}
use Rattle.laws_reading.specs.Input.{Input, feed, ◌>>=◌, Reads, refused}
use Rattle.semantics.specs.Ends.{End, leaf_at, steps_at}
use Rattle.semantics.specs.Places.{is_taken}
use Rattle.laws_reading.specs.Structs.{ReadsPart, ReadsEnd, end_at, Told, Got, nothing_got, taken_span, told_at, got_value, at_end_of, passed_over, at_path, key_fault, field_at, kept, as_structure, gathered_trees, gathered, struct_at}
use Rattle.laws_reading.specs.Objects.{Takes, object_at}
use Rattle.laws_reading.specs.Skips.{skip_at}
use Rattle.laws_reading.specs.Laws.{Sound, Complete}
use Rattle.laws_reading.proofs.Steps.{bind_ok, ok_is}
use Rattle.laws_reading.proofs.Objects.{entry, EntrySound, EntryComplete, Finishes, object_sound, object_complete}
use Rattle.laws_reading.proofs.Skips.{skip_sound, skip_complete}
use Rattle.laws_reading.proofs.Ends.{Kept, kept_more, taken_kept, placed_at, Lost}
use Rattle.laws_reading.proofs.Lost.{layout_lost}
use Rattle.laws_reading.proofs.Same.{layout_same}
use Rattle.laws_reading.proofs.Leads.{key_leads}
use Rattle.laws_reading.proofs.Entries.{after_keys, after_keys_more, placed_among, allowed_more, not_allowed}
use Rattle.laws_reading.proofs.Gathered.{ok_of, gathered_ok}

ok_both : {A : Type 0} (r : Result A Fault) (o : Option A) → ok_of r ≡ o → (v : A) → ((r ≡ Ok v) → (o ≡ Some v)) × ((o ≡ Some v) → (r ≡ Ok v))
ok_both (Ok w) o same v = (λ e. cc, λ e. cc)
ok_both (Err f) o same v = (λ e. absurd cc, λ e. absurd cc)

-- where both give the same values, both give the same struct
built_both : (r : Result Trees Fault) (o : Option Trees) → ((v : Trees) → ((r ≡ Ok v) → (o ≡ Some v)) × ((o ≡ Some v) → (r ≡ Ok v))) → (w : Tree)
    → ((r >>= as_structure ≡ Ok w) → (option_map structure o ≡ Some w)) × ((option_map structure o ≡ Some w) → (r >>= as_structure ≡ Ok w))
built_both (Ok v) o same w = (λ e. ap (option_map structure) ((same v).0 refl) ∙ ap (λ z. Some z) (ok_is (structure v) w e), back o (same v).0)
  where
    back : (o : Option Trees) → ((◌≡◌ {A = Result Trees Fault} (Ok v) (Ok v)) → (o ≡ Some v)) → (option_map structure o ≡ Some w) → ◌≡◌ {A = Result Tree Fault} (Ok (structure v)) (Ok w)
    back o here e = let is = here refl in cc
built_both (Err f) None same w = (λ e. absurd cc, λ e. absurd cc)
built_both (Err f) (Some v) same w = let none = (same v).1 refl in absurd cc

-- a key that isn't allowed gives nothing
no_key : {A B : Type 0} (q : Key) (path : List Step) (input : Input) (x : A) → key_fault {A = A} q path input ≡ Ok x → B
no_key (named t m note) path input x e = absurd cc
no_key (nameless m note) path input x e = absurd cc
no_key (ordered note) path input x e = absurd cc

-- what stands at the ends of paths, where the values of shapes are read so
pub ends_sound : (g : Registry) (rd : Reader) (at : ReadsPart) → ((s : ℕ) (source : Source) → Sound (rd s source) (at s source)) → (p : Part) (q : Key) → Sound (part_value g rd p q) (end_at at p q)
ends_sound g rd at sound (of_shape s) q = sound s (source_of q)
ends_sound g rd at sound (of_variant j v) q = λ path es ending last w after e. absurd cc
ends_sound g rd at sound (of_tag t) q = λ path es ending last w after e. absurd cc
ends_sound g rd at sound (of_entry i j) q = λ path es ending last w after e. absurd cc

pub ends_complete : (g : Registry) (rd : Reader) (at : ReadsPart) → ((s : ℕ) (source : Source) → Complete (rd s source) (at s source)) → (p : Part) (q : Key) → Complete (part_value g rd p q) (end_at at p q)
ends_complete g rd at complete (of_shape s) q = complete s (source_of q)
ends_complete g rd at complete (of_variant j v) q = λ path r w rest ending last e. absurd cc
ends_complete g rd at complete (of_tag t) q = λ path r w rest ending last e. absurd cc
ends_complete g rd at complete (of_entry i j) q = λ path r w rest ending last e. absurd cc

-- what the entries of a struct are read as
abbrev pub struct_mean : Registry → PartReader → Choice → Bool → Layout → List Entry → Option Tree
struct_mean g rd c deny l es = option_map structure (read_entries g (parts_by rd) c deny l es)

module _ (g : Registry) (rd : PartReader) (read : ReadsEnd) (c : Choice) (deny : Bool) (l : Layout) (shape : ℕ) where
  -- the entries so far are allowed, and what they lead to was read
  abbrev pub Keeps : List Entry → Got → Type 0
  Keeps es s = (are_allowed (plan_of g c deny l) 0 es ≡ true) × (s.count ≡ after_keys 0 es) × Kept (leaf_at g c l) (parts_by rd) (placed (plan_of g c deny l) 0 es) s.values

  module _ (es : List Entry) (q : Key) where
    abbrev n : ℕ
    n = after_keys 0 es

    abbrev lead : Option Path
    lead = leads (plan_of g c deny l) (after_keys 0 es) q

    abbrev field_on : ℕ → List (At Told) → Reads Got
    field_on n got path input = cond (is_allowed (plan_of g c deny l) n q) (at_path (key_label (plan_of g c deny l) n q) (leaf_at g c l) (steps_at g c l) (leads (plan_of g c deny l) n q) read q (after_key n q) got path input) (key_fault q path input)

    next : (r : Run) (got : List (At Told)) → are_allowed (plan_of g c deny l) 0 es ≡ true → is_allowed (plan_of g c deny l) n q ≡ true → Kept (leaf_at g c l) (parts_by rd) (placed (plan_of g c deny l) 0 (es ++ (entry q r ∷ []))) got
        → Keeps (es ++ (entry q r ∷ [])) (record { count = after_key n q; values = got })
    next r got all one h = (allowed_more (plan_of g c deny l) 0 es (entry q r) all one, sym (after_keys_more 0 es (entry q r)), h)

    put_in : (r : Run) (got : List (At Told)) (p : Path) (s : End) (v : Tree) → lead ≡ Some p → leaf_at g c l p ≡ Some s → rd s.part q r ≡ Some v → Kept (leaf_at g c l) (parts_by rd) (placed (plan_of g c deny l) 0 es) got
        → Kept (leaf_at g c l) (parts_by rd) (placed (plan_of g c deny l) 0 (es ++ (entry q r ∷ []))) (got ++ (told_at p q v ∷ []))
    put_in r got p s v is end reads h =
        let same : placed (plan_of g c deny l) 0 (es ++ (entry q r ∷ [])) ≡ placed (plan_of g c deny l) 0 es ++ (placed_at p (entry q r) ∷ []) = placed_among (plan_of g c deny l) 0 es (entry q r) [] ∙ ap (λ o. placed (plan_of g c deny l) 0 es ++ cons_option (with_entry (entry q r) o) []) is in
        subst (λ xs. Kept (leaf_at g c l) (parts_by rd) xs (got ++ (told_at p q v ∷ []))) (sym same)
        (kept_more (leaf_at g c l) (parts_by rd) (placed (plan_of g c deny l) 0 es) got (placed_at p (entry q r)) (told_at p q v) h (s, end, reads, refl))

    -- an entry that leads nowhere changes nothing of what is placed
    put_nowhere : (r : Run) (got : List (At Told)) → lead ≡ None → Kept (leaf_at g c l) (parts_by rd) (placed (plan_of g c deny l) 0 es) got → Kept (leaf_at g c l) (parts_by rd) (placed (plan_of g c deny l) 0 (es ++ (entry q r ∷ []))) got
    put_nowhere r got is h =
        let same : placed (plan_of g c deny l) 0 (es ++ (entry q r ∷ [])) ≡ placed (plan_of g c deny l) 0 es ++ [] = placed_among (plan_of g c deny l) 0 es (entry q r) [] ∙ ap (λ o. placed (plan_of g c deny l) 0 es ++ cons_option (with_entry (entry q r) o) []) is in
        subst (λ xs. Kept (leaf_at g c l) (parts_by rd) xs got) (sym (same ∙ append-nil (placed (plan_of g c deny l) 0 es))) h

    module _ (got : List (At Told)) (all : are_allowed (plan_of g c deny l) 0 es ≡ true) (h : Kept (leaf_at g c l) (parts_by rd) (placed (plan_of g c deny l) 0 es) got) (path : List Step) (ending : Ending) (last : Span) where
      -- sound
      module _ (sound : (p : Part) (q : Key) → Sound (rd p q) (read p q)) (es' : List Event) (s' : Got) (after : Input) where
        abbrev Taken : Type 0
        Taken = (r : Run) × (es' ≡ run_events r ++ after.events) × (after.ending ≡ ending) × (after.last ≡ last_span last (run_events r)) × Keeps (es ++ (entry q r ∷ [])) s'

        sound_value : is_allowed (plan_of g c deny l) n q ≡ true → (p : Path) (s : End) → lead ≡ Some p → leaf_at g c l p ≡ Some s
            → (read s.part q (path ++ steps_at g c l p) (feed es' ending last) >>= got_value (after_key n q) got p q) ≡ Ok (s', after) → Taken
        sound_value one p s is end e =
            let (v, told, made) = bind_ok (read s.part q (path ++ steps_at g c l p) (feed es' ending last)) (got_value (after_key n q) got p q) (s', after) e in
            let same = ok_is (record { count = after_key n q; values = got ++ (told_at p q v.0 ∷ []) }, v.1) (s', after) made in
            let (r, cut, ends, at, reads) = sound s.part q (path ++ steps_at g c l p) es' ending last v.0 v.1 told in (
              r,
              cut ∙ ap (λ (y : Got × Input). run_events r ++ y.1.events) same,
              sym (ap (λ (y : Got × Input). y.1.ending) same) ∙ ends,
              sym (ap (λ (y : Got × Input). y.1.last) same) ∙ at,
              subst (λ (y : Got × Input). Keeps (es ++ (entry q r ∷ [])) y.0) same (next r (got ++ (told_at p q v.0 ∷ [])) all one (put_in r got p s v.0 is end reads h)),
            )

        sound_end : is_allowed (plan_of g c deny l) n q ≡ true → (p : Path) (o : Option End) → lead ≡ Some p → leaf_at g c l p ≡ o → at_end_of (key_label (plan_of g c deny l) n q) o (steps_at g c l p) read p q (after_key n q) got path (feed es' ending last) ≡ Ok (s', after) → Taken
        sound_end one p None is end e = absurd cc
        sound_end one p (Some s) is end e = by_test (not s.many && is_taken p got) e
          where
            by_test : (b : Bool)
                → cond b (refused (duplicate_field (key_label (plan_of g c deny l) n q) (taken_span p got)) path (feed es' ending last)) (read s.part q (path ++ steps_at g c l p) (feed es' ending last) >>= got_value (after_key n q) got p q) ≡ Ok (s', after) → Taken
            by_test true e = absurd cc
            by_test false e = sound_value one p s is end e

        sound_nowhere : is_allowed (plan_of g c deny l) n q ≡ true → lead ≡ None → (skip_at path (feed es' ending last) >>= passed_over (after_key n q) got) ≡ Ok (s', after) → Taken
        sound_nowhere one is e =
            let (bs, told, made) = bind_ok (skip_at path (feed es' ending last)) (passed_over (after_key n q) got) (s', after) e in
            let same = ok_is (record { count = after_key n q; values = got }, bs.1) (s', after) made in
            let (r, cut, ends, at) = skip_sound path es' ending last bs.0 bs.1 told in (
              r,
              cut ∙ ap (λ (y : Got × Input). run_events r ++ y.1.events) same,
              sym (ap (λ (y : Got × Input). y.1.ending) same) ∙ ends,
              sym (ap (λ (y : Got × Input). y.1.last) same) ∙ at,
              subst (λ (y : Got × Input). Keeps (es ++ (entry q r ∷ [])) y.0) same (next r got all one (put_nowhere r got is h)),
            )

        sound_path : is_allowed (plan_of g c deny l) n q ≡ true → (o : Option Path) → lead ≡ o → at_path (key_label (plan_of g c deny l) n q) (leaf_at g c l) (steps_at g c l) o read q (after_key n q) got path (feed es' ending last) ≡ Ok (s', after) → Taken
        sound_path one None is e = sound_nowhere one is e
        sound_path one (Some p) is e = sound_end one p (leaf_at g c l p) is refl e

        sound_field : field_on n got path (feed es' ending last) ≡ Ok (s', after) → Taken
        sound_field e = by_test (is_allowed (plan_of g c deny l) n q) refl e
          where
            by_test : (b : Bool) → is_allowed (plan_of g c deny l) n q ≡ b
                → cond b (at_path (key_label (plan_of g c deny l) n q) (leaf_at g c l) (steps_at g c l) lead read q (after_key n q) got path (feed es' ending last)) (key_fault q path (feed es' ending last)) ≡ Ok (s', after) → Taken
            by_test true one e = sound_path one lead refl e
            by_test false one e = no_key q path (feed es' ending last) (s', after) e

      -- complete
      module _ (complete : (p : Part) (q : Key) → Complete (rd p q) (read p q)) (r : Run) (rest : List Event) where
        abbrev Answer : Result (Got × Input) Fault → Type 0
        Answer told = ((l' : List Entry) → read_entries g (parts_by rd) c deny l (es ++ (entry q r ∷ l')) ≡ None) ⊎ ((s' : Got) × (told ≡ Ok (s', feed rest ending (last_span last (run_events r)))) × Keeps (es ++ (entry q r ∷ [])) s')

        abbrev input : Input
        input = feed (run_events r ++ rest) ending last

        none_read : (p : Path) (s : End) → lead ≡ Some p → leaf_at g c l p ≡ Some s → Lost (parts_by rd) s (entry q r) p (placed (plan_of g c deny l) 0 es) → (l' : List Entry) → read_entries g (parts_by rd) c deny l (es ++ (entry q r ∷ l')) ≡ None
        none_read p s is end gone l' = by_test (are_allowed (plan_of g c deny l) 0 (es ++ (entry q r ∷ l')))
          where
            whole : placed (plan_of g c deny l) 0 (es ++ (entry q r ∷ l')) ≡ placed (plan_of g c deny l) 0 es ++ (placed_at p (entry q r) ∷ placed (plan_of g c deny l) (after_key n q) l')
            whole = placed_among (plan_of g c deny l) 0 es (entry q r) l' ∙ ap (λ o. placed (plan_of g c deny l) 0 es ++ cons_option (with_entry (entry q r) o) (placed (plan_of g c deny l) (after_key n q) l')) is

            by_test : (b : Bool) → cond b (read_layout g (parts_by rd) c l (placed (plan_of g c deny l) 0 (es ++ (entry q r ∷ l')))) None ≡ None
            by_test true = ap (read_layout g (parts_by rd) c l) whole ∙ layout_lost g (parts_by rd) c l p s (entry q r) end (placed (plan_of g c deny l) 0 es) (placed (plan_of g c deny l) (after_key n q) l') got h gone
            by_test false = refl

        of_value : is_allowed (plan_of g c deny l) n q ≡ true → (p : Path) (s : End) → lead ≡ Some p → leaf_at g c l p ≡ Some s → (o : Option Tree) → rd s.part q r ≡ o
            → Answer (read s.part q (path ++ steps_at g c l p) input >>= got_value (after_key n q) got p q)
        of_value one p s is end None reads = inl (none_read p s is end (inl reads))
        of_value one p s is end (Some v) reads =
            let told = complete s.part q (path ++ steps_at g c l p) r v rest ending last reads in
            inr (record { count = after_key n q; values = got ++ (told_at p q v ∷ []) }, ap (λ z. z >>= got_value (after_key n q) got p q) told, next r (got ++ (told_at p q v ∷ [])) all one (put_in r got p s v is end reads h))

        of_end : is_allowed (plan_of g c deny l) n q ≡ true → (p : Path) (s : End) → lead ≡ Some p → leaf_at g c l p ≡ Some s → (b : Bool) → (not s.many && is_taken p got) ≡ b
            → Answer (cond b (refused (duplicate_field (key_label (plan_of g c deny l) n q) (taken_span p got)) path input) (read s.part q (path ++ steps_at g c l p) input >>= got_value (after_key n q) got p q))
        of_end one p s is end true taken = inl (none_read p s is end (inr (ap (λ b. not s.many && b) (taken_kept (leaf_at g c l) (parts_by rd) p (placed (plan_of g c deny l) 0 es) got h) ∙ taken)))
        of_end one p s is end false taken = of_value one p s is end (rd s.part q r) refl

        of_path : is_allowed (plan_of g c deny l) n q ≡ true → (o : Option Path) → lead ≡ o → Answer (at_path (key_label (plan_of g c deny l) n q) (leaf_at g c l) (steps_at g c l) o read q (after_key n q) got path input)
        of_path one None is = inr (record { count = after_key n q; values = got }, ap (λ z. z >>= passed_over (after_key n q) got) (skip_complete path r rest ending last), next r got all one (put_nowhere r got is h))
        of_path one (Some p) is =
            let (s, end) = key_leads g c deny l n q p is one in
            subst (λ o. Answer (at_end_of (key_label (plan_of g c deny l) n q) o (steps_at g c l p) read p q (after_key n q) got path input)) (sym end) (of_end one p s is end (not s.many && is_taken p got) refl)

        of_field : Answer (field_on n got path input)
        of_field = by_test (is_allowed (plan_of g c deny l) n q) refl
          where
            by_test : (b : Bool) → is_allowed (plan_of g c deny l) n q ≡ b → Answer (cond b (at_path (key_label (plan_of g c deny l) n q) (leaf_at g c l) (steps_at g c l) lead read q (after_key n q) got path input) (key_fault q path input))
            by_test true one = of_path one lead refl
            by_test false one = inl (λ l'. ap (λ b. cond b (read_layout g (parts_by rd) c l (placed (plan_of g c deny l) 0 (es ++ (entry q r ∷ l')))) None) (not_allowed (plan_of g c deny l) 0 es (entry q r) l' one))

  -- what the entries mean, and what one of them does
  abbrev mean : List Entry → Option Trees
  mean = read_entries g (parts_by rd) c deny l

  abbrev takes : Takes Got
  takes = field_at (leaf_at g c l) (steps_at g c l) (plan_of g c deny l) read

  pub field_sound : ((p : Part) (q : Key) → Sound (rd p q) (read p q)) → EntrySound Got Trees mean takes Keeps
  field_sound sound es s (all, count, h) q path l' ending last s' after e =
      sound_field es q s.values all h path ending last sound l' s' after (ap (λ n. field_on es q n s.values path (feed l' ending last)) (sym count) ∙ e)

  field_complete : ((p : Part) (q : Key) → Complete (rd p q) (read p q)) → EntryComplete Got Trees mean takes Keeps
  field_complete complete es s (all, count, h) q path r rest ending last =
      subst (λ n. Answer es q s.values all h path ending last complete r rest (field_on es q n s.values path (feed (run_events r ++ rest) ending last))) (sym count) (of_field es q s.values all h path ending last complete r rest)

  finishes : Finishes Got Trees mean takes Keeps (gathered_trees g c l shape)
  finishes es s (all, count, h) path input v =
      let same : mean es ≡ read_layout g kept c l s.values = ap (λ b. cond b (read_layout g (parts_by rd) c l (placed (plan_of g c deny l) 0 es)) None) all ∙ layout_same g (parts_by rd) c l (placed (plan_of g c deny l) 0 es) s.values h in
      ok_both (gathered_trees g c l shape s path input) (mean es) (gathered_ok g c l shape s path input ∙ sym same) v

  struct_complete_entry : ((p : Part) (q : Key) → Complete (rd p q) (read p q)) → EntryComplete Got Tree (struct_mean g rd c deny l) takes Keeps
  struct_complete_entry complete es s keeps q path r rest ending last =
      elim (field_complete complete es s keeps q path r rest ending last) [
        | inl none ↦ inl (λ l'. ap (option_map structure) (none l'))
        | inr found ↦ inr found
      ]

  struct_finishes : Finishes Got Tree (struct_mean g rd c deny l) takes Keeps (gathered g c l shape)
  struct_finishes es s keeps path input v = built_both (gathered_trees g c l shape s path input) (mean es) (finishes es s keeps path input) v

  pub entries_sound : ((p : Part) (q : Key) → Sound (rd p q) (read p q)) → Sound (read_object mean) (object_at takes nothing_got (gathered_trees g c l shape))
  entries_sound sound = object_sound Got Trees mean takes Keeps nothing_got (refl, refl, tt) (gathered_trees g c l shape) finishes (field_sound sound)

  pub entries_complete : ((p : Part) (q : Key) → Complete (rd p q) (read p q)) → Complete (read_object mean) (object_at takes nothing_got (gathered_trees g c l shape))
  entries_complete complete = object_complete Got Trees mean takes Keeps nothing_got (refl, refl, tt) (gathered_trees g c l shape) finishes (field_complete complete)

  pub struct_sound : ((p : Part) (q : Key) → Sound (rd p q) (read p q)) → Sound (read_object (struct_mean g rd c deny l)) (struct_at g read c deny l shape)
  struct_sound sound = object_sound Got Tree (struct_mean g rd c deny l) takes Keeps nothing_got (refl, refl, tt) (gathered g c l shape) struct_finishes (field_sound sound)

  pub struct_complete : ((p : Part) (q : Key) → Complete (rd p q) (read p q)) → Complete (read_object (struct_mean g rd c deny l)) (struct_at g read c deny l shape)
  struct_complete complete = object_complete Got Tree (struct_mean g rd c deny l) takes Keeps nothing_got (refl, refl, tt) (gathered g c l shape) struct_finishes (struct_complete_entry complete)
