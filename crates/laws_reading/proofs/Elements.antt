-- The items of a tuple: one by its place, and what stands for those that are absent.
use Rattle.std.proofs.Common.{◌≡◌, ℕ, zero, suc, List, [], ◌∷◌, ◌++◌, length, drop, Option, Some, None, Ok, Bool, true, option_map, refl, sym, ap, ap₂, ◌∙◌, append_assoc, length-append, arith}
use Rattle.std.proofs.lemmas.List.{append-nil}
use Rattle.std.specs.Prelude.{slice_get}
use Rattle.semantics_lines.specs.Trees.{Tree, structure, Trees, tree, trees_of}
use Rattle.semantics_lines.specs.Shapes.{Field, Registry}
use Rattle.semantics_lines.specs.Events.{Span, Event}
use Rattle.semantics_lines.specs.Faults.{Step, index_step, Ending}
use Rattle.semantics.specs.Runs.{Run, run_events}
use Rattle.semantics.specs.Reading.{Source, from_events, Reader, fill, and_trees, read_elements}
use Rattle.semantics.specs.Seen.{last_span}
use Rattle.laws_reading.specs.Input.{Input, feed, ◌>>=◌}
use Rattle.laws_reading.specs.Structs.{ReadsPart}
use Rattle.laws_reading.specs.Sequences.{with_item}
use Rattle.laws_reading.specs.Tuples.{Elements, element_at, or_missing, filled_from, as_tuple, tuple_end}
use Rattle.laws_reading.specs.Laws.{Sound, Complete}
use Rattle.laws_reading.proofs.Steps.{bind_ok, ok_is}
use Rattle.laws_reading.proofs.Sequences.{and_trees_some}

-- what stands at a place is what the rest from there begins with
place_of : {A : Type 0} → (k : ℕ) (xs : List A) (y : A) (ys : List A) → drop k xs ≡ y ∷ ys → slice_get xs k ≡ Some y
place_of zero [] y ys e = absurd cc
place_of (suc k) [] y ys e = absurd cc
place_of zero (x ∷ xs) y ys e = cc
place_of (suc k) (x ∷ xs) y ys e = place_of k xs y ys e

no_place : {A : Type 0} → (k : ℕ) (xs : List A) → drop k xs ≡ [] → slice_get xs k ≡ None
no_place zero [] e = refl
no_place (suc k) [] e = refl
no_place zero (x ∷ xs) e = absurd cc
no_place (suc k) (x ∷ xs) e = no_place k xs e

-- the rest behind the next place
next_place : {A : Type 0} → (k : ℕ) (xs : List A) (y : A) (ys : List A) → drop k xs ≡ y ∷ ys → drop (suc k) xs ≡ ys
next_place zero [] y ys e = absurd cc
next_place (suc k) [] y ys e = absurd cc
next_place zero (x ∷ xs) y ys e = cc
next_place (suc k) (x ∷ xs) y ys e = next_place k xs y ys e

-- these trees, and others behind them
abbrev pub lead : List Tree → Option Trees → Option Trees
lead [] o = o
lead (v ∷ vs) o = and_trees (Some v) (lead vs o)

lead_all : (vs more : List Tree) → lead vs (Some (trees_of more)) ≡ Some (trees_of (vs ++ more))
lead_all [] more = refl
lead_all (v ∷ vs) more = ap (and_trees (Some v)) (lead_all vs more)

-- where there are trees led by these, there are some behind them
lead_some : (vs : List Tree) (o : Option Trees) (ts : Trees) → lead vs o ≡ Some ts → (us : Trees) × (o ≡ Some us) × ((more : List Tree) → trees_of more ≡ us → trees_of (vs ++ more) ≡ ts)
lead_some [] o ts e = (ts, e, λ more is. is)
lead_some (v ∷ vs) o ts e =
    let (v', ts', here, behind, are) = and_trees_some (Some v) (lead vs o) ts e in
    let same : v ≡ v' = cc in
    let (us, is, whole) = lead_some vs o ts' behind in
    (us, is, λ more e. ap (tree v) (whole more e) ∙ ap (λ y. tree y ts') same ∙ are)

module _ (g : Registry) (rd : Reader) (t : Elements) where
  -- what the rest of the items is, behind so many
  abbrev pub Behind : List Tree → Option Trees
  Behind vs = read_elements g rd (drop (length vs) t.fields) []

  -- the fills that are told are those of the meaning
  filled_sound : (path : List Step) (input : Input) (fs : List Field) (front ws : List Tree) → filled_from g t.shape fs front path input ≡ Ok ws → (more : List Tree) × (front ++ more ≡ ws) × (read_elements g rd fs [] ≡ Some (trees_of more))
  filled_sound path input [] front ws e = ([], append-nil front ∙ ok_is front ws e, refl)
  filled_sound path input (f ∷ fs) front ws e = by_fill (fill g f) refl e (λ v. filled_sound path input fs (front ++ (v ∷ [])) ws)
    where
      by_fill : (o : Option Tree) → fill g f ≡ o → (or_missing f t.shape o path input >>= λ v. filled_from g t.shape fs (front ++ (v ∷ [])) path input) ≡ Ok ws
          → ((v : Tree) → filled_from g t.shape fs (front ++ (v ∷ [])) path input ≡ Ok ws → (more : List Tree) × ((front ++ (v ∷ [])) ++ more ≡ ws) × (read_elements g rd fs [] ≡ Some (trees_of more)))
          → (more : List Tree) × (front ++ more ≡ ws) × (and_trees (fill g f) (read_elements g rd fs []) ≡ Some (trees_of more))
      by_fill None is e go = absurd cc
      by_fill (Some v) is e go = let (more, whole, reads) = go v e in (v ∷ more, sym (append_assoc front (v ∷ []) more) ∙ whole, ap₂ and_trees is reads)

  filled_complete : (path : List Step) (input : Input) (fs : List Field) (front : List Tree) (us : Trees) → read_elements g rd fs [] ≡ Some us → (more : List Tree) × (trees_of more ≡ us) × (filled_from g t.shape fs front path input ≡ Ok (front ++ more))
  filled_complete path input [] front us e = ([], cc, ap (λ l. Ok l) (sym (append-nil front)))
  filled_complete path input (f ∷ fs) front us e =
      let (v, vs, here, behind, are) = and_trees_some (fill g f) (read_elements g rd fs []) us e in
      let (more, are', told) = filled_complete path input fs (front ++ (v ∷ [])) vs behind in (
        v ∷ more,
        ap (tree v) are' ∙ are,
        ap (λ o. or_missing f t.shape o path input >>= λ v. filled_from g t.shape fs (front ++ (v ∷ [])) path input) here ∙ told ∙ ap (λ l. Ok l) (append_assoc front (v ∷ []) more),
      )

  -- The tuple that is told of these items is what those of the meaning are, where they lead the same rest.
  pub end_sound : (path : List Step) (vs : List Tree) (input : Input) (w : Tree) (after : Input) (o : Option Trees) → o ≡ lead vs (Behind vs) → tuple_end g t path (vs, input) ≡ Ok (w, after) → (option_map structure o ≡ Some w) × (input ≡ after)
  end_sound path vs input w after o is e =
      let (ws, told, made) = bind_ok (filled_from g t.shape (drop (length vs) t.fields) vs path input) (as_tuple input) (w, after) e in
      let p = ok_is (structure (trees_of ws), input) (w, after) made in
      let (more, whole, reads) = filled_sound path input (drop (length vs) t.fields) vs ws told in (
        ap (option_map structure) (is ∙ ap (lead vs) reads ∙ lead_all vs more) ∙ ap (λ l. Some (structure (trees_of l))) whole ∙ ap (λ (y : Tree × Input). Some y.0) p,
        ap (λ (y : Tree × Input). y.1) p,
      )

  pub end_complete : (path : List Step) (vs : List Tree) (input : Input) (us : Trees) → lead vs (Behind vs) ≡ Some us → tuple_end g t path (vs, input) ≡ Ok (structure us, input)
  end_complete path vs input us e =
      let (ts, behind, whole) = lead_some vs (Behind vs) us e in
      let (more, are, told) = filled_complete path input (drop (length vs) t.fields) vs ts behind in
      ap (λ z. z >>= as_tuple input) told ∙ ap (λ x. Ok (structure x, input)) (whole more are)

-- the fields that are left behind one more item
pub left_next : (fields : List Field) (front : List Tree) (v : Tree) (f : Field) (fs : List Field) → drop (length front) fields ≡ f ∷ fs → drop (length (front ++ (v ∷ []))) fields ≡ fs
left_next fields front v f fs left =
    let added = length-append front (v ∷ []) in
    let next : length (front ++ (v ∷ [])) ≡ suc (length front) = omega (arith, added) in
    ap (λ k. drop k fields) next ∙ next_place (length front) fields f fs left

module _ (rd : Reader) (read : ReadsPart) (t : Elements) where
  -- What is read as one more item is a run that is read as the next field.
  pub record IsElement (front : List Tree) (fs : List Field) (x : Bool × List Tree) (l : List Event) (ending : Ending) (last : Span) (after : Input) : Type 0 where
    pub field : Field
    pub later : List Field
    pub left : fs ≡ field ∷ later
    pub value : Tree
    pub run : Run
    pub cut : l ≡ run_events run ++ after.events
    pub same : after.ending ≡ ending
    pub end : after.last ≡ last_span last (run_events run)
    pub reads : rd field.shape from_events run ≡ Some value
    pub is : ◌≡◌ {A = Bool × List Tree} (true, front ++ (value ∷ [])) x

  pub element_sound : ((s : ℕ) (source : Source) → Sound (rd s source) (read s source)) → (path : List Step) (front : List Tree) (fs : List Field) (x : Bool × List Tree) (l : List Event) (ending : Ending) (last : Span) (after : Input)
      → drop (length front) t.fields ≡ fs → element_at (slice_get t.fields (length front)) t read front path (feed l ending last) ≡ Ok (x, after) → IsElement front fs x l ending last after
  element_sound sound path front [] x l ending last after left e =
      let told = ap (λ o. element_at o t read front path (feed l ending last)) (sym (no_place (length front) t.fields left)) ∙ e in
      absurd cc
  element_sound sound path front (f ∷ fs) x l ending last after left e =
      let steps : List Step = path ++ (index_step (length front) ∷ []) in
      let told = ap (λ o. element_at o t read front path (feed l ending last)) (sym (place_of (length front) t.fields f fs left)) ∙ e in
      let (v, got, made) = bind_ok (read f.shape from_events steps (feed l ending last)) (with_item front) (x, after) told in
      let p = ok_is ((true, front ++ (v.0 ∷ [])), v.1) (x, after) made in
      let (r, cut, same, end, reads) = sound f.shape from_events steps l ending last v.0 v.1 got in
      record {
        field = f;
        later = fs;
        left = refl;
        value = v.0;
        run = r;
        cut = cut ∙ ap (λ (y : (Bool × List Tree) × Input). run_events r ++ y.1.events) p;
        same = sym (ap (λ (y : (Bool × List Tree) × Input). y.1.ending) p) ∙ same;
        end = sym (ap (λ (y : (Bool × List Tree) × Input). y.1.last) p) ∙ end;
        reads = reads;
        is = ap (λ (y : (Bool × List Tree) × Input). y.0) p;
      }

  pub element_complete : ((s : ℕ) (source : Source) → Complete (rd s source) (read s source)) → (path : List Step) (front : List Tree) (f : Field) (fs : List Field) (r : Run) (v : Tree) (rest : List Event) (ending : Ending) (last : Span)
      → drop (length front) t.fields ≡ f ∷ fs → rd f.shape from_events r ≡ Some v
      → element_at (slice_get t.fields (length front)) t read front path (feed (run_events r ++ rest) ending last) ≡ Ok ((true, front ++ (v ∷ [])), feed rest ending (last_span last (run_events r)))
  element_complete complete path front f fs r v rest ending last left reads =
      ap (λ o. element_at o t read front path (feed (run_events r ++ rest) ending last)) (place_of (length front) t.fields f fs left)
      ∙ ap (λ z. z >>= with_item front) (complete f.shape from_events (path ++ (index_step (length front) ∷ [])) r v rest ending last reads)
