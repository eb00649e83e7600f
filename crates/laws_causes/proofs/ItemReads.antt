-- What reading the items of lists and tuples comes to, one more at a time.
use Rattle.std.proofs.Common.{◌≡◌, suc, ◌≤◌, List, [], ◌∷◌, ◌++◌, length, take, drop, Option, Some, None, refl, sym, ap, ap₂, ◌∙◌, subst, arith}
use Rattle.std.specs.Prelude.{slice_get}
use Rattle.semantics_lines.specs.Trees.{Tree, trees_of}
use Rattle.semantics_lines.specs.Shapes.{Field, Registry}
use Rattle.semantics_lines.specs.Events.{Event}
use Rattle.semantics.specs.Runs.{Run}
use Rattle.semantics.specs.Reading.{from_events, Reader, and_trees, read_each, read_elements}
use Rattle.semantics.specs.Seen.{OnFirst}
use Rattle.laws_reading.proofs.Sequences.{and_trees_some}
use Rattle.laws_reading.proofs.Elements.{lead}
use Rattle.laws_causes.proofs.Holding.{Next, OnNext, NextIs}

-- the event that comes next is the first of these
pub on_first : (P : Event → Type 0) (next : Next) (es : List Event) → OnNext next P → NextIs next es → OnFirst es P
on_first P None es on is = absurd on
on_first P (Some e) [] on is = absurd is
on_first P (Some e) (x ∷ es) on is = subst P (sym is) on

-- as many runs are read as there are values
pub each_count : (rd : Run → Option Tree) (rs : List Run) (front : List Tree) → read_each rd rs ≡ Some (trees_of front) → length rs ≡ length front
each_count rd [] [] e = refl
each_count rd [] (v ∷ front) e = absurd cc
each_count rd (r ∷ rs) [] e = let (v, vs, here, behind, are) = and_trees_some (rd r) (read_each rd rs) _ e in absurd cc
each_count rd (r ∷ rs) (v ∷ front) e =
    let (w, ws, here, behind, are) = and_trees_some (rd r) (read_each rd rs) _ e in
    let later : read_each rd rs ≡ Some (trees_of front) = cc in
    ap suc (each_count rd rs front later)

-- one more run
pub each_more : (rd : Run → Option Tree) (rs : List Run) (front : List Tree) (r : Run) (v : Tree) → read_each rd rs ≡ Some (trees_of front) → rd r ≡ Some v
    → read_each rd (rs ++ (r ∷ [])) ≡ Some (trees_of (front ++ (v ∷ [])))
each_more rd [] [] r v e reads = ap (λ o. and_trees o (read_each rd [])) reads
each_more rd [] (w ∷ front) r v e reads = absurd cc
each_more rd (x ∷ rs) [] r v e reads = let (w, ws, here, behind, are) = and_trees_some (rd x) (read_each rd rs) _ e in absurd cc
each_more rd (x ∷ rs) (y ∷ front) r v e reads =
    let (w, ws, here, behind, are) = and_trees_some (rd x) (read_each rd rs) _ e in
    let later : read_each rd rs ≡ Some (trees_of front) = cc in
    let first : rd x ≡ Some y = cc in
    ap₂ and_trees first (each_more rd rs front r v later reads)

module _ (g : Registry) (rd : Reader) where
  pub elements_count : (fields : List Field) (rs : List Run) (front : List Tree) → read_elements g rd (take (length rs) fields) rs ≡ Some (trees_of front) → length rs ≡ length front
  elements_count fields [] [] e = refl
  elements_count fields [] (v ∷ front) e = absurd cc
  elements_count [] (r ∷ rs) front e = absurd cc
  elements_count (f ∷ fields) (r ∷ rs) [] e = let (w, ws, here, behind, are) = and_trees_some (rd f.shape from_events r) (read_elements g rd (take (length rs) fields) rs) _ e in absurd cc
  elements_count (f ∷ fields) (r ∷ rs) (v ∷ front) e =
      let (w, ws, here, behind, are) = and_trees_some (rd f.shape from_events r) (read_elements g rd (take (length rs) fields) rs) _ e in
      let later : read_elements g rd (take (length rs) fields) rs ≡ Some (trees_of front) = cc in
      ap suc (elements_count fields rs front later)

  -- no more runs are read than there are fields
  pub elements_within : (fields : List Field) (rs : List Run) (front : List Tree) → read_elements g rd (take (length rs) fields) rs ≡ Some (trees_of front) → length rs ≤ length fields
  elements_within fields [] front e = omega arith
  elements_within [] (r ∷ rs) front e = absurd cc
  elements_within (f ∷ fields) (r ∷ rs) [] e = let (w, ws, here, behind, are) = and_trees_some (rd f.shape from_events r) (read_elements g rd (take (length rs) fields) rs) _ e in absurd cc
  elements_within (f ∷ fields) (r ∷ rs) (v ∷ front) e =
      let (w, ws, here, behind, are) = and_trees_some (rd f.shape from_events r) (read_elements g rd (take (length rs) fields) rs) _ e in
      let later : read_elements g rd (take (length rs) fields) rs ≡ Some (trees_of front) = cc in
      let less = elements_within fields rs front later in
      omega (arith, less)

  pub elements_more : (fields : List Field) (rs : List Run) (front : List Tree) (f : Field) (r : Run) (v : Tree) → read_elements g rd (take (length rs) fields) rs ≡ Some (trees_of front)
      → slice_get fields (length rs) ≡ Some f → rd f.shape from_events r ≡ Some v
      → read_elements g rd (take (length (rs ++ (r ∷ []))) fields) (rs ++ (r ∷ [])) ≡ Some (trees_of (front ++ (v ∷ [])))
  elements_more [] [] front f r v e is reads = absurd cc
  elements_more [] (x ∷ rs) front f r v e is reads = absurd cc
  elements_more (y ∷ fields) [] [] f r v e is reads =
      let same : y ≡ f = cc in
      ap (λ (z : Field). and_trees (rd z.shape from_events r) (Some (trees_of []))) same ∙ ap (λ o. and_trees o (Some (trees_of []))) reads
  elements_more (y ∷ fields) [] (w ∷ front) f r v e is reads = absurd cc
  elements_more (y ∷ fields) (x ∷ rs) [] f r v e is reads = let (w, ws, here, behind, are) = and_trees_some (rd y.shape from_events x) (read_elements g rd (take (length rs) fields) rs) _ e in absurd cc
  elements_more (y ∷ fields) (x ∷ rs) (u ∷ front) f r v e is reads =
      let (w, ws, here, behind, are) = and_trees_some (rd y.shape from_events x) (read_elements g rd (take (length rs) fields) rs) _ e in
      let later : read_elements g rd (take (length rs) fields) rs ≡ Some (trees_of front) = cc in
      let first : rd y.shape from_events x ≡ Some u = cc in
      ap₂ and_trees first (elements_more fields rs front f r v later is reads)

  -- where so many items are read, those behind them lead the rest
  pub elements_lead : (fields : List Field) (rs : List Run) (front : List Tree) → read_elements g rd (take (length rs) fields) rs ≡ Some (trees_of front)
      → read_elements g rd fields rs ≡ lead front (read_elements g rd (drop (length front) fields) [])
  elements_lead fields [] [] e = refl
  elements_lead fields [] (v ∷ front) e = absurd cc
  elements_lead [] (r ∷ rs) front e = absurd cc
  elements_lead (f ∷ fields) (r ∷ rs) [] e = let (w, ws, here, behind, are) = and_trees_some (rd f.shape from_events r) (read_elements g rd (take (length rs) fields) rs) _ e in absurd cc
  elements_lead (f ∷ fields) (r ∷ rs) (v ∷ front) e =
      let (w, ws, here, behind, are) = and_trees_some (rd f.shape from_events r) (read_elements g rd (take (length rs) fields) rs) _ e in
      let later : read_elements g rd (take (length rs) fields) rs ≡ Some (trees_of front) = cc in
      let first : rd f.shape from_events r ≡ Some v = cc in
      ap₂ and_trees first (elements_lead fields rs front later)
