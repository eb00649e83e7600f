-- Scalars that are set.
use Rattle.std.proofs.Common.{◌≡◌, ◌⊎◌, inl, inr, ℕ, List, Option, Some, None, Ok, Err, sym, ◌∙◌, ap}
use Rattle.semantics_lines.specs.Events.{Scalar}
use Rattle.semantics_lines.specs.Faults.{Step, Fault, out_of_memory}
use Rattle.semantics.specs.Setters.{Outcome, set_scalar}
use Rattle.shape_types.specs.Trees.{tree_of}
use Rattle.shape_types.specs.declared.value.Value.{Value}
use Rattle.event_core.specs.Faults.{fault_kind_of}
use Rattle.event_core.specs.declared.error.DeserializeErrorKind.{DeserializeErrorKind}
use Rattle.laws_reading.specs.Input.{Input, fault_at}
use Rattle.laws_reading.specs.Nodes.{Target, or_refused, set_at}
use Rattle.read_parts.specs.Answers.{ErrorSays, IsWantOfMemory, Gives}
use Rattle.read_steps.specs.Stops.{Fails, IsFault}

module _ (t : Target) (x : Scalar) (path : List Step) (input : Input) (event : List ℕ) where
  pub value_set : (v : Value) → Gives event (set_scalar t.borrow t.shape t.type x) (Ok v) → set_at t x path input ≡ Ok (tree_of v, input)
  value_set v h = ap (λ (o : Outcome). or_refused o path input) h

  pub value_refused : (kind : DeserializeErrorKind) (o : Option Fault) → Gives event (set_scalar t.borrow t.shape t.type x) (Err kind)
      → IsFault o (fault_at (fault_kind_of kind) path input) → (fault_kind_of kind ≡ out_of_memory → o ≡ None) → Fails o (set_at t x path input)
  value_refused kind None h fault memory = tt
  value_refused kind (Some f) h fault memory = by_outcome h
    where
      by_outcome : (IsWantOfMemory kind) ⊎ ((set_scalar t.borrow t.shape t.type x ≡ Err (fault_kind_of kind)) × ErrorSays event kind) → set_at t x path input ≡ Err f
      by_outcome (inl none) = absurd (let lost : Some f ≡ None = memory none in cc)
      by_outcome (inr (here, said)) = ap (λ (o : Outcome). or_refused o path input) here ∙ ap (λ (e : Fault). Err e) (sym fault)
