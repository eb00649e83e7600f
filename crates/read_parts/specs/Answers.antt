-- What a setter answers, as the definitions see it.
use Rattle.std.specs.Prelude.{◌≡◌, ◌⊎◌, ℕ, List, Result, Ok, Err}
use Rattle.semantics_lines.specs.Faults.{FaultKind, out_of_memory}
use Rattle.semantics.specs.Setters.{Outcome}
use Rattle.shape_types.specs.Trees.{tree_of}
use Rattle.shape_types.specs.declared.value.Value.{Value}
use Rattle.event_core.specs.Faults.{fault_kind_of}
use Rattle.event_core.specs.declared.reflect.ReflectErrorKind.{ReflectErrorKind}
use Rattle.event_core.specs.declared.reflect.ReflectErrorKind.TheVariants as refusals
use Rattle.event_core.specs.declared.error.DeserializeErrorKind.{DeserializeErrorKind}
use Rattle.event_core.specs.declared.error.DeserializeErrorKind.TheVariants as kinds

-- a refusal says what came, in this word
abbrev pub RefusalSays : List ℕ → ReflectErrorKind → Type 0
RefusalSays event (refusals.WrongKind shape got) = got.now ≡ event
RefusalSays event _ = Unit {0}

-- an error says what came, which is no part of its fault
abbrev pub ErrorSays : List ℕ → DeserializeErrorKind → Type 0
ErrorSays event (kinds.Reflect kind context) = RefusalSays event kind
ErrorSays event _ = Unit {0}

-- memory ran out
abbrev pub IsWantOfMemory : DeserializeErrorKind → Type 0
IsWantOfMemory e = fault_kind_of e ≡ out_of_memory

-- the error is this fault, and says that such an event came, unless memory ran out
abbrev pub Refuses : List ℕ → FaultKind → DeserializeErrorKind → Type 0
Refuses event kind e = IsWantOfMemory e ⊎ ((fault_kind_of e ≡ kind) × ErrorSays event e)

-- the answer to such an event is this outcome, unless memory ran out
abbrev pub Gives : List ℕ → Outcome → Result Value DeserializeErrorKind → Type 0
Gives event outcome (Ok v) = outcome ≡ Ok (tree_of v)
Gives event outcome (Err e) = IsWantOfMemory e ⊎ ((outcome ≡ Err (fault_kind_of e)) × ErrorSays event e)
