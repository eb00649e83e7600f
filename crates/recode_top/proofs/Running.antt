-- How a run ends.
use Rattle.std.proofs.Common.{◌≡◌, ◌≤◌, ◌<◌, ℕ, List, [], ◌++◌, length, Option, Some, None, Result, Err, refl, sym, ap, ◌∙◌, subst, arith, length-append}
use Rattle.std.specs.Prelude.{◌↔◌}
use Rattle.std.specs.Io.KnownBytes.{Appends, Consumes, IsAtEnd}
use Rattle.std.proofs.lemmas.List.{append-nil}
use Rattle.semantics_lines.specs.Documents.{Document}
use Rattle.recode_top.specs.Outside.Counting.{Rose}
use Rattle.recode_top.specs.Requests.{Request, Asks, AsksNothing}
use Rattle.recode_top.specs.Stopping.{status_of, IsReadStop}
use Rattle.recode_top.specs.Running.{input_limit, IsAnswerable, IsInputStop, IsOutputUnlessMemory, World, IsInput, WroteNothing, IsDone, IsRunStop, CompletesWith, read_failed, write_failed, no_memory, IsAsked, CompletesAs}
use Rattle.recode_top.proofs.Commands.{one_request}
use Rattle.recode_top.specs.declared.stop.Stop.{Stop}
use Rattle.recode_top.specs.declared.stop.Stop.TheVariants as stops

-- bytes that nobody touched grew by nothing
pub untouched : (known : Option (List ℕ)) → Appends known known []
untouched None = tt
untouched (Some xs) = sym (append-nil xs)

-- the source told the bytes that it gave
told_whole : (left later : Option (List ℕ)) (told given : List ℕ) → left ≡ Some told → Consumes left later given → IsAtEnd later → told ≡ given
told_whole None later told given e gave over = absurd cc
told_whole (Some xs) None told given e gave over = absurd gave
told_whole (Some xs) (Some ys) told given e gave over =
    let rest : given ++ ys ≡ given = ap (λ zs. given ++ zs) over ∙ append-nil given in
    let here : xs ≡ told = cc in
    sym here ∙ (gave ∙ rest)

told_short : (left later : Option (List ℕ)) (told given : List ℕ) → left ≡ Some told → Consumes left later given → length given ≤ length told
told_short None later told given e gave = absurd cc
told_short (Some xs) None told given e gave = absurd gave
told_short (Some xs) (Some ys) told given e gave =
    let here : xs ≡ told = cc in
    omega (arith, ap length (sym here ∙ gave), length-append given ys)

module _ (words : List (List ℕ)) (old new : World) (request : Request) (asked : Asks words request) where
  -- the input wasn't read whole
  pub read_stopped : {T : Type 0} (s : Stop) → WroteNothing old new
      → (◌≡◌ {A = Result T Stop} (Err s) (Err stops.ReadFault) → Rose old.read_faults new.read_faults)
      → (◌≡◌ {A = Result T Stop} (Err s) (Err stops.TooLong) → (bytes : List ℕ) × Consumes old.left new.left bytes × (input_limit < length bytes))
      → IsReadStop s → IsRunStop words old new s
  read_stopped stops.ReadFault nothing rose long h = (record { request = request; asked = asked; rose = rose refl }, nothing)
  read_stopped stops.TooLong nothing rose long h =
      let more = long refl in
      (record { request = request; asked = asked; bytes = more.0; given = more.1; long = more.2 }, nothing)
  read_stopped stops.Memory nothing rose long h = ((request, asked), nothing)
  read_stopped stops.Usage nothing rose long h = absurd h
  read_stopped stops.NoDivider nothing rose long h = absurd h
  read_stopped (stops.Shapes text) nothing rose long h = absurd h
  read_stopped (stops.UnknownRoot name) nothing rose long h = absurd h
  read_stopped (stops.Refused text) nothing rose long h = absurd h
  read_stopped stops.WriteFault nothing rose long h = absurd h

  -- the whole input is refused
  pub input_stopped : (input : List ℕ) (s : Stop) → IsInput input old new → WroteNothing old new → IsInputStop request input s → IsRunStop words old new s
  input_stopped input stops.NoDivider given nothing why = (record { request = request; input = input; asked = asked; given = given; why = why }, nothing)
  input_stopped input (stops.Shapes text) given nothing why = (record { request = request; input = input; asked = asked; given = given; why = why }, nothing)
  input_stopped input (stops.UnknownRoot name) given nothing why = (record { request = request; input = input; asked = asked; given = given; why = why }, nothing)
  input_stopped input (stops.Refused text) given nothing why = (record { request = request; input = input; asked = asked; given = given; why = why }, nothing)
  input_stopped input stops.Memory given nothing why = ((request, asked), nothing)
  input_stopped input stops.Usage given nothing why = absurd why
  input_stopped input stops.ReadFault given nothing why = absurd why
  input_stopped input stops.TooLong given nothing why = absurd why
  input_stopped input stops.WriteFault given nothing why = absurd why

-- the input that was read is the one that the source told
pub is_answerable : {old : World} (words : List (List ℕ)) (request : Request) (input slice : List ℕ) (later : Option (List ℕ)) (d : Document) → Asks words request
    → Consumes old.left later input → IsAtEnd later → slice ≡ input → IsAsked words old d → IsAnswerable request slice d
is_answerable {old} words request input slice later d asked gave over is a =
    let same : a.input ≡ slice = told_whole old.left later a.input input a.told gave over ∙ sym is in
    subst (λ (x : List ℕ). IsAnswerable request x d) same
    (subst (λ (x : Request). IsAnswerable x a.input d) (one_request words a.request request a.asked asked) a.answerable)

-- what can be recoded isn't too long
pub read_completes : {T : Type 0} (words : List (List ℕ)) (old new : World) (d : Document) (out : List ℕ) (s : Stop) → IsAsked words old d
    → (◌≡◌ {A = Result T Stop} (Err s) (Err stops.ReadFault) → Rose old.read_faults new.read_faults)
    → (◌≡◌ {A = Result T Stop} (Err s) (Err stops.TooLong) → (bytes : List ℕ) × Consumes old.left new.left bytes × (input_limit < length bytes))
    → IsReadStop s → CompletesAs out old new (Err s)
read_completes words old new d out stops.ReadFault a rose long h = rose refl
read_completes words old new d out stops.TooLong a rose long h =
    let more = long refl in
    absurd (omega (arith, told_short old.left new.left a.input more.0 a.told more.1, a.short, more.2))
read_completes words old new d out stops.Memory a rose long h = tt
read_completes words old new d out stops.Usage a rose long h = h
read_completes words old new d out stops.NoDivider a rose long h = h
read_completes words old new d out (stops.Shapes text) a rose long h = h
read_completes words old new d out (stops.UnknownRoot name) a rose long h = h
read_completes words old new d out (stops.Refused text) a rose long h = h
read_completes words old new d out stops.WriteFault a rose long h = absurd h

-- an input that can be recoded is refused for want of memory alone
pub input_completes : (old new : World) (out : List ℕ) (s : Stop) → IsOutputUnlessMemory out (Err s) → CompletesAs out old new (Err s)
input_completes old new out stops.Memory h = tt
input_completes old new out stops.ReadFault h = absurd h
input_completes old new out stops.WriteFault h = absurd h
input_completes old new out stops.Usage h = h
input_completes old new out stops.TooLong h = h
input_completes old new out stops.NoDivider h = h
input_completes old new out (stops.Shapes text) h = h
input_completes old new out (stops.UnknownRoot name) h = h
input_completes old new out (stops.Refused text) h = h

-- the status 2 is that of the usage alone
pub usage_of : (words : List (List ℕ)) (old new : World) (s : Stop) → IsRunStop words old new s → (status_of s ≡ 2) ↔ AsksNothing words
usage_of words old new stops.Usage h = (λ e. h.0, λ e. refl)
usage_of words old new stops.ReadFault h = (λ e. absurd cc, λ other. absurd (other h.0.request h.0.asked))
usage_of words old new stops.TooLong h = (λ e. absurd cc, λ other. absurd (other h.0.request h.0.asked))
usage_of words old new stops.NoDivider h = (λ e. absurd cc, λ other. absurd (other h.0.request h.0.asked))
usage_of words old new (stops.Shapes text) h = (λ e. absurd cc, λ other. absurd (other h.0.request h.0.asked))
usage_of words old new (stops.UnknownRoot name) h = (λ e. absurd cc, λ other. absurd (other h.0.request h.0.asked))
usage_of words old new (stops.Refused text) h = (λ e. absurd cc, λ other. absurd (other h.0.request h.0.asked))
usage_of words old new stops.WriteFault h = (λ e. absurd cc, λ other. absurd (other h.request h.asked))
usage_of words old new stops.Memory h = (λ e. absurd cc, λ other. absurd (other h.0.0 h.0.1))

pub usage_done : (words : List (List ℕ)) (old new : World) → IsDone words old new → (◌≡◌ {A = ℕ} 0 2) ↔ AsksNothing words
usage_done words old new h = (λ e. absurd cc, λ other. absurd (other h.request h.asked))

-- the status of what completes
pub completes_with : {old new : World} {out : List ℕ} (s : Stop) (status : ℕ) → status ≡ status_of s → CompletesAs out old new (Err s) → CompletesWith out old new status
completes_with stops.ReadFault status e h = read_failed e h
completes_with stops.WriteFault status e h = write_failed e h
completes_with stops.Memory status e h = no_memory e
completes_with stops.Usage status e h = absurd h
completes_with stops.TooLong status e h = absurd h
completes_with stops.NoDivider status e h = absurd h
completes_with (stops.Shapes text) status e h = absurd h
completes_with (stops.UnknownRoot name) status e h = absurd h
completes_with (stops.Refused text) status e h = absurd h
