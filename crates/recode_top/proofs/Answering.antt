-- What is answered to an input.
use Rattle.std.proofs.Common.{◌≡◌, ◌≤◌, ℕ, List, [], ◌∷◌, Option, Some, None, Result, Ok, Err, map, refl, sym, ap, ◌∙◌, subst}
use Rattle.std.specs.Prelude.{◌≢◌, bytes_eq, IfOk, IfErr}
use Rattle.std.specs.List.{position}
use Rattle.semantics_lines.specs.Shapes.{Definition, Shape, Draft, Registry}
use Rattle.semantics.specs.Registry.{drafted}
use Rattle.semantics_lines.specs.Documents.{Document}
use Rattle.semantics_lines.specs.Tapes.{document_tape}
use Rattle.semantics.specs.Recoding.{Recodes, IsReadable}
use Rattle.semantics_lines.specs.Divided.{joined, IsDivided}
use Rattle.semantics.specs.CheckedText.{IsShapeText, IsShapeTextFault}
use Rattle.laws_lines.specs.Laws.{OneDivision}
use Rattle.laws.specs.Laws.{OneShapeText}
use Rattle.recode_top.specs.Recode.{IsTapeUnlessMemory, IsRefusedFor}
use Rattle.recode_top.specs.Requests.{Request}
use Rattle.shape_lines.specs.ShapeErrors.{text_kind}
use Rattle.shape_text.specs.ShapeErrors.{IsReadShapesError}
use Rattle.recode_top.specs.Running.{IsLoaded, HasNoRoot, HasOutput, IsAnswerable, IsInputStop, IsOutputUnlessMemory, IsRefused, IsTapeStop, IsRefusal, IsShapesStop}
use Rattle.recode_top.specs.declared.error.RecodeError.{RecodeError}
use Rattle.recode_top.specs.declared.error.RecodeError.TheVariants as errors
use Rattle.shape_lines.specs.declared.shape_fault.ReadShapesError.{ReadShapesError}
use Rattle.shape_lines.specs.declared.shape_fault.ReadShapesError.TheVariants as reading
use Rattle.recode_top.specs.declared.stop.Stop.{Stop}
use Rattle.recode_top.specs.declared.stop.Stop.TheVariants as stops

-- a division of the input into this text and this tape
abbrev pub Parts : List ℕ → List ℕ → List ℕ → Type 0
Parts input text tape = (lines : List (List ℕ)) × (text ≡ joined lines) × IsDivided input lines tape

some_is : {A : Type 0} (x y : A) → ◌≡◌ {A = Option A} (Some x) (Some y) → x ≡ y
some_is x y e = cc

abbrev defined_or : Definition → Option Definition → Definition
defined_or d None = d
defined_or d (Some e) = e

abbrev undrafted : Definition → Draft → Shape
undrafted d draft = record { name = draft.name; definition = defined_or d draft.definition; proxy = draft.proxy }

shape_same : (s t : Shape) → drafted s ≡ drafted t → s ≡ t
shape_same s t e = ap (undrafted s.definition) e

head_same : {A : Type 0} (x y : A) (xs ys : List A) → ◌≡◌ {A = List A} (x ∷ xs) (y ∷ ys) → x ≡ y
head_same x y xs ys e = cc

tail_same : {A : Type 0} (x y : A) (xs ys : List A) → ◌≡◌ {A = List A} (x ∷ xs) (y ∷ ys) → xs ≡ ys
tail_same x y xs ys e = cc

registry_same : (g h : Registry) → map drafted g ≡ map drafted h → g ≡ h
registry_same [] [] e = refl
registry_same [] (t ∷ h) e = absurd cc
registry_same (s ∷ g) [] e = absurd cc
registry_same (s ∷ g) (t ∷ h) e =
    let front : s ≡ t = shape_same s t (head_same (drafted s) (drafted t) (map drafted g) (map drafted h) e) in
    let rest : g ≡ h = registry_same g h (tail_same (drafted s) (drafted t) (map drafted g) (map drafted h) e) in
    cc

module _ (g : Registry) (number capacity depth : ℕ) (tape : List ℕ) where
  -- no document is what the tape is recoded to, where events may be read ahead
  abbrev Never : Type 0
  Never = (d : Document) → 1 ≤ capacity → IsReadable g number depth tape d → ⊥

  said_stop : (e : RecodeError) (s : Stop) → e ≢ errors.Alloc → IsRefusedFor g number capacity depth tape e → Never → IsRefused e s → IsTapeStop g number capacity depth tape s
  said_stop e (stops.Refused text) known cause never told = record { error = e; known = known; cause = cause; told = told; unreadable = never }
  said_stop e stops.Memory known cause never told = tt
  said_stop e stops.Usage known cause never told = told
  said_stop e stops.ReadFault known cause never told = told
  said_stop e stops.TooLong known cause never told = told
  said_stop e stops.NoDivider known cause never told = told
  said_stop e (stops.Shapes text) known cause never told = told
  said_stop e (stops.UnknownRoot root) known cause never told = told
  said_stop e stops.WriteFault known cause never told = told

  -- why a tape is refused
  pub tape_refused : (e : RecodeError) (s : Stop) → IsRefusedFor g number capacity depth tape e
      → ((d : Document) → 1 ≤ capacity → IsReadable g number depth tape d → IsTapeUnlessMemory (document_tape d) (Err e)) → IsRefusal e s → IsTapeStop g number capacity depth tape s
  tape_refused (errors.Deserialize f) s cause whole said = said_stop (errors.Deserialize f) s (λ h. cc) cause whole said
  tape_refused (errors.Trailing kind span) s cause whole said = said_stop (errors.Trailing kind span) s (λ h. cc) cause whole said
  tape_refused (errors.Serialize f) s cause whole said = said_stop (errors.Serialize f) s (λ h. cc) cause whole said
  tape_refused errors.Alloc s cause whole said = subst (IsTapeStop g number capacity depth tape) (sym said) tt

  stop_complete : (d : Document) (s : Stop) → IsTapeStop g number capacity depth tape s → 1 ≤ capacity → IsReadable g number depth tape d → IsOutputUnlessMemory (document_tape d) (Err s)
  stop_complete d (stops.Refused text) why some readable = why.unreadable d some readable
  stop_complete d stops.Memory why some readable = tt
  stop_complete d stops.Usage why some readable = why
  stop_complete d stops.ReadFault why some readable = why
  stop_complete d stops.TooLong why some readable = why
  stop_complete d stops.NoDivider why some readable = why
  stop_complete d (stops.Shapes text) why some readable = why
  stop_complete d (stops.UnknownRoot root) why some readable = why
  stop_complete d stops.WriteFault why some readable = why

  -- a readable tape is refused for want of memory alone
  pub tape_complete : (e : RecodeError) (s : Stop) → IsRefusedFor g number capacity depth tape e
      → ((d : Document) → 1 ≤ capacity → IsReadable g number depth tape d → IsTapeUnlessMemory (document_tape d) (Err e)) → IsRefusal e s
      → (d : Document) → 1 ≤ capacity → IsReadable g number depth tape d → IsOutputUnlessMemory (document_tape d) (Err s)
  tape_complete e s cause whole said d some readable = stop_complete d s (tape_refused e s cause whole said) some readable

-- where the text describes the registry, and the root is found in it
pub is_loaded : (root input text tape : List ℕ) (g : Registry) (number : ℕ) → Parts input text tape → IsShapeText text (map drafted g)
    → Some number ≡ position (λ s. bytes_eq s.name root) g → IsLoaded root input g number tape
is_loaded root input text tape g number parts shapes found =
    record { lines = parts.0; divided = parts.2; described = subst (λ (x : List ℕ). IsShapeText x (map drafted g)) parts.1 shapes; found = sym found }

pub output_made : (request : Request) (input : List ℕ) (g : Registry) (number : ℕ) (tape : List ℕ) (r : Result (List ℕ) Stop) → IsLoaded request.root input g number tape
    → IfOk r (Recodes g number request.depth tape) → IfOk r (λ out. 1 ≤ request.capacity) → IfOk r (HasOutput request input)
output_made request input g number tape (Ok out) loaded h some = record { registry = g; number = number; tape = tape; loaded = loaded; recodes = h; room = some }
output_made request input g number tape (Err s) loaded h some = tt

stop_here : (request : Request) (input : List ℕ) (g : Registry) (number : ℕ) (tape : List ℕ) (s : Stop) → IsLoaded request.root input g number tape
    → IsTapeStop g number request.capacity request.depth tape s → IsInputStop request input s
stop_here request input g number tape (stops.Refused text) loaded h = record { registry = g; number = number; tape = tape; loaded = loaded; refused = h }
stop_here request input g number tape stops.Memory loaded h = tt
stop_here request input g number tape stops.Usage loaded h = h
stop_here request input g number tape stops.ReadFault loaded h = h
stop_here request input g number tape stops.TooLong loaded h = h
stop_here request input g number tape stops.NoDivider loaded h = absurd h
stop_here request input g number tape (stops.Shapes text) loaded h = absurd h
stop_here request input g number tape (stops.UnknownRoot name) loaded h = absurd h
stop_here request input g number tape stops.WriteFault loaded h = h

pub stop_made : (request : Request) (input : List ℕ) (g : Registry) (number : ℕ) (tape : List ℕ) (r : Result (List ℕ) Stop) → IsLoaded request.root input g number tape
    → IfErr r (IsTapeStop g number request.capacity request.depth tape) → IfErr r (IsInputStop request input)
stop_made request input g number tape (Ok out) loaded h = tt
stop_made request input g number tape (Err s) loaded h = stop_here request input g number tape s loaded h

-- the shape text is refused
pub shapes_refused : (request : Request) (input text tape : List ℕ) (e : ReadShapesError) (s : Stop) → Parts input text tape → IsReadShapesError text e → IsShapesStop e s → IsInputStop request input s
shapes_refused request input text tape (reading.Fault fault) (stops.Shapes note) parts wrong said =
    record { lines = parts.0; tape = tape; divided = parts.2; line = fault.line; kind = text_kind fault.kind; fault = subst (λ (x : List ℕ). IsShapeTextFault x fault.line (text_kind fault.kind)) parts.1 wrong; is = said }
shapes_refused request input text tape (reading.Fault fault) stops.Memory parts wrong said = tt
shapes_refused request input text tape (reading.Fault fault) stops.Usage parts wrong said = said
shapes_refused request input text tape (reading.Fault fault) stops.ReadFault parts wrong said = said
shapes_refused request input text tape (reading.Fault fault) stops.TooLong parts wrong said = said
shapes_refused request input text tape (reading.Fault fault) stops.NoDivider parts wrong said = absurd said
shapes_refused request input text tape (reading.Fault fault) (stops.UnknownRoot name) parts wrong said = absurd said
shapes_refused request input text tape (reading.Fault fault) (stops.Refused note) parts wrong said = absurd said
shapes_refused request input text tape (reading.Fault fault) stops.WriteFault parts wrong said = said
shapes_refused request input text tape reading.Alloc s parts wrong said = subst (IsInputStop request input) (sym said) tt

-- the root isn't found
pub root_missing : (root input text tape : List ℕ) (g : Registry) → Parts input text tape → IsShapeText text (map drafted g)
    → ◌≡◌ {A = Option ℕ} None (position (λ s. bytes_eq s.name root) g) → HasNoRoot root input
root_missing root input text tape g parts shapes never =
    record { lines = parts.0; tape = tape; divided = parts.2; registry = g; described = subst (λ (x : List ℕ). IsShapeText x (map drafted g)) parts.1 shapes; missing = sym never }

-- an input is divided in one way, and its text describes one registry
module _ (one_division : OneDivision) (one_text : OneShapeText) (request : Request) (input text tape : List ℕ) (parts : Parts input text tape) where
  same_text : {g : Registry} {number : ℕ} {behind : List ℕ} → (l : IsLoaded request.root input g number behind) → (joined l.lines ≡ text) × (behind ≡ tape)
  same_text {g} {number} {behind} l =
      let one = one_division input l.lines parts.0 behind tape l.divided parts.2 in
      (one.0 ∙ sym parts.1, one.1)

  same_registry : {h : Registry} {number : ℕ} {behind : List ℕ} → (g : Registry) → IsShapeText text (map drafted g) → (l : IsLoaded request.root input h number behind) → h ≡ g
  same_registry {h} {number} {behind} g shapes l =
      let described : IsShapeText text (map drafted h) = subst (λ (x : List ℕ). IsShapeText x (map drafted h)) (same_text l).0 l.described in
      registry_same h g ((one_text text (map drafted h) described).0 (map drafted g) shapes)

  pub fault_excluded : (e : ReadShapesError) (s : Stop) (out : List ℕ) (d : Document) → IsReadShapesError text e → IsShapesStop e s → IsAnswerable request input d → IsOutputUnlessMemory out (Err s)
  fault_excluded (reading.Fault fault) s out d wrong said a =
      let l = a.loaded in
      let described : IsShapeText text (map drafted a.registry) = subst (λ (x : List ℕ). IsShapeText x (map drafted a.registry)) (same_text l).0 l.described in
      absurd ((one_text text (map drafted a.registry) described).1 fault.line (text_kind fault.kind) wrong)
  fault_excluded reading.Alloc s out d wrong said a = subst (λ (x : Stop). IsOutputUnlessMemory out (Err x)) (sym said) tt

  pub root_found : (g : Registry) (d : Document) → IsShapeText text (map drafted g) → ◌≡◌ {A = Option ℕ} None (position (λ s. bytes_eq s.name request.root) g) → IsAnswerable request input d → ⊥
  root_found g d shapes never a =
      let same : a.registry ≡ g = same_registry g shapes a.loaded in
      let found : position (λ s. bytes_eq s.name request.root) g ≡ Some a.number = subst (λ (x : Registry). position (λ s. bytes_eq s.name request.root) x ≡ Some a.number) same a.loaded.found in
      nothing (never ∙ found)
    where
      nothing : {n : ℕ} → ◌≡◌ {A = Option ℕ} None (Some n) → ⊥
      nothing e = cc

  pub readable_here : (g : Registry) (number : ℕ) (d : Document) → IsShapeText text (map drafted g) → Some number ≡ position (λ s. bytes_eq s.name request.root) g → IsAnswerable request input d → IsReadable g number request.depth tape d
  readable_here g number d shapes found a =
      let same : a.registry ≡ g = same_registry g shapes a.loaded in
      let here : position (λ s. bytes_eq s.name request.root) g ≡ Some a.number = subst (λ (x : Registry). position (λ s. bytes_eq s.name request.root) x ≡ Some a.number) same a.loaded.found in
      let at : a.number ≡ number = sym (some_is number a.number (found ∙ here)) in
      subst (λ (x : List ℕ). IsReadable g number request.depth x d) (same_text a.loaded).1
      (subst (λ (n : ℕ). IsReadable g n request.depth a.tape d) at (subst (λ (x : Registry). IsReadable x a.number request.depth a.tape d) same a.readable))
