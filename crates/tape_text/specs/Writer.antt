-- What a writer of a tape adds to its bytes.
use Rattle.std.specs.Prelude.{◌≡◌, ℕ, List, [], ◌∷◌, ◌++◌, codes, Result, Ok, Err}
use Rattle.shape_types.specs.declared.memory.OutOfMemory.{OutOfMemory}
use Rattle.semantics_lines.specs.Calls.{default_settings}
use Rattle.semantics_lines.specs.Lines.{quoted, hex}
use Rattle.format_traits.specs.Writing.{Writing}
use Rattle.format_traits.specs.declared.serializer.WriteStop.{WriteStop}
use Rattle.format_traits.specs.declared.serializer.WriteStop.TheVariants.{Alloc}
use Rattle.tape_text.specs.declared.spelling.Body.{Body}
use Rattle.tape_text.specs.declared.spelling.Body.TheVariants.{Word, Text, Number, Hex}

-- the bytes are added, or some others where memory ran out
abbrev pub Adds : List ℕ → List ℕ → List ℕ → Result (Unit {0}) OutOfMemory → Type 0
Adds text old new (Ok _) = new ≡ old ++ text
Adds text old new (Err _) = (lost : List ℕ) × (new ≡ old ++ lost)

-- what a line holds before its line feed
abbrev pub body_text : Body → List ℕ
body_text (Word w) = w.now
body_text (Text w t) = w.now ++ quoted t.now
body_text (Number w t) = w.now ++ t.now
body_text (Hex b) = codes "b " ++ hex b.now

-- the line is added, or nothing is where memory ran out
abbrev pub Writes : {E : Type 0} → List ℕ → List ℕ → List ℕ → Result (Unit {0}) (WriteStop E) → Type 0
Writes line old new (Ok _) = new ≡ old ++ (line ++ (10 ∷ []))
Writes line old new (Err stop) = (new ≡ old) × (stop ≡ Alloc)

-- A writer of a tape wants nothing, and never fails.
abbrev pub plain_writing : Writing
plain_writing = record { settings = default_settings; faults = 0 }
