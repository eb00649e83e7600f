-- Tapes of calls, one after another.
use Rattle.std.proofs.Common.{◌≡◌, ℕ, List, [], ◌++◌, sym, ap, ◌∙◌, append_assoc, append-nil}
use Rattle.std.proofs.lemmas.List.Concat.{flat_map-append}
use Rattle.std.specs.List.{flat_map}
use Rattle.semantics_lines.specs.Calls.{Call}
use Rattle.semantics_lines.specs.Tapes.{tape, tape_line, call_events, calls_tape}

calls_append : (xs ys : List Call) → calls_tape (xs ++ ys) ≡ calls_tape xs ++ calls_tape ys
calls_append xs ys = ap tape (flat_map-append call_events xs ys) ∙ flat_map-append tape_line (flat_map call_events xs) (flat_map call_events ys)

pub tape_starts : (a : List ℕ) → a ≡ a ++ calls_tape []
tape_starts a = sym (append-nil a)

pub tape_joins : (a b c : List ℕ) (xs ys : List Call) → b ≡ a ++ calls_tape xs → c ≡ b ++ calls_tape ys → c ≡ a ++ calls_tape (xs ++ ys)
tape_joins a b c xs ys x y =
    y ∙ ap (λ l. l ++ calls_tape ys) x ∙ append_assoc a (calls_tape xs) (calls_tape ys) ∙ ap (λ l. a ++ l) (sym (calls_append xs ys))
