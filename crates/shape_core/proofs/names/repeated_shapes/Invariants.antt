use Rattle.std.proofs.Common.{◌≡◌, ℕ, Bool, Some, length, map, take}
use Rattle.std.specs.Prelude.{slice_get, bytes_eq}
use Rattle.std.specs.List.{list_any}
use Rattle.shape_types.specs.declared.draft.Draft.{Draft}
use Rattle.shape_core.proofs.Tables.{Holds}
use Rattle.shape_core.proofs.names.repeated_shapes.Given as goal

abbrev pub invariant-drafts : goal.invariant-drafts
invariant-drafts l = record {
  seen : Holds l.seen (map (λ d. d.name) (take l.draft-index l.drafts));
  all : length l.repeats ≡ l.draft-index;
  each : (i : ℕ) (b : Bool) → slice_get l.repeats i ≡ Some b → (d : Draft) → slice_get l.drafts i ≡ Some d → b ≡ list_any (λ e. bytes_eq e.name d.name) (take i l.drafts);
}
