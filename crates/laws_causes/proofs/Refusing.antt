-- Faults that come where no part has begun, or its first event isn't taken.
use Rattle.std.proofs.Common.{Bool, Ok, Err, ◌≡◌, inl, ℕ, zero, suc, List, [], ◌∷◌, ◌++◌, refl, sym, subst}
use Rattle.std.proofs.lemmas.List.{append-nil}
use Rattle.semantics_lines.specs.Shapes.{definition_at}
use Rattle.semantics_lines.specs.Events.{Span, Event}
use Rattle.semantics_lines.specs.Faults.{Step, unexpected_token, too_deep}
use Rattle.semantics.specs.Reading.{of_shape}
use Rattle.semantics_causes.specs.Taken.{at_start, Took}
use Rattle.semantics_causes.specs.Due.{Part, defined_at, IsDue, Spot}
use Rattle.semantics_causes.specs.Causes.{TakesNo}
use Rattle.laws_reading.specs.Input.{fault_at}
use Rattle.laws_reading.specs.Values.{Terms}
use Rattle.laws_machine.specs.Frames.{Frames, path}
use Rattle.laws_machine.specs.Delivery.{going, complete, Steps, here}
use Rattle.laws_causes.proofs.Holding.{Next, NextIs}
use Rattle.laws_causes.proofs.Keeping.{Fits, Caused, After, AfterValue}
use Rattle.laws_causes.proofs.Standing.{fits_due, fits_path}

module _ (t : Terms) (root : Part) where
  -- what a value that is handed on comes to is what its event comes to
  pub value_after : (left : Bool) (before : List Event) (e : Event) (r : Steps) → AfterValue t root (before ++ (e ∷ [])) r → After t root left before e r
  value_after left before e (Ok (going fs)) h = h
  value_after left before e (Ok (complete v)) h = tt
  value_after left before e (Err f) h = absurd h

  -- an event that isn't taken there
  pub unexpected_there : (front : List Event) (e : Event) (spot : Spot t.setting root front (e ∷ []))
      → TakesNo t.setting.registry spot.stands.choice (defined_at t.setting.registry spot.due.what) spot.place e → (path : List Step) → spot.due.path ≡ path → (span : Span)
      → Caused t root (front ++ (e ∷ [])) [] (fault_at unexpected_token path (here span))
  unexpected_there front e spot none path at span = record { here = record { front = front; event = e; is = refl; spot = spot }; takes_none = none; at = at }

  module _ (top : root.path ≡ []) (fs : Frames) (outer : List Event) (part : Part) (next : Next) (fits : Fits t root fs outer part next) where
    -- no depth is left for the part
    pub too_deep_there : part.depth ≡ zero → (looked : List Event) → NextIs next looked → (span : Span) → Caused t root outer looked (fault_at (too_deep t.limit) (path t fs) (here span))
    too_deep_there depth looked h span = (
      refl,
      record {
        due = part;
        so_far = [];
        is_due = subst (λ l. IsDue t.setting root.depth root l looked part []) (append-nil outer)
            (fits_due t root fs outer part next fits [] looked [] part h (subst (λ k. IsDue t.setting k part [] looked part []) (sym depth) (depth, refl, refl, refl)));
        none_left = depth;
        at = fits_path t root top fs outer part next fits;
      },
    )

    -- the part is due, before its first event
    abbrev pub spot_first : (n : ℕ) → part.depth ≡ suc n → (s : ℕ) → part.what ≡ of_shape s → Took t.setting n [] s (definition_at t.setting.registry s) at_start → (looked : List Event) → NextIs next looked → Spot t.setting root outer looked
    spot_first n deep s what took looked h = record {
      due = part;
      so_far = [];
      is_due = subst (λ l. IsDue t.setting root.depth root l looked part []) (append-nil outer)
          (fits_due t root fs outer part next fits [] looked [] part h (subst (λ k. IsDue t.setting k part [] looked part []) (sym deep) (deep, inl (refl, refl))));
      left = n;
      deep = deep;
      place = at_start;
      stands = record { shape = s; is_shape = what; choice = []; chosen = refl; reaches = refl; took = took };
    }
