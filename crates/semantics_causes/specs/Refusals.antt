-- The cause of each fault by which a value is refused.
use Rattle.std.specs.Prelude.{◌≡◌, ℕ, zero, suc, ◌≤◌, ◌⊎◌, List, [], ◌++◌, length, Option, Some, None}
use Rattle.semantics_lines.specs.Trees.{Tree}
use Rattle.semantics_lines.specs.Shapes.{Registry}
use Rattle.semantics_lines.specs.Events.{Span, no_span, Event}
use Rattle.semantics_lines.specs.Faults.{Step, Refusal, parse_failed, wrong_kind, array_length, too_many_elements, FaultKind, unexpected_token, unknown_field, missing_field, duplicate_field, number_out_of_range, cannot_borrow, reflect, too_deep, Fault, Ending, ends, stops, ended_at}
use Rattle.semantics_lines.specs.Tapes.{Comes}
use Rattle.semantics.specs.Reading.{Setting, from_events, Reads}
use Rattle.semantics.specs.Recoding.{tape_setting}
use Rattle.semantics.specs.Seen.{IsOpen, last_span}
use Rattle.semantics_causes.specs.Due.{Part, root_part}
use Rattle.semantics_causes.specs.Causes.{NoRun, IsTooDeep, IsUnexpected, IsUnset, IsMissing, IsLacking, IsTooMany, IsOtherLength, IsUnknown, IsDuplicate}

-- the path is there, and has the property
abbrev pub OnPath : Option (List Step) → (List Step → Type 0) → Type 0
OnPath None P = ⊥
OnPath (Some p) P = P p

-- the span is there, and has the property
abbrev pub OnSpan : Option Span → (Span → Type 0) → Type 0
OnSpan None P = ⊥
OnSpan (Some s) P = P s

-- The cause of a refusal by a setter or a builder. Other refusals never come.
abbrev pub HasRefusalCause : Setting → Part → List Event → List Event → Fault → Refusal → Type 0
HasRefusalCause g root taken looked f (parse_failed s text) = OnPath f.path (IsUnset g root taken looked f.kind)
HasRefusalCause g root taken looked f (wrong_kind s) = OnPath f.path (IsUnset g root taken looked f.kind)
HasRefusalCause g root taken looked f (array_length s wanted got) = OnPath f.path (IsOtherLength g root taken looked s wanted got)
HasRefusalCause g root taken looked f (too_many_elements s count) = OnPath f.path (IsTooMany g root taken looked s count)
HasRefusalCause g root taken looked f _ = ⊥

-- The cause of a fault by its kind, in the events that were taken and those that were only looked at. Other kinds never
-- come, but as faults of the parser.
abbrev pub HasOwnCause : Setting → Part → ℕ → List Event → List Event → Fault → FaultKind → Type 0
HasOwnCause g root budget taken looked f (too_deep limit) = (limit ≡ budget) × OnPath f.path (IsTooDeep g root taken looked)
HasOwnCause g root budget taken looked f unexpected_token = OnPath f.path (IsUnexpected g root taken looked)
HasOwnCause g root budget taken looked f (unknown_field name) = OnPath f.path (IsUnknown g root taken looked name)
HasOwnCause g root budget taken looked f (missing_field name shape) = OnPath f.path (λ path. IsMissing g root taken looked name shape path ⊎ IsLacking g root taken looked name shape path)
HasOwnCause g root budget taken looked f (duplicate_field name first) = OnPath f.path (λ path. OnSpan first (λ there. IsDuplicate g root taken looked name there path))
HasOwnCause g root budget taken looked f (number_out_of_range number type) = OnPath f.path (IsUnset g root taken looked f.kind)
HasOwnCause g root budget taken looked f (cannot_borrow reason) = OnPath f.path (IsUnset g root taken looked f.kind)
HasOwnCause g root budget taken looked f (reflect refusal context) = HasRefusalCause g root taken looked f refusal
HasOwnCause g root budget taken looked f _ = ⊥

-- A value is refused by a fault: it stands at the last event that was taken, and has its cause in these events and at
-- most one more, which was looked at. No run that was to come first is read.
pub record IsRefused (g : Setting) (root budget : ℕ) (last : Span) (events left : List Event) (f : Fault) : Type 0 where
  pub taken : List Event
  pub looked : List Event
  pub unseen : List Event
  pub cut : events ≡ taken ++ left
  pub rest : left ≡ looked ++ unseen
  pub few : length looked ≤ 1
  pub spanned : f.span ≡ Some (last_span last taken)
  pub cause : HasOwnCause g (root_part root budget) budget taken looked f f.kind
  pub no_run : NoRun g budget root events

-- The events end before the value does, and all were taken: at their end, with the span of the last one, or at a fault of
-- the parser.
pub record RanOut (last : Span) (events : List Event) (ending : Ending) (left : List Event) (f : Fault) : Type 0 where
  pub none_left : left ≡ []
  pub is : f ≡ ended_at ending (last_span last events)
  pub begun : IsOpen events

-- The cause of a fault of a value, behind which these events are left to come.
abbrev pub HasCauseFrom : Setting → ℕ → ℕ → Span → List Event → Ending → List Event → Fault → Type 0
HasCauseFrom g root budget last events ending left f = RanOut last events ending left f ⊎ IsRefused g root budget last events left f

-- the same, where no event was taken before
abbrev pub HasCause : Setting → ℕ → ℕ → List Event → Ending → Fault → Type 0
HasCause g root budget events ending f = (left : List Event) × HasCauseFrom g root budget no_span events ending left f

-- A fault behind the whole value: that of the line there.
pub record IsFaultBehind (g : Setting) (root budget : ℕ) (events : List Event) (ending : Ending) (f : Fault) : Type 0 where
  pub value : Tree
  pub reads : Reads g budget root from_events events value
  pub is : ending ≡ stops f

-- The fault comes of reading this input.
pub record IsReadFault (g : Registry) (root budget : ℕ) (input : List ℕ) (f : Fault) : Type 0 where
  pub events : List Event
  pub ending : Ending
  pub comes : Comes input events ending
  pub cause : HasCause (tape_setting g) root budget events ending f ⊎ IsFaultBehind (tape_setting g) root budget events ending f

-- Where no event may be read ahead none comes, and the fault is that of an empty input.
abbrev pub IsReadFaultWithin : ℕ → Registry → ℕ → ℕ → List ℕ → Fault → Type 0
IsReadFaultWithin zero g root budget input f = HasCause (tape_setting g) root budget [] ends f
IsReadFaultWithin (suc capacity) g root budget input f = IsReadFault g root budget input f
