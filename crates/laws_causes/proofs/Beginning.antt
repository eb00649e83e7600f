-- Values that begin, and values that have to come.
use Rattle.std.proofs.Common.{◌≡◌, ℕ, zero, suc, List, [], ◌∷◌, Option, Some, None, Bool, true, false, refl, sym, subst}
use Rattle.std.proofs.lemmas.List.{append-nil}
use Rattle.semantics_lines.specs.Shapes.{Definition, scalar_shape, option_shape, result_shape, list_shape, array_shape, set_shape, map_shape, struct_shape, enum_shape, transparent_shape, is_tuple, definition_at}
use Rattle.semantics_lines.specs.Events.{Span, Event}
use Rattle.semantics.specs.Labels.{label_at}
use Rattle.semantics.specs.Reading.{Source, from_events, of_shape}
use Rattle.semantics.specs.Seen.{is_nothing_event}
use Rattle.semantics_causes.specs.Due.{Part, inner_part}
use Rattle.laws_reading.specs.Values.{Terms}
use Rattle.laws_machine.specs.Frames.{awaits, option, Frames}
use Rattle.laws_machine.specs.Begins.{begin_option, begin_as, begin, await_as, await}
use Rattle.laws_machine.specs.Leaves.{unless, leaves_as, begin_leaves}
use Rattle.laws_causes.proofs.Holding.{Next, a_list, an_array}
use Rattle.laws_causes.proofs.Keeping.{Fits, fits_inner, fits_frame, Keeps, After, AfterAwait}
use Rattle.laws_causes.proofs.Refusing.{too_deep_there}
use Rattle.laws_causes.proofs.Firsts.{strange, scalar_after, result_after, items_begin, struct_after, nothing_after}

module _ (t : Terms) (root : Part) (top : root.path ≡ []) where
  -- the parts of a transparent shape and of an option have what is left
  inner_fits : (fs : Frames) (outer : List Event) (part : Part) (next : Next) (n s i : ℕ) → Fits t root fs outer part next → part.what ≡ of_shape s → part.depth ≡ suc n
      → definition_at t.setting.registry s ≡ Some (transparent_shape i) → Fits t root fs outer (inner_part part n i part.source) next
  inner_fits fs outer part next n s i fits what depth defined = fits_inner fs outer next part n s i fits depth (record { what = what; defined = defined })

  some_fits : (fs : Frames) (outer : List Event) (part : Part) (e : Event) (n s i : ℕ) → Fits t root fs outer part (Some e) → part.what ≡ of_shape s → part.depth ≡ suc n
      → definition_at t.setting.registry s ≡ Some (option_shape i) → is_nothing_event e ≡ false → Fits t root (option ∷ fs) outer (inner_part part n i from_events) (Some e)
  some_fits fs outer part e n s i fits what depth defined on =
      subst (λ l. Fits t root (option ∷ fs) l (inner_part part n i from_events) (Some e)) (append-nil outer)
      (fits_frame option fs part n outer [] (inner_part part n i from_events) (Some e) depth fits
      (record { shape = s; inner = i; of = record { what = what; defined = defined }; own_is = refl; on = on; is = refl }))

  -- a value whose first event is at hand
  pub begin_after : (n s : ℕ) (source : Source) (fs : Frames) (outer : List Event) (part : Part) (e : Event) (last : Span) → Fits t root fs outer part (Some e) → part.what ≡ of_shape s → part.depth ≡ n
      → After t root (begin_leaves t e n s) outer e (begin t n s source fs last e)
  begin_after zero s source fs outer part e last fits what depth = too_deep_there t root top fs outer part (Some e) fits depth (e ∷ []) refl last
  begin_after (suc n) s source fs outer part e last fits what depth = by_definition (definition_at t.setting.registry s) refl (begin_after n)
    where
      Rec : Type 0
      Rec = (s : ℕ) (source : Source) (fs : Frames) (outer : List Event) (part : Part) (e : Event) (last : Span) → Fits t root fs outer part (Some e) → part.what ≡ of_shape s → part.depth ≡ n
          → After t root (begin_leaves t e n s) outer e (begin t n s source fs last e)

      by_nothing : (i : ℕ) → definition_at t.setting.registry s ≡ Some (option_shape i) → (b : Bool) → is_nothing_event e ≡ b → Rec → After t root (unless b (begin_leaves t e n i)) outer e (begin_option b (begin t n i from_events) fs last e)
      by_nothing i is true on rec = nothing_after t root top n s fs outer part last what depth i is e on fits
      by_nothing i is false on rec = rec i from_events (option ∷ fs) outer (inner_part part n i from_events) e last (some_fits fs outer part e n s i fits what depth is on) refl refl

      by_definition : (o : Option Definition) → definition_at t.setting.registry s ≡ o → Rec → After t root (leaves_as (begin_leaves t e n) o e) outer e (begin_as t (begin t n) n s source o fs last e)
      by_definition (Some (scalar_shape x)) is rec = scalar_after t root top n s fs outer part last what depth x is e fits
      by_definition (Some (option_shape i)) is rec = by_nothing i is (is_nothing_event e) refl rec
      by_definition (Some (result_shape i j)) is rec = result_after t root top n s fs outer part last what depth i j is e fits
      by_definition (Some (list_shape i)) is rec = items_begin t root top n s fs outer part last what depth (record { shape = label_at t.setting.registry s; len = None }) i (list_shape i) is refl (a_list is refl) tt (λ e h. h) e fits
      by_definition (Some (array_shape i len)) is rec = items_begin t root top n s fs outer part last what depth (record { shape = label_at t.setting.registry s; len = Some len }) i (array_shape i len) is refl (an_array len is refl) tt (λ e h. h) e fits
      by_definition (Some (struct_shape d)) is rec = struct_after t root top n s fs outer part last what depth d is (is_tuple d.kind) refl e fits
      by_definition (Some (transparent_shape i)) is rec = rec i source fs outer (inner_part part n i part.source) e last (inner_fits fs outer part (Some e) n s i fits what depth is) refl refl
      by_definition None is rec = strange t root top n s fs outer part last what depth None is e fits tt refl
      by_definition (Some (set_shape i)) is rec = strange t root top n s fs outer part last what depth (Some (set_shape i)) is e fits tt refl
      by_definition (Some (map_shape i j)) is rec = strange t root top n s fs outer part last what depth (Some (map_shape i j)) is e fits tt refl
      by_definition (Some (enum_shape form vs)) is rec = strange t root top n s fs outer part last what depth (Some (enum_shape form vs)) is e fits tt refl

  -- a value that has to come
  pub await_after : (n s : ℕ) (source : Source) (fs : Frames) (outer : List Event) (part : Part) (last : Span) → Fits t root fs outer part None → part.what ≡ of_shape s → part.depth ≡ n
      → AfterAwait t root outer (await t n s source fs last)
  await_after zero s source fs outer part last fits what depth = too_deep_there t root top fs outer part None fits depth [] tt last
  await_after (suc n) s source fs outer part last fits what depth = by_definition (definition_at t.setting.registry s) refl (await_after n)
    where
      Rec : Type 0
      Rec = (s : ℕ) (source : Source) (fs : Frames) (outer : List Event) (part : Part) (last : Span) → Fits t root fs outer part None → part.what ≡ of_shape s → part.depth ≡ n → AfterAwait t root outer (await t n s source fs last)

      waits : Keeps t root (awaits (record { shape = s; depth = n }) ∷ fs) outer
      waits = record { part = part; n = n; deep = depth; before = outer; own = []; is = sym (append-nil outer); fits = fits; holds = (what, refl, refl) }

      by_definition : (o : Option Definition) → definition_at t.setting.registry s ≡ o → Rec → AfterAwait t root outer (await_as (await t n) n s source o fs last)
      by_definition None is rec = waits
      by_definition (Some (scalar_shape x)) is rec = waits
      by_definition (Some (option_shape i)) is rec = waits
      by_definition (Some (result_shape i j)) is rec = waits
      by_definition (Some (list_shape i)) is rec = waits
      by_definition (Some (array_shape i len)) is rec = waits
      by_definition (Some (set_shape i)) is rec = waits
      by_definition (Some (map_shape i j)) is rec = waits
      by_definition (Some (struct_shape d)) is rec = waits
      by_definition (Some (enum_shape form vs)) is rec = waits
      by_definition (Some (transparent_shape i)) is rec = rec i source fs outer (inner_part part n i part.source) last (inner_fits fs outer part None n s i fits what depth is) refl refl
