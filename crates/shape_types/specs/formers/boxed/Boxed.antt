-- How a `Boxed` stores its value: as the `Box` in it does. So a type may hold a `Boxed` of itself.
use mathlib.Core.Path.{refl}
use mathlib.Core.Former.{Former, this, const, pair, via}
use base.Stored.{gnil}
use base.Fml.{ftrue}
use denote.RattleType.{RattleType}
use denote.Memory.{part_of}
use denote.RawPtr.{Ptr}
use denote.Sharing.{nothing}
use denote.HoleLaws.{Alike}
use denote.HolePlaces.{Recodes, struct_places, laid, one_value}
use denote.Hole.Fix.{over}
use denote.Param.Weighed.{Weighed}
use denote.Model.Placed.{view_places}
use Rattle.std.specs.declared.boxed.Box.{Box}
use Rattle.std.specs.contracts.boxed.Box as box
use Rattle.std.specs.declared.alloc.Global.{Global}
use Rattle.std.specs.contracts.alloc.Global as global
use Rattle.std.specs.contracts.impls.GlobalAllocator.TheImpl.{ghosts}
use Rattle.shape_types.specs.declared.boxed.Boxed.TheInside.{Inside}
use Rattle.shape_types.specs.declared.boxed.Boxed.TheView.{view, invariant}
use Rattle.shape_types.specs.contracts.boxed.Boxed.{the_row}
use Rattle.shape_types.specs.contracts.boxed.Boxed.TheInside as inside

-- seen as its value
abbrev pub the_former : Former {0} → Former {0}
the_former g = g

-- the measure of its value
abbrev pub the_weighed : {g : Former {0}} → Weighed g → Weighed (the_former g)
the_weighed w = w

-- the same box with another value
abbrev with_value : {X Y : Type 0} → Box X Global → Y → Box Y Global
with_value b y = record { ptr = b.ptr; alloc = b.alloc; value = y }

-- a box of such values
abbrev box_row : RattleType → RattleType
box_row R = box.the_row R global.the_row ghosts

-- the field: the pointer and the allocator, and the value of the box
abbrev stored : Former {0}
stored = via (pair (const (Ptr × Global)) this) Inside (λ X s. ((s.inner.ptr, s.inner.alloc), s.inner.value))
    (λ X v. record { inner = record { ptr = v.0.0; alloc = v.0.1; value = v.1 } }) (λ X s. refl) (λ X v. refl)

module _ (R R' : RattleType) (h : R.Denot → R'.Denot) where
  -- where a box owns and lends
  box_places : Alike R R' h → Alike (box_row R) (box_row R') (λ b. with_value b (h b.value))
  unfolding part_of
  box_places alike = record {
    mir_same = λ i. (box_row (one_value R (alike.mir_same i) (λ _. ftrue) (λ _ _. nothing) gnil)).mir;
    own_same = λ b i. (box_row (one_value R (alike.mir_same i) (alike.own_same b.value i) (alike.shr_same b.value i) gnil)).own_val (with_value b tt);
    shr_same = λ b i. (box_row (one_value R (alike.mir_same i) (alike.own_same b.value i) (alike.shr_same b.value i) gnil)).shr_at (with_value b tt);
  }

  -- where it owns and lends
  pub the_places : Alike R R' h → Alike (the_row R) (the_row R') ((the_former this).map R.Denot R'.Denot h)
  the_places alike =
      let fields = struct_places (inside.the_type R) (inside.the_type R') ((λ b. with_value b (h b.value)), tt) _ (λ v. refl) refl (laid _ _ _ (box_places alike), tt) in
      view_places stored this view (λ X Y k u. refl) (λ X u. refl) R.Denot R'.Denot h (the_row R).coded (the_row R').coded
      (invariant R.Denot) (invariant R'.Denot) (λ u p q. refl) (λ u p q. refl) (λ u e. tt) (λ u e. tt)
      (over (inside.the_row R)) (over (inside.the_row R')) fields

  -- by which code its value is told
  pub the_codes_placed : Recodes R R' h → Recodes (the_row R) (the_row R') ((the_former this).map R.Denot R'.Denot h)
  the_codes_placed same v = same v
