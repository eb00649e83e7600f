-- How an `Items` stores its items: as the `Vec` in it does. So a type may hold `Items` of itself.
use mathlib.Core.Path.{◌≡◌, refl, sym}
use mathlib.Core.List.{List, []}
use mathlib.Core.Former.{Former, this, list, via, children}
use base.Stored.{code_map}
use denote.RattleType.{RattleType}
use denote.HoleLaws.{Alike}
use denote.HolePlaces.{Recodes, struct_places, laid}
use denote.Hole.Carrier.{listed, list-listed}
use denote.Hole.Fix.{over}
use denote.Param.Weighed.{Weighed, w_list}
use denote.Model.Placed.{view_places}
use Rattle.std.specs.formers.vec.Vec as vec
use Rattle.std.specs.declared.alloc.Global.{Global}
use Rattle.std.specs.contracts.alloc.Global as global
use Rattle.std.specs.contracts.impls.GlobalAllocator.TheImpl.{ghosts}
use Rattle.shape_types.specs.declared.items.Items.TheInside.{Inside}
use Rattle.shape_types.specs.declared.items.Items.TheView.{view, invariant}
use Rattle.shape_types.specs.contracts.items.Items.{the_row}
use Rattle.shape_types.specs.contracts.items.Items.TheInside as inside

-- seen as a list
abbrev pub the_former : Former {0} → Former {0}
the_former g = list g

-- the largest measure among the items
abbrev pub the_weighed : {g : Former {0}} → Weighed g → Weighed (the_former g)
the_weighed w = w_list w

-- no items
pub the_empty : List ⊥
the_empty = []

-- the items in their order
abbrev pub the_items : (X : Type 0) → List X → List X
the_items X xs = xs

pub the_items_listed : (X : Type 0) (xs : List X) → listed _ (children (the_former this) X xs) ≡ the_items X xs
the_items_listed X xs = list-listed X xs

-- the field, with the items of the `Vec` in it
abbrev stored : Former {0}
stored = via (vec.the_former this Global) Inside (λ X s. s.items) (λ X v. record { items = v }) (λ X s. refl) (λ X v. refl)

module _ (R R' : RattleType) (h : R.Denot → R'.Denot) where
  -- where it owns and lends
  pub the_places : Alike R R' h → Alike (the_row R) (the_row R') ((the_former this).map R.Denot R'.Denot h)
  the_places alike =
      let held = laid _ _ _ (vec.the_places global.the_row ghosts R R' h alike) in
      let fields = struct_places (inside.the_type R) (inside.the_type R') (vec.mapped h, tt) _ (λ v. refl) refl (held, tt) in
      view_places stored (list this) view (λ X Y k u. refl) (λ X u. refl) R.Denot R'.Denot h (the_row R).coded (the_row R').coded
      (invariant R.Denot) (invariant R'.Denot) (λ u p q. refl) (λ u p q. refl) (λ u e. tt) (λ u e. tt)
      (over (inside.the_row R)) (over (inside.the_row R')) fields

  -- by which code its value is told
  pub the_codes_placed : Recodes R R' h → Recodes (the_row R) (the_row R') ((the_former this).map R.Denot R'.Denot h)
  the_codes_placed same xs = sym (code_map R.coded.code R'.coded.code h (λ x. sym (same x)) xs)
