-- A row as a type that may hold the type that holds it: it stands for the list of its items.
use mathlib.Core.Path.{◌≡◌, refl, sym}
use mathlib.Core.List.{List, []}
use mathlib.Core.Former.{Former, this, list, via, children}
use base.Stored.{code_map}
use denote.RattleType.{RattleType}
use denote.HoleLaws.{Alike}
use denote.HolePlaces.{Recodes, struct_places, laid}
use denote.Hole.Carrier.{listed, list-listed}
use denote.Hole.Fix.{over}
use denote.Param.Weighed.{Weighed, w_list}
use denote.Model.Placed.{view_places}
use Rattle.std.specs.formers.vec.Vec as vec
use Rattle.std.specs.declared.alloc.Global.{Global}
use Rattle.std.specs.contracts.alloc.Global as global
use Rattle.std.specs.contracts.impls.GlobalAllocator.TheImpl.{ghosts}
use Rattle.am_bv.specs.declared.row.Row.TheInside.{Inside}
use Rattle.am_bv.specs.declared.row.Row.TheView.{view, invariant}
use Rattle.am_bv.specs.contracts.row.Row as row
use Rattle.am_bv.specs.contracts.row.Row.TheInside as inside

abbrev pub the_former : Former {0} → Former {0}
the_former item = list item

abbrev pub the_weighed : {item : Former {0}} → Weighed item → Weighed (the_former item)
the_weighed weighed = w_list weighed

abbrev pub the_empty : List ⊥
the_empty = []

abbrev pub the_items : (X : Type 0) → List X → List X
the_items X xs = xs

pub the_items_listed : (X : Type 0) (xs : List X) → listed _ (children (the_former this) X xs) ≡ the_items X xs
the_items_listed X xs = list-listed X xs

-- the one field, a vector, as a former
abbrev stored : Former {0}
stored =
    via (vec.the_former this Global) Inside (λ X r. r.items) (λ X v. record { items = v }) (λ X r. refl) (λ X v. refl)

-- what changes where each item is replaced by its image
module _ (R S : RattleType) (image : R.Denot → S.Denot) where
  pub the_places : Alike R S image → Alike (row.the_row R) (row.the_row S) ((the_former this).map R.Denot S.Denot image)
  the_places alike =
      let of_vec = vec.the_places global.the_row ghosts R S image alike in
      view_places stored (list this) view (λ X Y k u. refl) (λ X u. refl) R.Denot S.Denot image
      (row.the_row R).coded (row.the_row S).coded (invariant R.Denot) (invariant S.Denot)
      (λ u p q. refl) (λ u p q. refl) (λ u e. tt) (λ u e. tt) (over (inside.the_row R)) (over (inside.the_row S))
      (struct_places (inside.the_type R) (inside.the_type S) (vec.mapped image, tt) _ (λ d. refl) refl
      (laid _ _ _ of_vec, tt))

  pub the_codes_placed : Recodes R S image →
      Recodes (row.the_row R) (row.the_row S) ((the_former this).map R.Denot S.Denot image)
  the_codes_placed recodes xs = sym (code_map R.coded.code S.coded.code image (λ x. sym (recodes x)) xs)
