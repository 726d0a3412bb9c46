-- `List` inside a type that reaches itself through it: what the logic asks of a type constructor before a recursive type may
-- pass through it. A `List` is laid out as its one field, a `Vec`, and is seen as the list of its items.
use mathlib.Core.Path.{◌≡◌, refl, sym}
use mathlib.Core.List.{List, []}
use mathlib.Core.Former.{Former, this, list, via, children}
use base.Stored.{code_map}
use denote.RattleType.{RattleType}
use denote.HoleLaws.{Alike}
use denote.HolePlaces.{Recodes, struct_places, laid}
use denote.Hole.Carrier.{listed, list-listed}
use denote.Hole.Fix.{over}
use denote.Param.Weighed.{Weighed, w_list}
use denote.Model.Placed.{view_places}
use Rattle.std.specs.formers.vec.Vec as vec
use Rattle.std.specs.declared.alloc.Global.{Global}
use Rattle.std.specs.contracts.alloc.Global as heap
use Rattle.std.specs.contracts.impls.GlobalAllocator.TheImpl.{ghosts}
use Rattle.lq_value.specs.declared.list.List.TheInside.{Inside}
use Rattle.lq_value.specs.declared.list.List.TheView.{view, invariant}
use Rattle.lq_value.specs.contracts.list.List as contract
use Rattle.lq_value.specs.contracts.list.List.TheInside as inside

-- ---- the shape: as many children as there are items, each weighed on its own

abbrev pub the_former : Former {0} → Former {0}
the_former child = list child

abbrev pub the_weighed : {child : Former {0}} → Weighed child → Weighed (the_former child)
the_weighed weighed = w_list weighed

pub the_empty : List ⊥
the_empty = []

-- ---- the children, read off a list in order

abbrev pub the_items : (X : Type 0) → List X → List X
the_items X xs = xs

pub the_items_listed : (X : Type 0) (xs : List X) → listed _ (children (the_former this) X xs) ≡ the_items X xs
the_items_listed X xs = list-listed X xs

-- ---- the layout: the field `items` is all there is

abbrev one_field : Former {0}
one_field = via (vec.the_former this Global) Inside (λ X whole. whole.items) (λ X field. record { items = field }) (λ X whole. refl) (λ X field. refl)

-- ---- another item type that is alike in memory gives a list that is

module _ (From To : RattleType) (turn : From.Denot → To.Denot) where
  pub the_places : Alike From To turn → Alike (contract.the_row From) (contract.the_row To) ((the_former this).map From.Denot To.Denot turn)
  the_places alike = view_places one_field (list this) view (λ X Y k u. refl) (λ X u. refl) From.Denot To.Denot turn
      (contract.the_row From).coded (contract.the_row To).coded (invariant From.Denot) (invariant To.Denot)
      (λ u p q. refl) (λ u p q. refl) (λ u e. tt) (λ u e. tt) (over (inside.the_row From)) (over (inside.the_row To))
      (struct_places (inside.the_type From) (inside.the_type To) (vec.mapped turn, tt) _ (λ d. refl) refl
      (laid _ _ _ (vec.the_places heap.the_row ghosts From To turn alike), tt))

  pub the_codes_placed : Recodes From To turn → Recodes (contract.the_row From) (contract.the_row To) ((the_former this).map From.Denot To.Denot turn)
  the_codes_placed recoded xs = sym (code_map From.coded.code To.coded.code turn (λ x. sym (recoded x)) xs)
