-- `Held` inside a type that reaches itself through it: what the logic asks of a type constructor before a recursive type may
-- pass through it. A `Held` is laid out as its one field, a `Box`, and is seen as the value in the box.
use mathlib.Core.Path.{refl}
use mathlib.Core.Former.{Former, this, const, pair, via}
use base.Stored.{gnil}
use base.Fml.{ftrue}
use denote.RattleType.{RattleType}
use denote.Memory.{part_of}
use denote.RawPtr.{Ptr}
use denote.Sharing.{nothing}
use denote.HoleLaws.{Alike}
use denote.HolePlaces.{Recodes, struct_places, laid, one_value}
use denote.Hole.Fix.{over}
use denote.Param.Weighed.{Weighed}
use denote.Model.Placed.{view_places}
use Rattle.std.specs.declared.boxed.Box.{Box}
use Rattle.std.specs.contracts.boxed.Box as boxed
use Rattle.std.specs.declared.alloc.Global.{Global}
use Rattle.std.specs.contracts.alloc.Global as heap
use Rattle.std.specs.contracts.impls.GlobalAllocator.TheImpl.{ghosts}
use Rattle.lq_value.specs.declared.held.Held.TheInside.{Inside}
use Rattle.lq_value.specs.declared.held.Held.TheView.{view, invariant}
use Rattle.lq_value.specs.contracts.held.Held as contract
use Rattle.lq_value.specs.contracts.held.Held.TheInside as inside

-- ---- the shape: one child, and its weight

abbrev pub the_former : Former {0} → Former {0}
the_former child = child

abbrev pub the_weighed : {child : Former {0}} → Weighed child → Weighed (the_former child)
the_weighed weighed = weighed

-- ---- the layout: the field `inner` is all there is, a pointer with its allocator and the value behind it

abbrev one_field : Former {0}
one_field = via (pair (const (Ptr × Global)) this) Inside
    (λ X whole. ((whole.inner.ptr, whole.inner.alloc), whole.inner.value))
    (λ X parts. record { inner = record { ptr = parts.0.0; alloc = parts.0.1; value = parts.1 } }) (λ X whole. refl) (λ X parts. refl)

-- a box with another value in it
abbrev with_value : {X Y : Type 0} → Box X Global → Y → Box Y Global
with_value old value = record { ptr = old.ptr; alloc = old.alloc; value = value }

abbrev box_of : RattleType → RattleType
box_of T = boxed.the_row T heap.the_row ghosts

-- ---- another type that is alike in memory gives a box that is

module _ (From To : RattleType) (turn : From.Denot → To.Denot) where
  box_places : Alike From To turn → Alike (box_of From) (box_of To) (λ old. with_value old (turn old.value))
  unfolding part_of
  box_places alike = record {
    mir_same = λ i. (box_of (one_value From (alike.mir_same i) (λ _. ftrue) (λ _ _. nothing) gnil)).mir;
    own_same = λ old i. (box_of (one_value From (alike.mir_same i) (alike.own_same old.value i) (alike.shr_same old.value i) gnil)).own_val (with_value old tt);
    shr_same = λ old i. (box_of (one_value From (alike.mir_same i) (alike.own_same old.value i) (alike.shr_same old.value i) gnil)).shr_at (with_value old tt);
  }

  pub the_places : Alike From To turn → Alike (contract.the_row From) (contract.the_row To) ((the_former this).map From.Denot To.Denot turn)
  the_places alike = view_places one_field this view (λ X Y k u. refl) (λ X u. refl) From.Denot To.Denot turn
      (contract.the_row From).coded (contract.the_row To).coded (invariant From.Denot) (invariant To.Denot)
      (λ u p q. refl) (λ u p q. refl) (λ u e. tt) (λ u e. tt) (over (inside.the_row From)) (over (inside.the_row To))
      (struct_places (inside.the_type From) (inside.the_type To) ((λ old. with_value old (turn old.value)), tt) _ (λ d. refl) refl
      (laid _ _ _ (box_places alike), tt))

  pub the_codes_placed : Recodes From To turn → Recodes (contract.the_row From) (contract.the_row To) ((the_former this).map From.Denot To.Denot turn)
  the_codes_placed recoded value = recoded value
