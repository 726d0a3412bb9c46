use Rattle.std.proofs.Common.{◌≡◌, IfSome, sym, subst}
use Rattle.lq_language.specs.OperandMeaning.{stream_of}
use Rattle.lq_plan.proofs.places.items_ref.Goals as goal

-- the items of the value that stands in the slot are those of what the form means
pub returns : goal.returns
returns g c =
    λ world.
    subst (λ m. IfSome c.items_in.result (λ s. stream_of world m ≡ (s.0.now, s.1))) (sym (c.in_ok-part_ref.ensures world)) (c.items_in.ensures world)
