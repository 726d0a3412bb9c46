use Rattle.std.proofs.Common.{◌≡◌, ◌+◌, ◌*◌, ◌++◌, drop, flat_map, max}
use Rattle.lq_value.specs.declared.ty.Ty.{size-Ty}
use Rattle.lq_machine.specs.States.{schemas_of}
use Rattle.lq_language.specs.Uses.{shown_columns}
use Rattle.lq_use.proofs.shown.+showing.Given as goal

abbrev pub decreases-add_columns : goal.decreases-add_columns
decreases-add_columns l = 4 * size-Ty l.ty.now

abbrev pub decreases-add_both : goal.decreases-add_both
decreases-add_both l = 4 * max (size-Ty l.key.now) (size-Ty l.item.now) + 1

abbrev pub decreases-add_members : goal.decreases-add_members
decreases-add_members l = 4 * goal.size-add_members l + 1

-- the columns of the members so far
abbrev pub invariant-add_members-loop-ty : goal.invariant-add_members-loop-ty
invariant-add_members-loop-ty l =
    l.uses.items ++ flat_map (λ member. shown_columns (schemas_of l.store) member.1) (drop l.ty-index l.members)
    ≡ l.initial.uses.items ++ flat_map (λ member. shown_columns (schemas_of l.store) member.1) l.members
