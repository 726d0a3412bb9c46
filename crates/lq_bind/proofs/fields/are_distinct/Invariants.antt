use Rattle.std.proofs.Common.{◌≡◌, length, map}
use Rattle.lq_language.specs.Typing.{are_distinct}
use Rattle.lq_bind.proofs.fields.are_distinct.Given as goal

-- the members so far have names of their own, so that those that are left decide
abbrev pub invariant-loop-field : goal.invariant-loop-field
invariant-loop-field g l = are_distinct (map (λ field. field.name) l.rest) ≡ are_distinct (map (λ field. field.name) l.fn.fields)

abbrev pub decreases-loop-field : goal.decreases-loop-field
decreases-loop-field g l = length l.rest
