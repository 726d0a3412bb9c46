use Rattle.std.proofs.Common.{◌≡◌, map, take}
use Rattle.lq_prompt.specs.Reasons.{policy_row}
use Rattle.lq_prompt.proofs.reasons.policy_rows.Given as goal

-- the first ones are done
abbrev pub invariant-loop-policy : goal.invariant-loop-policy
invariant-loop-policy l = l.grid ≡ map policy_row (take l.policy-index l.policies)
