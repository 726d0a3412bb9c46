use Rattle.std.proofs.Common.{◌≡◌, map}
use Rattle.lq_policyfile.specs.RightUses.{right_rule}
use Rattle.lq_policyfile.proofs.right_uses.right_rules.Given as goal

-- the rules so far are those of the entries so far
abbrev pub invariant-loop-entry : goal.invariant-loop-entry
invariant-loop-entry l = l.rules ≡ map (right_rule l.store l.hosts) l.yielded
