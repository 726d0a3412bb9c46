use Rattle.std.proofs.Common.{◌≡◌, map}
use Rattle.lq_policyfile.specs.File.{policy_part}
use Rattle.lq_policyfile.proofs.parts.policies_of.Given as goal

-- the policies so far are those of the entries so far
abbrev pub invariant-loop-entry : goal.invariant-loop-entry
invariant-loop-entry l = l.policies ≡ map (policy_part l.store) l.yielded
