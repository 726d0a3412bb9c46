use Rattle.std.proofs.Common.{◌≡◌, drop}
use Rattle.lq_security.specs.Rights.{first_concerning}
use Rattle.lq_policy.specs.Roles.{number_of}
use Rattle.lq_policy.proofs.policies.Policies.first_concerning.Given as goal

-- the first that concerns the use is the first of the rules that are left
abbrev pub invariant-loop-rule : goal.invariant-loop-rule
invariant-loop-rule l =
    first_concerning l.self.roles (number_of l.role) l.used (drop l.rule-index l.rules) ≡ first_concerning l.self.roles (number_of l.role) l.used l.rules
