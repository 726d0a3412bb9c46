use Rattle.std.proofs.Common.{drop}
use Rattle.lq_policy.proofs.AdmissionLemmas.{AreSoFar}
use Rattle.lq_policy.proofs.policies.Policies.rules_among.Given as goal

-- the rules so far and the policies that are left decide as all policies do
abbrev pub invariant-loop-number : goal.invariant-loop-number
invariant-loop-number l = AreSoFar l.self.tables l.self.roles l.access l.policies (drop l.number l.policies) l.rules
