use Rattle.lq_policy.specs.Roles.{number_of}
use Rattle.lq_use.proofs.DecideLemmas.{AreAllowed}
use Rattle.lq_use.proofs.decisions.decide.Given as goal

-- the uses so far are allowed
abbrev pub invariant-loop-place : goal.invariant-loop-place
invariant-loop-place l = AreAllowed l.policies (number_of l.role) l.uses l.place
