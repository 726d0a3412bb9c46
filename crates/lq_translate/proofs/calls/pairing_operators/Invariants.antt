use Rattle.std.proofs.Common.{◌≡◌, map}
use Rattle.lq_translate.specs.Translation.{paired_operator}
use Rattle.lq_translate.proofs.calls.pairing_operators.Given as goal

-- the calls of the clauses so far are built
abbrev pub invariant-loop-clause : goal.invariant-loop-clause
invariant-loop-clause g l = l.operators ≡ map paired_operator l.yielded
