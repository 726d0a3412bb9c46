use Rattle.std.proofs.Common.{◌≡◌, drop}
use Rattle.lq_translate.specs.Translation.{keeps_sole}
use Rattle.lq_translate.proofs.calls.is_still_sole.Given as goal

-- none of the clauses so far brings a name in
abbrev pub invariant-loop-clause : goal.invariant-loop-clause
invariant-loop-clause g l = keeps_sole (drop l.clause-index l.clauses) ≡ keeps_sole l.clauses
