use Rattle.std.proofs.Common.{◌≡◌, map}
use Rattle.lq_operators.proofs.pairs.split.Given as goal

-- the pairs so far are split
abbrev pub invariant-loop-first : goal.invariant-loop-first
invariant-loop-first g l = (l.firsts ≡ map (λ p. p.0) l.yielded) × (l.seconds ≡ map (λ p. p.1) l.yielded)
