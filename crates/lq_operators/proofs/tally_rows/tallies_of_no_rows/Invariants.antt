use Rattle.std.proofs.Common.{◌≡◌, ◌++◌, Ok, drop, map}
use Rattle.lq_operators.proofs.tally_rows.tallies_of_no_rows.Given as goal

-- the tallies that are left follow
abbrev pub invariant-loop-tally : goal.invariant-loop-tally
invariant-loop-tally l = l.tallies ++ map (λ t. Ok t) (drop l.tally-index l.begins) ≡ map (λ t. Ok t) l.begins
