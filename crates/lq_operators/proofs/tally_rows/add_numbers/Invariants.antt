use Rattle.std.proofs.Common.{◌≡◌, ◌++◌, drop, take}
use Rattle.lq_operators.specs.GroupTallies.{numbers_in, row_more}
use Rattle.lq_operators.proofs.tally_rows.add_numbers.Given as goal

-- the tallies so far have their numbers, and those that are left come to what the whole row makes of all
abbrev pub invariant-loop-place : goal.invariant-loop-place
invariant-loop-place l =
    take l.place l.tallies ++ row_more (drop l.place l.tallies) (drop l.place (numbers_in l.numbers)) ≡ row_more l.fn.tallies (numbers_in l.numbers)
