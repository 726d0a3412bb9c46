-- The numbers so far and those of the lists that are left are all.
use Rattle.std.proofs.Common.{◌≡◌, ◌≤◌, ◌++◌, drop, length}
use Rattle.lq_index.specs.Compactions.{numbers_from}
use Rattle.lq_index.proofs.compaction.numbers_of.Given as goal

abbrev pub invariant-loop-list : goal.invariant-loop-list
invariant-loop-list l = record {
  few : l.count ≤ l.list-index;
  long : length l.numbers.items ≡ l.list-index;
  all : l.numbers.items ++ numbers_from l.count l.list-index (drop l.list-index l.lists) ≡ numbers_from 0 0 l.lists;
}
