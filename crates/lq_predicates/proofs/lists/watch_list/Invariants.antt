use Rattle.std.proofs.Common.{◌≡◌, drop, length}
use Rattle.std.specs.List.{slice_split}
use Rattle.lq_predicates.specs.WatchLists.{is_comma, numbers_of, numbers_of_list}
use Rattle.lq_predicates.proofs.ListLemmas.{behind}
use Rattle.lq_predicates.proofs.lists.watch_list.Given as goal

-- the numbers so far, and behind them those of the texts that are left, are all
abbrev pub invariant-loop-number : goal.invariant-loop-number
invariant-loop-number l = behind l.numbers.items (numbers_of (drop (length l.yielded) (slice_split is_comma l.list))) ≡ numbers_of_list l.list
