use Rattle.std.proofs.Common.{rules}
use Rattle.std.proofs.lemmas.Fn.{filter_same}
use Rattle.std.proofs.lemmas.List.Sorted.{non_decreasing_from_is_sorted}
use Rattle.lq_store.proofs.table.retain_unlisted.Goals as goal

pub retain_behind-requires-clause-numbers : goal.retain_behind-requires-clause-numbers
retain_behind-requires-clause-numbers c = rw c.if-is_sorted.true at (non_decreasing_from_is_sorted c.args.numbers.now c.is_sorted.result c.is_sorted.ensures.cases)

pub returns-else-is_sorted : goal.returns-else-is_sorted
returns-else-is_sorted c = filter_same _ _ _ (λ x b f' k. search rules) _ _ c.retain.ensures.filtered
