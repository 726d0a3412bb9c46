-- The lists before this one are renumbered, and the others as they were.
use Rattle.std.proofs.Common.{◌≡◌, ◌≤◌, ◌<◌, ℕ, length, get_or, []}
use Rattle.lq_index.specs.Removals.{renumber}
use Rattle.lq_index.proofs.renumbering.renumber_lists.Given as goal

abbrev pub invariant-loop-list : goal.invariant-loop-list
invariant-loop-list l = record {
  long : length l.list-items ≡ length l.fn.lists.items;
  done : (t : ℕ) → t < l.list-index → get_or l.list-items t [] ≡ renumber l.ranks (get_or l.fn.lists.items t []);
  left : (t : ℕ) → l.list-index ≤ t → get_or l.list-items t [] ≡ get_or l.fn.lists.items t [];
}
