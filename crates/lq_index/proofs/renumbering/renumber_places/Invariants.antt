-- The ranks of the places before this one stand at the head, and the places from here on are as they were.
use Rattle.std.proofs.Common.{◌≡◌, ◌≤◌, take, drop, length}
use Rattle.lq_index.specs.Removals.{renumber}
use Rattle.lq_index.proofs.renumbering.renumber_places.Given as goal

abbrev pub invariant-loop-at : goal.invariant-loop-at
invariant-loop-at l = record {
  few : l.count ≤ l.at;
  long : length l.places.items ≡ length l.fn.places.items;
  done : take l.count l.places.items ≡ renumber l.ranks (take l.at l.fn.places.items);
  left : drop l.at l.places.items ≡ drop l.at l.fn.places.items;
}
