use Rattle.lq_operators.specs.GroupTallies.{numbers_in}
use Rattle.std.proofs.Common.{◌<◌, ◌≤◌, is_ok, length, arith}
use Rattle.std.proofs.lemmas.Grind.{common_steps}
use Rattle.lq_operators.proofs.GroupLemmas.{known_opened}
use Rattle.lq_operators.proofs.GroupTallyLemmas.{row_past, row_within}
use Rattle.lq_operators.proofs.group_tallies.GroupTallies.add_by_key.Goals as goal

pub returns-then-place-len-clause-row : goal.returns-then-place-len-clause-row
returns-then-place-len-clause-row g c =
    let within : c.in_ok-place.place < length c.as_slice.result.now = grind (arith, common_steps) in
    row_within c.args.self.now.begins c.args.self.now.groups.items c.as_slice.result.now c.add_row_at.new.groups.items c.args.key (numbers_in c.args.numbers)
    c.in_ok-place.place c.as_slice.ensures.value c.in_ok-place.ensures.place within c.add_row_at.ensures.row

pub invariant_of-self-2 : goal.invariant_of-self-2
invariant_of-self-2 g c = record {
  known = known_opened (is_ok c.push.result) c.args.self.now.keys c.place_of.new.keys c.args.self.now.groups.items c.push.new.self.items c.in_ok-group.group
      c.args.key _ c.args.self.now.known c.in_ok-place.ensures.keys c.in_ok-group.ensures c.push.ensures.items;
}

pub returns-clause-row : goal.returns-clause-row
returns-clause-row g c =
    let past : length c.as_slice.result.now ≤ c.in_ok-place.place = grind (arith, common_steps) in
    row_past c.args.self.now.begins c.as_slice-2.result.now c.args.self.now.groups.items c.as_slice.result.now c.push.new.self.items c.args.key
    (numbers_in c.args.numbers) c.in_ok-place.place c.in_ok-group.group c.as_slice-2.ensures c.as_slice.ensures.value c.in_ok-place.ensures.place past
    c.in_ok-group.ensures c.in_ok-push.ensures.items
