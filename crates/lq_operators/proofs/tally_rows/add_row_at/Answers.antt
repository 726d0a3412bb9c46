use Rattle.lq_operators.specs.GroupTallies.{numbers_in}
use Rattle.std.proofs.Common.{◌<◌, length, refl, arith}
use Rattle.std.proofs.lemmas.Grind.{common_steps}
use Rattle.lq_operators.proofs.GroupLemmas.{keys_kept}
use Rattle.lq_operators.proofs.GroupTallyLemmas.{no_row_put, row_put}
use Rattle.lq_operators.proofs.tally_rows.add_row_at.Goals as goal

pub returns-in-Some-clause-row : goal.returns-in-Some-clause-row
returns-in-Some-clause-row g c =
    let within : c.args.place < length c.args.groups.now.items = grind (arith, common_steps, c.in-Some.ensures.variant.0 refl) in
    row_put c.args.groups.now.items c.args.place c.in-Some.group.now c.add_row.new.tallies (numbers_in c.args.numbers) within c.in-Some.ensures.value
    c.add_row.ensures

pub returns-in-Some-clause-keys : goal.returns-in-Some-clause-keys
returns-in-Some-clause-keys g c =
    let within : c.args.place < length c.args.groups.now.items = grind (arith, common_steps, c.in-Some.ensures.variant.0 refl) in
    keys_kept c.args.groups.now.items c.args.place c.in-Some.group.now c.add_row.new.tallies within c.in-Some.ensures.value

pub returns-in_default-clause-row : goal.returns-in_default-clause-row
returns-in_default-clause-row g c =
    no_row_put c.args.groups.now.items c.args.place (numbers_in c.args.numbers) (grind (arith, common_steps))
