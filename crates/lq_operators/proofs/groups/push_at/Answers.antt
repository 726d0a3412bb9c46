use Rattle.std.proofs.Common.{◌<◌, length, refl, arith}
use Rattle.std.proofs.lemmas.Grind.{common_steps}
use Rattle.std.proofs.lemmas.Result.{on_ok_weaker}
use Rattle.lq_operators.proofs.GroupLemmas.{keys_kept, none_pushed, pushed_is}
use Rattle.lq_operators.proofs.groups.push_at.Goals as goal

pub returns-in-Some-clause-element : goal.returns-in-Some-clause-element
returns-in-Some-clause-element g c =
    let within : c.args.place < length c.args.groups.now.items = grind (arith, common_steps, c.in-Some.ensures.variant.0 refl) in
    on_ok_weaker c.push.result
    (pushed_is c.args.groups.now.items c.args.place c.in-Some.group.now c.push.new.self c.args.element within c.in-Some.ensures.value)
    c.push.ensures.ok

pub returns-in-Some-clause-keys : goal.returns-in-Some-clause-keys
returns-in-Some-clause-keys g c =
    let within : c.args.place < length c.args.groups.now.items = grind (arith, common_steps, c.in-Some.ensures.variant.0 refl) in
    keys_kept c.args.groups.now.items c.args.place c.in-Some.group.now c.push.new.self within c.in-Some.ensures.value

pub returns-in-None-clause-element : goal.returns-in-None-clause-element
returns-in-None-clause-element g c =
    none_pushed c.args.groups.now.items c.args.place c.args.element (grind (arith, common_steps))
