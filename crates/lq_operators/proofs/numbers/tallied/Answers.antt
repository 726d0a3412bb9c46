use Rattle.std.proofs.Common.{◌≡◌, Ok, Err, rules, ◌∙◌}
use Rattle.lq_operators.proofs.NumberLaws.{tallied_next, tallied_whole}
use Rattle.lq_operators.proofs.numbers.tallied.Goals as goal

pub returns-in_err-tally : goal.returns-in_err-tally
returns-in_err-tally g c =
    let same : c.from_residual.result ≡ Err c.in_err-tally.field-0.0 = search rules in
    same ∙ tallied_next c.args.ty.now c.loop-item.tally (Err c.in_err-tally.field-0.0) _ c.args.items.now _ c.args.end _ c.item-item.is c.loop-item-test.true
    c.in_err-tally.ensures c.loop-item.invariant

pub loop-item-preserved : goal.loop-item-preserved
loop-item-preserved g c =
    tallied_next c.args.ty.now c.loop-item.tally (Ok c.in_ok-tally.tally) _ c.args.items.now _ c.args.end _ c.item-item.is c.loop-item-test.true c.in_ok-tally.ensures c.loop-item.invariant

pub returns : goal.returns
returns g c =
    tallied_whole c.args.ty.now c.loop-item.tally c.args.items.now _ c.args.end _ _ c.loop-item-test.false c.result.ensures c.loop-item.invariant
