use Rattle.lq_plan.specs.Prepared.{GivesCell}
use Rattle.std.proofs.Common.{ap, length}
use Rattle.lq_plan.proofs.LeadingLaws.{at_place, counts_all, counts_on, reads_begin, reads_end, reads_on}
use Rattle.lq_plan.proofs.leading.read_keys.Goals as goal

pub loop-lambda-init : goal.loop-lambda-init
loop-lambda-init g c =
    record {
      counted = ap length c.clear.ensures.items;
      keys = λ world slots cells. reads_begin world slots _ _ _ c.clear.ensures.items;
    }

pub loop-lambda-preserved : goal.loop-lambda-preserved
loop-lambda-preserved g c =
    record {
      counted = counts_on c.args.lambdas.now _ _ _ _ _ c.lambda-item.is c.loop-lambda-test.true c.in_ok-push-in-Some.ensures.items c.loop-lambda.invariant.counted;
      keys = λ world slots cells.
          reads_on world slots c.args.lambdas.now c.args.item.now _ _ _ _ _ _ c.lambda-item.is c.loop-lambda-test.true
          (c.in-Some.ensures world slots (at_place (GivesCell g.R.TableRow.table_of g.R.RowRef.shown world slots) _ _ _ cells c.lambda-item.is c.loop-lambda-test.true))
          c.in_ok-copy_scalar-in-Some.ensures c.in_ok-push-in-Some.ensures.items (c.loop-lambda.invariant.keys world slots cells);
    }

pub returns-clause-counted : goal.returns-clause-counted
returns-clause-counted g c given = counts_all c.args.lambdas.now _ _ c.loop-lambda-test.false c.loop-lambda.invariant.counted

pub returns-clause-keys : goal.returns-clause-keys
returns-clause-keys g c given world slots cells =
    reads_end world slots c.args.lambdas.now c.args.item.now _ _ c.loop-lambda-test.false (c.loop-lambda.invariant.keys world slots cells)
