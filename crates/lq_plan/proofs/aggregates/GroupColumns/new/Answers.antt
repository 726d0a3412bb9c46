use Rattle.std.proofs.Common.{◌≤◌, ◌∙◌, Some, ap, sym, subst, take, ◌+◌, arith}
use Rattle.std.proofs.lemmas.Grind.{common_steps}
use Rattle.lq_plan.specs.Aggregates.{AreColumnsOf}
use Rattle.lq_plan.proofs.AggregateLaws.{columns_all, columns_on}
use Rattle.lq_plan.proofs.aggregates.GroupColumns.new.Goals as goal

pub loop-tally-preserved : goal.loop-tally-preserved
loop-tally-preserved c =
    let given = c.in_ok-push.ensures.column c.if-not-branch.false in
    record {
      table = c.loop-tally.invariant.table ∙ sym c.in_ok-push.ensures.table;
      key = c.loop-tally.invariant.key ∙ ap Some (sym c.in_ok-push.ensures.key);
      most = grind (arith, common_steps, c.loop-tally.invariant.most, c.in_ok-push.ensures.most, c.in_ok-push.ensures.key);
      tallies =
          subst (λ t. AreColumnsOf t c.push.new.self.most (take (c.loop-tally.tally-index + 1) c.args.tallies.now) c.push.new.self.places.items) (sym c.in_ok-push.ensures.table)
          (columns_on c.loop-tally.columns.table c.loop-tally.columns.most c.push.new.self.most c.args.tallies.now _ _ _ c.tally-item.result given.0 c.tally-item.is
          c.loop-tally-test.true given.1 c.in_ok-push.ensures.most given.2 c.loop-tally.invariant.tallies);
    }
