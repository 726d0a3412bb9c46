use Rattle.std.proofs.Common.{ap, subst, sym}
use Rattle.lq_plan.specs.Leading.{GiveCells, bodies_of}
use Rattle.lq_plan.specs.Plans.{GivesCell}
use Rattle.lq_plan.proofs.LeadingLaws.{all_behind, bodies_all, bodies_more}
use Rattle.lq_plan.proofs.sources.Sources.key_lambdas.Goals as goal

pub loop-key-init : goal.loop-key-init
loop-key-init g c =
    record {
      bodies = ap bodies_of c.new-lambdas.ensures.items;
      cells = subst (λ ls. GiveCells c.args.self.now c.args.slots.now ls) (sym c.new-lambdas.ensures.items) tt;
    }

pub loop-key-preserved : goal.loop-key-preserved
loop-key-preserved g c =
    record {
      bodies = bodies_more _ _ _ c.args.keys.now _ _ c.key-item.is c.loop-key-test.true c.lambda.ensures.body c.in_ok-push.ensures.items c.loop-key.invariant.bodies;
      cells =
          subst (λ ls. GiveCells c.args.self.now c.args.slots.now ls) (sym c.in_ok-push.ensures.items)
          (all_behind (GivesCell c.args.self.now c.args.slots.now) _ _ c.loop-key.invariant.cells c.lambda.ensures.cell);
    }

pub returns-clause-bodies : goal.returns-clause-bodies
returns-clause-bodies g c = bodies_all _ c.args.keys.now _ c.loop-key-test.false c.loop-key.invariant.bodies
