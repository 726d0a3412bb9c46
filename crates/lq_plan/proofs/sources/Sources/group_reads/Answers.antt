use Rattle.std.proofs.Common.{IfSome, length, refl, sym, subst}
use Rattle.lq_plan.specs.Aggregates.{GiveNumbers, IsReadOf, TallyGivesCell}
use Rattle.lq_plan.specs.Plans.{world}
use Rattle.lq_plan.specs.Slots.{values_in}
use Rattle.lq_plan.proofs.AggregateLaws.{all_after, reads_all, reads_on}
use Rattle.lq_plan.proofs.sources.Sources.group_reads.Goals as goal

pub loop-field-preserved : goal.loop-field-preserved
loop-field-preserved g c =
    record {
      read =
          reads_on (length (values_in c.args.slots.now)) c.args.fields.now _ c.in_ok-read.ensures.more.0 _ _ _ _ _ _ c.field-item.is c.loop-field-test.true
          c.in_ok-read.ensures.more.1 c.in_ok-push-in-Some.ensures.items refl
          (subst (λ o. IfSome o (IsReadOf (length (values_in c.args.slots.now)) c.group_read.new.tallies.items c.field-item.result.value)) c.in-Some.is c.in_ok-read.ensures.read)
          c.loop-field.invariant.read;
      cells =
          subst (GiveNumbers c.args.self.now c.args.slots.now) (sym c.in_ok-read.ensures.more.1)
          (all_after (TallyGivesCell g.R.TableRow.table_of g.R.RowRef.shown (world c.args.self.now) (values_in c.args.slots.now)) _ _ c.loop-field.invariant.cells
          c.in_ok-read.ensures.more.2);
    }

pub returns-clause-read : goal.returns-clause-read
returns-clause-read g c = reads_all (length (values_in c.args.slots.now)) _ c.args.fields.now _ _ c.loop-field-test.false c.loop-field.invariant.read
