use Rattle.std.proofs.Common.{◌∙◌, IfSome, ap, length, subst, sym}
use Rattle.lq_tree.specs.declared.tree.Form.TheVariants as form
use Rattle.lq_plan.specs.Aggregates.{AreColumns, AreReadOf, GiveNumbers}
use Rattle.lq_plan.specs.Plans.{world}
use Rattle.lq_plan.specs.Prepared.{IsItem}
use Rattle.lq_plan.specs.Slots.{values_in}
use Rattle.lq_plan.proofs.sources.Sources.selected_groups.Goals as goal

pub returns-in-Some-2 : goal.returns-in-Some-2
returns-in-Some-2 g c =
    record {
      key = c.lambda-key.result;
      element = c.get.result.now;
      fields = c.as_slice.result.now;
      source_is =
          c.in-GroupBy.is
          ∙ (λ i. form.GroupBy (sym c.get-in-Some-2.ensures i) ((sym c.get-2.ensures ∙ sym c.lambda-key.ensures.body) i) (sym c.get.ensures i));
      body_is = c.in-Record.is ∙ ap form.Record (sym c.as_slice.ensures);
      item = subst (IsItem (world c.args.self.now) (values_in c.args.slots.now)) c.lambda.ensures.body (c.lambda.ensures.cell.item c.if-not-lambda.false);
      cell = c.lambda-key.ensures.cell;
      read =
          subst (λ o. IfSome o (λ reads. AreReadOf (length (values_in c.args.slots.now)) reads.tallies.items c.as_slice.result.now reads.members.items)) c.in-Some.is
          c.in_ok-reads.ensures.read;
      columns =
          subst (λ l. AreColumns c.lambda-key.result l c.in-Some-2.columns) c.as_slice-2.ensures.value
          (subst (λ o. IfSome o (AreColumns c.lambda-key.result c.as_slice-2.result.now)) c.in-Some-2.is c.in_ok-columns.ensures);
      numbers =
          subst (λ o. IfSome o (λ reads. GiveNumbers c.args.self.now c.args.slots.now reads.tallies.items)) c.in-Some.is c.in_ok-reads.ensures.cells;
    }
