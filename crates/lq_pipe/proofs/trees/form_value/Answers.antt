use Rattle.std.proofs.Common.{[], ap, subst}
use Rattle.lq_operators.specs.Answers.{IsAnswer}
use Rattle.lq_tree.specs.FormMeaning.{form_meaning}
use Rattle.lq_tree.specs.Watches.{have_watched_rows}
use Rattle.lq_plan.specs.Plans as plans
use Rattle.lq_plan.specs.Watching.{facts_of}
use Rattle.lq_plan.proofs.SlotLaws.{no_values}
use Rattle.lq_pipe.specs.Pulls.{AddsCovered}
use Rattle.lq_pipe.proofs.trees.form_value.Goals as goal

pub returns-clause-meant : goal.returns-clause-meant
returns-clause-meant g c =
    subst (λ w. IsAnswer (form_meaning w c.args.form.now []) c.evaluate.result) c.new-sources.ensures
    (subst (λ vs. IsAnswer (form_meaning (plans.world c.new-sources.result) c.args.form.now vs) c.evaluate.result) no_values c.evaluate.ensures.meant)

pub returns-clause-calls : goal.returns-clause-calls
returns-clause-calls g c =
    let facts = facts_of g.R.TableRow.table_of g.R.TableRow.number_of g.R.RowRef.shown in
    subst (λ w. AddsCovered w facts c.args.form.now c.args.log.now c.evaluate.new.log) c.new-sources.ensures
    (λ watch start covered grown. c.evaluate.ensures.grows watch start covered (ap (have_watched_rows watch) no_values) grown)
