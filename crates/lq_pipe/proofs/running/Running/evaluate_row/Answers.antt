use Rattle.std.proofs.Common.{◌≡◌, ◌∙◌, [], IfOk, ap, refl, subst}
use Rattle.lq_value.specs.declared.value.Value.TheVariants as value
use Rattle.lq_tree.specs.FormMeaning.{form_meaning, is_true, with_item}
use Rattle.lq_tree.specs.Watches.{have_watched_rows}
use Rattle.lq_tree.proofs.WatchedValueLaws.{passing_row}
use Rattle.lq_pipe.specs.Runs.{world}
use Rattle.lq_plan.proofs.SlotLaws.{no_values}
use Rattle.lq_pipe.proofs.running.Running.evaluate_row.Goals as goal

pub returns-clause-meant : goal.returns-clause-meant
returns-clause-meant g c =
    let w = world c.args.self.now in
    subst (λ r. IfOk c.holds.result (λ found. found ≡ is_true w (form_meaning w c.args.condition.now) (with_item w [] (value.Row r)))) c.again.ensures
    (subst (λ vs. IfOk c.holds.result (λ found. found ≡ is_true w (form_meaning w c.args.condition.now) (with_item w vs (value.Row c.again.result)))) no_values
    c.holds.ensures.meant)

pub returns-clause-grows : goal.returns-clause-grows
returns-clause-grows g c =
    λ w start h r gr.
    c.holds.ensures.grows w start h (ap (have_watched_rows w) no_values)
    (passing_row w (value.Row c.again.result) c.again.result refl (ap w.row c.again.ensures ∙ r)) gr
