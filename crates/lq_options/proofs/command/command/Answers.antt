use Rattle.std.proofs.Common.{◌≡◌, ◌∙◌, ap, ap₂, codes}
use Rattle.std.proofs.lemmas.Result.{IfOk-weaker}
use Rattle.clap.specs.Simple.{app_of_fields}
use Rattle.clap.specs.Words.{app_of, new_app, with_rule}
use Rattle.lq_options.specs.CommandLine.{lq_app}
use Rattle.lq_options.proofs.command.command.Goals as goal

pub returns : goal.returns
unfolding lq_app
returns c =
    let bare : app_of c.after_help.result ≡ new_app (codes "lq") =
    ap app_of_fields c.after_help.ensures ∙ (ap app_of_fields c.about.ensures
    ∙ (ap app_of_fields c.in_ok-bin_name.ensures.0 ∙ c.new.ensures.app)) in
    let one = c.in_ok-arg.ensures.shape c.role.ensures.local ∙ ap₂ with_rule bare c.role.ensures.rule in
    let two = c.in_ok-arg-2.ensures.shape c.policy.ensures.local ∙ ap₂ with_rule one c.policy.ensures.rule in
    let three = c.in_ok-arg-3.ensures.shape c.script.ensures.local ∙ ap₂ with_rule two c.script.ensures.rule in
    let four = c.in_ok-arg-4.ensures.shape c.watch.ensures.local ∙ ap₂ with_rule three c.watch.ensures.rule in
    let five = c.in_ok-arg-5.ensures.shape c.audit.ensures.local ∙ ap₂ with_rule four c.audit.ensures.rule in
    IfOk-weaker c.arg-6.result _ _ (λ command added. added.shape c.tables.ensures.local ∙ ap₂ with_rule five c.tables.ensures.rule) c.arg-6.ensures
