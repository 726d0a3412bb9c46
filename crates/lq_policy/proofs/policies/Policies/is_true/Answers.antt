-- The policy is about the table at hand, and its prepared rule decides as its own.
use Rattle.std.proofs.Common.{◌∙◌, List, ℕ, Option, ap, subst}
use Rattle.std.specs.Option.{option_copied}
use Rattle.lq_security.specs.Visible.{holds_on, rule_for}
use Rattle.lq_security.specs.declared.policy.Policy.{Policy}
use Rattle.lq_policy.specs.Guards.{IsRuleOf}
use Rattle.lq_policy.proofs.ExplainingLemmas.{columns_of_concerned}
use Rattle.lq_policy.proofs.policies.Policies.is_true.Goals as goal

pub returns : goal.returns
returns c =
    let tables = c.args.self.now.tables in
    let cells = c.args.asked.cells.now in
    let user = c.args.asked.user.now in
    let decides = subst (λ (found : Option Policy). IsRuleOf tables c.args.access.action found (option_copied c.rule_of.result)) c.requires.numbered c.rule_of.ensures in
    c.is_admitted_by.ensures ∙ decides cells user
    ∙ ap (λ (columns : List (List ℕ)). holds_on (record { user = user; columns = columns; cells = cells }) (rule_for c.args.access.action c.args.policy.now))
    (columns_of_concerned tables c.args.self.now.roles c.args.access c.args.policy.now c.requires.concerned)
