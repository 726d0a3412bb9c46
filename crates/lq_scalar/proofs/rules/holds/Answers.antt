-- What the rule is on the row decides whether it holds.
use Rattle.std.proofs.Common.{◌∙◌}
use Rattle.lq_scalar.proofs.RuleLemmas.{rule_decides}
use Rattle.lq_scalar.proofs.rules.holds.Goals as goal

pub returns : goal.returns
returns c = c.unwrap_or.ensures ∙ rule_decides c.args.row.columns.now c.args.row.cells.now c.args.user.now c.args.rule.now c.requires _ c.truth.ensures.meant c.truth.ensures.sparing
