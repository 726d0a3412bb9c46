use Rattle.lq_syntax.proofs.Readings.{rule_read, rule_no_syntax, rule_too_deep, rule_tree, rule_no_tree, rule_past}
use Rattle.lq_syntax.proofs.texts.parse_rule.Goals as goal

pub returns-clause-tree : goal.returns-clause-tree
returns-clause-tree c = rule_read _ _ _ c.read_rule.ensures (rule_tree c.args.text.now)

pub returns-clause-too_deep : goal.returns-clause-too_deep
returns-clause-too_deep c refused = rule_past c.args.text.now (rule_too_deep _ _ c.read_rule.ensures refused)

pub returns-clause-no_tree : goal.returns-clause-no_tree
returns-clause-no_tree c refused = rule_no_tree c.args.text.now (rule_no_syntax _ _ c.read_rule.ensures refused)
