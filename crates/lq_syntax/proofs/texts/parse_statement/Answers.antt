use Rattle.lq_syntax.proofs.Readings.{line_read, line_no_syntax, line_too_deep, line_tree, line_none, line_no_tree, line_past}
use Rattle.lq_syntax.proofs.texts.parse_statement.Goals as goal

pub returns-clause-tree : goal.returns-clause-tree
returns-clause-tree c = line_read _ _ _ c.read_line.ensures (line_tree c.args.line.now)

pub returns-clause-none : goal.returns-clause-none
returns-clause-none c = line_read _ _ _ c.read_line.ensures (line_none c.args.line.now)

pub returns-clause-too_deep : goal.returns-clause-too_deep
returns-clause-too_deep c refused = line_past c.args.line.now (line_too_deep _ _ c.read_line.ensures refused)

pub returns-clause-no_tree : goal.returns-clause-no_tree
returns-clause-no_tree c refused = line_no_tree c.args.line.now (line_no_syntax _ _ c.read_line.ensures refused)
