use Rattle.lq_syntax.proofs.Readings.{line_none, line_no_syntax, line_no_tree, line_past, line_read, line_too_deep, line_tree, reads_of}
use Rattle.lq_syntax.proofs.texts.parse_tokens.Goals as goal

pub returns-clause-read : goal.returns-clause-read
returns-clause-read c = reads_of c.args.line.now c.args.tokens.now c.read_tokens.result c.requires c.read_tokens.ensures

pub returns-clause-tree : goal.returns-clause-tree
returns-clause-tree c =
    line_read _ _ _ (reads_of c.args.line.now c.args.tokens.now c.read_tokens.result c.requires c.read_tokens.ensures) (line_tree c.args.line.now)

pub returns-clause-none : goal.returns-clause-none
returns-clause-none c =
    line_read _ _ _ (reads_of c.args.line.now c.args.tokens.now c.read_tokens.result c.requires c.read_tokens.ensures) (line_none c.args.line.now)

pub returns-clause-too_deep : goal.returns-clause-too_deep
returns-clause-too_deep c refused =
    line_past c.args.line.now (line_too_deep _ _ (reads_of c.args.line.now c.args.tokens.now c.read_tokens.result c.requires c.read_tokens.ensures) refused)

pub returns-clause-no_tree : goal.returns-clause-no_tree
returns-clause-no_tree c refused =
    line_no_tree c.args.line.now (line_no_syntax _ _ (reads_of c.args.line.now c.args.tokens.now c.read_tokens.result c.requires c.read_tokens.ensures) refused)
