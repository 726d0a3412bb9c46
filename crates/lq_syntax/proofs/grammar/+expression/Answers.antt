use Rattle.std.proofs.Common.{◌≡◌, ap, arith}
use Rattle.lq_grammar.specs.Parsing.{expression}
use Rattle.lq_syntax.proofs.Turns.{deeper}
use Rattle.lq_syntax.proofs.grammar.+expression.Goals as goal

pub returns-then-depth-eq0 : goal.returns-then-depth-eq0
unfolding expression
returns-then-depth-eq0 t c = let none : c.args.depth ≡ 0 = omega arith in ap (λ n. expression c.args.line.now n c.args.level c.args.tokens.now) none

pub returns : goal.returns
unfolding expression
returns t c = rw (deeper (λ n. expression c.args.line.now n c.args.level c.args.tokens.now) c.args.depth (omega arith)) c.rule.ensures
