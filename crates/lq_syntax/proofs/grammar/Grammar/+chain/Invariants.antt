use Rattle.std.proofs.Common.{◌≡◌, ◌-◌}
use Rattle.lq_grammar.specs.Parsing.{expression, chain, operations}
use Rattle.lq_syntax.proofs.grammar.Grammar.+chain.Given as goal

abbrev pub invariant-loop-turn : goal.invariant-loop-turn
invariant-loop-turn g l = chain l.self.line.now (expression l.self.line.now l.self.depth) l.level l.fn.tokens ≡ operations l.self.line.now (expression l.self.line.now l.self.depth) (chain l.self.line.now (expression l.self.line.now l.self.depth) (l.level - 1)) (l.level - 1) (l._turn-end - l._turn) l.x l.tokens

abbrev pub decreases-chain : goal.decreases-chain
decreases-chain g l = l.level
