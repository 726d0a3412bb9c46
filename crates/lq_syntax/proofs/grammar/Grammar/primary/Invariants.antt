use Rattle.std.proofs.Common.{◌≡◌, ◌-◌}
use Rattle.lq_grammar.specs.Parsing.{expression, primary, selections}
use Rattle.lq_syntax.proofs.grammar.Grammar.primary.Given as goal

abbrev pub invariant-loop-turn : goal.invariant-loop-turn
invariant-loop-turn g l = primary l.self.line.now (expression l.self.line.now l.self.depth) l.fn.tokens ≡ selections l.self.line.now (expression l.self.line.now l.self.depth) (l._turn-end - l._turn) l.x l.tokens
