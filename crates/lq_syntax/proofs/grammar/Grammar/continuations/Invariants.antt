use Rattle.std.proofs.Common.{◌≡◌, length, [], ◌-◌}
use Rattle.lq_grammar.specs.Parsing.{expression, continuations}
use Rattle.lq_syntax.proofs.grammar.Grammar.continuations.Given as goal

abbrev pub invariant-loop-turn : goal.invariant-loop-turn
invariant-loop-turn g l = continuations l.self.line.now (expression l.self.line.now l.self.depth) (length l.fn.tokens) [] l.fn.tokens ≡ continuations l.self.line.now (expression l.self.line.now l.self.depth) (l._turn-end - l._turn) l.rest l.tokens
