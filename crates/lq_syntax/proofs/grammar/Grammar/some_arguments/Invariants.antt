use Rattle.std.proofs.Common.{◌≡◌, ◌-◌}
use Rattle.lq_grammar.specs.Parsing.{expression, some_arguments, more_arguments}
use Rattle.lq_syntax.proofs.grammar.Grammar.some_arguments.Given as goal

abbrev pub invariant-loop-turn : goal.invariant-loop-turn
invariant-loop-turn g l = some_arguments l.self.line.now (expression l.self.line.now l.self.depth) l.fn.tokens ≡ more_arguments l.self.line.now (expression l.self.line.now l.self.depth) (l._turn-end - l._turn) l.arguments l.tokens
