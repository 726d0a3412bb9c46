use Rattle.std.proofs.Common.{◌≡◌, ◌-◌}
use Rattle.lq_grammar.specs.Parsing.{expression, keys, more_keys}
use Rattle.lq_syntax.proofs.grammar.Grammar.keys.Given as goal

abbrev pub invariant-loop-turn : goal.invariant-loop-turn
invariant-loop-turn g l = keys l.self.line.now (expression l.self.line.now l.self.depth) l.fn.tokens ≡ more_keys l.self.line.now (expression l.self.line.now l.self.depth) (l._turn-end - l._turn) l.keys l.tokens
