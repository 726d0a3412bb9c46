use Rattle.std.proofs.Common.{◌≡◌, ◌-◌}
use Rattle.lq_grammar.specs.Parsing.{expression, fields, more_fields}
use Rattle.lq_syntax.proofs.grammar.Grammar.fields.Given as goal

abbrev pub invariant-loop-turn : goal.invariant-loop-turn
invariant-loop-turn g l = fields l.self.line.now (expression l.self.line.now l.self.depth) l.fn.tokens ≡ more_fields l.self.line.now (expression l.self.line.now l.self.depth) (l._turn-end - l._turn) l.fields l.tokens
